-- `crossing::tidy::tidy_all` makes one head after another, in place. Assumes nothing.
use mathlib.Core.List.{[]}
use native.Mathlib.Omega.{arith}
use lib.ListN.{length-set}
use Rattle.std.proofs.Common.{rules}
use Rattle.coding.specs.Lent.{tidied}
use Rattle.crossing.proofs.PlaceLaws.{mapping-none, mapping-more, mapping-all}
use Rattle.crossing.proofs.tidy.tidy_all.Goals as goal

pub loop-i-init : goal.loop-i-init
loop-i-init c = (search rules, mapping-none tidied c.args.heads.now)

pub loop-i-preserved : goal.loop-i-preserved
loop-i-preserved c =
    let v = c.loop-i.invariant in
    (search (rules, length-set), mapping-more tidied c.args.heads.now c.loop-i.i c.loop-i.heads [] c.tidy_head.result v.1 (omega (arith, v.0)) c.tidy_head.ensures)

pub returns : goal.returns
returns c =
    let v = c.loop-i.invariant in
    mapping-all tidied c.args.heads.now c.loop-i.i c.loop-i.heads v.1 (omega (arith, v.0))
