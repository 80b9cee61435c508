-- `lending::back::fit_all` makes one head after another, in place. Assumes nothing.
use mathlib.Core.List.{[]}
use native.Mathlib.Omega.{arith}
use lib.ListN.{length-set}
use Rattle.std.proofs.Common.{rules}
use Rattle.lending.specs.Back.{fitted}
use Rattle.crossing.proofs.PlaceLaws.{mapping-none, mapping-more, mapping-all}
use Rattle.lending.proofs.back.fit_all.Goals as goal

pub loop-i-init : goal.loop-i-init
loop-i-init c = (search rules, mapping-none fitted c.args.heads.now)

pub loop-i-preserved : goal.loop-i-preserved
loop-i-preserved c =
    let v = c.loop-i.invariant in
    (search (rules, length-set), mapping-more fitted c.args.heads.now c.loop-i.i c.loop-i.heads [] c.fit_head.result v.1 (omega (arith, v.0)) c.fit_head.ensures)

pub returns : goal.returns
returns c =
    let v = c.loop-i.invariant in
    mapping-all fitted c.args.heads.now c.loop-i.i c.loop-i.heads v.1 (omega (arith, v.0))
