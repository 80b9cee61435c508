-- `noting::listing::report` makes one action after another. Assumes nothing.
use mathlib.Core.Path.{◌≡◌, refl}
use mathlib.Core.List.{[]}
use native.Mathlib.Omega.{arith}
use lib.ListN.{length-replicate}
use Rattle.columns.specs.Pack.{action_from}
use Rattle.columns.specs.PackLaws.{mapped-none, mapped-more, reports}
use Rattle.noting.proofs.listing.report.Goals as goal

pub loop-i-init : goal.loop-i-init
loop-i-init c = mapped-none action_from c.args.acts.now 1300 c.told-acts _ (length-replicate 1300 c.action_of-at.result)

pub loop-i-preserved : goal.loop-i-preserved
loop-i-preserved c =
    mapped-more action_from c.args.acts.now 1300 c.told-acts c.loop-i.at c.loop-i.i [] (action_from []) _ c.loop-i.invariant (omega (arith, c.requires)) c.action_of.ensures

pub returns : goal.returns
returns c =
    let a = c.args in
    let e : c.loop-i.i ≡ a.n = omega arith in
    (reports a.acts.now c.loop-i.at a.n (rw e at c.loop-i.invariant) c.told-acts, refl)
