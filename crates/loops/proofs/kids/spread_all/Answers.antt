-- `kids::spread_all` meets its contract: the first i are spread, and the rest are as they were. Assumes nothing.
use native.Mathlib.Omega.{arith}
use Rattle.loops.specs.Columns.{Long}
use Rattle.loops.proofs.Work.{spread-step}
use Rattle.loops.proofs.kids.spread_all.Goals as goal

pub loop-i-preserved : goal.loop-i-preserved
loop-i-preserved c =
    let a = c.args in
    let l : Long a.kids.shares.now a.kids.minima.now a.sizes.now a.fixed.now = record { shares = a.kids.shares_long; minima = a.kids.minima_long; sizes = c.told-sizes; fixed = c.told-fixed } in
    spread-step a.room a.flex a.kids.shares.now a.kids.minima.now a.sizes.now a.fixed.now l c.loop-i.sizes c.loop-i.i c.loop-i.invariant (omega (arith, a.kids.few)) c.spread.result c.spread.ensures
