-- `kids::hold_all` meets its contract: the first i are held and counted, and the rest are as they were. Assumes nothing.
use Rattle.loops.specs.Columns.{Long}
use Rattle.loops.proofs.Work.{holding-step, holding-end}
use Rattle.loops.proofs.kids.hold_all.Goals as goal

pub loop-i-preserved : goal.loop-i-preserved
loop-i-preserved c =
    let a = c.args in
    let l : Long a.kids.shares.now a.kids.minima.now a.sizes.now a.fixed.now = record { shares = a.kids.shares_long; minima = a.kids.minima_long; sizes = c.told-sizes; fixed = c.told-fixed } in
    holding-step a.kids.shares.now a.kids.minima.now a.sizes.now a.fixed.now a.kids.count l a.kids.few c.loop-i.sizes c.loop-i.fixed c.loop-i.run c.loop-i.i c.loop-i.invariant c.loop-i-test.true c.hold.result.0 c.hold.result.1 c.hold.ensures

pub returns : goal.returns
returns c =
    let a = c.args in
    let l : Long a.kids.shares.now a.kids.minima.now a.sizes.now a.fixed.now = record { shares = a.kids.shares_long; minima = a.kids.minima_long; sizes = c.told-sizes; fixed = c.told-fixed } in
    let e = holding-end a.kids.shares.now a.kids.minima.now a.sizes.now a.fixed.now a.kids.count l a.kids.few c.loop-i.sizes c.loop-i.fixed c.loop-i.run c.loop-i.i c.loop-i.invariant c.loop-i-test.false in
    record { worked = e.0; tallied = e.1 }
