-- `columns::pack::pack` makes one slot after another. Assumes nothing.
use native.Mathlib.Omega.{arith}
use Rattle.columns.specs.PackLaws.{packing-start, packing-more, packing-all}
use Rattle.columns.proofs.pack.pack.Goals as goal

pub loop-i-init : goal.loop-i-init
loop-i-init c =
    let b = c.args in
    packing-start b.heads.now b.ids.now b.shares.now b.minima.now c.told-heads c.told-ids c.told-shares c.told-minima c.bare_slot-slots.result

pub loop-i-preserved : goal.loop-i-preserved
loop-i-preserved c =
    let b = c.args in
    packing-more b.heads.now b.ids.now b.shares.now b.minima.now c.told-heads c.told-ids c.told-shares c.told-minima c.loop-i.i c.loop-i.slots c.get.result c.loop-i.invariant (omega arith) c.get.ensures

pub returns : goal.returns
returns c =
    let b = c.args in
    packing-all b.heads.now b.ids.now b.shares.now b.minima.now c.told-heads c.told-ids c.told-shares c.told-minima c.loop-i.i c.loop-i.slots c.loop-i.invariant (omega arith)
