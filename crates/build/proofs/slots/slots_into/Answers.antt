-- `build::slots::slots_into`: each turn fills the next row of the columns with the next node. Assumes nothing.
use Rattle.std.proofs.Common.{arith, sym, subst, ◌+◌}
use Rattle.rules.specs.Table.{Row}
use Rattle.table.specs.Row.{row_is}
use Rattle.table.specs.declared.row.Taken.{Taken}
use Rattle.checks.specs.Walk.{along-room, along-fits}
use Rattle.build.specs.Slots.{Fit}
use Rattle.build.specs.SlotsLoop.{Slotting, slotting-more, slotting-end}
use Rattle.build.proofs.slots.slots_into.Goals as goal

pub slot_of-slot-requires-clause-room : goal.slot_of-slot-requires-clause-room
slot_of-slot-requires-clause-room c =
    let x = c.args in
    along-room x.b.now x.t c.loop-i.i c.loop-i.taken _ c.loop-i.invariant.along (omega (arith, c.requires.slotted.within)) c.known_row-row.ensures

pub slot_of-slot-requires-clause-fit : goal.slot_of-slot-requires-clause-fit
slot_of-slot-requires-clause-fit c = subst (λ (r : Row). Fit r) (sym c.known_row-row.ensures) (c.requires.slotted.fit c.loop-i.i (omega (arith, c.requires.slotted.within)))

pub with-taken-requires-clause-panes : goal.with-taken-requires-clause-panes
with-taken-requires-clause-panes c =
    let z = c.requires.slotted in
    (along-fits _ _ _ _ _ z.placed c.loop-i.invariant.along (omega (arith, z.within)) c.known_row-row.ensures).0

pub with-taken-requires-clause-shares : goal.with-taken-requires-clause-shares
with-taken-requires-clause-shares c =
    let z = c.requires.slotted in
    (along-fits _ _ _ _ _ z.placed c.loop-i.invariant.along (omega (arith, z.within)) c.known_row-row.ensures).1

pub with-taken-requires-clause-minima : goal.with-taken-requires-clause-minima
with-taken-requires-clause-minima c =
    let z = c.requires.slotted in
    (along-fits _ _ _ _ _ z.placed c.loop-i.invariant.along (omega (arith, z.within)) c.known_row-row.ensures).2

pub loop-i-preserved : goal.loop-i-preserved
loop-i-preserved c =
    let x = c.args in
    let l = c.loop-i in
    subst (λ (k : Taken). Slotting x.b.now x.t x.kids.now x.end (l.i + 1) k c.put.new.heads c.put.new.ids c.put.new.shares c.put.new.minima) (sym c.with-taken.ensures)
    (slotting-more x.b.now x.t x.kids.now x.end c.requires.slotted l.i l.taken l.heads l.ids l.shares l.minima l.invariant c.loop-i-test.true (row_is c.known_row-row.result) c.slot_of-slot.result _ _ _ _ c.known_row-row.ensures c.slot_of-slot.ensures c.put.ensures)

pub returns : goal.returns
returns c =
    let x = c.args in
    let l = c.loop-i in
    slotting-end x.b.now x.t x.kids.now x.end c.requires.slotted l.i l.taken l.heads l.ids l.shares l.minima l.invariant (omega arith)
