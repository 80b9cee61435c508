-- `build::slots::slots_into`: each turn fills the next row of the columns with the next node. Assumes nothing.
use Rattle.build.specs.SlotsLoop.{Slotting}
use Rattle.build.proofs.slots.slots_into.Given as goal

abbrev pub invariant-loop-i : goal.invariant-loop-i
invariant-loop-i l = Slotting l.b l.t l.kids l.end l.i l.taken l.heads l.ids l.shares l.minima
