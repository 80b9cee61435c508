-- `columns::pack::pack` makes one slot after another. Assumes nothing.
use Rattle.columns.specs.PackLaws.{Packing}
use Rattle.columns.proofs.pack.pack.Given as goal

abbrev pub invariant-loop-i : goal.invariant-loop-i
invariant-loop-i l = Packing l.heads l.ids l.shares l.minima l.i l.slots
