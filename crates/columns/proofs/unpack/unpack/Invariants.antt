-- `columns::unpack::unpack` fills the four columns slot by slot. Assumes nothing.
use Rattle.columns.specs.PackLaws.{Unpacking}
use Rattle.columns.proofs.unpack.unpack.Given as goal

abbrev pub invariant-loop-i : goal.invariant-loop-i
invariant-loop-i l = Unpacking l.slots l.i l.heads l.ids l.shares l.minima
