-- `noting::sweep::first_empty` passes one slot after another until one is empty. Assumes nothing.
use Rattle.columns.specs.PackLaws.{Looked}
use Rattle.noting.proofs.sweep.first_empty.Given as goal

abbrev pub invariant-loop-i : goal.invariant-loop-i
invariant-loop-i l = Looked l.heads l.i
