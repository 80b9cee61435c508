-- `noting::sweep::sweep` passes one slot after another. Assumes nothing.
use Rattle.columns.specs.PackLaws.{Sweeping}
use Rattle.noting.proofs.sweep.sweep.Given as goal

abbrev pub invariant-loop-i : goal.invariant-loop-i
invariant-loop-i l = Sweeping l.initial.heads l.claimed l.initial.acts l.n l.heads l.acts l.m l.i
