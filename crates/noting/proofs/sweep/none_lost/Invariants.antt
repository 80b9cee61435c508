-- `noting::sweep::none_lost` passes one slot after another until one is occupied and not claimed. Assumes nothing.
use mathlib.Core.Path.{◌≡◌}
use Rattle.columns.specs.PackLaws.{none_by}
use lib.ListN.{drop}
use Rattle.noting.proofs.sweep.none_lost.Given as goal

abbrev pub invariant-loop-i : goal.invariant-loop-i
invariant-loop-i l = none_by (drop l.i l.claimed) (drop l.i l.heads) ≡ none_by l.claimed l.heads
