-- `crossing::tidy::tidy_all` makes one head after another, in place. Assumes nothing.
use mathlib.Core.Path.{◌≡◌}
use lib.ListN.{length}
use Rattle.coding.specs.Lent.{tidied}
use Rattle.crossing.proofs.PlaceLaws.{Mapping}
use Rattle.crossing.proofs.tidy.tidy_all.Given as goal

abbrev pub invariant-loop-i : goal.invariant-loop-i
invariant-loop-i l = (length l.heads ≡ 64) × Mapping tidied l.initial.heads l.i l.heads
