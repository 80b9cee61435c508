-- `lending::back::fit_all` makes one head after another, in place. Assumes nothing.
use mathlib.Core.Path.{◌≡◌}
use lib.ListN.{length}
use Rattle.lending.specs.Back.{fitted}
use Rattle.crossing.proofs.PlaceLaws.{Mapping}
use Rattle.lending.proofs.back.fit_all.Given as goal

abbrev pub invariant-loop-i : goal.invariant-loop-i
invariant-loop-i l = (length l.heads ≡ 64) × Mapping fitted l.initial.heads l.i l.heads
