-- `vectors_ops::cases::row`: the root and the revision stay. Assumes nothing.
use mathlib.Core.Path.{◌≡◌}
use lib.ListN.{length}
use Rattle.vectors_ops.proofs.cases.row.Given as goal

abbrev pub invariant-loop-i : goal.invariant-loop-i
invariant-loop-i l = (length l.at ≡ 16) × (l.t.root.slot ≡ 0) × (l.t.revision ≡ 7)
