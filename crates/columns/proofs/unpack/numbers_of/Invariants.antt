-- `columns::unpack::numbers_of` copies the number of one tile after another. Assumes nothing.
use mathlib.Core.Path.{◌≡◌}
use mathlib.Core.List.{map}
use Prim.Native.Nat.{◌≤◌}
use lib.ListN.{length}
use Rattle.columns.specs.Pack.{slot_of}
use Rattle.columns.specs.PackLaws.{Copied}
use Rattle.columns.proofs.unpack.numbers_of.Given as goal

abbrev pub invariant-loop-i : goal.invariant-loop-i
invariant-loop-i l = (length l.at ≡ 16) × (l.i ≤ 16) × Copied (map slot_of l.at) l.i l.row
