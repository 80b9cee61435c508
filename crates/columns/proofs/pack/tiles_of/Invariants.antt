-- `columns::pack::tiles_of` makes one tile after another. Assumes nothing.
use mathlib.Core.Path.{◌≡◌}
use mathlib.Core.List.{map}
use Prim.Native.Nat.{◌≤◌}
use lib.ListN.{length}
use Rattle.rules.specs.Tree.{tile}
use Rattle.columns.specs.PackLaws.{Copied}
use Rattle.columns.proofs.pack.tiles_of.Given as goal

abbrev pub invariant-loop-i : goal.invariant-loop-i
invariant-loop-i l = (length l.row ≡ 16) × (l.i ≤ 16) × Copied (map tile l.row) l.i l.at
