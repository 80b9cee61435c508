-- `nodes::find::find_parent` passes one row after another until one has the tile among its children. Assumes nothing.
use mathlib.Core.Path.{◌≡◌}
use mathlib.Core.List.{List}
use lib.Ieee.{Float}
use lib.ListN.{length}
use Rattle.columns.specs.Columns.{nodes_from}
use Rattle.nodes.proofs.FindLaws.{Seeking}
use Rattle.nodes.proofs.find.find_parent.Given as goal

abbrev pub invariant-loop-i : goal.invariant-loop-i
invariant-loop-i l = (ss ms : List (List Float)) → length ss ≡ 64 → length ms ≡ 64 → Seeking (nodes_from l.heads l.ids ss ms) l.target l.i
