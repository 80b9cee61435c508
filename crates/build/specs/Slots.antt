-- What a slot holds, and which rows have one. Definitions only.
use Rattle.std.specs.Prelude.{◌≡◌, false, List, [], ℕ, ◌≤◌, ◌<◌, length, get_or, take, Float}
use Rattle.rules.specs.Tree.{Node, empty, view_slot, over_slot}
use Rattle.rules.specs.Table.{Row, pane_row, panes_used, shares_used, minima_used, children_used}
use Rattle.rules.specs.Spec.{left_of, padded}
use Rattle.rules.specs.declared.model.Slot.{Slot}
use Rattle.lists.specs.Exact.{pad_to}
use Rattle.columns.specs.Columns as C
use Rattle.columns.specs.Pack.{Even}
use Rattle.table.specs.Sections.{Placed}
use Rattle.table.specs.Rows.{table_of, Used}
use Rattle.build.specs.Push.{nodes_from}
use Rattle.table.specs.declared.sections.Places.{Places}

pub record SlotIs (s : Slot) (n : Node) : Type 0 where
  pub view : view_slot s ≡ n
  pub fits : over_slot s ≡ false

-- a row whose lists fit a slot
pub record Fit (r : Row) : Type 0 where
  pub panes : panes_used r ≤ 16
  pub shares : shares_used r ≤ 16
  pub minima : minima_used r ≤ 16
  pub children : children_used r ≤ 16

-- what is known when the slots are made
pub record Slotted (bs : List ℕ) (t : Places) (kids : List ℕ) (end : ℕ) : Type 0 where
  pub placed : Placed bs t
  pub used : Used (table_of bs t)
  pub fit : (i : ℕ) → i < t.rows.count → Fit (get_or (table_of bs t).rows i pane_row)
  pub few : t.rows.count ≤ 64
  pub within : end ≤ t.rows.count
  pub size : length kids ≡ 1024

-- columns of 64 rows that show no tile
pub record Bare (hs xs : List (List ℕ)) (ss ms : List (List Float)) : Type 0 where
  pub even : Even hs xs ss ms
  pub none : C.nodes_from hs xs ss ms ≡ pad_to 64 empty []

-- columns that show the first `end` rows' tiles, and no others
pub record ColumnsAre (bs : List ℕ) (t : Places) (kids : List ℕ) (end : ℕ) (hs xs : List (List ℕ)) (ss ms : List (List Float)) : Type 0 where
  pub view : C.nodes_from hs xs ss ms ≡ padded (nodes_from kids 0 (take end (table_of bs t).rows) (left_of (table_of bs t)))
  pub even : Even hs xs ss ms
