-- A row as the code has it, read as a row of the rules. Definitions only.
use Rattle.std.specs.Prelude.{◌≡◌, Option, Some, None, List, ℕ, ◌<◌, take, drop}
use Rattle.std.proofs.Math.Option as O
use Rattle.rules.specs.Table.{Row, pane_row, tabs_row, split_row, row_of, panes_used, shares_used, minima_used, children_used}
use Rattle.rules.specs.declared.model.Axis.{Axis}
use Rattle.rules.specs.declared.model.TabBarPlacement.{TabBarPlacement}
use Rattle.table.specs.declared.row.TableRow.{TableRow}
use Rattle.table.specs.declared.row.TableRow.TheVariants.{Pane, Tabs, Split}

abbrev pub bar_is : Option TabBarPlacement → O.Option TabBarPlacement
bar_is (Some b) = O.some b
bar_is None = O.none

abbrev pub axis_is : Option Axis → O.Option Axis
axis_is (Some a) = O.some a
axis_is None = O.none

abbrev pub row_is : TableRow → Row
row_is Pane = pane_row
row_is (Tabs b n a) = tabs_row b n a
row_is (Split x n s m) = split_row x n s m

abbrev pub read_is : Option TableRow → O.Option Row
read_is (Some r) = O.some (row_is r)
read_is None = O.none

-- where there is no row, a plain pane's is as good as any
abbrev pub row_or : O.Option Row → Row
row_or (O.some r) = r
row_or O.none = pane_row

-- what a row takes is below 2^16
pub record Small (r : Row) : Type 0 where
  pub panes : panes_used r < 65536
  pub shares : shares_used r < 65536
  pub minima : minima_used r < 65536
  pub children : children_used r < 65536

-- the row that stands at a place
pub record ReadAt (bs : List ℕ) (at : ℕ) (r : Option TableRow) : Type 0 where
  pub is : read_is r ≡ row_of (take 8 (drop at bs))
  pub small : Small (row_or (read_is r))
