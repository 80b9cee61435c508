-- Building by rows: the nodes of a run of rows, whose children's numbers stand in one list, 16 places for each row.
-- What the code's recursion says, against the rules' push_spec. Definitions only.
use Rattle.std.specs.Prelude.{◌≡◌, false, List, [], ◌∷◌, ◌++◌, map, ℕ, suc, ◌+◌, ◌*◌, ◌≤◌, length, get_or, take, drop}
use Rattle.std.proofs.Math.Seq.{slice}
use Rattle.rules.specs.Lists.{any_of}
use Rattle.rules.specs.Tree.{Node, pane, tabs, split, tile}
use Rattle.rules.specs.Table.{Row, pane_row, tabs_row, split_row}
use Rattle.rules.specs.Spec.{Left, after, row_panes, row_shares, row_minima, wide_row, build, push_spec}
use Rattle.rules.specs.declared.model.TileId.{TileId}
use Rattle.table.specs.Sections.{Placed}
use Rattle.table.specs.Rows.{rows_at}
use Rattle.table.specs.declared.sections.Places.{Places}

-- the first n children of the i-th row
abbrev pub children_at : List ℕ → ℕ → ℕ → List TileId
children_at kids i n = map tile (take n (drop (16 * i) kids))

abbrev pub row_node : List ℕ → ℕ → Row → Left → Node
row_node kids i pane_row l = pane (get_or l.panes 0 0)
row_node kids i (tabs_row p n a) l = tabs p a (row_panes (tabs_row p n a) l)
row_node kids i (split_row x n s m) l = split x (children_at kids i n) (row_shares (split_row x n s m) l) (row_minima (split_row x n s m) l)

-- rows in their order, of which the first is the i-th
unfoldable pub nodes_from : List ℕ → ℕ → List Row → Left → List Node
nodes_from kids i [] l = []
nodes_from kids i (r ∷ rs) l = row_node kids i r l ∷ nodes_from kids (suc i) rs (after r l)

unfoldable pub left_over : List Row → Left → Left
left_over [] l = l
left_over (r ∷ rs) l = left_over rs (after r l)

-- what push_spec asks: few rows, none of them wide, and room for 16 children of each
pub record Ready (bs : List ℕ) (t : Places) (kids : List ℕ) (at : ℕ) : Type 0 where
  pub placed : Placed bs t
  pub few : t.rows.count ≤ 64
  pub narrow : any_of wide_row (rows_at bs t) ≡ false
  pub within : at ≤ t.rows.count
  pub size : length kids ≡ 1024

-- what it says: the rules' push_spec, from any state that has come to the row `at`, comes to the row r, and adds a node for each row between
pub record Pushed (rows : List Row) (kids kids' : List ℕ) (at r : ℕ) : Type 0 where
  pub low : at ≤ r
  pub high : r ≤ length rows
  pub size : length kids' ≡ 1024
  pub kept : take (16 * at) kids' ≡ take (16 * at) kids
  pub same : (f : ℕ) (l : Left) (ns : List Node) → length ns ≡ at → length rows ≤ at + f
      → push_spec f (build (drop at rows) l ns) ≡ build (drop r rows) (left_over (slice at r rows) l) (ns ++ nodes_from kids' at (slice at r rows) l)
