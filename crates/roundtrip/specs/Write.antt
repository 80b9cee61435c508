-- A table as bytes, and a tree as a table: what a writer of tables is to write. From document 01, 'Spec bytes', read the other way.
-- Definitions only.
use Rattle.std.specs.Prelude.{List, [], ◌∷◌, ◌++◌, map, ℕ, zero, suc, ◌/◌, ◌%◌, length, Float}
use Rattle.std.specs.Float.{binary64}
use Rattle.std.specs.Float.Ieee.{to_bits}
use Rattle.rules.specs.Tree.{Node, empty, pane, tabs, split, Arena, node_at, panes_of, reading_from, bar_code, axis_code}
use Rattle.rules.specs.Table.{Row, pane_row, tabs_row, split_row, Table}
use Rattle.rules.specs.declared.model.TileId.{TileId}
use Rattle.rules.specs.declared.model.TabBarPlacement.TheVariants.{Hidden}
use Rattle.forest.specs.Along.{along}

-- ---- bytes

-- a number in w bytes, the low one first
abbrev pub bytes_of : ℕ → ℕ → List ℕ
bytes_of zero n = []
bytes_of (suc w) n = n % 256 ∷ bytes_of w (n / 256)

abbrev pub real_bytes : Float → List ℕ
real_bytes x = bytes_of 8 (to_bits binary64 x)

-- kind and mode, then count, extra and minima
abbrev pub row_as : ℕ → ℕ → ℕ → ℕ → ℕ → List ℕ
row_as k m c e n = k ∷ m ∷ (bytes_of 2 c ++ (bytes_of 2 e ++ bytes_of 2 n))

abbrev pub row_bytes : Row → List ℕ
row_bytes pane_row = row_as 0 0 1 0 0
row_bytes (tabs_row b n a) = row_as 1 (bar_code b) n a 0
row_bytes (split_row x n s m) = row_as 2 (axis_code x) n s m

abbrev pub joined : List (List ℕ) → List ℕ
joined [] = []
joined (e ∷ es) = e ++ joined es

-- a section, and what comes after it
abbrev pub section_then : List (List ℕ) → List ℕ → List ℕ
section_then es rest = bytes_of 4 (length es) ++ (joined es ++ rest)

abbrev pub table_bytes : Table → List ℕ
table_bytes t =
    section_then (map row_bytes t.rows) (section_then (map (bytes_of 8) t.panes) (section_then (map real_bytes t.shares) (section_then (map real_bytes t.minima) [])))

-- ---- a tree's table: its tiles in reading order

-- an empty slot is read by no tree that is sound
abbrev pub row_of_node : Node → Row
row_of_node empty = tabs_row Hidden 0 0
row_of_node (pane p) = pane_row
row_of_node (tabs b a ps) = tabs_row b (length ps) a
row_of_node (split a cs ss ms) = split_row a (length cs) (length ss) (length ms)

abbrev pub node_shares : Node → List Float
node_shares empty = []
node_shares (pane p) = []
node_shares (tabs b a ps) = []
node_shares (split a cs ss ms) = ss

abbrev pub node_minima : Node → List Float
node_minima empty = []
node_minima (pane p) = []
node_minima (tabs b a ps) = []
node_minima (split a cs ss ms) = ms

abbrev pub table_along : List Node → List TileId → Table
table_along ns xs = record { rows = map (λ x. row_of_node (node_at ns x)) xs; panes = along panes_of ns xs; shares = along node_shares ns xs; minima = along node_minima ns xs }

abbrev pub table_of_tree : Arena → Table
table_of_tree a = table_along a.nodes (reading_from a.nodes a.root)

-- what to_spec is to write
abbrev pub to_spec : Arena → List ℕ
to_spec a = table_bytes (table_of_tree a)
