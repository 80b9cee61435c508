-- Finding: where a pane stands, which split holds a tile, and whether a dock target is good. From tree.rs, 566 to 582 (`validate_target`),
-- 1126 to 1180 (`find_pane`, `find_parent`, `contains_pane`, `count_panes`), 88 to 92 (`PaneLocation`), and document 01, 'Operations'.
-- The Rust pops tiles off `pending`, skipping those it has visited; in a sound tree each is reached once, so what it visits is the reading order.
-- Definitions only.
use Rattle.std.specs.Prelude.{Bool, true, false, List, [], ◌∷◌, ◌++◌, ℕ, eqb}
use Rattle.std.proofs.Math.Option.{Option, none, some}
use Rattle.rules.specs.Numbers.{is_valid_split_fraction}
use Rattle.rules.specs.Lists.{position}
use Rattle.rules.specs.Tree.{Node, empty, pane, tabs, split, node_at, kids_of, panes_of, reading_from, same_tile}
use Rattle.rules.specs.declared.model.TileId.{TileId}
use Rattle.rules.specs.declared.operation.DockTarget.{DockTarget}
use Rattle.rules.specs.declared.operation.DockTarget.TheVariants.{Root, Split, TabInto}
use Rattle.rules.specs.declared.refusal.Refusal.{Refusal}
use Rattle.rules.specs.declared.refusal.Refusal.TheVariants.{InvalidTileId, InvalidTarget}

-- ---- `find_pane`

pub data PaneLocation : Type 0 where
  nowhere : PaneLocation
  in_tile : TileId → PaneLocation
  in_tabs : TileId → ℕ → PaneLocation

abbrev pub tile_has : Bool → TileId → PaneLocation → PaneLocation
tile_has true i next = in_tile i
tile_has false i next = next

abbrev pub tabs_have : Option ℕ → TileId → PaneLocation → PaneLocation
tabs_have (some n) i next = in_tabs i n
tabs_have none i next = next

abbrev pub located : Node → ℕ → TileId → PaneLocation → PaneLocation
located empty p i next = next
located (pane q) p i next = tile_has (eqb p q) i next
located (tabs b a qs) p i next = tabs_have (position (eqb p) qs) i next
located (split a cs ss ms) p i next = next

unfoldable pub locate : List Node → ℕ → List TileId → PaneLocation
locate ns p [] = nowhere
locate ns p (x ∷ xs) = located (node_at ns x) p x (locate ns p xs)

abbrev pub find_pane : TileId → List Node → ℕ → PaneLocation
find_pane root ns p = locate ns p (reading_from ns root)

abbrev pub is_somewhere : PaneLocation → Bool
is_somewhere nowhere = false
is_somewhere (in_tile i) = true
is_somewhere (in_tabs i n) = true

abbrev pub contains_pane : TileId → List Node → ℕ → Bool
contains_pane root ns p = is_somewhere (find_pane root ns p)

-- ---- `find_parent`: the split, and the place in it

pub record Parent : Type 0 where
  pub split : TileId
  pub index : ℕ

abbrev pub parent_by : Option ℕ → TileId → Option Parent → Option Parent
parent_by (some n) i next = some (record { split = i; index = n })
parent_by none i next = next

unfoldable pub seek_parent : List Node → TileId → List TileId → Option Parent
seek_parent ns t [] = none
seek_parent ns t (x ∷ xs) = parent_by (position (same_tile t) (kids_of (node_at ns x))) x (seek_parent ns t xs)

abbrev pub find_parent : TileId → List Node → TileId → Option Parent
find_parent root ns t = seek_parent ns t (reading_from ns root)

-- ---- every pane, in reading order (`panes`, 112 to 141)

unfoldable pub panes_along : List Node → List TileId → List ℕ
panes_along ns [] = []
panes_along ns (x ∷ xs) = panes_of (node_at ns x) ++ panes_along ns xs

abbrev pub panes_in : TileId → List Node → List ℕ
panes_in root ns = panes_along ns (reading_from ns root)

-- ---- `validate_target`: a bad ratio 8, before no tile 6; into what is no group 8

abbrev pub existing : Node → Option Refusal
existing empty = some InvalidTileId
existing (pane p) = none
existing (tabs b a ps) = none
existing (split a cs ss ms) = none

abbrev pub a_group : Node → Option Refusal
a_group empty = some InvalidTileId
a_group (pane p) = some InvalidTarget
a_group (tabs b a ps) = none
a_group (split a cs ss ms) = some InvalidTarget

abbrev pub beside_by : Bool → Node → Option Refusal
beside_by true n = existing n
beside_by false n = some InvalidTarget

unfoldable pub validate_target : List Node → DockTarget → Option Refusal
validate_target ns Root = none
validate_target ns (Split t a p ratio) = beside_by (is_valid_split_fraction ratio) (node_at ns t)
validate_target ns (TabInto g i) = a_group (node_at ns g)
