-- The arena as mathematics: what stands in a slot, with exact lists, and how a TileTree is read as one.
-- From tree.rs, 27 to 37 and 410 to 431 (TileTree, NodeSlot, get_node, set_node, clear_node), and document 01, 'The arena'.
-- Definitions only.
use Rattle.std.specs.Prelude.{Bool, true, false, not, ◌&&◌, ◌||◌, ◌≡◌, ◌⊎◌, List, [], ◌∷◌, ◌++◌, map, ℕ, zero, suc, ◌<◌, T, eqb, ltb, get_or, set, take, Float}
use Rattle.rules.specs.Numbers.{same_real}
use Rattle.rules.specs.Lists.{any_of, same_list, wide_list}
use Rattle.rules.specs.declared.model.TileId.{TileId}
use Rattle.rules.specs.declared.model.Sixteen.{Sixteen}
use Rattle.rules.specs.declared.model.Axis.{Axis}
use Rattle.rules.specs.declared.model.Axis.TheVariants.{Horizontal, Vertical}
use Rattle.rules.specs.declared.model.TabBarPlacement.{TabBarPlacement}
use Rattle.rules.specs.declared.model.TabBarPlacement.TheVariants.{Hidden, Top, Bottom, Left, Right}
use Rattle.rules.specs.declared.model.Kind.{Kind}
use Rattle.rules.specs.declared.model.Kind.TheVariants.{Empty, Pane, Tabs, Split}
use Rattle.rules.specs.declared.model.Slot.{Slot}
use Rattle.rules.specs.declared.model.TileTree.{TileTree}

-- ---- a slot and the arena

-- the Rust's NodeSlot: `tabs placement active panes`, `split axis children shares minima`
pub data Node : Type 0 where
  empty : Node
  pane : ℕ → Node
  tabs : TabBarPlacement → ℕ → List ℕ → Node
  split : Axis → List TileId → List Float → List Float → Node

-- `over`: some used list of an occupied slot was given longer than 16, so that not all of it is there to be read
pub record Arena : Type 0 where
  pub root : TileId
  pub revision : ℕ
  pub nodes : List Node
  pub over : Bool

abbrev pub arena : TileId → ℕ → List Node → Arena
arena r v ns = record { root = r; revision = v; nodes = ns; over = false }

abbrev pub tile : ℕ → TileId
tile n = record { slot = n }

-- ---- a TileTree as an arena: places past a list's length, and lists that a kind doesn't use, are passed over

-- the three lists of 16 that a slot holds: the Rust's Vec<PaneId>, Vec<TileId> and Vec<f64>
abbrev pub Ids : Type 0
Ids = Sixteen ℕ

abbrev pub Tiles : Type 0
Tiles = Sixteen TileId

abbrev pub Reals : Type 0
Reals = Sixteen Float

-- the entries in use of any of them
abbrev pub listed : {A : Type 0} → Sixteen A → List A
listed l = take l.len l.at

abbrev pub ids : Ids → List ℕ
ids l = take l.len l.at

abbrev pub tiles : Tiles → List TileId
tiles l = take l.len l.at

abbrev pub reals : Reals → List Float
reals l = take l.len l.at

abbrev pub node_of : Kind → Slot → Node
node_of Empty s = empty
node_of (Pane p) s = pane p
node_of (Tabs b) s = tabs b s.active (ids s.panes)
node_of (Split a) s = split a (tiles s.children) (reals s.shares) (reals s.minima)

abbrev pub view_slot : Slot → Node
view_slot s = node_of s.kind s

-- a used list is longer than 16
abbrev pub over_by : Kind → Slot → Bool
over_by Empty s = false
over_by (Pane p) s = false
over_by (Tabs b) s = ltb 16 s.panes.len
over_by (Split a) s = ltb 16 s.children.len || ltb 16 s.shares.len || ltb 16 s.minima.len

abbrev pub over_slot : Slot → Bool
over_slot s = over_by s.kind s

abbrev pub view : TileTree → Arena
view t = record { root = t.root; revision = t.revision; nodes = map view_slot t.slots; over = any_of over_slot t.slots }

-- ---- reading and writing slots. An id past the slots reads as empty: the one place that resolves a tile id

abbrev pub node_at : List Node → TileId → Node
node_at ns i = get_or ns i.slot empty

abbrev pub set_node : TileId → Node → List Node → List Node
set_node i n ns = set ns i.slot n

abbrev pub clear_node : TileId → List Node → List Node
clear_node i ns = set_node i empty ns

abbrev pub is_empty : Node → Bool
is_empty empty = true
is_empty (pane p) = false
is_empty (tabs b a ps) = false
is_empty (split a cs ss ms) = false

abbrev pub kids_of : Node → List TileId
kids_of empty = []
kids_of (pane p) = []
kids_of (tabs b a ps) = []
kids_of (split a cs ss ms) = cs

abbrev pub panes_of : Node → List ℕ
panes_of empty = []
panes_of (pane p) = p ∷ []
panes_of (tabs b a ps) = ps
panes_of (split a cs ss ms) = []

-- the empty slots, lowest first: new tiles take these, in order of making
abbrev pub empty_by : Bool → ℕ → List ℕ → List ℕ
empty_by true n rest = n ∷ rest
empty_by false n rest = rest

unfoldable pub empty_from : ℕ → List Node → List ℕ
empty_from i [] = []
empty_from i (n ∷ ns) = empty_by (is_empty n) i (empty_from (suc i) ns)

abbrev pub empty_slots : List Node → List ℕ
empty_slots ns = empty_from 0 ns

-- a fresh empty Hidden group, the root that is made where nothing is kept
abbrev pub empty_group : Node
empty_group = tabs Hidden 0 []

-- a list of the node is longer than 16
abbrev pub wide_node : Node → Bool
wide_node empty = false
wide_node (pane p) = false
wide_node (tabs b a ps) = wide_list ps
wide_node (split a cs ss ms) = wide_list cs || wide_list ss || wide_list ms

-- ---- reading order: a tile, then what stands under it, child by child

-- The tiles still to be read are a list, as the Rust's `pending`. Fuel for each step: the root and each of 64 times 16 children.
unfoldable pub reading : ℕ → List Node → List TileId → List TileId
reading zero ns xs = []
reading (suc f) ns [] = []
reading (suc f) ns (x ∷ xs) = x ∷ reading f ns (kids_of (node_at ns x) ++ xs)

abbrev pub steps : ℕ
steps = 1025

abbrev pub reading_from : List Node → TileId → List TileId
reading_from ns r = reading steps ns (r ∷ [])

-- ---- occupied and reached, with no word of how a tree is walked

abbrev pub Occupied : Arena → ℕ → Type 0
Occupied a i = T (not (is_empty (get_or a.nodes i empty)))

abbrev pub Member : {A : Type 0} → A → List A → Type 0
Member x [] = ⊥
Member x (y ∷ ys) = (x ≡ y) ⊎ Member x ys

pub data Reached (a : Arena) : ℕ → Type 0 where
  root : a.root.slot < 64 → Reached a a.root.slot
  child : {i : ℕ} {j : TileId} → Reached a i → Member j (kids_of (get_or a.nodes i empty)) → Reached a j.slot

-- ---- equality of trees: it passes over a zero's sign, and over what the view passes over

abbrev pub same_tile : TileId → TileId → Bool
same_tile i j = eqb i.slot j.slot

abbrev pub axis_code : Axis → ℕ
axis_code Horizontal = 0
axis_code Vertical = 1

abbrev pub same_axis : Axis → Axis → Bool
same_axis a b = eqb (axis_code a) (axis_code b)

-- document 01's mode numbers, 'Spec bytes'
abbrev pub bar_code : TabBarPlacement → ℕ
bar_code Hidden = 0
bar_code Top = 1
bar_code Bottom = 2
bar_code Left = 3
bar_code Right = 4

abbrev pub same_placement : TabBarPlacement → TabBarPlacement → Bool
same_placement a b = eqb (bar_code a) (bar_code b)

abbrev pub same_reals : List Float → List Float → Bool
same_reals xs ys = same_list same_real xs ys

abbrev pub same_node : Node → Node → Bool
same_node empty empty = true
same_node empty (pane q) = false
same_node empty (tabs b a ps) = false
same_node empty (split x cs ss ms) = false
same_node (pane p) empty = false
same_node (pane p) (pane q) = eqb p q
same_node (pane p) (tabs b a ps) = false
same_node (pane p) (split x cs ss ms) = false
same_node (tabs b a ps) empty = false
same_node (tabs b a ps) (pane q) = false
same_node (tabs b a ps) (tabs c d qs) = same_placement b c && eqb a d && same_list eqb ps qs
same_node (tabs b a ps) (split x cs ss ms) = false
same_node (split x cs ss ms) empty = false
same_node (split x cs ss ms) (pane q) = false
same_node (split x cs ss ms) (tabs c d qs) = false
same_node (split x cs ss ms) (split y ds ts ns) = same_axis x y && same_list same_tile cs ds && same_reals ss ts && same_reals ms ns

abbrev pub same_tree : Arena → Arena → Bool
same_tree a b = same_tile a.root b.root && eqb a.revision b.revision && same_list same_node a.nodes b.nodes
