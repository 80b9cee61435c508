-- Putting a tile beside another, and taking a pane out. From tree.rs, 651 to 719 (`insert_tile_near`), 721 to 741 (`remove_pane`),
-- and document 01, 'Operations'.
-- Definitions only.
use Rattle.std.specs.Prelude.{Bool, true, false, ◌&&◌, cond, List, [], ◌∷◌, ℕ, suc, ◌-◌, leb, ltb, eqb, length, get_or, set, Float}
use Rattle.std.proofs.Math.Option.{Option, none, some}
use Rattle.std.specs.Float.{binary64}
use Rattle.std.specs.Float.Ieee.{mul, sub}
use Rattle.rules.specs.Numbers.{zero-f, one-f, hundredth, larger}
use Rattle.rules.specs.Lists.{insert_at, remove_at}
use Rattle.rules.specs.Tree.{Node, empty, pane, tabs, split, node_at, set_node, clear_node, same_tile, same_axis}
use Rattle.rules.specs.Shares.{repaired_shares}
use Rattle.rules.specs.Minima.{aligned_constraints, compact_constraints}
use Rattle.rules.specs.Target.{PaneLocation, nowhere, in_tile, in_tabs, Parent, find_parent, existing}
use Rattle.rules.specs.declared.model.TileId.{TileId}
use Rattle.rules.specs.declared.model.Axis.{Axis}
use Rattle.rules.specs.declared.model.Placement.{Placement}
use Rattle.rules.specs.declared.model.Placement.TheVariants.{Before, After}
use Rattle.rules.specs.declared.refusal.Refusal.{Refusal}
use Rattle.rules.specs.declared.refusal.Refusal.TheVariants.{InvalidOperation}

-- the root and the slots, as an operation works on them
pub record Draft : Type 0 where
  pub root : TileId
  pub nodes : List Node

abbrev pub draft : TileId → List Node → Draft
draft r ns = record { root = r; nodes = ns }

-- ---- where, and by which shares

pub record Beside : Type 0 where
  pub target : TileId
  pub axis : Axis
  pub placement : Placement
  pub share : Float

abbrev pub beside : TileId → Axis → Placement → Float → Beside
beside t a p s = record { target = t; axis = a; placement = p; share = s }

abbrev pub insert_index : Placement → ℕ → ℕ
insert_index Before i = i
insert_index After i = suc i

abbrev pub inserted_share : Float → Float → Float
inserted_share old share = larger (mul binary64 old share) hundredth

abbrev pub target_share : Float → Float → Float
target_share old share = larger (sub binary64 old (inserted_share old share)) hundredth

-- a split's shares, the one at i divided between the target and the inserted
abbrev pub divided_shares : Beside → ℕ → List Float → List Float
divided_shares b i ss =
    let old = get_or ss i one-f in
    insert_at (insert_index b.placement i) (inserted_share old b.share) (set ss i (target_share old b.share))

-- ---- in a parent of the same axis: at the target's side, with minimum 0

abbrev pub inserted_in : Beside → TileId → ℕ → Node → Node
inserted_in b new i empty = empty
inserted_in b new i (pane p) = pane p
inserted_in b new i (tabs x a ps) = tabs x a ps
inserted_in b new i (split x cs ss ms) =
    split x (insert_at (insert_index b.placement i) new cs) (divided_shares b i (repaired_shares (length cs) ss))
    (compact_constraints (insert_at (insert_index b.placement i) zero-f (aligned_constraints (length cs) ms)))

abbrev pub has_axis : Axis → Node → Bool
has_axis a empty = false
has_axis a (pane p) = false
has_axis a (tabs x n ps) = false
has_axis a (split x cs ss ms) = same_axis x a

-- ---- otherwise: a new split of the two takes the target's place, which keeps its share and minimum

abbrev pub new_split : Beside → TileId → Placement → Node
new_split b new Before =
    split b.axis (new ∷ b.target ∷ []) (larger b.share hundredth ∷ larger (sub binary64 one-f b.share) hundredth ∷ []) []
new_split b new After =
    split b.axis (b.target ∷ new ∷ []) (larger (sub binary64 one-f b.share) hundredth ∷ larger b.share hundredth ∷ []) []

abbrev pub replaced_in : TileId → ℕ → Node → Node
replaced_in new i empty = empty
replaced_in new i (pane p) = pane p
replaced_in new i (tabs x a ps) = tabs x a ps
replaced_in new i (split x cs ss ms) = split x (set cs i new) ss ms

-- at the root, or in the parent
abbrev pub hang : Bool → TileId → Option Parent → Draft → Draft
hang true s parent d = draft s d.nodes
hang false s none d = d
hang false s (some p) d = draft d.root (set_node p.split (replaced_in s p.index (node_at d.nodes p.split)) d.nodes)

abbrev pub insert_new : Beside → TileId → TileId → Option Parent → Draft → Draft
insert_new b new s parent d = hang (same_tile b.target d.root) s parent (draft d.root (set_node s (new_split b new b.placement) d.nodes))

abbrev pub same_axis_parent : Axis → Option Parent → List Node → Bool
same_axis_parent a none ns = false
same_axis_parent a (some p) ns = has_axis a (node_at ns p.split)

abbrev pub insert_at_parent : Bool → Beside → TileId → TileId → Option Parent → Draft → Draft
insert_at_parent true b new s (some p) d = draft d.root (set_node p.split (inserted_in b new p.index (node_at d.nodes p.split)) d.nodes)
insert_at_parent true b new s none d = d
insert_at_parent false b new s parent d = insert_new b new s parent d

abbrev pub parent_of : Beside → Draft → Option Parent
parent_of b d = find_parent d.root d.nodes b.target

-- `new` is the inserted tile, `s` the slot for a split if one is made
unfoldable pub insert_tile_near : Beside → TileId → TileId → Draft → Draft
insert_tile_near b new s d = insert_at_parent (same_axis_parent b.axis (parent_of b d) d.nodes) b new s (parent_of b d) d

-- new tiles needed beside a tile: one, and one more unless the target's parent split has the named axis
abbrev pub needed_near : Beside → Draft → ℕ
needed_near b d = cond (same_axis_parent b.axis (parent_of b d) d.nodes) 1 2

-- its refusals: no tile there 6; a tile that is neither the root nor in a split 9 (not in a sound tree)
abbrev pub hanging_by : Bool → Option Parent → Option Refusal
hanging_by true p = none
hanging_by false (some p) = none
hanging_by false none = some InvalidOperation

abbrev pub near_by : Option Refusal → Beside → Draft → Option Refusal
near_by (some e) b d = some e
near_by none b d = hanging_by (same_tile b.target d.root) (parent_of b d)

abbrev pub refused_near : Beside → Draft → Option Refusal
refused_near b d = near_by (existing (node_at d.nodes b.target)) b d

-- ---- taking a pane out: a pane tile's slot is cleared, its place in a split stays; a group loses the pane

-- n panes are left, the one at i went
abbrev pub active_after : ℕ → ℕ → ℕ → ℕ
active_after i active n = cond (eqb n 0) 0 (cond (leb n active) (n - 1) (cond (leb i active && ltb 0 active) (active - 1) active))

abbrev pub removed_from : ℕ → Node → Node
removed_from i empty = empty
removed_from i (pane p) = pane p
removed_from i (tabs b a ps) = tabs b (active_after i a (length (remove_at i ps))) (remove_at i ps)
removed_from i (split x cs ss ms) = split x cs ss ms

abbrev pub remove_pane : PaneLocation → List Node → List Node
remove_pane nowhere ns = ns
remove_pane (in_tile t) ns = clear_node t ns
remove_pane (in_tabs g i) ns = set_node g (removed_from i (node_at ns g)) ns
