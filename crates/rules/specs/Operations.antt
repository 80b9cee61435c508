-- The operations. From tree.rs, 225 to 238 (`apply`), 346 to 362, 447 to 505 and 522 to 546 (`apply_inner`, `activate_pane`, `close_pane`, `split_pane`,
-- `move_pane`, `reorder_tab`), 598 to 626 (`insert_tile_at_target`), and document 01, 'Operations', 'The arena' (slots taken) and 'Refusals' (order):
-- 4, the Rust's own refusals in its order, 2, 3 at insertion, 11, 3 after repair.
-- Definitions only.
use Rattle.std.specs.Prelude.{Bool, true, false, cond, List, [], ◌∷◌, ℕ, suc, min, leb, ltb, eqb, length, get_or, drop, Float}
use Rattle.std.proofs.Math.Option.{Option, none, some}
use Rattle.std.proofs.Math.ListN.{get_elem?}
use Rattle.rules.specs.Numbers.{half-f, is_valid_split_fraction}
use Rattle.rules.specs.Lists.{any_of, insert_at, remove_at, position}
use Rattle.rules.specs.Tree.{Node, empty, pane, tabs, split, Arena, arena, tile, node_at, set_node, empty_slots, wide_node}
use Rattle.rules.specs.Repair.{Normal, normalize, active_of}
use Rattle.rules.specs.Sound.{sound}
use Rattle.rules.specs.Target.{PaneLocation, nowhere, in_tile, in_tabs, find_pane, contains_pane, panes_in, validate_target}
use Rattle.rules.specs.Insert.{Draft, draft, Beside, beside, insert_tile_near, needed_near, refused_near, remove_pane}
use Rattle.rules.specs.declared.model.TileId.{TileId}
use Rattle.rules.specs.declared.model.Axis.{Axis}
use Rattle.rules.specs.declared.model.Axis.TheVariants.{Horizontal}
use Rattle.rules.specs.declared.model.Placement.{Placement}
use Rattle.rules.specs.declared.model.Placement.TheVariants.{After}
use Rattle.rules.specs.declared.model.TabBarPlacement.{TabBarPlacement}
use Rattle.rules.specs.declared.model.TabBarPlacement.TheVariants.{Top}
use Rattle.std.specs.Prelude as Std
use Rattle.rules.specs.declared.operation.DockTarget.{DockTarget}
use Rattle.rules.specs.declared.operation.DockTarget.TheVariants.{Root, Split, TabInto}
use Rattle.rules.specs.declared.operation.TileOp.{TileOp}
use Rattle.rules.specs.declared.operation.TileOp.TheVariants.{ActivatePane, ClosePane, SplitPane, MovePane, ReorderTab}
use Rattle.rules.specs.Refusals.{Answer}
use Rattle.rules.specs.Refusals.{Accepted, Refused}
use Rattle.rules.specs.declared.refusal.Refusal.{Refusal}
use Rattle.rules.specs.declared.refusal.Refusal.TheVariants.{ArenaFull, TooWide, NotSound, InvalidTileId, InvalidPaneId, InvalidOperation, DuplicatePane, RevisionExhausted}

-- ---- what an operation comes to, before the tests that follow it

-- the tree as changed, how many new tiles were needed, and the slots empty at the start that it has not taken
pub record Change : Type 0 where
  pub made : Draft
  pub needed : ℕ
  pub free : List ℕ

pub data Step : Type 0 where
  refuse : Refusal → Step
  unchanged : Step
  changed : Change → Step

abbrev pub change : Draft → ℕ → List ℕ → Step
change d n free = changed (record { made = d; needed = n; free = free })

-- a change that needs no new tile
abbrev pub change_only : Arena → List Node → Step
change_only a ns = change (draft a.root ns) 0 (empty_slots a.nodes)

abbrev pub or_else : Option Refusal → Step → Step
or_else (some e) s = refuse e
or_else none s = s

abbrev pub start : Arena → Draft
start a = draft a.root a.nodes

-- the slots that were empty at the start, in order of taking: pane tile or group first, then split
abbrev pub taken : ℕ → Arena → TileId
taken k a = tile (get_or (empty_slots a.nodes) k 64)

-- ---- activate

abbrev pub set_active : ℕ → Node → Node
set_active n empty = empty
set_active n (pane p) = pane p
set_active n (tabs b a ps) = tabs b n ps
set_active n (split x cs ss ms) = split x cs ss ms

abbrev pub active_is : ℕ → Node → Bool
active_is n empty = false
active_is n (pane p) = false
active_is n (tabs b a ps) = eqb a n
active_is n (split x cs ss ms) = false

abbrev pub activate_by : Bool → Arena → TileId → ℕ → Step
activate_by true a g i = unchanged
activate_by false a g i = change_only a (set_node g (set_active i (node_at a.nodes g)) a.nodes)

abbrev pub activate_at : PaneLocation → Arena → Step
activate_at nowhere a = refuse InvalidPaneId
activate_at (in_tile t) a = unchanged
activate_at (in_tabs g i) a = activate_by (active_is i (node_at a.nodes g)) a g i

abbrev pub where_is : Arena → ℕ → PaneLocation
where_is a p = find_pane a.root a.nodes p

abbrev pub activate_pane : Arena → ℕ → Step
activate_pane a p = activate_at (where_is a p) a

-- ---- close: one new tile, and only when the last pane goes

abbrev pub needed_to_close : Arena → ℕ
needed_to_close a = cond (leb (length (panes_in a.root a.nodes)) 1) 1 0

abbrev pub close_in : Arena → PaneLocation → Step
close_in a l = change (draft a.root (remove_pane l a.nodes)) (needed_to_close a) (empty_slots a.nodes)

abbrev pub close_at : PaneLocation → Arena → Step
close_at nowhere a = refuse InvalidPaneId
close_at (in_tile t) a = close_in a (in_tile t)
close_at (in_tabs g i) a = close_in a (in_tabs g i)

abbrev pub close_pane : Arena → ℕ → Step
close_pane a p = close_at (where_is a p) a

-- ---- put a new tile beside another

abbrev pub put_near : Arena → Node → Beside → Draft → Step
put_near a new b d =
    or_else (refused_near b d)
    (change (insert_tile_near b (taken 0 a) (taken 1 a) (draft d.root (set_node (taken 0 a) new d.nodes))) (needed_near b d) (drop (needed_near b d) (empty_slots a.nodes)))

-- ---- split pane: the target is the pane's tile, or its whole group

abbrev pub split_at : PaneLocation → Arena → Axis → ℕ → Placement → Float → Step
split_at nowhere a x new p s = refuse InvalidPaneId
split_at (in_tile t) a x new p s = put_near a (pane new) (beside t x p s) (start a)
split_at (in_tabs g i) a x new p s = put_near a (pane new) (beside g x p s) (start a)

abbrev pub split_fresh : Bool → Arena → ℕ → Axis → ℕ → Placement → Float → Step
split_fresh true a q x new p s = refuse (DuplicatePane new)
split_fresh false a q x new p s = split_at (where_is a q) a x new p s

abbrev pub split_by : Bool → Arena → ℕ → Axis → ℕ → Placement → Float → Step
split_by true a q x new p s = split_fresh (contains_pane a.root a.nodes new) a q x new p s
split_by false a q x new p s = refuse InvalidOperation

abbrev pub split_pane : Arena → ℕ → Axis → ℕ → Placement → Float → Step
split_pane a q x new p s = split_by (is_valid_split_fraction s) a q x new p s

-- ---- move: the pane is taken out, then put in

-- an index counts after the taking out, and is clamped
abbrev pub TabIndex : Type 0
TabIndex = Std.Option ℕ

abbrev pub clamped : TabIndex → ℕ → ℕ
clamped Std.None n = n
clamped (Std.Some i) n = min i n

abbrev pub tabbed_in : ℕ → TabIndex → Node → Node
tabbed_in p i empty = empty
tabbed_in p i (pane q) = pane q
tabbed_in p i (tabs b a ps) = tabs b (clamped i (length ps)) (insert_at (clamped i (length ps)) p ps)
tabbed_in p i (split x cs ss ms) = split x cs ss ms

-- `d` is the tree without the pane. To root: a Top group with the pane, horizontally after, fraction 0.5
abbrev pub insert_tile_at_target : Arena → ℕ → DockTarget → Draft → Step
insert_tile_at_target a p Root d = put_near a (tabs Top 0 (p ∷ [])) (beside d.root Horizontal After half-f) d
insert_tile_at_target a p (Split t x side ratio) d = put_near a (pane p) (beside t x side ratio) d
insert_tile_at_target a p (TabInto g i) d = change_only a (set_node g (tabbed_in p i (node_at d.nodes g)) d.nodes)

abbrev pub move_in : Arena → ℕ → DockTarget → PaneLocation → Step
move_in a p t l = or_else (validate_target a.nodes t) (insert_tile_at_target a p t (draft a.root (remove_pane l a.nodes)))

abbrev pub move_at : PaneLocation → Arena → ℕ → DockTarget → Step
move_at nowhere a p t = refuse InvalidPaneId
move_at (in_tile i) a p t = move_in a p t (in_tile i)
move_at (in_tabs g i) a p t = move_in a p t (in_tabs g i)

abbrev pub move_pane : Arena → ℕ → DockTarget → Step
move_pane a p t = move_at (where_is a p) a p t

-- ---- reorder: the index is clamped after removal, and the active pane stays the same pane

abbrev pub kept_active : Option ℕ → ℕ → List ℕ → ℕ
kept_active none a ps = a
kept_active (some p) a ps = active_of (some p) ps

abbrev pub reordered : List ℕ → ℕ → ℕ → ℕ → List ℕ
reordered ps p from to = insert_at to p (remove_at from ps)

abbrev pub reorder_by : Bool → Arena → TileId → TabBarPlacement → ℕ → List ℕ → List ℕ → Step
reorder_by true a g b n ps qs = unchanged
reorder_by false a g b n ps qs = change_only a (set_node g (tabs b (kept_active (get_elem? ps n) n qs) qs) a.nodes)

abbrev pub landing : ℕ → ℕ → List ℕ → ℕ
landing from i ps = min i (length (remove_at from ps))

abbrev pub reorder_from : Option ℕ → Arena → TileId → TabBarPlacement → ℕ → List ℕ → ℕ → ℕ → Step
reorder_from none a g b n ps p i = refuse InvalidPaneId
reorder_from (some from) a g b n ps p i = reorder_by (eqb from (landing from i ps)) a g b n ps (reordered ps p from (landing from i ps))

abbrev pub reorder_in : Node → Arena → TileId → ℕ → ℕ → Step
reorder_in empty a g p i = refuse InvalidTileId
reorder_in (pane q) a g p i = refuse InvalidTileId
reorder_in (tabs b n ps) a g p i = reorder_from (position (eqb p) ps) a g b n ps p i
reorder_in (split x cs ss ms) a g p i = refuse InvalidTileId

abbrev pub reorder_tab : Arena → TileId → ℕ → ℕ → Step
reorder_tab a g p i = reorder_in (node_at a.nodes g) a g p i

-- ---- `apply_inner`

unfoldable pub apply_inner : Arena → TileOp → Step
apply_inner a (ActivatePane p) = activate_pane a p
apply_inner a (ClosePane p) = close_pane a p
apply_inner a (SplitPane q x new p s) = split_pane a q x new p s
apply_inner a (MovePane p t) = move_pane a p t
apply_inner a (ReorderTab g p i) = reorder_tab a g p i

-- ---- the public call

pub record Applied : Type 0 where
  pub answer : Answer
  pub tree : Arena

abbrev pub refused : Refusal → Arena → Applied
refused e a = record { answer = Refused e; tree = a }

abbrev pub accepted : Arena → Applied
accepted a = record { answer = Accepted; tree = a }

-- 3 after repair
abbrev pub normal_by : Bool → Arena → Normal → Applied
normal_by true a n = refused TooWide a
normal_by false a n = accepted (arena n.root (suc a.revision) n.nodes)

abbrev pub normal_as : Arena → Option Normal → Applied
normal_as a none = refused ArenaFull a
normal_as a (some n) = normal_by (any_of wide_node n.nodes) a n

abbrev pub last-revision : ℕ
last-revision = 18446744073709551615

-- 11, then the repair
abbrev pub revised_by : Bool → Arena → Change → Applied
revised_by true a c = refused RevisionExhausted a
revised_by false a c = normal_as a (normalize c.free c.made.root c.made.nodes)

-- 3 at insertion
abbrev pub inserted_by : Bool → Arena → Change → Applied
inserted_by true a c = refused TooWide a
inserted_by false a c = revised_by (leb last-revision a.revision) a c

-- 2
abbrev pub room_by : Bool → Arena → Change → Applied
room_by true a c = refused ArenaFull a
room_by false a c = inserted_by (any_of wide_node c.made.nodes) a c

abbrev pub finish : Arena → Step → Applied
finish a (refuse e) = refused e a
finish a unchanged = accepted a
finish a (changed c) = room_by (ltb (length (empty_slots a.nodes)) c.needed) a c

abbrev pub apply_by : Bool → Arena → TileOp → Applied
apply_by true a op = finish a (apply_inner a op)
apply_by false a op = refused NotSound a

unfoldable pub apply : Arena → TileOp → Applied
apply a op = apply_by (sound a) a op
