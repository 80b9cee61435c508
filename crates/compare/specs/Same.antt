-- Whether two trees are the same as docs/VECTORS.md compares them: lists by length and entries, only those that the kind uses, reals by bits.
-- Definitions only.
use Rattle.std.specs.Prelude.{Bool, true, false, not, ◌&&◌, cond, ℕ, eqb, Float}
use Rattle.std.specs.Float.{binary64}
use Rattle.std.specs.Float.Ieee.{to_bits, eq}
use Rattle.rules.specs.Lists.{same_list}
use Rattle.rules.specs.Tree.{ids, tiles, reals, same_tile, same_axis, same_placement}
use Rattle.rules.specs.Tree.{Ids}
use Rattle.rules.specs.Tree.{Tiles}
use Rattle.rules.specs.Tree.{Reals}
use Rattle.rules.specs.declared.model.Axis.{Axis}
use Rattle.rules.specs.declared.model.TabBarPlacement.{TabBarPlacement}
use Rattle.rules.specs.declared.model.Kind.{Kind}
use Rattle.rules.specs.declared.model.Kind.TheVariants.{Empty, Pane, Tabs, Split}
use Rattle.rules.specs.declared.model.Slot.{Slot}
use Rattle.rules.specs.declared.model.TileTree.{TileTree}

-- the same bits; a NaN, which alone is not equal to itself, is the same as any other
abbrev pub same_bits : Float → Float → Bool
same_bits x y = cond (eq x x) (cond (eq y y) (eqb (to_bits binary64 x) (to_bits binary64 y)) false) (not (eq y y))

-- the same length as given, and the same entries before it
abbrev pub same_ids : Ids → Ids → Bool
same_ids a b = eqb a.len b.len && same_list eqb (ids a) (ids b)

abbrev pub same_tiles : Tiles → Tiles → Bool
same_tiles a b = eqb a.len b.len && same_list same_tile (tiles a) (tiles b)

abbrev pub same_reals : Reals → Reals → Bool
same_reals a b = eqb a.len b.len && same_list same_bits (reals a) (reals b)

-- a slot of each kind beside another, which is given with its kind
abbrev pub empty_to : Kind → Bool
empty_to Empty = true
empty_to (Pane q) = false
empty_to (Tabs d) = false
empty_to (Split y) = false

abbrev pub pane_to : ℕ → Kind → Bool
pane_to p Empty = false
pane_to p (Pane q) = eqb p q
pane_to p (Tabs d) = false
pane_to p (Split y) = false

abbrev pub tabs_to : TabBarPlacement → Slot → Kind → Slot → Bool
tabs_to c a Empty b = false
tabs_to c a (Pane q) b = false
tabs_to c a (Tabs d) b = same_placement c d && (eqb a.active b.active && same_ids a.panes b.panes)
tabs_to c a (Split y) b = false

abbrev pub split_to : Axis → Slot → Kind → Slot → Bool
split_to x a Empty b = false
split_to x a (Pane q) b = false
split_to x a (Tabs d) b = false
split_to x a (Split y) b =
    same_axis x y && (same_tiles a.children b.children && (same_reals a.shares b.shares && same_reals a.minima b.minima))

abbrev pub slot_to : Kind → Slot → Kind → Slot → Bool
slot_to Empty a k b = empty_to k
slot_to (Pane p) a k b = pane_to p k
slot_to (Tabs c) a k b = tabs_to c a k b
slot_to (Split x) a k b = split_to x a k b

abbrev pub same_slot : Slot → Slot → Bool
same_slot a b = slot_to a.kind a b.kind b

abbrev pub same_tree : TileTree → TileTree → Bool
same_tree a b = same_tile a.root b.root && (eqb a.revision b.revision && same_list same_slot a.slots b.slots)
