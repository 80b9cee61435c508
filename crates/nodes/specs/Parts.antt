-- What the parts of an operation answer, as the rules have it. Definitions only.
use Rattle.std.specs.Prelude.{◌≡◌, Bool, false, ℕ, leb, drop, List, [], ◌∷◌, Option as Maybe, Some, None, Result, Ok, Err, ⊤}
use Rattle.std.proofs.Math.Option.{Option, none, some}
use Rattle.std.proofs.Math.ListN.{get_elem?}
use Rattle.rules.specs.Tree.{Node, empty, pane, tabs, split, tile, empty_slots}
use Rattle.rules.specs.Target.{PaneLocation, nowhere, in_tile, in_tabs, Parent}
use Rattle.rules.specs.Insert as Insert
use Rattle.rules.specs.Operations.{kept_active, reordered}
use Rattle.rules.specs.declared.model.Kind.{Kind}
use Rattle.rules.specs.declared.model.Kind.TheVariants.{Empty, Pane, Tabs, Split}
use Rattle.rules.specs.declared.model.Slot.{Slot}
use Rattle.rules.specs.declared.model.TileId.{TileId}
use Rattle.rules.specs.declared.refusal.Refusal.{Refusal}
use Rattle.nodes.specs.declared.PaneLocation.{PaneLocation as Location}
use Rattle.nodes.specs.declared.PaneLocation.TheVariants.{Tile, InTabs}
use Rattle.nodes.specs.declared.Holder.{Holder}
use Rattle.nodes.specs.declared.Beside.{Beside}
use Rattle.nodes.specs.declared.Spares.{Spares}

abbrev pub location_of : Maybe Location → PaneLocation
location_of None = nowhere
location_of (Some (Tile t)) = in_tile t
location_of (Some (InTabs g i)) = in_tabs g i

abbrev pub holder_of : Maybe Holder → Option Parent
holder_of None = none
holder_of (Some h) = some (record { split = h.split; index = h.index })

abbrev pub checked_of : Result ⊤ Refusal → Option Refusal
checked_of (Ok u) = none
checked_of (Err e) = some e

abbrev pub beside_of : Beside → Insert.Beside
beside_of b = Insert.beside b.target b.axis b.placement b.share

-- the first of these slots, where there is one
abbrev pub first_slot : List ℕ → Maybe TileId
first_slot [] = None
first_slot (i ∷ is) = Some (tile i)

-- the lowest three of the empty slots, as far as there are three
pub record Spared (r : Spares) (ns : List Node) : Type 0 where
  pub first : r.first ≡ first_slot (empty_slots ns)
  pub second : r.second ≡ first_slot (drop 1 (empty_slots ns))
  pub third : r.third ≡ first_slot (drop 2 (empty_slots ns))

abbrev pub IsGroup : Node → Type 0
IsGroup empty = ⊥
IsGroup (pane p) = ⊥
IsGroup (tabs b a ps) = Unit {0}
IsGroup (split a cs ss ms) = ⊥

-- no room for one more pane
abbrev pub full_by : Kind → Slot → Bool
full_by Empty s = false
full_by (Pane p) s = false
full_by (Tabs b) s = leb 16 s.panes.len
full_by (Split a) s = false

abbrev pub is_full : Slot → Bool
is_full s = full_by s.kind s

-- a pane of a group in another place, and the active pane the same
abbrev pub reordered_in : ℕ → ℕ → ℕ → Node → Node
reordered_in p from to empty = empty
reordered_in p from to (pane q) = pane q
reordered_in p from to (tabs b a ps) = tabs b (kept_active (get_elem? ps a) a (reordered ps p from to)) (reordered ps p from to)
reordered_in p from to (split x cs ss ms) = split x cs ss ms
