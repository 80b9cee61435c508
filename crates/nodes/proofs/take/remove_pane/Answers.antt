-- `nodes::take::remove_pane` goes by where the pane stands. Assumes nothing.
use mathlib.Core.Path.{sym, ap, subst, ◌∙◌}
use Prim.Native.Nat.{◌<◌}
use lib.ListN.{length}
use Rattle.rules.specs.Tree.{Node, panes_of, set_node}
use Rattle.rules.specs.Insert.{remove_pane, removed_from}
use Rattle.rules.specs.declared.model.Kind.TheVariants.{Empty}
use Rattle.columns.specs.Columns.{nodes_from}
use Rattle.std.specs.Prelude.{Option as Maybe, Some}
use Rattle.nodes.specs.declared.PaneLocation.{PaneLocation as Location}
use Rattle.nodes.specs.Parts.{location_of}
use Rattle.nodes.specs.Find.{Stands}
use Rattle.nodes.proofs.SlotLaws.{bare-view, bare-whole}
use Rattle.nodes.proofs.take.remove_pane.Goals as goal

pub set_node-requires : goal.set_node-requires
set_node-requires c = record { even = c.requires.even; whole = bare-whole c.bare_slot-none.result Empty c.bare_slot-none.ensures }

pub removed_from-left-requires : goal.removed_from-left-requires
removed_from-left-requires c =
    let x = c.args in
    let ns = nodes_from x.heads.now x.ids.now x.shares.now x.minima.now in
    record {
      inside = subst (λ (n : Node). c.in-InTabs.index < length (panes_of n)) (sym c.get_node-s.ensures.0) (subst (λ (y : Maybe Location). Stands ns (location_of y)) (c.in-Some.is ∙ ap Some c.in-InTabs.is) c.requires.stands).1;
      whole = c.get_node-s.ensures.1;
    }

pub returns-in_default : goal.returns-in_default
returns-in_default c =
    let x = c.args in
    let ns = nodes_from x.heads.now x.ids.now x.shares.now x.minima.now in
    (ap (λ (y : Maybe Location). remove_pane (location_of y) ns) (sym c.in_default.is), c.requires.even)

pub returns-in-Tile : goal.returns-in-Tile
returns-in-Tile c =
    let x = c.args in
    let ns = nodes_from x.heads.now x.ids.now x.shares.now x.minima.now in
    (c.set_node.ensures.0 ∙ ap (λ (n : Node). set_node c.in-Tile.tile n ns) (bare-view c.bare_slot-none.result Empty c.bare_slot-none.ensures) ∙ ap (λ (y : Maybe Location). remove_pane (location_of y) ns) (sym (c.in-Some.is ∙ ap Some c.in-Tile.is)), c.set_node.ensures.1)

pub returns-in-InTabs : goal.returns-in-InTabs
returns-in-InTabs c =
    let x = c.args in
    let ns = nodes_from x.heads.now x.ids.now x.shares.now x.minima.now in
    (c.set_node-in-InTabs.ensures.0 ∙ ap (λ (n : Node). set_node c.in-InTabs.group n ns) (c.removed_from-left.ensures.0 ∙ ap (removed_from c.in-InTabs.index) c.get_node-s.ensures.0) ∙ ap (λ (y : Maybe Location). remove_pane (location_of y) ns) (sym (c.in-Some.is ∙ ap Some c.in-InTabs.is)), c.set_node-in-InTabs.ensures.1)
