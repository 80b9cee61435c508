-- `nodes::slots::pane_slot` meets its contract. Assumes nothing.
use Rattle.rules.specs.declared.model.Kind.TheVariants.{Pane}
use Rattle.nodes.proofs.SlotLaws.{bare-view, bare-whole}
use Rattle.nodes.proofs.slots.pane_slot.Goals as goal

pub returns : goal.returns
returns c = (bare-view c.bare_slot.result (Pane c.args.pane) c.bare_slot.ensures, bare-whole c.bare_slot.result (Pane c.args.pane) c.bare_slot.ensures)
