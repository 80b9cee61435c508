-- `nodes::slots::get_node` reads a row, or an empty slot past the end. Assumes nothing.
use mathlib.Core.Path.{◌∙◌}
use native.Mathlib.Omega.{arith}
use Rattle.rules.specs.declared.model.Kind.TheVariants.{Empty}
use Rattle.columns.specs.Columns.{nodes_from}
use Rattle.columns.specs.RowLaws.{even-long, even-row}
use Rattle.nodes.proofs.SlotLaws.{bare-view, bare-whole, node-past}
use Rattle.nodes.proofs.slots.get_node.Goals as goal

pub returns-then-i-ge64 : goal.returns-then-i-ge64
returns-then-i-ge64 c =
    let x = c.args in
    let s = c.bare_slot.result in (
      bare-view s Empty c.bare_slot.ensures
          ∙ node-past (nodes_from x.heads.now x.ids.now x.shares.now x.minima.now) x.id.slot (omega (arith, even-long x.heads.now x.ids.now x.shares.now x.minima.now c.requires, c.if-i-ge64.true)),
      bare-whole s Empty c.bare_slot.ensures,
    )

pub returns : goal.returns
returns c =
    let x = c.args in
    (c.get.ensures.0, c.get.ensures.1 ∙ even-row x.heads.now x.ids.now x.shares.now x.minima.now c.requires x.id.slot)
