-- `nodes::slots::set_node` writes a row, or nothing past the end. Assumes nothing.
use mathlib.Core.Path.{sym}
use native.Mathlib.Omega.{arith}
use Rattle.rules.specs.Tree.{view_slot}
use Rattle.columns.specs.Columns.{nodes_from}
use Rattle.columns.specs.RowLaws.{even-long, put-nodes, put-even}
use Rattle.nodes.proofs.SlotLaws.{set_past}
use Rattle.nodes.proofs.slots.set_node.Goals as goal

pub returns-then-i-ge64 : goal.returns-then-i-ge64
returns-then-i-ge64 c =
    let x = c.args in (
      sym (set_past (nodes_from x.heads.now x.ids.now x.shares.now x.minima.now) x.id.slot (view_slot x.s) (omega (arith, even-long x.heads.now x.ids.now x.shares.now x.minima.now c.requires.even, c.if-i-ge64.true))),
      c.requires.even,
    )

pub returns : goal.returns
returns c =
    let x = c.args in
    let P = c.put.ensures in (
      put-nodes x.heads.now x.ids.now x.shares.now x.minima.now c.requires.even x.id.slot x.s _ _ _ _ P,
      put-even x.heads.now x.ids.now x.shares.now x.minima.now c.requires.even x.id.slot x.s _ _ _ _ P c.requires.whole,
    )
