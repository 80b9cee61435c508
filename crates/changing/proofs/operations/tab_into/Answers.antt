-- `changing::operations::tab_into` refuses a full group, or puts the pane in. Assumes nothing.
use mathlib.Core.Path.{◌≡◌, sym, ◌∙◌}
use borrow.Author.Rules.{rules}
use lib.ListN.{length}
use Rattle.rules.specs.Tree.{view_slot}
use Rattle.columns.specs.Columns.{nodes_from}
use Rattle.nodes.proofs.GroupLaws.{tabbed-wide}
use Rattle.changing.proofs.OpLaws.{tab-full, tab-goes}
use Rattle.changing.proofs.operations.tab_into.Goals as goal

pub returns-then-is_full : goal.returns-then-is_full
returns-then-is_full c =
    let x = c.args in
    let long : length c.get_node-s.result.panes.at ≡ 16 = search rules in
    record { even = c.requires; steps = λ a T. tab-full x.root x.room (nodes_from x.heads.now x.ids.now x.shares.now x.minima.now) x.pane x.group x.index (view_slot c.get_node-s.result) c.get_node-s.ensures.0 a T (tabbed-wide c.get_node-s.result x.pane x.index long (sym c.is_full.ensures ∙ c.if-is_full.true)) }

pub tabbed_in-next-requires : goal.tabbed_in-next-requires
tabbed_in-next-requires c = record { whole = c.get_node-s.ensures.1; roomy = sym c.is_full.ensures ∙ c.if-is_full.false }

pub returns : goal.returns
returns c =
    let x = c.args in
    record { even = c.set_node.ensures.1; steps = λ a T. tab-goes x.root x.room (nodes_from x.heads.now x.ids.now x.shares.now x.minima.now) x.pane x.group x.index (view_slot c.get_node-s.result) c.get_node-s.ensures.0 a T _ _ c.tabbed_in-next.ensures.0 c.set_node.ensures.0 }
