-- `frame::whole::layout`: the stream of the rule's items, sorted. Assumes nothing.
use mathlib.Core.Path.{◌≡◌}
use borrow.Author.Rules.{rules}
use lib.ListN.{length}
use Rattle.frame.proofs.WholeLaws.{laid}
use Rattle.frame.proofs.whole.layout.Goals as goal

pub returns : goal.returns
returns c =
    let long : length c.args.t.slots ≡ 64 = search rules in
    laid c.args.t c.args.input _ _ c.layout_into-l.new.items c.layout_into-l.new.rects c.layout_into-l.result long c.layout_into-l.ensures
    c.panes.result c.tab_bars.result c.tabs.result c.split_children.result c.split_handles.result c.focus_order.result c.paint_order.result
    c.panes.ensures c.tab_bars.ensures c.tabs.ensures c.split_children.ensures c.split_handles.ensures c.focus_order.ensures c.paint_order.ensures
