-- `nodes::find::pane_in` goes by the row's kind. Assumes nothing.
use mathlib.Core.Path.{◌∙◌}
use mathlib.Core.List.{[]}
use lib.ListN.{get_or}
use Rattle.rules.specs.Tree.{tile}
use Rattle.nodes.proofs.FindLaws.{head_few, row-pane, row-tabs, row-nowhere}
use Rattle.nodes.proofs.find.pane_in.Goals as goal

pub returns-then-h-eq1 : goal.returns-then-h-eq1
returns-then-h-eq1 c =
    let x = c.args in
    λ ss ms. c.in_tile.ensures ∙ row-pane (get_or x.heads.now x.i []) (get_or x.ids.now x.i []) ss ms x.pane (tile x.i) c.if-h-eq1.true

pub in_tabs-requires : goal.in_tabs-requires
in_tabs-requires c =
    head_few (get_or c.args.heads.now c.args.i []) c.requires.whole

pub returns-then-h-eq2 : goal.returns-then-h-eq2
returns-then-h-eq2 c =
    let x = c.args in
    λ ss ms. c.in_tabs.ensures ∙ row-tabs (get_or x.heads.now x.i []) (get_or x.ids.now x.i []) ss ms x.pane (tile x.i) c.if-h-eq2.true

pub returns : goal.returns
returns c =
    let x = c.args in
    λ ss ms. row-nowhere (get_or x.heads.now x.i []) (get_or x.ids.now x.i []) ss ms x.pane (tile x.i) c.if-h-eq1.false c.if-h-eq2.false
