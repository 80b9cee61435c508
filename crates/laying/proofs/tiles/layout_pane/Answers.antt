-- `laying::tiles::layout_pane`: its focus, then itself. Assumes nothing.
use mathlib.Core.Path.{ap, ◌∙◌}
use Rattle.rules.specs.Tree.{tile}
use Rattle.rules.specs.Frame.{a_pane}
use Rattle.streaming.specs.Stream.{push_item}
use Rattle.laying.proofs.tiles.layout_pane.Goals as goal

pub returns : goal.returns
returns c =
    let a = c.args in
    c.push_entry.ensures ∙ ap (push_item (a_pane a.pane (tile a.id) a.rect)) c.push_entry-m.ensures
