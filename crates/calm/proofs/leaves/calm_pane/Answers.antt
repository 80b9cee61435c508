-- `calm::leaves::calm_pane` is the rule `calm_panes` of one pane. Assumes nothing.
use mathlib.Core.Path.{sym, ◌∙◌}
use Rattle.calm.proofs.Laws.{sights-no, sights-yes}
use Rattle.calm.proofs.leaves.calm_pane.Goals as goal

pub returns-then-saw : goal.returns-then-saw
returns-then-saw c =
    let a = c.args in
    sights-no a.pane a.seen.now a.n (sym c.saw.ensures ∙ c.if-saw.true)

pub returns : goal.returns
returns c =
    let a = c.args in
    sights-yes a.pane a.seen.now a.n _ c.see-m.result (sym c.saw.ensures ∙ c.if-saw.false) c.see-m.ensures.0 c.see-m.ensures.1
