-- `sifting::panes::keep_pane` is one step of the rule's `retain`. Assumes nothing.
use mathlib.Core.Path.{sym, ◌∙◌}
use Rattle.sifting.proofs.LeafLaws.{sifts-again, sifts-first}
use Rattle.sifting.proofs.panes.keep_pane.Goals as goal

pub returns-then-saw : goal.returns-then-saw
returns-then-saw c =
    let a = c.args in
    sifts-again a.id a.pane a.seen.now a.acts.now a.s _ c.note_action-n.result (sym c.saw.ensures ∙ c.if-saw.true)
    c.note_action-n.ensures

pub returns : goal.returns
returns c =
    let a = c.args in
    sifts-first a.id a.pane a.seen.now a.acts.now a.s _ c.see-n.result c.push.result (sym c.saw.ensures ∙ c.if-saw.false) c.requires.place
    c.see-n.ensures.0 c.see-n.ensures.1 c.push.ensures
