-- `noting::actions::note_if` adds what is not listed yet, to a list that is not silent. Assumes nothing.
use mathlib.Core.Path.{sym, ◌∙◌}
use native.Mathlib.Omega.{arith}
use Rattle.noting.specs.ActionLaws.{noted-is, noted-contained, noted-put}
use Rattle.noting.proofs.actions.note_if.Goals as goal

pub returns-then-contains : goal.returns-then-contains
returns-then-contains c a ec et ep =
    let g = c.args in
    noted-is c.if-not-yes.false
    (noted-contained g.acts.now g.n g.what g.tile g.pane a ec et ep (sym c.contains.ensures.value ∙ c.if-contains.true))

pub returns : goal.returns
returns c a ec et ep =
    let g = c.args in
    noted-is c.if-not-yes.false
    (noted-put g.acts.now g.n g.what g.tile g.pane a ec et ep (sym c.contains.ensures.value ∙ c.if-contains.false)
    (omega (arith, c.requires)))
