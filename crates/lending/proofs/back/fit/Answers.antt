-- `lending::back::fit` makes all heads anew where a code is out of its range. Assumes nothing.
use mathlib.Core.Path.{sym, ap, ◌∙◌}
use mathlib.Core.Bool.{Bool}
use Rattle.lending.specs.Back.{fit_by}
use Rattle.lending.proofs.back.fit.Goals as goal

pub returns-then-codes_ok : goal.returns-then-codes_ok
returns-then-codes_ok c =
    let h = c.args.heads.now in
    ap (λ (b : Bool). fit_by b h) (sym c.if-codes_ok.true ∙ c.codes_ok.ensures)

pub returns : goal.returns
returns c =
    let h = c.args.heads.now in
    c.fit_all.ensures ∙ ap (λ (b : Bool). fit_by b h) (sym c.if-codes_ok.false ∙ c.codes_ok.ensures)
