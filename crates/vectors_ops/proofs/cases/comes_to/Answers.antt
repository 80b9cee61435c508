-- `vectors_ops::cases::comes_to`: the number that the call answered is the rule's. Assumes nothing.
use mathlib.Core.Path.{sym, ap, ◌∙◌}
use Rattle.rules.specs.Operations.{Applied}
use Rattle.rules.specs.Refusals.{Told, answer_of}
use Rattle.vectors_ops.proofs.cases.comes_to.Goals as goal

pub returns : goal.returns
returns c =
    λ e. ap (λ (x : Applied). (answer_of x.answer).number) (sym c.apply-done.ensures.0) ∙ ap (λ (x : Told). x.number) (sym c.from-told.ensures) ∙ c.if-told-number.false
