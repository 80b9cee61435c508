-- `parting::splits::new_split` goes by the placement. Assumes nothing.
use mathlib.Core.Path.{sym, ap, ◌∙◌}
use mathlib.Core.List.{[], ◌∷◌}
use Rattle.rules.specs.Tree.{split}
use Rattle.rules.specs.Insert.{new_split}
use Rattle.nodes.specs.Parts.{beside_of}
use lib.Ieee.{of_bits}
use Rattle.parting.proofs.splits.new_split.Goals as goal

pub returns-in-Before : goal.returns-in-Before
unfolding of_bits
returns-in-Before c =
    let x = c.args in
    (c.split_of.ensures.0 ∙ (λ z. split x.b.axis (x.inserted ∷ x.b.target ∷ []) (c.at_least-own.ensures z ∷ c.at_least-rest.ensures z ∷ []) []) ∙ ap (new_split (beside_of x.b) x.inserted) (sym c.in-Before.is), c.split_of.ensures.1)

pub returns-in-After : goal.returns-in-After
unfolding of_bits
returns-in-After c =
    let x = c.args in
    (c.split_of-in-After.ensures.0 ∙ (λ z. split x.b.axis (x.b.target ∷ x.inserted ∷ []) (c.at_least-rest.ensures z ∷ c.at_least-own.ensures z ∷ []) []) ∙ ap (new_split (beside_of x.b) x.inserted) (sym c.in-After.is), c.split_of-in-After.ensures.1)
