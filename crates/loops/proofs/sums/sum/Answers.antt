-- `sums::sum` adds one more at each step of std's fold. Assumes nothing.
use Rattle.std.proofs.Common.{◌≡◌, ◌∙◌, refl, sym, ap, List, rules}
use Rattle.std.proofs.lemmas.Fn.{fold_over, slice_gives, fronts}
use Rattle.std.specs.Float.{Float, binary64}
use Rattle.std.specs.Float.Ieee.{add, of_bits}
use Rattle.rules.specs.Numbers.{zero-f}
use Rattle.rules.specs.Solver.{sum_of, sum_by}
use Rattle.loops.proofs.Words.{sum-one}
use Rattle.loops.proofs.sums.sum.Goals as goal

pub returns : goal.returns
unfolding of_bits sum_by
returns c =
    let P : List Float → Float → Type 0 = λ ys t. t ≡ sum_of ys in
    fold_over fronts (λ y. y.now) _ P _ (λ ys t x r f k e.
    let h : r ≡ add binary64 t x.now = search rules in
    (h ∙ ap (λ (u : Float). add binary64 u x.now) k ∙ sym (sum-one zero-f ys x.now), search rules))
    c.iter.result _ _ _ (slice_gives c.iter.result) refl c.fold.ensures.ran
    ∙ ap sum_of c.iter.ensures.rest
