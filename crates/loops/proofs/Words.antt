-- std's words for a test of each entry, and for a sum, are the rules' own. Assumes nothing.
use Rattle.std.proofs.Common.{◌≡◌, refl, ap, Bool, true, ◌&&◌, List, [], ◌∷◌, ◌++◌}
use Rattle.std.specs.List.{list_all}
use Rattle.std.specs.Float.{Float, binary64}
use Rattle.std.specs.Float.Ieee.{add}
use Rattle.rules.specs.Lists.{all_of}
use Rattle.rules.specs.Solver.{sum_by}

pub all-is : {A : Type 0} (p : A → Bool) (xs : List A) → list_all p xs ≡ all_of p xs
unfolding all_of
all-is p [] = refl
all-is p (x ∷ xs) = ap (λ (b : Bool). p x && b) (all-is p xs)

pub sum-one : (a : Float) (xs : List Float) (x : Float) → sum_by (λ (y : Float). true) (λ (y : Float). y) a (xs ++ x ∷ []) ≡ add binary64 (sum_by (λ (y : Float). true) (λ (y : Float). y) a xs) x
unfolding sum_by
sum-one a [] x = refl
sum-one a (y ∷ xs) x = sum-one (add binary64 a y) xs x
