-- std's words for what a list holds are the rules' own. Assumes nothing.
use Rattle.std.proofs.Common.{◌≡◌, refl, ap, Bool, ◌&&◌, ◌||◌, List, [], ◌∷◌}
use Rattle.std.specs.List.{list_any}
use lib.Pointwise.{pointwise}
use Rattle.rules.specs.Lists.{any_of, same_list}

pub any_is : {A : Type 0} (p : A → Bool) (xs : List A) → list_any p xs ≡ any_of p xs
unfolding any_of
any_is p [] = refl
any_is p (x ∷ xs) = ap (λ (b : Bool). p x || b) (any_is p xs)

pub same_is : {A : Type 0} (same : A → A → Bool) (xs ys : List A) → pointwise same xs ys ≡ same_list same xs ys
unfolding same_list
same_is same [] [] = refl
same_is same [] (y ∷ ys) = refl
same_is same (x ∷ xs) [] = refl
same_is same (x ∷ xs) (y ∷ ys) = ap (λ (b : Bool). same x y && b) (same_is same xs ys)
