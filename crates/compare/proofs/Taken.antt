-- Two lists compared entry by entry, as one list of pairs. Assumes nothing.
use Rattle.std.specs.Prelude.{Bool, ◌&&◌, ◌≡◌, List, [], ◌∷◌, length}
use Rattle.std.specs.List.{zip, list_all}
use mathlib.Core.Path.{refl, ap}
use native.Mathlib.Omega.{arith}
use Rattle.rules.specs.Lists.{same_list}

module _ {A : Type 0} (t : A → A → Bool) where
  pub like-lengths : (xs ys : List A) → length xs ≡ length ys → list_all (λ (p : A × A). t p.0 p.1) (zip xs ys) ≡ same_list t xs ys
  unfolding same_list
  like-lengths [] [] e = refl
  like-lengths [] (y ∷ ys) e = absurd (omega (arith, e))
  like-lengths (x ∷ xs) [] e = absurd (omega (arith, e))
  like-lengths (x ∷ xs) (y ∷ ys) e = ap (λ (b : Bool). t x y && b) (like-lengths xs ys (omega (arith, e)))
