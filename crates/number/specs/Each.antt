-- What holds of each element of a list, and of the element at an index. Assumes nothing.
use Rattle.std.specs.Prelude.{List, [], ◌∷◌, map, ℕ, zero, suc, ◌<◌, length, get_or, take}
use Rattle.std.proofs.Common.{le_of_suc-le-suc, not-suc-le-zero}

pub data All {A : Type 0} (P : A → Type 0) : List A → Type 0 where
  none : All P []
  more : {x : A} {xs : List A} → P x → All P xs → All P (x ∷ xs)

pub all-at : {A : Type 0} {P : A → Type 0} {xs : List A} (i : ℕ) (d : A) → All P xs → i < length xs → P (get_or xs i d)
all-at i d none h = absurd (not-suc-le-zero h)
all-at zero d (more p ps) h = p
all-at (suc i) d (more p ps) h = all-at i d ps (le_of_suc-le-suc h)

pub all_take : {A : Type 0} {P : A → Type 0} (n : ℕ) (xs : List A) → All P xs → All P (take n xs)
all_take zero xs a = none
all_take (suc n) [] none = none
all_take (suc n) (x ∷ xs) (more p ps) = more p (all_take n xs ps)

pub all_map : {A B : Type 0} {P : A → Type 0} {Q : B → Type 0} (g : A → B) (xs : List A) → ((x : A) → P x → Q (g x)) → All P xs → All Q (map g xs)
all_map g [] h none = none
all_map g (x ∷ xs) h (more p ps) = more (h x p) (all_map g xs h ps)

pub all_both : {A : Type 0} {P Q : A → Type 0} (xs : List A) → All P xs → All Q xs → All (λ (x : A). P x × Q x) xs
all_both [] none none = none
all_both (x ∷ xs) (more p ps) (more q qs) = more (p, q) (all_both xs ps qs)

pub all-weak : {A : Type 0} {P Q : A → Type 0} (xs : List A) → ((x : A) → P x → Q x) → All P xs → All Q xs
all-weak [] h none = none
all-weak (x ∷ xs) h (more p ps) = more (h x p) (all-weak xs h ps)
