-- Tests of lists, by loops that say what is left: whether any entry passes, whether two lists agree. Assumes nothing.
use Rattle.std.specs.Prelude.{◌≡◌, Bool, ◌&&◌, ◌||◌, length, drop, get_or}
use Rattle.std.proofs.Math.Path.{refl, sym, ap}
use Rattle.std.proofs.Common.{◌∙◌, add-one, drop_of_length-le, drop-cons}
use Rattle.std.proofs.Math.Bool.{true, false}
use mathlib.Core.List.{List, [], ◌∷◌}
use Prim.Native.Nat.{ℕ, suc, ◌+◌, ◌≤◌, ◌<◌}
use Rattle.rules.specs.Lists.{any_of, same_list}

or_assoc : (a b c : Bool) → ((a || b) || c) ≡ (a || (b || c))
or_assoc true b c = refl
or_assoc false b c = refl

or-false : (a : Bool) → (a || false) ≡ a
or-false true = refl
or-false false = refl

module _ {A : Type 0} where
  -- a flag that has got to i
  abbrev pub Flagged : (A → Bool) → List A → ℕ → Bool → Type 0
  Flagged t xs i b = (b || any_of t (drop i xs)) ≡ any_of t xs

  pub flagged-more : (t : A → Bool) (xs : List A) (i : ℕ) (d : A) (b : Bool) → i < length xs → Flagged t xs i b → Flagged t xs (i + 1) (b || t (get_or xs i d))
  unfolding any_of
  flagged-more t xs i d b h w =
      ap (λ (k : ℕ). (b || t (get_or xs i d)) || any_of t (drop k xs)) (add-one i)
      ∙ or_assoc b (t (get_or xs i d)) (any_of t (drop (suc i) xs))
      ∙ sym (ap (λ (l : List A). b || any_of t l) (drop-cons xs i d h)) ∙ w

  pub flagged-all : (t : A → Bool) (xs : List A) (i : ℕ) (b : Bool) → length xs ≤ i → Flagged t xs i b → b ≡ any_of t xs
  unfolding any_of
  flagged-all t xs i b h w = sym (or-false b) ∙ sym (ap (λ (l : List A). b || any_of t l) (drop_of_length-le xs h)) ∙ w

  -- two lists that agree up to i
  abbrev pub Agreed : (A → A → Bool) → List A → List A → ℕ → Type 0
  Agreed t xs ys i = same_list t (drop i xs) (drop i ys) ≡ same_list t xs ys

  here : (t : A → A → Bool) (xs ys : List A) (i : ℕ) (d : A) → i < length xs → i < length ys
      → same_list t (drop i xs) (drop i ys) ≡ (t (get_or xs i d) (get_or ys i d) && same_list t (drop (suc i) xs) (drop (suc i) ys))
  unfolding same_list
  here t xs ys i d h g = λ j. same_list t (drop-cons xs i d h j) (drop-cons ys i d g j)

  pub agreed-more : (t : A → A → Bool) (xs ys : List A) (i : ℕ) (d : A) → i < length xs → i < length ys
      → t (get_or xs i d) (get_or ys i d) ≡ true → Agreed t xs ys i → Agreed t xs ys (i + 1)
  agreed-more t xs ys i d h g e w =
      ap (λ (k : ℕ). same_list t (drop k xs) (drop k ys)) (add-one i)
      ∙ sym (here t xs ys i d h g ∙ ap (λ (b : Bool). b && same_list t (drop (suc i) xs) (drop (suc i) ys)) e) ∙ w

  pub agreed-not : (t : A → A → Bool) (xs ys : List A) (i : ℕ) (d : A) → i < length xs → i < length ys
      → t (get_or xs i d) (get_or ys i d) ≡ false → Agreed t xs ys i → false ≡ same_list t xs ys
  agreed-not t xs ys i d h g e w = sym (here t xs ys i d h g ∙ ap (λ (b : Bool). b && same_list t (drop (suc i) xs) (drop (suc i) ys)) e) ∙ w

  pub agreed-all : (t : A → A → Bool) (xs ys : List A) (i : ℕ) → length xs ≤ i → length ys ≤ i → Agreed t xs ys i → true ≡ same_list t xs ys
  unfolding same_list
  agreed-all t xs ys i h g w = sym (λ j. same_list t (drop_of_length-le xs h j) (drop_of_length-le ys g j)) ∙ w

  pub unlike-lengths : (t : A → A → Bool) (xs ys : List A) → (length xs ≡ length ys → ⊥) → false ≡ same_list t xs ys
  unfolding same_list
  unlike-lengths t [] [] n = absurd (n refl)
  unlike-lengths t [] (y ∷ ys) n = refl
  unlike-lengths t (x ∷ xs) [] n = refl
  unlike-lengths t (x ∷ xs) (y ∷ ys) n = by (t x y) (unlike-lengths t xs ys (λ e. n (ap suc e)))
    where
      by : (b : Bool) → false ≡ same_list t xs ys → false ≡ (b && same_list t xs ys)
      by true e = e
      by false e = refl
