-- Loops that read the first n elements of an array: a sum and a test of each, as facts about lists. Assumes nothing.
use mathlib.Core.Path.{◌≡◌, refl, sym, ap, ◌∙◌}
use mathlib.Core.Bool.{Bool, true, false, ◌&&◌, cond, and_assoc, and-true}
use mathlib.Core.List.{List, [], ◌∷◌, map}
use Prim.Native.Nat.{ℕ, ◌+◌, ◌≤◌, ◌<◌}
use native.Mathlib.Numerals.{add-one}
use native.Mathlib.Omega.{arith}
use lib.ListN.{length, get_or, take, drop}
use lib.Seq.{drop-cons, get_or-take, drop-length, length-take-le}
use lib.Ieee.{Float, nan, binary64, add}
use Rattle.rules.specs.Lists.{all_of}
use Rattle.rules.specs.Solver.{sum_by}
use Rattle.rules.specs.declared.solving.Kid.{Kid}

-- what the code reads past an array's end
abbrev pub kid0 : Kid
kid0 = record { share = nan; minimum = nan; size = nan; fixed = false }

-- a sum of what g makes of each
pub sum-map : {A B : Type 0} (on : B → Bool) (val : B → Float) (g : A → B) (a : Float) (xs : List A) → sum_by (λ (x : A). on (g x)) (λ (x : A). val (g x)) a xs ≡ sum_by on val a (map g xs)
unfolding sum_by
sum-map on val g a [] = refl
sum-map on val g a (x ∷ xs) = sum-map on val g (cond (on (g x)) (add binary64 a (val (g x))) a) xs

module _ {A : Type 0} where
  -- what is left of the first n at i is the element at i, and what is left at i + 1
  pub rest_at : (xs : List A) (n i : ℕ) (d : A) → i < n → n ≤ length xs → drop i (take n xs) ≡ get_or xs i d ∷ drop (i + 1) (take n xs)
  rest_at xs n i d h k =
      let e : length (take n xs) ≡ n = length-take-le n xs k in
      drop-cons (take n xs) i d (omega arith)
      ∙ (λ j. get_or-take n xs i d h j ∷ drop (sym (add-one i) j) (take n xs))

  pub rest-none : (xs : List A) (n i : ℕ) → n ≤ i → i ≤ n → n ≤ length xs → drop i (take n xs) ≡ []
  rest-none xs n i h g k =
      let e : i ≡ length (take n xs) = (omega (arith, length-take-le n xs k)) in
      ap (λ (j : ℕ). drop j (take n xs)) e ∙ drop-length (take n xs)

  -- ---- a sum that has got to i with t
  abbrev pub Summed : (A → Bool) → (A → Float) → Float → List A → ℕ → ℕ → Float → Type 0
  Summed on val a xs n i t = sum_by on val t (drop i (take n xs)) ≡ sum_by on val a (take n xs)

  pub summed-step : (on : A → Bool) (val : A → Float) (a : Float) (xs : List A) (n i : ℕ) (t : Float) (d : A) → i < n → n ≤ length xs
      → Summed on val a xs n i t → Summed on val a xs n (i + 1) (cond (on (get_or xs i d)) (add binary64 t (val (get_or xs i d))) t)
  unfolding sum_by
  summed-step on val a xs n i t d h k e = sym (ap (λ (l : List A). sum_by on val t l) (rest_at xs n i d h k)) ∙ e

  pub summed-end : (on : A → Bool) (val : A → Float) (a : Float) (xs : List A) (n i : ℕ) (t : Float) → n ≤ i → i ≤ n → n ≤ length xs
      → Summed on val a xs n i t → t ≡ sum_by on val a (take n xs)
  unfolding sum_by
  summed-end on val a xs n i t h g k e = sym (ap (λ (l : List A). sum_by on val t l) (rest-none xs n i h g k)) ∙ e

  -- ---- a test of each that has held up to i, where the loop ends at the first that fails
  abbrev pub Tested : (A → Bool) → List A → ℕ → ℕ → Type 0
  Tested p xs n i = all_of p (drop i (take n xs)) ≡ all_of p (take n xs)

  at_test : (p : A → Bool) (xs : List A) (n i : ℕ) (d : A) (b : Bool) → i < n → n ≤ length xs → b ≡ p (get_or xs i d) → all_of p (drop i (take n xs)) ≡ b && all_of p (drop (i + 1) (take n xs))
  unfolding all_of
  at_test p xs n i d b h k e = ap (all_of p) (rest_at xs n i d h k) ∙ ap (λ (c : Bool). c && all_of p (drop (i + 1) (take n xs))) (sym e)

  pub tested-step : (p : A → Bool) (xs : List A) (n i : ℕ) (d : A) (b : Bool) → i < n → n ≤ length xs → b ≡ p (get_or xs i d) → b ≡ true → Tested p xs n i → Tested p xs n (i + 1)
  tested-step p xs n i d b h k e t inv = sym (at_test p xs n i d b h k e ∙ ap (λ (c : Bool). c && all_of p (drop (i + 1) (take n xs))) t) ∙ inv

  pub tested-fails : (p : A → Bool) (xs : List A) (n i : ℕ) (d : A) (b : Bool) → i < n → n ≤ length xs → b ≡ p (get_or xs i d) → b ≡ false → Tested p xs n i → false ≡ all_of p (take n xs)
  tested-fails p xs n i d b h k e t inv = sym (at_test p xs n i d b h k e ∙ ap (λ (c : Bool). c && all_of p (drop (i + 1) (take n xs))) t) ∙ inv

  pub tested-end : (p : A → Bool) (xs : List A) (n i : ℕ) → n ≤ i → i ≤ n → n ≤ length xs → Tested p xs n i → true ≡ all_of p (take n xs)
  unfolding all_of
  tested-end p xs n i h g k inv = sym (ap (all_of p) (rest-none xs n i h g k)) ∙ inv

  -- ---- a test of each that has come to b at i, where the loop goes on
  abbrev pub Kept : (A → Bool) → List A → ℕ → ℕ → Bool → Type 0
  Kept p xs n i b = (b && all_of p (drop i (take n xs))) ≡ all_of p (take n xs)

  pub kept_step : (p : A → Bool) (xs : List A) (n i : ℕ) (d : A) (b c : Bool) → i < n → n ≤ length xs → c ≡ p (get_or xs i d) → Kept p xs n i b → Kept p xs n (i + 1) (b && c)
  kept_step p xs n i d b c h k e inv = and_assoc b c (all_of p (drop (i + 1) (take n xs))) ∙ ap (λ (z : Bool). b && z) (sym (at_test p xs n i d c h k e)) ∙ inv

  pub kept-end : (p : A → Bool) (xs : List A) (n i : ℕ) (b : Bool) → n ≤ i → i ≤ n → n ≤ length xs → Kept p xs n i b → b ≡ all_of p (take n xs)
  unfolding all_of
  kept-end p xs n i b h g k inv = sym (and-true b) ∙ sym (ap (λ (l : List A). b && all_of p l) (rest-none xs n i h g k)) ∙ inv
