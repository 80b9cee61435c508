-- The place of an entry: what the answer means, and the laws of position. Assumes nothing.
use Rattle.std.proofs.Math.Path.{◌≡◌, refl, sym, ap}
use Rattle.std.proofs.Common.{◌∙◌, subst, add-one, arith, drop_of_length-le, drop-cons}
use Rattle.std.specs.Prelude.{Bool, true, false, ℕ, zero, suc, ◌+◌, ◌-◌, ◌≤◌, ◌<◌, length, drop, get_or}
use mathlib.Core.List.{List, [], ◌∷◌}
use Rattle.std.proofs.Math.Option.{Option, none, some}
use Rattle.std.proofs.Math.Nat.{sub-zero}
use Rattle.rules.specs.Lists.{first_by, position_from, position}
use Rattle.std.specs.Prelude as Std

-- an Option of the code as one of the rules
abbrev pub place_of : Std.Option ℕ → Option ℕ
place_of (Std.Some i) = some i
place_of Std.None = none

module _ {A : Type 0} (t : A → Bool) where
  -- a search that has passed i entries of xs
  abbrev pub Passed : List A → ℕ → Type 0
  Passed xs i = position_from i t (drop i xs) ≡ position t xs

  pub passed_none : (xs : List A) → Passed xs 0
  passed_none xs = refl

  here : (xs : List A) (i : ℕ) (d : A) → i < length xs → position_from i t (drop i xs) ≡ first_by (t (get_or xs i d)) i (position_from (suc i) t (drop (suc i) xs))
  unfolding position_from
  here xs i d h = ap (position_from i t) (drop-cons xs i d h)

  pub passed-more : (xs : List A) (i : ℕ) (d : A) → i < length xs → t (get_or xs i d) ≡ false → Passed xs i → Passed xs (i + 1)
  passed-more xs i d h e w =
      subst (λ (k : ℕ). Passed xs k) (sym (add-one i))
      (sym (here xs i d h ∙ ap (λ (b : Bool). first_by b i (position_from (suc i) t (drop (suc i) xs))) e) ∙ w)

  pub passed-found : (xs : List A) (i : ℕ) (d : A) → i < length xs → t (get_or xs i d) ≡ true → Passed xs i → some i ≡ position t xs
  passed-found xs i d h e w =
      sym (here xs i d h ∙ ap (λ (b : Bool). first_by b i (position_from (suc i) t (drop (suc i) xs))) e) ∙ w

  pub passed-all : (xs : List A) (i : ℕ) → length xs ≤ i → Passed xs i → none ≡ position t xs
  unfolding position_from
  passed-all xs i h w = sym (ap (position_from i t) (drop_of_length-le xs h)) ∙ w

  -- what is found is a place of the list, and its entry passes the test
  found_from : (n : ℕ) (xs : List A) (i : ℕ) (d : A) → position_from n t xs ≡ some i → (n ≤ i) × (i < n + length xs) × (t (get_or xs (i - n) d) ≡ true)
  unfolding position_from
  found_from n [] i d e = absurd (let z : ◌≡◌ {A = ℕ} 0 1 = cc in omega arith)
  found_from n (x ∷ xs) i d e = by (t x) refl (λ f. found_from (suc n) xs i d f) e
    where
      same : {m k : ℕ} → some m ≡ some k → m ≡ k
      same q = cc

      by : (b : Bool) → t x ≡ b
          → (position_from (suc n) t xs ≡ some i → (suc n ≤ i) × (i < suc n + length xs) × (t (get_or xs (i - suc n) d) ≡ true))
          → first_by b n (position_from (suc n) t xs) ≡ some i → (n ≤ i) × (i < n + suc (length xs)) × (t (get_or (x ∷ xs) (i - n) d) ≡ true)
      by true q rest f =
          let k : n ≡ i = same f in
          let z : i - n ≡ 0 = omega arith in
          (omega arith, omega arith, ap (λ (j : ℕ). t (get_or (x ∷ xs) j d)) z ∙ q)
      by false q rest f =
          let r = rest f in
          let z : i - n ≡ suc (i - suc n) = omega (arith, r.0) in
          (omega (arith, r.0), omega (arith, r.1), ap (λ (j : ℕ). t (get_or (x ∷ xs) j d)) z ∙ r.2)

  pub position-found : (xs : List A) (i : ℕ) (d : A) → position t xs ≡ some i → (i < length xs) × (t (get_or xs i d) ≡ true)
  position-found xs i d e =
      let r = found_from 0 xs i d e in
      (omega (arith, r.1), ap (λ (j : ℕ). t (get_or xs j d)) (sym (sub-zero i)) ∙ r.2)

  -- no entry before it does
  first-from : (n : ℕ) (xs : List A) (i : ℕ) (d : A) → position_from n t xs ≡ some i → (j : ℕ) → j < i - n → t (get_or xs j d) ≡ false
  unfolding position_from
  first-from n [] i d e j h = absurd (let z : ◌≡◌ {A = ℕ} 0 1 = cc in omega arith)
  first-from n (x ∷ xs) i d e j h = by (t x) refl (λ f. first-from (suc n) xs i d f) e j h
    where
      same : {m k : ℕ} → some m ≡ some k → m ≡ k
      same q = cc

      by : (b : Bool) → t x ≡ b
          → (position_from (suc n) t xs ≡ some i → (j : ℕ) → j < i - suc n → t (get_or xs j d) ≡ false)
          → first_by b n (position_from (suc n) t xs) ≡ some i → (j : ℕ) → j < i - n → t (get_or (x ∷ xs) j d) ≡ false
      by true q rest f j h = absurd (omega (arith, same f))
      by false q rest f zero h = q
      by false q rest f (suc j) h = rest f j (omega arith)
