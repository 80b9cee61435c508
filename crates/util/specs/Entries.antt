-- The rules of shares and minima, entry by entry. Assumes nothing.
use Rattle.std.specs.Prelude.{◌≡◌, refl, Bool, true, false, List, [], ◌∷◌, ◌++◌, map, length, take, get_or, Float}
use Rattle.std.proofs.Common.{sym, ap, ◌∙◌, le_of_suc-le-suc, arith, eq-eqb, ne_eqb, take-suc, take_all}
use Prim.Native.Nat.{ℕ, zero, suc, ◌-◌, ◌≤◌, ◌<◌}
use Rattle.std.specs.Float.Ieee.{eq, le}
use Rattle.rules.specs.Numbers.{zero-f, plus, share_ok}
use Rattle.rules.specs.Lists.{any_of}
use Rattle.rules.specs.Shares.{fix_share, ones, mended_by, repaired_by, repaired_shares}
use Rattle.rules.specs.Minima.{fix_minimum, aligned_constraints, compact_by, compact_cons, compact_constraints, least_of, min_major}

-- ---- shares

-- the wrong number of shares; as many as children, with a good one; with none
pub repaired-unlike : (n : ℕ) (xs : List Float) → (length xs ≡ n → ⊥) → ones n ≡ repaired_shares n xs
unfolding repaired_shares
repaired-unlike n xs e = sym (ap (λ (b : Bool). repaired_by b n xs) (ne_eqb (length xs) n e))

pub repaired-mended : (n : ℕ) (xs : List Float) → length xs ≡ n → any_of share_ok xs ≡ true → map fix_share xs ≡ repaired_shares n xs
unfolding repaired_shares
repaired-mended n xs e g =
    sym (ap (λ (b : Bool). repaired_by b n xs) (eq-eqb (length xs) n e) ∙ ap (λ (b : Bool). mended_by b n xs) g)

pub repaired-none : (n : ℕ) (xs : List Float) → length xs ≡ n → any_of share_ok xs ≡ false → ones n ≡ repaired_shares n xs
unfolding repaired_shares
repaired-none n xs e g =
    sym (ap (λ (b : Bool). repaired_by b n xs) (eq-eqb (length xs) n e) ∙ ap (λ (b : Bool). mended_by b n xs) g)

-- ---- minima

fix-zero : zero-f ≡ fix_minimum zero-f
unfolding fix_minimum le eq
fix-zero = refl

pub aligned_at : (n : ℕ) (ms : List Float) (j : ℕ) → j < n → get_or (aligned_constraints n ms) j zero-f ≡ fix_minimum (get_or ms j zero-f)
unfolding aligned_constraints
aligned_at zero ms j h = absurd (omega arith)
aligned_at (suc n) [] zero h = fix-zero
aligned_at (suc n) [] (suc j) h = aligned_at n [] j (le_of_suc-le-suc h)
aligned_at (suc n) (m ∷ ms) zero h = refl
aligned_at (suc n) (m ∷ ms) (suc j) h = aligned_at n ms j (le_of_suc-le-suc h)

-- the minimum of the child at a place, whose own may be missing
unfoldable pub least_at : List Float → Float → ℕ → Float
least_at [] f j = plus f
least_at (m ∷ ms) f zero = least_of f m
least_at (m ∷ ms) f (suc j) = least_at ms f j

pub least-own : (ms : List Float) (f : Float) (j : ℕ) → j < length ms → least_at ms f j ≡ least_of f (get_or ms j zero-f)
unfolding least_at
least-own [] f j h = absurd (omega arith)
least-own (m ∷ ms) f zero h = refl
least-own (m ∷ ms) f (suc j) h = least-own ms f j (le_of_suc-le-suc h)

pub least-missing : (ms : List Float) (f : Float) (j : ℕ) → length ms ≤ j → least_at ms f j ≡ plus f
unfolding least_at
least-missing [] f j h = refl
least-missing (m ∷ ms) f zero h = absurd (omega arith)
least-missing (m ∷ ms) f (suc j) h = least-missing ms f j (le_of_suc-le-suc h)

pub min_major-at : (n : ℕ) (ms : List Float) (f : Float) (j : ℕ) → j < n → get_or (min_major n ms f) j zero-f ≡ least_at ms f j
unfolding min_major least_at
min_major-at zero ms f j h = absurd (omega arith)
min_major-at (suc n) [] f zero h = refl
min_major-at (suc n) [] f (suc j) h = min_major-at n [] f j (le_of_suc-le-suc h)
min_major-at (suc n) (m ∷ ms) f zero h = refl
min_major-at (suc n) (m ∷ ms) f (suc j) h = min_major-at n ms f j (le_of_suc-le-suc h)

-- a last zero is cut, and a last entry that is none ends the cutting
cons-some : (y : Float) (ys zs : List Float) (z : Float) → zs ≡ ys ++ z ∷ [] → compact_cons y zs ≡ y ∷ zs
cons-some y [] zs z e = ap (compact_cons y) e ∙ ap (λ (l : List Float). y ∷ l) (sym e)
cons-some y (x ∷ ys) zs z e = ap (compact_cons y) e ∙ ap (λ (l : List Float). y ∷ l) (sym e)

pub compact-cut : (ys : List Float) (z : Float) → eq z zero-f ≡ true → compact_constraints (ys ++ z ∷ []) ≡ compact_constraints ys
unfolding compact_constraints
compact-cut [] z e = ap (λ (b : Bool). compact_by b z) e
compact-cut (y ∷ ys) z e = ap (compact_cons y) (compact-cut ys z e)

pub compact-kept : (ys : List Float) (z : Float) → eq z zero-f ≡ false → compact_constraints (ys ++ z ∷ []) ≡ ys ++ z ∷ []
unfolding compact_constraints
compact-kept [] z e = ap (λ (b : Bool). compact_by b z) e
compact-kept (y ∷ ys) z e =
    ap (compact_cons y) (compact-kept ys z e) ∙ cons-some y ys (ys ++ z ∷ []) z refl

-- a cutting that has got down to n entries
module _ (xs : List Float) where
  pub record Cutting (n : ℕ) : Type 0 where
    pub within : n ≤ length xs
    pub same : compact_constraints (take n xs) ≡ compact_constraints xs

  pub cutting-start : (n : ℕ) → n ≡ length xs → Cutting n
  cutting-start n e = record { within = omega arith; same = ap compact_constraints (take_all n xs (omega arith)) }

  last-at : (n : ℕ) → 0 < n → n ≤ length xs → take n xs ≡ take (n - 1) xs ++ get_or xs (n - 1) zero-f ∷ []
  last-at n h w =
      let e : n ≡ suc (n - 1) = omega arith in
      ap (λ (k : ℕ). take k xs) e ∙ take-suc xs (n - 1) zero-f (omega arith)

  pub cutting-more : (n : ℕ) → 0 < n → eq (get_or xs (n - 1) zero-f) zero-f ≡ true → Cutting n → Cutting (n - 1)
  cutting-more n h e c =
      record {
        within = omega (arith, c.within);
        same = sym (ap compact_constraints (last-at n h c.within) ∙ compact-cut (take (n - 1) xs) (get_or xs (n - 1) zero-f) e) ∙ c.same;
      }

  pub cutting-kept : (n : ℕ) → 0 < n → eq (get_or xs (n - 1) zero-f) zero-f ≡ false → Cutting n → take n xs ≡ compact_constraints xs
  cutting-kept n h e c =
      let l = last-at n h c.within in
      l ∙ sym (ap compact_constraints l ∙ compact-kept (take (n - 1) xs) (get_or xs (n - 1) zero-f) e) ∙ c.same

  pub cutting-none : (n : ℕ) → n ≤ 0 → Cutting n → take n xs ≡ compact_constraints xs
  unfolding compact_constraints
  cutting-none zero h c = c.same
  cutting-none (suc n) h c = absurd (omega arith)
