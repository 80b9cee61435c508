-- Validation, by each test of the code. Assumes nothing.
use Rattle.std.specs.Prelude.{◌≡◌, refl, Bool, true, false, ◌||◌, eqb, List, [], ◌∷◌, ◌++◌, leb, length, get_or, take}
use Rattle.std.proofs.Math.Path.{sym, ap}
use Rattle.std.proofs.Common.{◌∙◌, eq-eqb, ne_eqb, le-leb, length-drop, drop-cons, take-suc, length-take-le, get_or-take, get_or-drop}
use Rattle.std.proofs.Math.Option.{Option, none, some}
use Prim.Native.Nat.{ℕ, suc, ◌+◌, ◌-◌, ◌≤◌, ◌<◌}
use native.Mathlib.Omega.{arith}
use Rattle.std.proofs.lemmas.Bool.{lt-leb}
use Rattle.std.proofs.Math.ListN.{drop}
use Rattle.rules.specs.Lists.{any_of, contains, position}
use Rattle.std.specs.List.{list_any}
use Rattle.std.proofs.lemmas.Bool.Decides.{nat_tests}
use Rattle.lists.specs.Find.{Passed, passed-found, passed-more, passed-all}
use Rattle.rules.specs.Spec.{refuse_if, duplicate, tabs_refusal}
use Rattle.rules.specs.declared.refusal.Refusal.{Refusal}
use Rattle.rules.specs.declared.refusal.Refusal.TheVariants.{DuplicatePane, EmptyTabs, InvalidActiveTab}

-- a part of a list that is all there
pub part_length : {A : Type 0} (xs : List A) (p n : ℕ) → p + n ≤ length xs → length (take n (drop p xs)) ≡ n
part_length xs p n h = length-take-le n (drop p xs) (omega (arith, length-drop p xs))

-- std's `contains` is the rules'
same-test : (x y : ℕ) → eqb y x ≡ eqb x y
same-test x y = grind (arith, nat_tests)

pub seen : (x : ℕ) (ys : List ℕ) → list_any (λ y. eqb y x) ys ≡ contains x ys
unfolding any_of
seen x [] = refl
seen x (y ∷ ys) = λ j. same-test x y j || seen x ys j

-- k of the n panes after the first p are new
pub record Fresh (xs : List ℕ) (p n k : ℕ) : Type 0 where
  pub within : k ≤ n
  pub rest : duplicate (take (p + k) xs) (take (n - k) (drop (p + k) xs)) ≡ duplicate (take p xs) (take n (drop p xs))

module _ (xs : List ℕ) (p n : ℕ) (fits : p + n ≤ length xs) where
  pub fresh_start : Fresh xs p n 0
  fresh_start = record { within = omega arith; rest = λ j. duplicate (take (same p j) xs) (take (less n j) (drop (same p j) xs)) }
    where
      same : (x : ℕ) → x + 0 ≡ x
      same x = omega arith

      less : (x : ℕ) → x - 0 ≡ x
      less x = omega arith

  module _ (k : ℕ) (w : Fresh xs p n k) (h : k < n) (x : ℕ) (e : x ≡ get_or xs (p + k) 0) where
    next : duplicate (take (p + k) xs) (take (n - k) (drop (p + k) xs))
        ≡ refuse_if (contains x (take (p + k) xs)) (DuplicatePane x) (duplicate (take (p + k) xs ++ x ∷ []) (take (n - k - 1) (drop (suc (p + k)) xs)))
    unfolding duplicate
    next =
        let c : n - k ≡ suc (n - k - 1) = omega arith in
        (λ j. duplicate (take (p + k) xs) (take (c j) ((drop-cons xs (p + k) 0 (omega arith) ∙ ap (λ (y : ℕ). y ∷ drop (suc (p + k)) xs) (sym e)) j)))

    pub fresh-not : true ≡ contains x (take (p + k) xs) → some (DuplicatePane x) ≡ duplicate (take p xs) (take n (drop p xs))
    fresh-not f = ap (λ (b : Bool). refuse_if b (DuplicatePane x) (duplicate (take (p + k) xs ++ x ∷ []) (take (n - k - 1) (drop (suc (p + k)) xs)))) f ∙ sym next ∙ w.rest

    pub fresh-more : false ≡ contains x (take (p + k) xs) → Fresh xs p n (k + 1)
    fresh-more f =
        let a : p + (k + 1) ≡ suc (p + k) = omega arith in
        let b : n - (k + 1) ≡ n - k - 1 = omega arith in
        record {
          within = omega arith;
          rest = (λ j. duplicate (take (a j) xs) (take (b j) (drop (a j) xs)))
              ∙ ap (λ (l : List ℕ). duplicate l (take (n - k - 1) (drop (suc (p + k)) xs))) (take-suc xs (p + k) 0 (omega arith) ∙ ap (λ (y : ℕ). take (p + k) xs ++ y ∷ []) (sym e))
              ∙ ap (λ (b : Bool). refuse_if b (DuplicatePane x) (duplicate (take (p + k) xs ++ x ∷ []) (take (n - k - 1) (drop (suc (p + k)) xs)))) f ∙ sym next ∙ w.rest;
        }

  pub fresh-end : (k : ℕ) → Fresh xs p n k → n ≤ k → none ≡ duplicate (take p xs) (take n (drop p xs))
  unfolding duplicate
  fresh-end k w h =
      let z : n - k ≡ 0 = omega arith in
      sym (ap (λ (i : ℕ). duplicate (take (p + k) xs) (take i (drop (p + k) xs))) z) ∙ w.rest

  -- ---- a group

  size : length (take n (drop p xs)) ≡ n
  size = part_length xs p n fits

  abbrev later : ℕ → Option Refusal
  later a = refuse_if (leb (length (take n (drop p xs))) a) (InvalidActiveTab a (length (take n (drop p xs)))) (duplicate (take p xs) (take n (drop p xs)))

  pub tabs-empty : (a : ℕ) → n ≡ 0 → some EmptyTabs ≡ tabs_refusal a (take n (drop p xs)) (take p xs)
  tabs-empty a e = sym (ap (λ (b : Bool). refuse_if b EmptyTabs (later a)) (eq-eqb (length (take n (drop p xs))) 0 (size ∙ e)))

  some-there : (n ≡ 0 → ⊥) → (a : ℕ) → tabs_refusal a (take n (drop p xs)) (take p xs) ≡ later a
  some-there ne a = ap (λ (b : Bool). refuse_if b EmptyTabs (later a)) (ne_eqb (length (take n (drop p xs))) 0 (λ e. ne (sym size ∙ e)))

  pub tabs-active : (a : ℕ) → (n ≡ 0 → ⊥) → n ≤ a → some (InvalidActiveTab a n) ≡ tabs_refusal a (take n (drop p xs)) (take p xs)
  tabs-active a ne h =
      ap (λ (k : ℕ). some (InvalidActiveTab a k)) (sym size)
      ∙ sym (some-there ne a ∙ ap (λ (b : Bool). refuse_if b (InvalidActiveTab a (length (take n (drop p xs)))) (duplicate (take p xs) (take n (drop p xs)))) (le-leb (length (take n (drop p xs))) a (omega (arith, size))))

  pub tabs-panes : (a : ℕ) → (n ≡ 0 → ⊥) → a < n → duplicate (take p xs) (take n (drop p xs)) ≡ tabs_refusal a (take n (drop p xs)) (take p xs)
  tabs-panes a ne h =
      sym (some-there ne a ∙ ap (λ (b : Bool). refuse_if b (InvalidActiveTab a (length (take n (drop p xs)))) (duplicate (take p xs) (take n (drop p xs)))) (lt-leb (length (take n (drop p xs))) a (omega (arith, size))))

-- ---- a search in a part of a section

module _ {A : Type 0} (t : A → Bool) (xs : List A) (p n : ℕ) (fits : p + n ≤ length xs) (d : A) where
  pub part_at : (i : ℕ) → i < n → get_or (take n (drop p xs)) i d ≡ get_or xs (p + i) d
  part_at i h = get_or-take n (drop p xs) i d h ∙ get_or-drop p xs i d

  pub part-found : (i : ℕ) → i < n → (x : A) → x ≡ get_or xs (p + i) d → t x ≡ true → Passed t (take n (drop p xs)) i → some i ≡ position t (take n (drop p xs))
  part-found i h x e f w = passed-found t (take n (drop p xs)) i d (omega (arith, part_length xs p n fits)) (ap t (part_at i h ∙ sym e) ∙ f) w

  pub part-more : (i : ℕ) → i < n → (x : A) → x ≡ get_or xs (p + i) d → t x ≡ false → Passed t (take n (drop p xs)) i → Passed t (take n (drop p xs)) (i + 1)
  part-more i h x e f w = passed-more t (take n (drop p xs)) i d (omega (arith, part_length xs p n fits)) (ap t (part_at i h ∙ sym e) ∙ f) w

  pub part_none : (i : ℕ) → n ≤ i → Passed t (take n (drop p xs)) i → none ≡ position t (take n (drop p xs))
  part_none i h w = passed-all t (take n (drop p xs)) i (omega (arith, part_length xs p n fits)) w
