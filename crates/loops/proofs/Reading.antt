-- The solver's input, read to i: both tests, both sums, and the minima with minus zero as zero. Assumes nothing.
use mathlib.Core.Path.{◌≡◌, refl, sym, ap, ◌∙◌, subst}
use mathlib.Core.Bool.{Bool, true, false, ◌&&◌, and-true}
use mathlib.Core.List.{List, [], ◌∷◌, ◌++◌, map}
use Prim.Native.Nat.{ℕ, ◌+◌, ◌≤◌, ◌<◌}
use native.Mathlib.Omega.{arith}
use lib.ListN.{length, get_or, take, set}
use lib.Ieee.{Float, nan, inf, fin, binary64, add, lt, le}
use Rattle.rules.specs.Numbers.{zero-f, plus, minimum_ok, share_ok}
use Rattle.rules.specs.Lists.{all_of}
use Rattle.rules.specs.Solver.{sum_of}
use Rattle.std.specs.Prelude.{Ok, Err}
use Rattle.loops.specs.Given.{SumsOf, Reads}
use Rattle.loops.proofs.Loops.{sum-map, Summed, summed-step, summed-end, Kept, kept_step, kept-end}
use Rattle.loops.proofs.Filling.{Filled, filled-start, filled-step, filled-end, map_more}

-- ---- the tests by single comparisons
abbrev pub positive : Float → Bool
positive x = lt zero-f x

abbrev pub not_negative : Float → Bool
not_negative x = le zero-f x

abbrev pub bounded : Float → Bool
bounded x = lt x (inf false)

share-is : (x : Float) → (positive x && bounded x) ≡ share_ok x
unfolding lt
share-is nan = refl
share-is (inf true) = refl
share-is (inf false) = refl
share-is (fin s m d) = and-true (lt zero-f (fin s m d))

minimum-is : (x : Float) → (not_negative x && bounded x) ≡ minimum_ok x
unfolding lt le
minimum-is nan = refl
minimum-is (inf true) = refl
minimum-is (inf false) = refl
minimum-is (fin s m d) = and-true (le zero-f (fin s m d))

-- two tests of each, one by one or together
both_of : (p q r : Float → Bool) → ((x : Float) → (p x && q x) ≡ r x) → (xs : List Float) → (all_of p xs && all_of q xs) ≡ all_of r xs
unfolding all_of
both_of p q r e [] = refl
both_of p q r e (x ∷ xs) = mixed (p x) (all_of p xs) (q x) (all_of q xs) ∙ (λ i. e x i && both_of p q r e xs i)
  where
    mixed : (a b c d : Bool) → (a && b && (c && d)) ≡ (a && c && (b && d))
    mixed true true c d = refl
    mixed true false true d = refl
    mixed true false false d = refl
    mixed false b c d = refl

module _ (n : ℕ) (ss ms ls₀ : List Float) where
  pub record Reading (ls : List Float) (sa sb ma mb : Bool) (sum least : Float) (i : ℕ) : Type 0 where
    pub few : i ≤ n
    pub share-above : Kept positive ss n i sa
    pub share-below : Kept bounded ss n i sb
    pub minimum-above : Kept not_negative ms n i ma
    pub minimum-below : Kept bounded ms n i mb
    pub shares : Summed (λ (x : Float). true) (λ (x : Float). x) zero-f ss n i sum
    pub minima : Summed (λ (x : Float). true) plus zero-f ms n i least
    pub plain : Filled (λ (j : ℕ). map plus (take j ms)) ls₀ ls i

  pub reading-start : Reading ls₀ true true true true zero-f zero-f 0
  reading-start = record { few = omega arith; share-above = refl; share-below = refl; minimum-above = refl; minimum-below = refl; shares = refl; minima = refl; plain = filled-start (λ (j : ℕ). map plus (take j ms)) ls₀ refl }

  module _ (few : n ≤ 16) (l : length ss ≡ 16) (m : length ms ≡ 16) (o : length ls₀ ≡ 16) (ls : List Float) (sa sb ma mb : Bool) (sum least : Float) (i : ℕ) (r : Reading ls sa sb ma mb sum least i) where
    pub reading-on : i < n → (p : Float) → p ≡ plus (get_or ms i nan)
        → Reading (set ls i p) (sa && positive (get_or ss i nan)) (sb && bounded (get_or ss i nan)) (ma && not_negative (get_or ms i nan)) (mb && bounded (get_or ms i nan)) (add binary64 sum (get_or ss i nan)) (add binary64 least p) (i + 1)
    reading-on h p is-p =
        let k : n ≤ length ss = omega arith in
        let g : n ≤ length ms = omega arith in
        record {
          few = omega arith;
          share-above = kept_step positive ss n i nan sa (positive (get_or ss i nan)) h k refl r.share-above;
          share-below = kept_step bounded ss n i nan sb (bounded (get_or ss i nan)) h k refl r.share-below;
          minimum-above = kept_step not_negative ms n i nan ma (not_negative (get_or ms i nan)) h g refl r.minimum-above;
          minimum-below = kept_step bounded ms n i nan mb (bounded (get_or ms i nan)) h g refl r.minimum-below;
          shares = summed-step (λ (x : Float). true) (λ (x : Float). x) zero-f ss n i sum nan h k r.shares;
          minima = subst (λ (x : Float). Summed (λ (x : Float). true) plus zero-f ms n (i + 1) (add binary64 least x)) (sym is-p) (summed-step (λ (x : Float). true) plus zero-f ms n i least nan h g r.minima);
          plain = filled-step (λ (j : ℕ). map plus (take j ms)) ls₀ ls i p (omega arith)
              (map_more plus ms i nan (omega arith) ∙ ap (λ (x : Float). map plus (take i ms) ++ (x ∷ [])) (sym is-p)) r.plain;
        }

    reading-tests : n ≤ i → (sa && sb && (ma && mb)) ≡ all_of share_ok (take n ss) && all_of minimum_ok (take n ms)
    reading-tests h =
        let k : n ≤ length ss = omega arith in
        let g : n ≤ length ms = omega arith in
        let share-all : (sa && sb) ≡ (all_of positive (take n ss) && all_of bounded (take n ss)) = λ z. kept-end positive ss n i sa h r.few k r.share-above z && kept-end bounded ss n i sb h r.few k r.share-below z in
        let minimum-all : (ma && mb) ≡ (all_of not_negative (take n ms) && all_of bounded (take n ms)) = λ z. kept-end not_negative ms n i ma h r.few g r.minimum-above z && kept-end bounded ms n i mb h r.few g r.minimum-below z in
        λ z. (share-all ∙ both_of positive bounded share_ok share-is (take n ss)) z && (minimum-all ∙ both_of not_negative bounded minimum_ok minimum-is (take n ms)) z

    reading-plain : n ≤ i → take n ls ≡ map plus (take n ms)
    reading-plain h = filled-end (λ (j : ℕ). map plus (take j ms)) ls₀ ls n i h r.few r.plain

    reading-sums : n ≤ i → SumsOf n ss ls (record { shares = sum; minima = least })
    reading-sums h =
        let k : n ≤ length ss = omega arith in
        let g : n ≤ length ms = omega arith in
        record {
          shares = summed-end (λ (x : Float). true) (λ (x : Float). x) zero-f ss n i sum h r.few k r.shares;
          minima = summed-end (λ (x : Float). true) plus zero-f ms n i least h r.few g r.minima ∙ sum-map (λ (x : Float). true) (λ (x : Float). x) plus zero-f (take n ms) ∙ ap sum_of (sym (reading-plain h));
        }

    pub reading-good : n ≤ i → (sa && sb && (ma && mb)) ≡ true → Reads n ss ms ls (Ok (record { shares = sum; minima = least }))
    reading-good h good = record { fine = sym good ∙ reading-tests h; sums = reading-sums h; plain = reading-plain h; long = r.plain.long ∙ o }

    pub reading-bad : n ≤ i → (sa && sb && (ma && mb)) ≡ false → Reads n ss ms ls (Err (record { shares = sum; minima = least }))
    reading-bad h bad = record { fine = sym bad ∙ reading-tests h; sums = reading-sums h; plain = reading-plain h; long = r.plain.long ∙ o }
