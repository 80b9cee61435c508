-- Shares and minima that repair leaves as they are: to repair one twice is to repair it once. No law of multiplication is needed. Assumes nothing.
use Rattle.std.specs.Prelude.{◌≡◌, refl, Bool, true, false, ◌||◌, cond, ℕ, zero, suc, ◌*◌, length, Float}
use Rattle.std.proofs.Common.{sym, ap, ◌∙◌, eq-eqb}
use Rattle.std.specs.Bool.{beq}
use mathlib.Core.List.{List, [], ◌∷◌, map}
use Rattle.std.specs.Float.{nan, inf, fin}
use Rattle.std.specs.Float.Ieee.{eq, lt, le, is_nan, up, down}
use Rattle.rules.specs.Numbers.{zero-f, one-f, plus, minimum_ok, share_ok, same_real}
use Rattle.rules.specs.Lists.{any_of, same_list}
use Rattle.rules.specs.Shares.{fix_share, ones, mended_by, repaired_shares, eq_reals}
use Rattle.rules.specs.Minima.{fix_minimum, aligned_constraints, compact_constraints, compact_cons, compact_by}
use Rattle.forest.specs.Lists.{All, never}

-- ---- one share, one minimum

one_ok : share_ok one-f ≡ true
unfolding lt
one_ok = refl

pub fix_share-twice : (x : Float) → fix_share (fix_share x) ≡ fix_share x
unfolding fix_share
fix_share-twice x = go (share_ok x) refl
  where
    go : (b : Bool) → share_ok x ≡ b → cond (share_ok (cond b x one-f)) (cond b x one-f) one-f ≡ cond b x one-f
    go true q = rw q refl
    go false q = rw one_ok refl

zero_ok : minimum_ok zero-f ≡ true
unfolding le
zero_ok = refl

zero-plus : plus zero-f ≡ zero-f
unfolding eq
zero-plus = refl

zero-fixed : fix_minimum zero-f ≡ zero-f
unfolding fix_minimum
zero-fixed = rw zero_ok zero-plus

pub fix_minimum-twice : (x : Float) → fix_minimum (fix_minimum x) ≡ fix_minimum x
unfolding fix_minimum
fix_minimum-twice x = go (minimum_ok x) (eq x zero-f) refl refl
  where
    go : (b z : Bool) → minimum_ok x ≡ b → eq x zero-f ≡ z → fix_minimum (cond b (cond z zero-f x) zero-f) ≡ cond b (cond z zero-f x) zero-f
    go true true q r = zero-fixed
    go true false q r = rw (q, r) refl
    go false z q r = zero-fixed

-- a minimum that equals zero is plus zero, once it is mended
pub zero_is : (x : Float) → fix_minimum x ≡ x → eq x zero-f ≡ true → x ≡ zero-f
unfolding fix_minimum
zero_is x f e = sym f ∙ go (minimum_ok x)
  where
    go : (b : Bool) → cond b (plus x) zero-f ≡ zero-f
    go true = rw e refl
    go false = refl

-- ---- a number equals itself, NaN aside

beq-self : (b : Bool) → beq b b ≡ true
beq-self true = refl
beq-self false = refl

pub eq_self : (x : Float) → (x ≡ nan → ⊥) → eq x x ≡ true
unfolding eq
eq_self nan n = absurd (n refl)
eq_self (inf s) n = beq-self s
eq_self (fin s m e) n = rw (eq-eqb (m * up e * down e) (m * up e * down e) refl, beq-self s) refl

pub same_real-self : (x : Float) → same_real x x ≡ true
unfolding is_nan eq
same_real-self nan = refl
same_real-self (inf s) = rw (beq-self s) refl
same_real-self (fin s m e) = rw (eq-eqb (m * up e * down e) (m * up e * down e) refl, beq-self s) refl

share-number : (x : Float) → fix_share x ≡ x → x ≡ nan → ⊥
unfolding fix_share is_nan
share-number x f e = never (sym (ap is_nan e) ∙ ap is_nan (sym f ∙ ap fix_share e))

minimum-number : (x : Float) → fix_minimum x ≡ x → x ≡ nan → ⊥
unfolding fix_minimum is_nan
minimum-number x f e = never (sym (ap is_nan e) ∙ ap is_nan (sym f ∙ ap fix_minimum e))

pub share-self : (x : Float) → fix_share x ≡ x → eq x x ≡ true
share-self x f = eq_self x (share-number x f)

pub minimum-self : (x : Float) → fix_minimum x ≡ x → eq x x ≡ true
minimum-self x f = eq_self x (minimum-number x f)

-- a list equals itself where each entry does
pub eq_reals-self : (xs : List Float) → All (λ x. eq x x ≡ true) xs → eq_reals xs xs ≡ true
unfolding same_list
eq_reals-self [] a = refl
eq_reals-self (x ∷ xs) a = rw a.0 (eq_reals-self xs a.1)

-- ---- shares of the right number: each is mended, whether or not any was good

none-good : (xs : List Float) → any_of share_ok xs ≡ false → map fix_share xs ≡ ones (length xs)
unfolding any_of fix_share
none-good [] e = refl
none-good (x ∷ xs) e = go (share_ok x) refl e (none-good xs)
  where
    go : (b : Bool) → share_ok x ≡ b → (b || any_of share_ok xs) ≡ false → (any_of share_ok xs ≡ false → map fix_share xs ≡ ones (length xs))
        → fix_share x ∷ map fix_share xs ≡ one-f ∷ ones (length xs)
    go true q e' ih = never e'
    go false q e' ih = λ z. cond (q z) x one-f ∷ ih e' z

pub shares-mended : (xs : List Float) → repaired_shares (length xs) xs ≡ map fix_share xs
unfolding repaired_shares
shares-mended xs = rw (eq-eqb (length xs) (length xs) refl) (go (any_of share_ok xs) refl)
  where
    go : (b : Bool) → any_of share_ok xs ≡ b → mended_by b (length xs) xs ≡ map fix_share xs
    go true q = refl
    go false q = sym (none-good xs q)

pub shares-same : (xs : List Float) → All (λ x. fix_share x ≡ x) xs → map fix_share xs ≡ xs
shares-same [] a = refl
shares-same (x ∷ xs) a = λ z. a.0 z ∷ shares-same xs a.1 z

-- ---- minima: aligned ones are mended, and compact ones are read back

pub aligned-mended : (n : ℕ) (ms : List Float) → All (λ m. fix_minimum m ≡ m) (aligned_constraints n ms)
unfolding aligned_constraints
aligned-mended zero ms = tt
aligned-mended (suc n) [] = (zero-fixed, aligned-mended n [])
aligned-mended (suc n) (m ∷ ms) = (fix_minimum-twice m, aligned-mended n ms)

aligned-cons : (n : ℕ) (m : Float) (c ms : List Float) → fix_minimum m ≡ m → aligned_constraints n c ≡ ms → aligned_constraints (suc n) (compact_cons m c) ≡ m ∷ ms
unfolding aligned_constraints
aligned-cons n m [] ms k ih = go (eq m zero-f) refl
  where
    go : (b : Bool) → eq m zero-f ≡ b → aligned_constraints (suc n) (compact_by b m) ≡ m ∷ ms
    go true q = λ z. sym (zero_is m k q) z ∷ ih z
    go false q = λ z. k z ∷ ih z
aligned-cons n m (x ∷ xs) ms k ih = λ z. k z ∷ ih z

pub aligned-compact : (ms : List Float) → All (λ m. fix_minimum m ≡ m) ms → aligned_constraints (length ms) (compact_constraints ms) ≡ ms
unfolding compact_constraints aligned_constraints
aligned-compact [] a = refl
aligned-compact (m ∷ ms) a = aligned-cons (length ms) m (compact_constraints ms) ms a.0 (aligned-compact ms a.1)

-- what is left of a list of mended minima is mended
module _ (P : Float → Type 0) where
  compact_cons-all : (m : Float) (c : List Float) → P m → All P c → All P (compact_cons m c)
  compact_cons-all m [] p a = go (eq m zero-f)
    where
      go : (b : Bool) → All P (compact_by b m)
      go true = tt
      go false = (p, tt)
  compact_cons-all m (x ∷ xs) p a = (p, a)

  pub compact-all : (ms : List Float) → All P ms → All P (compact_constraints ms)
  unfolding compact_constraints
  compact-all [] a = tt
  compact-all (m ∷ ms) a = compact_cons-all m (compact_constraints ms) a.0 (compact-all ms a.1)
