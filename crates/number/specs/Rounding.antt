-- Rounding keeps the side of a value that the format holds: the two laws that each bound of Arithmetic comes from. Assumes nothing.
use Rattle.std.specs.Prelude.{◌≡◌, refl, ℕ, zero, suc, ◌+◌, ◌-◌, ◌*◌, ◌%◌, ◌^◌, ◌≤◌, ◌<◌, Bool, true, false, ◌&&◌, cond, ℤ, pos, negsuc, T, leb, ltb, eqb, Float}
use Rattle.std.proofs.Common.{sym, ap, ◌∙◌, subst, le_of_suc-le-suc, mul-lt-mul_of_pos_right, le_of_eq, not-le_of_lt, lt_of_not-le, lt_of_lt_of_le, zero-mul, mul-one, mul_comm, mul_assoc, arith, ltb→lt, leb→le, pow-add, pow_pos}
use Rattle.std.proofs.Math.Pow.{pow-lt}
use Rattle.std.specs.Float.{nan, inf, fin, Format}
use Rattle.std.specs.Float.Ieee.{prec, emax, low, up, down, odd, units, round, le, fits}
use Rattle.std.specs.Float.Ieee.Fits.{down_pos, and_l, and_r}
use Rattle.std.specs.Float.Ieee.Exact.{HasValue, round_exact}
use Rattle.std.specs.Float.Ieee.Order.{le_of_values, round_mono}
use Rattle.std.specs.Float.Ieee.Scale.{finite}
use Rattle.number.specs.Order.{nonneg, over, under, le-chain}

-- ---- `round` gives such a float, and keeps the side of a value that the format holds
odd-nonneg : (d q k l : ℕ) → T (nonneg (odd d false q k l))
unfolding odd
odd-nonneg d zero k l = tt
odd-nonneg d (suc q) k l = tt

units-nonneg : (f : Format) (q k : ℕ) → T (nonneg (units f false q k))
unfolding units
units-nonneg f q k = go (ltb (q * 2 ^ k) (2 ^ (low f + suc (emax f))))
  where
    go : (b : Bool) → T (nonneg (cond b (odd (suc (prec f)) false q k (low f)) (inf false)))
    go true = odd-nonneg (suc (prec f)) q k (low f)
    go false = tt

pub round-nonneg : (f : Format) (a c : ℕ) → T (nonneg (round f false a c))
unfolding round
round-nonneg f a c = units-nonneg f _ _

-- what a value that fits is, in units of the format's smallest: q * 2 ^ j
pub record InUnits (f : Format) (n d : ℕ) : Type 0 where
  pub q : ℕ
  pub j : ℕ
  pub small : q < 2 ^ prec f
  pub fine : q * 2 ^ j < 2 ^ (low f + suc (emax f))
  pub same : n * 2 ^ low f ≡ q * 2 ^ j * d

left_over : (k l : ℕ) → k ≤ l → l - k + k ≡ l
left_over k l h = omega arith

record Parts (f : Format) (m : ℕ) (e : ℤ) : Type 0 where
  digits : m < 2 ^ prec f
  deep : down e ≤ 2 ^ low f
  high : m * up e < 2 ^ suc (emax f) * down e

parts : (f : Format) (m : ℕ) (e : ℤ) → T (fits f (fin false (suc m) e)) → Parts f (suc m) e
unfolding fits
parts f m e t =
    let a : Bool = eqb (suc m % 2) 1 in
    let b : Bool = ltb (suc m) (2 ^ prec f) in
    let c : Bool = leb (down e) (2 ^ low f) in
    let d : Bool = ltb (suc m * up e) (2 ^ suc (emax f) * down e) in
    record {
      digits = ltb→lt (suc m) (2 ^ prec f) (and_r a b (and_l (a && b) c (and_l (a && b && c) d t)));
      deep = leb→le (down e) (2 ^ low f) (and_r (a && b) c (and_l (a && b && c) d t));
      high = ltb→lt (suc m * up e) (2 ^ suc (emax f) * down e) (and_r (a && b && c) d t);
    }

pow-back : (i j : ℕ) → 2 ^ i ≤ 2 ^ j → i ≤ j
pow-back i j h = le_of_suc-le-suc (lt_of_not-le (λ (g : suc j ≤ i). not-le_of_lt (pow-lt g) h))

pub in-units : (f : Format) (m : ℕ) (e : ℤ) → T (fits f (fin false m e)) → InUnits f (m * up e) (down e)
in-units f zero e t = record { q = 0; j = 0; small = pow_pos (prec f); fine = pow_pos (low f + suc (emax f)); same = ap (λ (x : ℕ). x * 2 ^ low f) (zero-mul (up e)) ∙ zero-mul (2 ^ low f) ∙ sym (zero-mul (down e)) }
in-units f (suc m) (pos k) t =
    let p = parts f m (pos k) t in
    let a : suc m * 2 ^ k * 2 ^ low f < 2 ^ suc (emax f) * 2 ^ low f = mul-lt-mul_of_pos_right (lt_of_lt_of_le p.high (le_of_eq (mul-one (2 ^ suc (emax f))))) (pow_pos (low f)) in
    let b : suc m * 2 ^ k * 2 ^ low f ≡ suc m * 2 ^ (k + low f) = mul_assoc (suc m) (2 ^ k) (2 ^ low f) ∙ ap (λ (x : ℕ). suc m * x) (sym (pow-add 2 k (low f))) in
    let c : 2 ^ suc (emax f) * 2 ^ low f ≡ 2 ^ (low f + suc (emax f)) = mul_comm (2 ^ suc (emax f)) (2 ^ low f) ∙ sym (pow-add 2 (low f) (suc (emax f))) in
    record {
      q = suc m;
      j = k + low f;
      small = p.digits;
      fine = subst (λ (x : ℕ). suc m * 2 ^ (k + low f) < x) c (subst (λ (x : ℕ). x < 2 ^ suc (emax f) * 2 ^ low f) b a);
      same = b ∙ sym (mul-one (suc m * 2 ^ (k + low f)));
    }
in-units f (suc m) (negsuc k) t =
    let p = parts f m (negsuc k) t in
    let j = low f - suc k in
    let w : 2 ^ j * 2 ^ suc k ≡ 2 ^ low f = sym (pow-add 2 j (suc k)) ∙ ap (λ (x : ℕ). 2 ^ x) (left_over (suc k) (low f) (pow-back (suc k) (low f) p.deep)) in
    let a : suc m * 2 ^ j < 2 ^ suc (emax f) * 2 ^ suc k * 2 ^ j = mul-lt-mul_of_pos_right (subst (λ (x : ℕ). x < 2 ^ suc (emax f) * 2 ^ suc k) (mul-one (suc m)) p.high) (pow_pos j) in
    let c : 2 ^ suc (emax f) * 2 ^ suc k * 2 ^ j ≡ 2 ^ (low f + suc (emax f)) =
    mul_assoc (2 ^ suc (emax f)) (2 ^ suc k) (2 ^ j) ∙ ap (λ (x : ℕ). 2 ^ suc (emax f) * x) (mul_comm (2 ^ suc k) (2 ^ j) ∙ w) ∙ mul_comm (2 ^ suc (emax f)) (2 ^ low f) ∙ sym (pow-add 2 (low f) (suc (emax f))) in
    record {
      q = suc m;
      j = j;
      small = p.digits;
      fine = subst (λ (x : ℕ). suc m * 2 ^ j < x) c a;
      same = ap (λ (x : ℕ). x * 2 ^ low f) (mul-one (suc m)) ∙ ap (λ (x : ℕ). suc m * x) (sym w) ∙ sym (mul_assoc (suc m) (2 ^ j) (2 ^ suc k));
    }

-- a value that fits is its own rounding
pub round-own : (f : Format) (m : ℕ) (e : ℤ) → T (fits f (fin false m e)) → HasValue (round f false (m * up e) (down e)) false (m * up e) (down e)
round-own f m e t = let u = in-units f m e t in round_exact f false (m * up e) (down e) u.q u.j (down_pos e) u.small u.fine u.same

-- THE TWO LAWS that the others come from: a / c lies on one side of a value x of the format, and so does a / c rounded
pub below-round : (f : Format) (x : Float) (a c : ℕ) → T (fits f x) → T (nonneg x) → T (finite x) → 0 < c → over x * c ≤ a * under x → T (le x (round f false a c))
below-round f nan a c t p n C h = absurd p
below-round f (inf s) a c t p n C h = absurd n
below-round f (fin true m e) a c t p n C h = absurd p
below-round f (fin false m e) a c t p n C h =
    le-chain (fin false m e) (round f false (m * up e) (down e)) (round f false a c) tt (round-nonneg f (m * up e) (down e)) (round-nonneg f a c)
    (le_of_values (fin false m e) (round f false (m * up e) (down e)) (m * up e) (down e) (m * up e) (down e) (down_pos e) (down_pos e) (refl, refl) (round-own f m e t) (le_of_eq refl))
    (round_mono f (m * up e) (down e) a c (down_pos e) C h)

pub round-below : (f : Format) (x : Float) (a c : ℕ) → T (fits f x) → T (nonneg x) → T (finite x) → 0 < c → a * under x ≤ over x * c → T (le (round f false a c) x)
round-below f nan a c t p n C h = absurd p
round-below f (inf s) a c t p n C h = absurd n
round-below f (fin true m e) a c t p n C h = absurd p
round-below f (fin false m e) a c t p n C h =
    le-chain (round f false a c) (round f false (m * up e) (down e)) (fin false m e) (round-nonneg f a c) (round-nonneg f (m * up e) (down e)) tt
    (round_mono f a c (m * up e) (down e) C (down_pos e) h)
    (le_of_values (round f false (m * up e) (down e)) (fin false m e) (m * up e) (down e) (m * up e) (down e) (down_pos e) (down_pos e) (round-own f m e t) (refl, refl) (le_of_eq refl))
