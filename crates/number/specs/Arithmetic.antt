-- Bounds of the operations on floats that are not negative, in either format: x ≤ x + y, x / y ≤ 1, x y ≤ x, max(x - y, 0) ≤ x. Assumes nothing.
use Rattle.std.specs.Prelude.{◌≡◌, refl, Bool, true, T, ltb, eqb, Float}
use Rattle.std.proofs.Common.{sym, ◌∙◌, inl, inr, le-add_right, le-add_left, sub-le, lt_of_le_of_lt, le_trans, le_of_eq, lt_irrefl, lt_of_lt_of_le, eq-zero-or-pos, zero-mul, mul-one, one-mul, mul_comm, mul_assoc, mul-le-mul_right, mul-le-mul_left, mul-pos, ne_eqb}
use Rattle.std.proofs.Math.Path.{ap, subst}
use Prim.Native.Nat.{ℕ, zero, suc, ◌+◌, ◌-◌, ◌*◌, ◌^◌, ◌≤◌, ◌<◌, zero-le}
use Rattle.std.proofs.Math.Bool.{false, cond}
use Rattle.std.proofs.Math.Dec.{ltb→lt}
use Rattle.std.specs.Float.Ieee.{nan, prec, emax, low, up, down, odd, units, round, add, sub, mul, div, lt, le, fits}
use Rattle.std.specs.Float.{inf, fin, Format, binary32, binary64}
use Rattle.std.specs.Float.Ieee.Fits.{up_pos, down_pos}
use Rattle.std.specs.Float.Ieee.Scale.{finite}
use Rattle.rules.specs.Numbers.{zero-f, one-f, larger}
use Rattle.number.specs.Order.{nonneg, under, le→cross, cross→le}
use Rattle.number.specs.Rounding.{round-nonneg, below-round, round-below}

-- ---- two numbers
pub zero-fits : (f : Format) → T (fits f zero-f)
unfolding fits
zero-fits f = tt

pub one-fits : (f : Format) → T (fits f one-f)
unfolding fits
one-fits binary32 = tt
one-fits binary64 = tt

pub zero-least : (x : Float) → T (nonneg x) → T (le zero-f x)
zero-least x p = cross→le zero-f x tt p (le_trans (le_of_eq (zero-mul (under x))) zero-le)

-- what a test `0 < x` tells
pub above-nonneg : (x : Float) → T (lt zero-f x) → T (nonneg x)
unfolding lt
above-nonneg nan h = absurd h
above-nonneg (inf s) h = h
above-nonneg (fin true m e) h = absurd h
above-nonneg (fin false m e) h = tt

pub finite-below : (x y : Float) → T (nonneg x) → T (finite y) → T (le x y) → T (finite x)
unfolding le
finite-below nan y p n h = absurd p
finite-below (inf true) y p n h = absurd p
finite-below (inf false) nan p n h = absurd n
finite-below (inf false) (inf t) p n h = absurd n
finite-below (inf false) (fin t m e) p n h = absurd h
finite-below (fin s m e) y p n h = tt

-- ---- the sum
pub add-nonneg : (f : Format) (x y : Float) → T (nonneg x) → T (nonneg y) → T (nonneg (add f x y))
unfolding add
add-nonneg f nan y p q = absurd p
add-nonneg f (inf true) y p q = absurd p
add-nonneg f (inf false) nan p q = absurd q
add-nonneg f (inf false) (inf true) p q = absurd q
add-nonneg f (inf false) (inf false) p q = tt
add-nonneg f (inf false) (fin t n d) p q = tt
add-nonneg f (fin true m e) y p q = absurd p
add-nonneg f (fin false m e) nan p q = absurd q
add-nonneg f (fin false m e) (inf true) p q = absurd q
add-nonneg f (fin false m e) (inf false) p q = tt
add-nonneg f (fin false m e) (fin true n d) p q = absurd q
add-nonneg f (fin false m e) (fin false n d) p q = round-nonneg f (m * up e * down d + n * up d * down e) (down e * down d)

more-l : (x y p q : ℕ) → x * (p * q) ≤ (x * q + y) * p
more-l x y p q =
    le_trans (le_of_eq (ap (λ (z : ℕ). x * z) (mul_comm p q) ∙ sym (mul_assoc x q p))) (mul-le-mul_right p (le-add_right (x * q) y))

more-r : (x y p q : ℕ) → y * (p * q) ≤ (x + y * p) * q
more-r x y p q = le_trans (le_of_eq (sym (mul_assoc y p q))) (mul-le-mul_right q (le-add_left (y * p) x))

pub add_left : (f : Format) (x y : Float) → T (fits f x) → T (nonneg x) → T (nonneg y) → T (le x (add f x y))
unfolding add le
add_left f nan y t p q = absurd p
add_left f (inf true) y t p q = absurd p
add_left f (inf false) nan t p q = absurd q
add_left f (inf false) (inf true) t p q = absurd q
add_left f (inf false) (inf false) t p q = tt
add_left f (inf false) (fin s n d) t p q = tt
add_left f (fin true m e) y t p q = absurd p
add_left f (fin false m e) nan t p q = absurd q
add_left f (fin false m e) (inf true) t p q = absurd q
add_left f (fin false m e) (inf false) t p q = tt
add_left f (fin false m e) (fin true n d) t p q = absurd q
add_left f (fin false m e) (fin false n d) t p q = below-round f (fin false m e) (m * up e * down d + n * up d * down e) (down e * down d) t tt tt (mul-pos (down_pos e) (down_pos d)) (more-l (m * up e) (n * up d * down e) (down e) (down d))

pub add_right : (f : Format) (x y : Float) → T (fits f y) → T (nonneg x) → T (nonneg y) → T (le y (add f x y))
unfolding add le
add_right f nan y t p q = absurd p
add_right f (inf true) y t p q = absurd p
add_right f (inf false) nan t p q = absurd q
add_right f (inf false) (inf true) t p q = absurd q
add_right f (inf false) (inf false) t p q = tt
add_right f (inf false) (fin true n d) t p q = absurd q
add_right f (inf false) (fin false n d) t p q = tt
add_right f (fin true m e) y t p q = absurd p
add_right f (fin false m e) nan t p q = absurd q
add_right f (fin false m e) (inf true) t p q = absurd q
add_right f (fin false m e) (inf false) t p q = tt
add_right f (fin false m e) (fin true n d) t p q = absurd q
add_right f (fin false m e) (fin false n d) t p q = below-round f (fin false n d) (m * up e * down d + n * up d * down e) (down e * down d) t tt tt (mul-pos (down_pos e) (down_pos d)) (more-r (m * up e * down d) (n * up d) (down e) (down d))

-- ---- a quotient of at most one
abbrev AtMost : Float → Float → Type 0
AtMost b x = T (nonneg x) × T (le x b)

not_eqb : (n : ℕ) → 0 < n → eqb n 0 ≡ false
not_eqb n h = ne_eqb n 0 (λ (e : n ≡ 0). lt_irrefl 0 (subst (λ (k : ℕ). 0 < k) e h))

first_pos : (n u d : ℕ) → 0 * 2 ^ 0 * d < n * u * 1 → 0 < n
first_pos n u d h = elim (eq-zero-or-pos n) [ inl z ↦ absurd (lt_irrefl 0 (lt_of_le_of_lt zero-le (lt_of_lt_of_le h (le_of_eq (mul-one (n * u) ∙ ap (λ (k : ℕ). k * u) z ∙ zero-mul u))))) | inr p ↦ p ]

pub div-le-one : (f : Format) (x y : Float) → T (nonneg x) → T (finite x) → T (lt zero-f y) → T (le x y) → AtMost one-f (div f x y)
div-le-one f nan y p n q h = absurd p
div-le-one f (inf s) y p n q h = absurd n
div-le-one f (fin true m e) y p n q h = absurd p
div-le-one f (fin false m e) nan p n q h = absurd (above-nonneg nan q)
div-le-one f (fin false m e) (inf true) p n q h = absurd (above-nonneg (inf true) q)
div-le-one f (fin false m e) (inf false) p n q h = unfold div le in (tt, tt)
div-le-one f (fin false m e) (fin true k d) p n q h = absurd (above-nonneg (fin true k d) q)
div-le-one f (fin false m e) (fin false k d) p n q h =
    let a = m * up e * down d in
    let b = k * up d * down e in
    let k-pos : 0 < k = first_pos k (up d) (down d) (unfold lt in ltb→lt (0 * 2 ^ 0 * down d) (k * up d * 1) q) in
    let is : div f (fin false m e) (fin false k d) ≡ round f false a b = unfold div in ap (λ (t : Bool). cond t (cond (eqb m 0) nan (inf false)) (round f false a b)) (not_eqb k k-pos) in
    let c : a ≤ b = le→cross (fin false m e) (fin false k d) tt tt h in
    subst (λ (z : Float). AtMost one-f z) (sym is)
    (round-nonneg f a b, round-below f one-f a b (one-fits f) tt tt (mul-pos (mul-pos k-pos (up_pos d)) (down_pos e)) (le_trans (le_of_eq (mul-one a)) (le_trans c (le_of_eq (sym (one-mul b))))))

-- ---- a product with a factor of at most one
pub mul-le-left : (f : Format) (x y : Float) → T (fits f x) → T (nonneg x) → T (finite x) → AtMost one-f y → AtMost x (mul f x y)
unfolding mul
mul-le-left f nan y t p n h = absurd p
mul-le-left f (inf s) y t p n h = absurd n
mul-le-left f (fin true m e) y t p n h = absurd p
mul-le-left f (fin false m e) nan t p n h = absurd h.0
mul-le-left f (fin false m e) (inf s) t p n h = absurd (finite-below (inf s) one-f h.0 tt h.1)
mul-le-left f (fin false m e) (fin true k d) t p n h = absurd h.0
mul-le-left f (fin false m e) (fin false k d) t p n h =
    let c : k * up d ≤ down d = le_trans (le_of_eq (sym (mul-one (k * up d)))) (le_trans (le→cross (fin false k d) one-f tt tt h.1) (le_of_eq (one-mul (down d)))) in (
      round-nonneg f (m * up e * (k * up d)) (down e * down d),
      round-below f (fin false m e) (m * up e * (k * up d)) (down e * down d) t tt tt (mul-pos (down_pos e) (down_pos d))
          (le_trans (mul-le-mul_right (down e) (mul-le-mul_left (m * up e) c)) (le_of_eq (mul_assoc (m * up e) (down d) (down e) ∙ ap (λ (z : ℕ). m * up e * z) (mul_comm (down d) (down e))))),
    )

-- ---- what is left of x after y, and nothing where y is more: Rust's (x - y).max(0.0)
odd-neg : (d q k l : ℕ) → lt zero-f (odd d true q k l) ≡ false
unfolding odd lt
odd-neg d zero k l = refl
odd-neg d (suc q) k l = refl

units-neg : (f : Format) (q k : ℕ) → lt zero-f (units f true q k) ≡ false
unfolding units lt
units-neg f q k = go (ltb (q * 2 ^ k) (2 ^ (low f + suc (emax f))))
  where
    go : (b : Bool) → lt zero-f (cond b (odd (suc (prec f)) true q k (low f)) (inf true)) ≡ false
    go true = odd-neg (suc (prec f)) q k (low f)
    go false = refl

round-neg : (f : Format) (a c : ℕ) → lt zero-f (round f true a c) ≡ false
unfolding round
round-neg f a c = units-neg f _ _

pub larger-zero : (b x : Float) → T (nonneg b) → (T (lt zero-f x) → T (le x b)) → AtMost b (larger x zero-f)
larger-zero b x p h = go (lt zero-f x) (λ (t : T (lt zero-f x)). t)
  where
    go : (t : Bool) → (T t → T (lt zero-f x)) → AtMost b (cond t x zero-f)
    go true k = (above-nonneg x (k tt), h (k tt))
    go false k = (tt, zero-least b p)

less : (x q p b : ℕ) → (x * q - b) * p ≤ x * (p * q)
less x q p b = le_trans (mul-le-mul_right p (sub-le (x * q) b)) (le_of_eq (mul_assoc x q p ∙ ap (λ (z : ℕ). x * z) (mul_comm q p)))

pub room-le : (f : Format) (x y : Float) → T (fits f x) → T (nonneg x) → T (finite x) → T (nonneg y) → AtMost x (larger (sub f x y) zero-f)
room-le f nan y t p n q = absurd p
room-le f (inf s) y t p n q = absurd n
room-le f (fin true m e) y t p n q = absurd p
room-le f (fin false m e) nan t p n q = absurd q
room-le f (fin false m e) (inf true) t p n q = absurd q
room-le f (fin false m e) (inf false) t p n q = larger-zero (fin false m e) (sub f (fin false m e) (inf false)) tt (unfold sub lt in λ h. absurd h)
room-le f (fin false m e) (fin true k d) t p n q = absurd q
room-le f (fin false m e) (fin false k d) t p n q = larger-zero (fin false m e) (sub f (fin false m e) (fin false k d)) tt (unfold sub in go (ltb a b))
  where
    a : ℕ
    a = m * up e * down d

    b : ℕ
    b = k * up d * down e

    c : ℕ
    c = down e * down d

    go : (t : Bool) → T (lt zero-f (cond t (round f true (b - a) c) (round f false (a - b) c))) → T (le (cond t (round f true (b - a) c) (round f false (a - b) c)) (fin false m e))
    go true h = absurd (subst T (round-neg f (b - a) c) h)
    go false h = round-below f (fin false m e) (a - b) c t tt tt (mul-pos (down_pos e) (down_pos d)) (less (m * up e) (down d) (down e) b)
