-- How large numbers get: a bound on a float's size, and what sums, differences and products make of it. A bound is c times a power of two, which
-- binary64 holds, so rounding does not pass it. Assumes nothing.
use Rattle.std.specs.Prelude.{◌≡◌, refl, Bool, ◌&&◌, cond, T, eqb, Float}
use Rattle.std.proofs.Common.{sym, ap, ◌∙◌, subst, le_trans, le_of_eq, lt_of_lt_of_le, mul-lt-mul_of_pos_right, mul-one, mul_assoc, mul_comm, mul-le-mul, mul-le-mul_right, add-le-add, add-mul, mul-pos, eqb→eq, pow-add, pow_pos, pow_mono}
use Rattle.std.proofs.Math.Bool.{true, false}
use Rattle.std.specs.Bool.{beq}
use Prim.Native.Nat.{ℕ, zero, suc, ◌+◌, ◌-◌, ◌*◌, ◌/◌, ◌%◌, ◌^◌, ◌≤◌, ◌<◌, compare}
use Rattle.std.proofs.Math.Nat.{mul-mul-mul_comm}
use native.Mathlib.Omega.{arith}
use Rattle.std.proofs.Math.Dec.{ltb}
use Rattle.std.specs.Float.Ieee.{nan, binary64, prec, emax, low, up, down, size, nearest, odd, units, round, neg, sum, add, sub, mul, unlike, of_int, lt, le, eq}
use Rattle.std.specs.Float.{inf, fin}
use Rattle.std.specs.Float.Ieee.Fits.{down_pos, and_l}
use Rattle.std.specs.Float.Ieee.Exact.{HasValue, round_exact}
use Rattle.std.specs.Float.Ieee.Order.{round_mono}
use Rattle.std.specs.Float.Ieee.Positive.{through}
use Rattle.std.specs.Float.Ieee.Scale.{finite}
use Rattle.rules.specs.Numbers.{zero-f, whole, larger}
use Rattle.number.specs.Order.{nonneg, le→cross}
use Rattle.number.specs.Rounding.{round-nonneg}

-- ---- the bound

abbrev pub Small : ℕ → Float → Type 0
Small b nan = ⊥
Small b (inf s) = ⊥
Small b (fin s m e) = m * up e ≤ b * down e

pub small-more : (a b : ℕ) (x : Float) → a ≤ b → Small a x → Small b x
small-more a b nan h s = s
small-more a b (inf t) h s = s
small-more a b (fin t m e) h s = le_trans s (mul-le-mul_right (down e) h)

pub small-finite : (b : ℕ) (x : Float) → Small b x → T (finite x)
small-finite b nan s = absurd s
small-finite b (inf t) s = absurd s
small-finite b (fin t m e) s = tt

pub small-neg : (b : ℕ) (x : Float) → Small b x → Small b (neg x)
unfolding neg
small-neg b nan s = s
small-neg b (inf t) s = s
small-neg b (fin t m e) s = s

pub small-zero : (b : ℕ) → Small b zero-f
small-zero b = omega arith

-- at or below one that is small
pub small-below : (b : ℕ) (x y : Float) → T (nonneg x) → T (nonneg y) → T (le x y) → Small b y → Small b x
small-below b x nan p q h s = absurd s
small-below b x (inf t) p q h s = absurd s
small-below b nan (fin t n d) p q h s = absurd p
small-below b (inf true) (fin t n d) p q h s = absurd p
small-below b (inf false) (fin t n d) p q h s =
    absurd (let k = le→cross (inf false) (fin t n d) p q h in no_room (down d) (n * up d) (down_pos d) k)
  where
    no_room : (c a : ℕ) → 0 < c → 1 * c ≤ a * 0 → ⊥
    no_room c a h k = omega arith
small-below b (fin r m e) (fin t n d) p q h s =
    let k = through (m * up e) (n * up d) b (down e) (down d) 1 (down_pos d) (le→cross (fin r m e) (fin t n d) p q h) (le_trans (le_of_eq (mul-one (n * up d))) s) in
    le_trans (le_of_eq (sym (mul-one (m * up e)))) k

-- from zero to one that is small
pub small-between : (b : ℕ) (x y : Float) → T (le zero-f x) → T (le x y) → T (nonneg y) → Small b y → Small b x
unfolding le lt eq
small-between b nan y l h q s = absurd l
small-between b (inf true) y l h q s = absurd l
small-between b (inf false) y l h q s = small-below b (inf false) y tt q h s
small-between b (fin false m e) y l h q s = small-below b (fin false m e) y tt q h s
small-between b (fin true m e) y l h q s =
    let z : 0 * 1 * down e ≡ m * up e * 1 = eqb→eq (0 * 1 * down e) (m * up e * 1) (and_l (eqb (0 * 1 * down e) (m * up e * 1)) (eqb (0 * 1 * down e) 0) l) in
    omega (arith, z)

-- ---- rounding, whatever the sign

abbrev bare : Float → Float
bare nan = nan
bare (inf s) = inf false
bare (fin s m e) = fin false m e

small-bare : (b : ℕ) (x : Float) → Small b (bare x) → Small b x
small-bare b nan s = s
small-bare b (inf t) s = s
small-bare b (fin t m e) s = s

odd-bare : (d : ℕ) (s : Bool) (q k l : ℕ) → bare (odd d s q k l) ≡ odd d false q k l
unfolding odd
odd-bare d s zero k l = refl
odd-bare d s (suc q) k l = refl

units-bare : (s : Bool) (q k : ℕ) → bare (units binary64 s q k) ≡ units binary64 false q k
unfolding units
units-bare s q k = go (ltb (q * 2 ^ k) (2 ^ (low binary64 + suc (emax binary64))))
  where
    go : (b : Bool) → bare (cond b (odd (suc (prec binary64)) s q k (low binary64)) (inf s)) ≡ cond b (odd (suc (prec binary64)) false q k (low binary64)) (inf false)
    go true = odd-bare (suc (prec binary64)) s q k (low binary64)
    go false = refl

round-bare : (s : Bool) (a c : ℕ) → bare (round binary64 s a c) ≡ round binary64 false a c
unfolding round
round-bare s a c =
    let n = a * 2 ^ low binary64 in
    let k = size (n / c) - prec binary64 in
    let u = c * 2 ^ k in
    units-bare s (nearest (n / u) (compare (n % u * 2) u)) k

value-small : (b : ℕ) (x : Float) → HasValue x false b 1 → Small b x
value-small b nan v = absurd v
value-small b (inf t) v = absurd v
value-small b (fin t m e) v = le_of_eq (sym (mul-one (m * up e)) ∙ v.1)

-- a bound that binary64 holds: c below 2 ^ 53, the power within 2 ^ 900
pub record Held (c k : ℕ) : Type 0 where
  pub few : c < 2 ^ 53
  pub low-power : k ≤ 900

pub held : (c k : ℕ) → c ≤ 64 → k ≤ 900 → Held c k
held c k h g = record { few = omega (arith, h); low-power = g }

pub held-value : (c k : ℕ) → Held c k → HasValue (round binary64 false (c * 2 ^ k) 1) false (c * 2 ^ k) 1
held-value c k H =
    round_exact binary64 false (c * 2 ^ k) 1 c (k + low binary64) (omega arith) H.few fine (mul_assoc c (2 ^ k) (2 ^ low binary64) ∙ ap (λ (x : ℕ). c * x) (sym (pow-add 2 k (low binary64))) ∙ sym (mul-one (c * 2 ^ (k + low binary64))))
  where
    power : (l e : ℕ) → 53 + k ≤ e → c * 2 ^ (k + l) < 2 ^ (l + e)
    power l e h =
        lt_of_lt_of_le (mul-lt-mul_of_pos_right H.few (pow_pos (k + l)))
        (le_trans (le_of_eq (sym (pow-add 2 53 (k + l)))) (pow_mono (let q : 53 + (k + l) ≤ l + e = omega (arith, h) in q)))

    fine : c * 2 ^ (k + low binary64) < 2 ^ (low binary64 + suc (emax binary64))
    fine = power (low binary64) (suc (emax binary64)) (let q : 53 + k ≤ 1024 = omega (arith, H.low-power) in q)

pub round-small : (s : Bool) (a d c k : ℕ) → Held c k → 0 < d → a ≤ c * 2 ^ k * d → Small (c * 2 ^ k) (round binary64 s a d)
round-small s a d c k H p h =
    small-bare (c * 2 ^ k) (round binary64 s a d)
    (subst (Small (c * 2 ^ k)) (sym (round-bare s a d))
    (small-below (c * 2 ^ k) (round binary64 false a d) (round binary64 false (c * 2 ^ k) 1) (round-nonneg binary64 a d) (round-nonneg binary64 (c * 2 ^ k) 1)
    (round_mono binary64 a d (c * 2 ^ k) 1 p (omega arith) (le_trans (le_of_eq (mul-one a)) h)) (value-small (c * 2 ^ k) (round binary64 false (c * 2 ^ k) 1) (held-value c k H))))

-- ---- sums

module _ (k c d : ℕ) (H : Held (c + d) k) where
  -- both sides over one divisor
  parts : (m u n v : ℕ) → m ≤ c * 2 ^ k * u → n ≤ d * 2 ^ k * v → m * v + n * u ≤ (c + d) * 2 ^ k * (u * v)
  parts m u n v h g =
      le_trans (add-le-add (mul-le-mul_right v h) (mul-le-mul_right u g))
      (le_of_eq ((λ z. mul_assoc (c * 2 ^ k) u v z + (mul_assoc (d * 2 ^ k) v u ∙ ap (λ (x : ℕ). d * 2 ^ k * x) (mul_comm v u)) z) ∙ sym (add-mul (c * 2 ^ k) (d * 2 ^ k) (u * v)) ∙ ap (λ (x : ℕ). x * (u * v)) (sym (add-mul c d (2 ^ k)))))

  sum-small : (s t : Bool) (a b w : ℕ) → 0 < w → a + b ≤ (c + d) * 2 ^ k * w → Small ((c + d) * 2 ^ k) (sum binary64 s a t b w)
  unfolding sum
  sum-small s t a b w p h = go (beq s t) (ltb a b)
    where
      go : (x y : Bool) → Small ((c + d) * 2 ^ k) (cond x (round binary64 s (a + b) w) (cond y (round binary64 t (b - a) w) (round binary64 (s && ltb b a) (a - b) w)))
      go true y = round-small s (a + b) w (c + d) k H p h
      go false true = round-small t (b - a) w (c + d) k H p (le_trans (let q : b - a ≤ a + b = omega arith in q) h)
      go false false = round-small (s && ltb b a) (a - b) w (c + d) k H p (le_trans (let q : a - b ≤ a + b = omega arith in q) h)

  pub add_small : (x y : Float) → Small (c * 2 ^ k) x → Small (d * 2 ^ k) y → Small ((c + d) * 2 ^ k) (add binary64 x y)
  unfolding add
  add_small nan y h g = absurd h
  add_small (inf s) y h g = absurd h
  add_small (fin s m e) nan h g = absurd g
  add_small (fin s m e) (inf t) h g = absurd g
  add_small (fin s m e) (fin t n r) h g = sum-small s t (m * up e * down r) (n * up r * down e) (down e * down r) (mul-pos (down_pos e) (down_pos r)) (parts (m * up e) (down e) (n * up r) (down r) h g)

  pub sub_small : (x y : Float) → Small (c * 2 ^ k) x → Small (d * 2 ^ k) y → Small ((c + d) * 2 ^ k) (sub binary64 x y)
  unfolding sub
  sub_small x y h g = add_small x (neg y) h (small-neg (d * 2 ^ k) y g)

-- ---- products

pub mul_small : (a b c k : ℕ) → Held c k → a * b ≡ c * 2 ^ k → (x y : Float) → Small a x → Small b y → Small (c * 2 ^ k) (mul binary64 x y)
unfolding mul
mul_small a b c k H e nan y h g = absurd h
mul_small a b c k H e (inf s) y h g = absurd h
mul_small a b c k H e (fin s m d) nan h g = absurd g
mul_small a b c k H e (fin s m d) (inf t) h g = absurd g
mul_small a b c k H e (fin s m d) (fin t n r) h g =
    round-small (unlike s t) (m * up d * (n * up r)) (down d * down r) c k H (mul-pos (down_pos d) (down_pos r))
    (le_trans (mul-le-mul h g) (le_of_eq (mul-mul-mul_comm a (down d) b (down r) ∙ ap (λ (z : ℕ). z * (down d * down r)) e)))

pub whole-small : (n c : ℕ) → Held c 0 → n ≤ c → Small (c * 2 ^ 0) (whole n)
unfolding of_int
whole-small n c H h = round-small false n 1 c 0 H (omega arith) (let q : n ≤ c * 2 ^ 0 * 1 = omega (arith, h) in q)

pub whole-value : (n : ℕ) → n ≤ 64 → HasValue (whole n) false n 1
unfolding of_int
whole-value n h = subst (λ (m : ℕ). HasValue (round binary64 false m 1) false m 1) (mul-one n) (held-value n 0 (held n 0 h (omega arith)))

-- the larger of two
pub larger-small : (b : ℕ) (x y : Float) → Small b x → Small b y → Small b (larger x y)
larger-small b x y h g = go (lt y x)
  where
    go : (t : Bool) → Small b (cond t x y)
    go true = h
    go false = g
