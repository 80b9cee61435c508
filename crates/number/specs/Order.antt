-- Floats with the sign clear and no NaN: zero, the positive numbers and plus infinity.
-- Each is a fraction over / under, infinity being 1 / 0, and the order is that of the fractions: cross multiplication, with no cases. Assumes nothing.
use Rattle.std.specs.Prelude.{◌≡◌, refl, ◌⊎◌, ℕ, ◌*◌, ◌≤◌, ◌<◌, Bool, true, false, not, ◌&&◌, ◌||◌, T, ltb, eqb, Float}
use Rattle.std.proofs.Common.{ap, ◌∙◌, subst, inl, inr, zero-le, le_antisymm, le_trans, le_of_eq, le_of_lt, not-le_of_lt, mul-zero, eq-or-lt_of_le, arith, T_not, eqb→eq, ltb→lt, lt→ltb, nltb→le}
use Rattle.std.proofs.Math.Dec.{eqb_refl}
use Rattle.std.specs.Float.{nan, inf, fin}
use Rattle.std.specs.Float.Ieee.{up, down, lt, le, eq}
use Rattle.std.specs.Float.Ieee.Fits.{eq→eqb, down_pos, and_l}
use Rattle.std.specs.Float.Ieee.Positive.{through}

-- the sign is clear, and it is no NaN
abbrev pub nonneg : Float → Bool
nonneg nan = false
nonneg (inf s) = not s
nonneg (fin s m e) = not s

abbrev pub over : Float → ℕ
over nan = 0
over (inf s) = 1
over (fin s m e) = m * up e

abbrev pub under : Float → ℕ
under nan = 0
under (inf s) = 0
under (fin s m e) = down e

-- ---- the order, as one of fractions
or_split : (a b : Bool) → T (a || b) → T a ⊎ T b
or_split true b t = inl tt
or_split false b t = inr t

or_l : (a b : Bool) → T a → T (a || b)
or_l true b t = tt
or_l false b t = absurd t

or_r : (a b : Bool) → T b → T (a || b)
or_r true b t = tt
or_r false b t = t

and-true : (x : Bool) → T x → T (x && true)
and-true true t = tt
and-true false t = t

lt-or-eq : (a b : ℕ) → T (ltb a b || (eqb a b && true)) → a ≤ b
lt-or-eq a b t = elim (or_split (ltb a b) (eqb a b && true) t) [ inl u ↦ le_of_lt (ltb→lt a b u) | inr u ↦ le_of_eq (eqb→eq a b (and_l (eqb a b) true u)) ]

of_le : (a b : ℕ) → a ≤ b → T (ltb a b || (eqb a b && true))
of_le a b h = elim (eq-or-lt_of_le h) [ inl p ↦ or_r (ltb a b) (eqb a b && true) (subst (λ (x : ℕ). T (eqb a x && true)) p (and-true (eqb a a) (eqb_refl a))) | inr q ↦ or_l (ltb a b) (eqb a b && true) (lt→ltb a b q) ]

no-inf : (c a : ℕ) → 0 < c → 1 * c ≤ a * 0 → ⊥
no-inf c a h k = omega arith

pub le→cross : (x y : Float) → T (nonneg x) → T (nonneg y) → T (le x y) → over x * under y ≤ over y * under x
unfolding le
le→cross nan y p q h = absurd p
le→cross (inf true) y p q h = absurd p
le→cross (inf false) nan p q h = absurd q
le→cross (inf false) (inf true) p q h = absurd q
le→cross (inf false) (inf false) p q h = zero-le
le→cross (inf false) (fin t n d) p q h = absurd h
le→cross (fin true m e) y p q h = absurd p
le→cross (fin false m e) nan p q h = absurd q
le→cross (fin false m e) (inf true) p q h = absurd q
le→cross (fin false m e) (inf false) p q h = le_trans (le_of_eq (mul-zero (m * up e))) zero-le
le→cross (fin false m e) (fin true n d) p q h = absurd q
le→cross (fin false m e) (fin false n d) p q h = lt-or-eq (m * up e * down d) (n * up d * down e) h

pub cross→le : (x y : Float) → T (nonneg x) → T (nonneg y) → over x * under y ≤ over y * under x → T (le x y)
unfolding le
cross→le nan y p q h = absurd p
cross→le (inf true) y p q h = absurd p
cross→le (inf false) nan p q h = absurd q
cross→le (inf false) (inf true) p q h = absurd q
cross→le (inf false) (inf false) p q h = tt
cross→le (inf false) (fin true n d) p q h = absurd q
cross→le (inf false) (fin false n d) p q h = absurd (no-inf (down d) (n * up d) (down_pos d) h)
cross→le (fin true m e) y p q h = absurd p
cross→le (fin false m e) nan p q h = absurd q
cross→le (fin false m e) (inf true) p q h = absurd q
cross→le (fin false m e) (inf false) p q h = tt
cross→le (fin false m e) (fin true n d) p q h = absurd q
cross→le (fin false m e) (fin false n d) p q h = of_le (m * up e * down d) (n * up d * down e) h

pub le-self : (x : Float) → T (nonneg x) → T (le x x)
le-self x p = cross→le x x p p (le_of_eq refl)

-- a fraction that is at least 1 / 0 has nothing under it
no-under : (b a : ℕ) → 1 * b ≤ a * 0 → b ≡ 0
no-under b a h = omega arith

inf-top : (u w x y : ℕ) → w ≡ 0 → u * w ≤ x * y
inf-top u w x y e = le_trans (le_of_eq (ap (λ (k : ℕ). u * k) e ∙ mul-zero u)) zero-le

pub le-chain : (x y z : Float) → T (nonneg x) → T (nonneg y) → T (nonneg z) → T (le x y) → T (le y z) → T (le x z)
le-chain x nan z p q r h k = absurd q
le-chain x (inf true) z p q r h k = absurd q
le-chain x (inf false) z p q r h k = cross→le x z p r (inf-top (over x) (under z) (over z) (under x) (no-under (under z) (over z) (le→cross (inf false) z q r k)))
le-chain x (fin s n d) z p q r h k =
    cross→le x z p r (through (over x) (n * up d) (over z) (under x) (down d) (under z) (down_pos d) (le→cross x (fin s n d) p q h) (le→cross (fin s n d) z q r k))

-- a test that fails, read the other way round
pub not-lt→le : (x y : Float) → T (nonneg x) → T (nonneg y) → T (not (lt x y)) → T (le y x)
unfolding le lt
not-lt→le nan y p q h = absurd p
not-lt→le (inf true) y p q h = absurd p
not-lt→le (inf false) nan p q h = absurd q
not-lt→le (inf false) (inf true) p q h = absurd q
not-lt→le (inf false) (inf false) p q h = tt
not-lt→le (inf false) (fin true n d) p q h = absurd q
not-lt→le (inf false) (fin false n d) p q h = tt
not-lt→le (fin true m e) y p q h = absurd p
not-lt→le (fin false m e) nan p q h = absurd q
not-lt→le (fin false m e) (inf true) p q h = absurd q
not-lt→le (fin false m e) (inf false) p q h = absurd h
not-lt→le (fin false m e) (fin true n d) p q h = absurd q
not-lt→le (fin false m e) (fin false n d) p q h = of_le (n * up d * down e) (m * up e * down d) (nltb→le (m * up e * down d) (n * up d * down e) h)

nor-l : (a b : Bool) → T (not (a || b)) → T (not a)
nor-l true b h = h
nor-l false b h = tt

pub not-le→le : (x y : Float) → T (nonneg x) → T (nonneg y) → T (not (le x y)) → T (le y x)
unfolding le
not-le→le x y p q h = not-lt→le x y p q (nor-l (lt x y) (eq x y) h)

pub lt→le : (x y : Float) → T (lt x y) → T (le x y)
unfolding le
lt→le x y h = or_l (lt x y) (eq x y) h

-- a strict order from a test that fails, and back
flip : (a b : ℕ) → T (not (ltb a b || (eqb a b && true))) → T (ltb b a)
flip a b h = go (ltb b a) (nltb→le b a)
  where
    go : (t : Bool) → (T (not t) → a ≤ b) → T t
    go true k = tt
    go false k = absurd (T_not (ltb a b || (eqb a b && true)) h (of_le a b (k tt)))

pub not-le→lt : (x y : Float) → T (nonneg x) → T (nonneg y) → T (not (le x y)) → T (lt y x)
unfolding le lt
not-le→lt nan y p q h = absurd p
not-le→lt (inf true) y p q h = absurd p
not-le→lt (inf false) nan p q h = absurd q
not-le→lt (inf false) (inf true) p q h = absurd q
not-le→lt (inf false) (inf false) p q h = absurd h
not-le→lt (inf false) (fin true n d) p q h = absurd q
not-le→lt (inf false) (fin false n d) p q h = tt
not-le→lt (fin true m e) y p q h = absurd p
not-le→lt (fin false m e) nan p q h = absurd q
not-le→lt (fin false m e) (inf true) p q h = absurd q
not-le→lt (fin false m e) (inf false) p q h = absurd h
not-le→lt (fin false m e) (fin true n d) p q h = absurd q
not-le→lt (fin false m e) (fin false n d) p q h = flip (m * up e * down d) (n * up d * down e) h

pub lt→not-le : (x y : Float) → T (nonneg x) → T (nonneg y) → T (lt x y) → T (le y x) → ⊥
unfolding le lt
lt→not-le nan y p q h k = absurd p
lt→not-le (inf true) y p q h k = absurd p
lt→not-le (inf false) nan p q h k = absurd q
lt→not-le (inf false) (inf t) p q h k = absurd h
lt→not-le (inf false) (fin t n d) p q h k = absurd h
lt→not-le (fin true m e) y p q h k = absurd p
lt→not-le (fin false m e) nan p q h k = absurd q
lt→not-le (fin false m e) (inf true) p q h k = absurd q
lt→not-le (fin false m e) (inf false) p q h k = absurd k
lt→not-le (fin false m e) (fin true n d) p q h k = absurd q
lt→not-le (fin false m e) (fin false n d) p q h k = not-le_of_lt (ltb→lt (m * up e * down d) (n * up d * down e) h) (lt-or-eq (n * up d * down e) (m * up e * down d) k)

decided : (b : Bool) → (T (not b) → ⊥) → T b
decided true h = tt
decided false h = absurd (h tt)

pub lt-le : (x y z : Float) → T (nonneg x) → T (nonneg y) → T (nonneg z) → T (lt x y) → T (le y z) → T (lt x z)
lt-le x y z p q r h k = decided (lt x z) (λ (n : T (not (lt x z))). lt→not-le x y p q h (le-chain y z x q r p k (not-lt→le x z p r n)))

pub le-anti : (x y : Float) → T (nonneg x) → T (nonneg y) → T (le x y) → T (le y x) → T (eq x y)
unfolding le eq
le-anti nan y p q h k = absurd p
le-anti (inf true) y p q h k = absurd p
le-anti (inf false) nan p q h k = absurd q
le-anti (inf false) (inf true) p q h k = absurd q
le-anti (inf false) (inf false) p q h k = tt
le-anti (inf false) (fin t n d) p q h k = absurd h
le-anti (fin true m e) y p q h k = absurd p
le-anti (fin false m e) nan p q h k = absurd q
le-anti (fin false m e) (inf true) p q h k = absurd q
le-anti (fin false m e) (inf false) p q h k = absurd k
le-anti (fin false m e) (fin true n d) p q h k = absurd q
le-anti (fin false m e) (fin false n d) p q h k =
    and-true (eqb (m * up e * down d) (n * up d * down e)) (eq→eqb (le_antisymm (lt-or-eq (m * up e * down d) (n * up d * down e) h) (lt-or-eq (n * up d * down e) (m * up e * down d) k)))

pub eq→le : (x y : Float) → T (eq x y) → T (le x y)
unfolding le
eq→le x y h = or_r (lt x y) (eq x y) h
