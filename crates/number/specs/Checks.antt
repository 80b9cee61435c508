-- What the tests of a share and of a minimum tell, minus zero read as zero. Assumes nothing.
use Rattle.std.specs.Prelude.{◌≡◌, Bool, true, false, ◌&&◌, ◌||◌, cond, ℕ, ◌*◌, pos, T, eqb, Float}
use Rattle.std.proofs.Common.{sym, subst, eqb→eq}
use Rattle.std.specs.Float.{nan, inf, fin, binary64}
use Rattle.std.specs.Float.Ieee.{lt, le, eq, fits, up, down}
use Rattle.std.specs.Float.Ieee.Fits.{and_l, and_r, and_i, eq→eqb, cond-fits}
use Rattle.std.specs.Float.Ieee.Scale.{finite}
use Rattle.rules.specs.Numbers.{zero-f, plus, minimum_ok, share_ok}
use Rattle.number.specs.Order.{nonneg}
use Rattle.number.specs.Arithmetic.{zero-fits, above-nonneg}
use Rattle.number.specs.Sums.{Good}

-- what a good share is: not negative, finite and above zero
pub record ShareOk (s : Float) : Type 0 where
  pub good : Good s
  pub small : T (finite s)
  pub above : T (lt zero-f s)

-- ---- minus zero is the only value at or above zero that has the sign
zero-both : (a b : ℕ) → T (eqb a b && (false || eqb a 0)) → T (eqb b a && (false || eqb b 0))
zero-both a b t =
    let e : a ≡ b = eqb→eq a b (and_l (eqb a b) (eqb a 0) t) in
    and_i (eqb b a) (eqb b 0) (eq→eqb (sym e)) (subst (λ (z : ℕ). T (eqb z 0)) e (and_r (eqb a b) (eqb a 0) t))

pub plus-nonneg : (x : Float) → T (le zero-f x) → T (nonneg (plus x))
unfolding le eq
plus-nonneg nan h = absurd h
plus-nonneg (inf true) h = absurd h
plus-nonneg (inf false) h = tt
plus-nonneg (fin true m e) h = go (eq (fin true m e) zero-f) (zero-both (0 * up (pos 0) * down e) (m * up e * down (pos 0)) h)
  where
    go : (b : Bool) → T b → T (nonneg (cond b zero-f (fin true m e)))
    go true t = tt
    go false t = absurd t
plus-nonneg (fin false m e) h = go (eq (fin false m e) zero-f)
  where
    go : (b : Bool) → T (nonneg (cond b zero-f (fin false m e)))
    go true = tt
    go false = tt

pub plus-finite : (x : Float) → T (finite x) → T (finite (plus x))
plus-finite x h = go (eq x zero-f)
  where
    go : (b : Bool) → T (finite (cond b zero-f x))
    go true = tt
    go false = h

pub plus-good : (x : Float) → T (fits binary64 x) → T (minimum_ok x) → Good (plus x) × T (finite (plus x))
plus-good x f h = (record { here = cond-fits binary64 (eq x zero-f) zero-f x (zero-fits binary64) f; sign = plus-nonneg x (and_r (finite x) (le zero-f x) h) }, plus-finite x (and_l (finite x) (le zero-f x) h))

pub share-good : (x : Float) → T (fits binary64 x) → T (share_ok x) → ShareOk x
share-good x f h = record { good = record { here = f; sign = above-nonneg x (and_r (finite x) (lt zero-f x) h) }; small = and_l (finite x) (lt zero-f x) h; above = and_r (finite x) (lt zero-f x) h }
