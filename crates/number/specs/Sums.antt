-- Sums from left to right of floats that are not negative: such a sum is at least its start, and at least each thing added. Assumes nothing.
use Rattle.std.specs.Prelude.{Bool, cond, Float}
use Rattle.std.proofs.Math.Bool.{true, false}
use mathlib.Core.List.{List, [], ◌∷◌}
use Rattle.std.proofs.Math.Dec.{T}
use Rattle.std.specs.Float.Ieee.{binary64, add, le, fits}
use Rattle.std.specs.Float.Ieee.Fits.{add-fits}
use Rattle.rules.specs.Numbers.{zero-f}
use Rattle.rules.specs.Solver.{sum_by}
use Rattle.number.specs.Each.{All, none, more}
use Rattle.number.specs.Order.{nonneg, le-self, le-chain}
use Rattle.number.specs.Arithmetic.{zero-fits, add-nonneg, add_left, add_right}

-- an f64 with the sign clear that is no NaN
pub record Good (x : Float) : Type 0 where
  pub here : T (fits binary64 x)
  pub sign : T (nonneg x)

pub good-zero : Good zero-f
good-zero = record { here = zero-fits binary64; sign = tt }

pub good-add : {x y : Float} → Good x → Good y → Good (add binary64 x y)
good-add {x} {y} g h = record { here = add-fits binary64 x y; sign = add-nonneg binary64 x y g.sign h.sign }

module _ {A : Type 0} (on : A → Bool) (val : A → Float) where
  step : Float → A → Float
  step a x = cond (on x) (add binary64 a (val x)) a

  step-good : (a : Float) (x : A) → Good a → Good (val x) → Good (step a x)
  unfolding step
  step-good a x g h = go (on x)
    where
      go : (b : Bool) → Good (cond b (add binary64 a (val x)) a)
      go true = good-add g h
      go false = g

  step-ge : (a : Float) (x : A) → Good a → Good (val x) → T (le a (step a x))
  unfolding step
  step-ge a x g h = go (on x)
    where
      go : (b : Bool) → T (le a (cond b (add binary64 a (val x)) a))
      go true = add_left binary64 a (val x) g.here g.sign h.sign
      go false = le-self a g.sign

  step-each : (a : Float) (x : A) → Good a → Good (val x) → T (on x) → T (le (val x) (step a x))
  unfolding step
  step-each a x g h = go (on x)
    where
      go : (b : Bool) → T b → T (le (val x) (cond b (add binary64 a (val x)) a))
      go true t = add_right binary64 a (val x) h.here g.sign h.sign
      go false t = absurd t

  pub sum-good : (a : Float) (xs : List A) → Good a → All (λ (x : A). Good (val x)) xs → Good (sum_by on val a xs)
  unfolding sum_by step
  sum-good a [] g none = g
  sum-good a (x ∷ xs) g (more h hs) = sum-good (step a x) xs (step-good a x g h) hs

  pub sum-start : (a : Float) (xs : List A) → Good a → All (λ (x : A). Good (val x)) xs → T (le a (sum_by on val a xs))
  unfolding sum_by step
  sum-start a [] g none = le-self a g.sign
  sum-start a (x ∷ xs) g (more h hs) =
      let k = step-good a x g h in
      le-chain a (step a x) (sum_by on val (step a x) xs) g.sign k.sign (sum-good (step a x) xs k hs).sign (step-ge a x g h) (sum-start (step a x) xs k hs)

  pub sum-each : (a : Float) (xs : List A) → Good a → All (λ (x : A). Good (val x)) xs → All (λ (x : A). T (on x) → T (le (val x) (sum_by on val a xs))) xs
  unfolding sum_by step
  sum-each a [] g none = none
  sum-each a (x ∷ xs) g (more h hs) =
      let k = step-good a x g h in
      more
      (λ t. le-chain (val x) (step a x) (sum_by on val (step a x) xs) h.sign k.sign (sum-good (step a x) xs k hs).sign (step-each a x g h t) (sum-start (step a x) xs k hs))
      (sum-each (step a x) xs k hs)
