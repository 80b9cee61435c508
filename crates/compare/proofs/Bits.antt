-- Reals by their bits: a number that equals itself is no NaN. Assumes nothing.
use mathlib.Core.Bool.{Bool, true, false, not, cond, true≢false}
use mathlib.Core.Path.{◌≡◌, sym}
use lib.Dec.{T, eqb}
use lib.Ieee.{Float, nan, inf, fin, binary64, is_nan, eq, to_bits}
use Rattle.compare.specs.Same.{same_bits}

pub no_nan : (x : Float) → eq x x ≡ true → T (not (is_nan x))
unfolding eq is_nan
no_nan nan h = absurd (true≢false (sym h))
no_nan (inf s) h = tt
no_nan (fin s m e) h = tt

module _ (x y : Float) where
  abbrev alike : Bool
  alike = eqb (to_bits binary64 x) (to_bits binary64 y)

  pub two-numbers : eq x x ≡ true → eq y y ≡ true → eqb (to_bits binary64 x) (to_bits binary64 y) ≡ same_bits x y
  two-numbers h g = sym (λ z. cond (h z) (cond (g z) alike false) (not (eq y y)))

  pub number-and-nan : eq x x ≡ true → eq y y ≡ false → false ≡ same_bits x y
  number-and-nan h g = sym (λ z. cond (h z) (cond (g z) alike false) (not (eq y y)))

  pub nan-first : eq x x ≡ false → not (eq y y) ≡ same_bits x y
  nan-first h = sym (λ z. cond (h z) (cond (eq y y) alike false) (not (eq y y)))
