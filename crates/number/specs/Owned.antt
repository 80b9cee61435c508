-- What owning an array of f64, or a Reals, tells: its length, and that each element is a value of the format. Assumes nothing.
use Rattle.std.specs.Prelude.{◌≡◌, List, [], ◌∷◌, map, T, length, Float}
use Rattle.std.proofs.Common.{sym, subst}
use Rattle.std.specs.Float.{binary64}
use Rattle.std.specs.Float.Ieee.{fits}
use mir.Val.{Val}
use denote.Array.{each}
use denote.Builtin.{f64}
use denote.Floats.{FloatOf}
use denote.Shadow.{shadow}
use denote.RattleType.{Valss, owns}
use denote.Struct as Struct
use Rattle.rules.specs.Tree.{Reals}
use Rattle.rules.specs.contracts.model.Sixteen.{the_type}
use Rattle.number.specs.Each.{All, none, more}

pub floats-fit : (xs : List Float) (us : List Val) → shadow (each Float (FloatOf binary64).own_val xs us) → All (λ (x : Float). T (fits binary64 x)) xs
floats-fit [] us p = none
floats-fit (x ∷ xs) [] p = absurd p
floats-fit (x ∷ xs) (u ∷ us) p = more (subst T (sym p.0.1) tt) (floats-fit xs us p.1)

all-unmap : {A B : Type 0} {P : B → Type 0} (g : A → B) (xs : List A) → All P (map g xs) → All (λ (x : A). P (g x)) xs
all-unmap g [] none = none
all-unmap g (x ∷ xs) (more p ps) = more p (all-unmap g xs ps)

-- 16 places, each a value of the format
pub record Owned (l : Reals) : Type 0 where
  pub long : length l.at ≡ 16
  pub fit : All (λ (x : Float). T (fits binary64 x)) l.at

-- In a function's proof, of a Reals that is the parameter at `GOOD` of `c .. .good`: reals-owned (.. .args .NAME) GOOD.0 GOOD.1.1
pub reals-owned : (l : Reals) (us : Valss (Struct.Declared.shape (the_type f64)).fields) → shadow (owns (Struct.Declared.shape (the_type f64)).fields ((the_type f64).to l) us) → Owned l
reals-owned l us p = record { long = p.0.1.0.1; fit = floats-fit l.at p.0.0 p.0.1.1 }
