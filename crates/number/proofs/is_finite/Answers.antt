-- `number::is_finite` meets its contract, by the kinds of floats. Assumes nothing.
use Rattle.std.proofs.Common.{◌≡◌, refl, ◌∙◌}
use Rattle.std.specs.Float.{Float, nan, inf, fin, float_is_finite}
use Rattle.std.specs.Float.Ieee.Scale.{finite}
use Rattle.number.proofs.is_finite.Goals as goal

finite-is : (x : Float) → float_is_finite x ≡ finite x
unfolding float_is_finite
finite-is nan = refl
finite-is (inf s) = refl
finite-is (fin s m d) = refl

pub returns : goal.returns
returns c = c.is_finite.ensures.value ∙ finite-is c.args.x
