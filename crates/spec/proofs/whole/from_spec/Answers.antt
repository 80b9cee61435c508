-- `spec::whole::from_spec`: columns of zeros are filled, and packed. Assumes nothing.
use mathlib.Core.Path.{refl}
use Rattle.build.specs.BareLaws.{bare}
use Rattle.spec.specs.Whole.{packed-in}
use Rattle.spec.proofs.whole.from_spec.Goals as goal

pub spec_into-r-requires : goal.spec_into-r-requires
spec_into-r-requires c = bare _ _

pub returns : goal.returns
returns c = packed-in _ _ _ _ _ _ _ c.spec_into-r.ensures _ refl refl c.pack-slots.ensures
