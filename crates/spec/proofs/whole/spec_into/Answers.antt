-- `spec::whole::spec_into`: an accepted spec stays as it is made, a refused one is cleared. Assumes nothing.
use Rattle.spec.specs.Whole.{in-accepted, in-refused}
use Rattle.spec.proofs.whole.spec_into.Goals as goal

pub returns-in-Ok : goal.returns-in-Ok
returns-in-Ok c = in-accepted _ _ _ _ _ _ _ c.made_into-r.ensures c.in-Ok.is

pub returns-in-Err : goal.returns-in-Err
returns-in-Err c =
    in-refused _ _ _ _ _ _ _ c.made_into-r.ensures _ c.in-Err.is _ _ _ _ c.lone.ensures
