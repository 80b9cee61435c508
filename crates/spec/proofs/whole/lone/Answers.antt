-- `spec::whole::lone`: columns of zeros but for one head. Assumes nothing.
use Rattle.spec.specs.LoneLaws.{lone-shown}
use Rattle.spec.proofs.whole.lone.Goals as goal

pub returns : goal.returns
returns c = lone-shown _ _
