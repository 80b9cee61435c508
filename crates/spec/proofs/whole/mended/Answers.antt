-- `spec::whole::mended`: the repair's answer, told as a spec's. Assumes nothing.
use Rattle.std.specs.Prelude.{Ok, Err}
use Rattle.spec.specs.Whole.{told_in}
use Rattle.spec.proofs.whole.mended.Goals as goal

pub returns-in-Ok : goal.returns-in-Ok
returns-in-Ok c =
    let x = c.args in
    told_in 0 x.heads.now x.ids.now x.shares.now x.minima.now _ _ _ _ _ (Ok c.in-Ok.s) c.in-Ok.ensures

pub returns-in-Err : goal.returns-in-Err
returns-in-Err c =
    let x = c.args in
    told_in 0 x.heads.now x.ids.now x.shares.now x.minima.now _ _ _ _ _ (Err c.in-Err.e) c.in-Err.ensures
