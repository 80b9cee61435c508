-- `spec::whole::made_into` goes by the draft's answer. Assumes nothing.
use Rattle.spec.specs.Whole.{whole-accepted, whole-refused}
use Rattle.spec.proofs.whole.made_into.Goals as goal

pub mended-requires : goal.mended-requires
mended-requires c = c.build_into-answer.ensures.plain c.in-Ok.is

pub returns-in-Ok : goal.returns-in-Ok
returns-in-Ok c =
    let d = c.build_into-answer in
    whole-accepted c.args.b.now _ _ _ _ _ d.ensures c.in-Ok.is _ _ _ _ _ _ c.mended.ensures

pub returns-in-Err : goal.returns-in-Err
returns-in-Err c = whole-refused c.args.b.now _ _ _ _ _ c.build_into-answer.ensures _ c.in-Err.is
