-- `lending::back::store` fits the heads, and writes root and revision. Assumes nothing.
use Rattle.lending.proofs.BackLaws.{fit-holds}
use Rattle.lending.proofs.back.store.Goals as goal

pub returns : goal.returns
returns c xs ss ms =
    let x = c.args in
    fit-holds x.root x.revision x.heads.now xs ss ms _ c.fit.ensures
