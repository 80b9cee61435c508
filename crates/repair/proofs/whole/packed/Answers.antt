-- `repair::whole::packed` meets its contract: an accepted repair is packed and reported, a refused one is the tree given. Assumes nothing.
use mathlib.Core.Path.{refl}
use Rattle.repair.proofs.PackedLaws.{packs-accepted, packs-refused}
use Rattle.repair.proofs.whole.packed.Goals as goal

pub returns-in-Ok : goal.returns-in-Ok
returns-in-Ok c =
    let x = c.args in
    packs-accepted x.t x.s x.heads.now x.ids.now x.shares.now x.minima.now x.acts.now _ c.in-Ok.s c.in-Ok.is refl refl refl c.pack-slots.ensures c.report-actions.ensures.0

pub returns-in-Err : goal.returns-in-Err
returns-in-Err c =
    let x = c.args in
    packs-refused x.t x.s x.heads.now x.ids.now x.shares.now x.minima.now x.acts.now c.refused.result c.in-Err.e c.in-Err.is c.refused.ensures
