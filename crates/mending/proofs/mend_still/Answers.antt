-- `mending::mend_still` meets its contract: what lists nothing is accepted, so what the repair left is stored. Assumes nothing.
use mathlib.Core.Path.{subst}
use Rattle.rules.specs.Repair.{repair}
use Rattle.columns.specs.Shown.{arena_from}
use Rattle.settling.specs.Settle.{Comes}
use Rattle.coding.specs.Lent.{lot}
use Rattle.mending.proofs.MendLaws.{still-ok, mends-still}
use Rattle.mending.proofs.mend_still.Goals as goal

pub unwrap-d-requires : goal.unwrap-d-requires
unwrap-d-requires c =
    let a = c.args in
    still-ok (arena_from a.root a.revision a.heads.now a.ids.now a.shares.now a.minima.now) _ _ _ _ _ c.repair_columns-done.result c.requires.1 (c.repair_columns-done.ensures.right a.revision)

pub returns : goal.returns
returns c =
    let a = c.args in
    let b = arena_from a.root a.revision a.heads.now a.ids.now a.shares.now a.minima.now in
    mends-still (lot a.top.now a.heads.now a.ids.now a.shares.now a.minima.now) b _ _ _ _ _
    c.unwrap-d.result _ _ c.tell.result c.requires.1 (subst (Comes b (repair b) _ _ _ _ _) c.unwrap-d.ensures (c.repair_columns-done.ensures.right a.revision)) (c.store.ensures _ _ _) c.tell.ensures
