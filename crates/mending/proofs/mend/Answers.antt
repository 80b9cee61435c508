-- `mending::mend` meets its contract, by what the repair of the columns came to. Assumes nothing.
use mathlib.Core.List.{[], ◌∷◌}
use Rattle.columns.specs.Shown.{arena_from}
use Rattle.coding.specs.Lent.{lot}
use Rattle.crossing.proofs.TidyLaws.{tidy-lent, tidy-plain}
use Rattle.mending.proofs.MendLaws.{mends-taken, mends-refused}
use Rattle.mending.proofs.mend.Goals as goal

pub repair_columns-requires : goal.repair_columns-requires
repair_columns-requires c =
    let a = c.args in
    tidy-plain a.heads.now _ a.ids.now a.shares.now a.minima.now c.tidy_lent.ensures (c.told-heads, c.told-ids, c.told-shares, c.told-minima)

pub returns-in-Ok : goal.returns-in-Ok
returns-in-Ok c =
    let a = c.args in
    mends-taken (lot a.top.now a.heads.now a.ids.now a.shares.now a.minima.now) a.acts.now (arena_from a.root a.revision a.heads.now a.ids.now a.shares.now a.minima.now) _ _ _ _ _ _
    c.in-Ok.done _ _ _ c.tell.result
    (tidy-lent a.heads.now _ a.ids.now a.shares.now a.minima.now c.tidy_lent.ensures (a.root ∷ a.revision ∷ []))
    (c.in-Ok.ensures.right a.revision) c.write.ensures c.tell.ensures (c.store.ensures _ _ _)

pub returns-in-Err : goal.returns-in-Err
returns-in-Err c =
    let a = c.args in
    let (h, x, s, m) = c.put_back.ensures in
    mends-refused (lot a.top.now a.heads.now a.ids.now a.shares.now a.minima.now) a.acts.now (arena_from a.root a.revision a.heads.now a.ids.now a.shares.now a.minima.now) _ _ _ _ _ _
    c.in-Err.e _ _ c.tell-in-Err.result
    (tidy-lent a.heads.now _ a.ids.now a.shares.now a.minima.now c.tidy_lent.ensures (a.root ∷ a.revision ∷ []))
    (c.in-Err.ensures.right a.revision) (λ z. lot a.top.now (h z) (x z) (s z) (m z)) c.tell-in-Err.ensures
