-- `tiling_c::tiling_repair`: codes that are none, or what the repair of the columns came to. Assumes nothing.
use mathlib.Core.Path.{sym, ◌∙◌}
use lib.ListN.{get_or}
use Rattle.coding.specs.Lent.{lot, lent}
use Rattle.crossing.proofs.TidyLaws.{tidy-lent, tidy-plain}
use Rattle.tiling_c.proofs.CallLaws.{mends-taken, mends-refused, repairs-good}
use Rattle.tiling_c.proofs.tiling_repair.Goals as goal

pub repair_columns-requires : goal.repair_columns-requires
repair_columns-requires c =
    let a = c.args in
    tidy-plain a.heads.now _ a.ids.now a.shares.now a.minima.now c.tidy_lent.ensures (c.told-heads, c.told-ids, c.told-shares, c.told-minima)

pub returns-in-Ok : goal.returns-in-Ok
returns-in-Ok c =
    let a = c.args in
    let l = lot a.top.now a.heads.now a.ids.now a.shares.now a.minima.now in
    repairs-good l a.acts.now a.out.now _ _ _ c.tell.result (sym c.codes_ok.ensures ∙ c.if-not-codes_ok.false)
    (mends-taken l a.acts.now (lent l) _ _ _ _ _ _ c.in-Ok.done _ _ _ c.tell.result (tidy-lent a.heads.now _ a.ids.now a.shares.now a.minima.now c.tidy_lent.ensures a.top.now)
    (c.in-Ok.ensures.right (get_or a.top.now 1 0)) c.write.ensures c.tell.ensures (c.store.ensures _ _ _))

pub returns-in-Err : goal.returns-in-Err
returns-in-Err c =
    let a = c.args in
    let l = lot a.top.now a.heads.now a.ids.now a.shares.now a.minima.now in
    let (h, x, s, m) = c.put_back.ensures in
    repairs-good l a.acts.now a.out.now _ _ _ c.tell-in-Err.result (sym c.codes_ok.ensures ∙ c.if-not-codes_ok.false)
    (mends-refused l a.acts.now (lent l) _ _ _ _ _ _ c.in-Err.e _ _ c.tell-in-Err.result (tidy-lent a.heads.now _ a.ids.now a.shares.now a.minima.now c.tidy_lent.ensures a.top.now)
    (c.in-Err.ensures.right (get_or a.top.now 1 0)) (λ z. lot a.top.now (h z) (x z) (s z) (m z)) c.tell-in-Err.ensures)
