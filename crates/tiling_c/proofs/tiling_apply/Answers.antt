-- `tiling_c::tiling_apply`: codes that are none, or what the change of the columns came to. Assumes nothing.
use mathlib.Core.Path.{◌≡◌, sym, ap, ◌∙◌}
use mathlib.Core.Bool.{true, ◌&&◌}
use Rattle.coding.specs.Lent.{lot, lot_ok, op_ok}
use Rattle.crossing.proofs.TidyLaws.{tidy-lent, tidy-plain}
use Rattle.std.specs.Prelude.{get_or, Option}
use Rattle.std.specs.Option.{unwrap_or}
use Rattle.docking.specs.declared.AppliedIn.{AppliedIn}
use Rattle.tiling_c.proofs.CallLaws.{applies-good}
use Rattle.tiling_c.proofs.tiling_apply.Goals as goal

pub apply_columns-done-requires : goal.apply_columns-done-requires
apply_columns-done-requires c =
    let a = c.args in
    tidy-plain a.heads.now _ a.ids.now a.shares.now a.minima.now c.tidy_lent.ensures (c.told-heads, c.told-ids, c.told-shares, c.told-minima)

pub returns : goal.returns
returns c =
    let a = c.args in
    let g : lot_ok (lot a.top.now a.heads.now a.ids.now a.shares.now a.minima.now) ≡ true = sym c.codes_ok.ensures ∙ c.if-not-codes_ok.false in
    let h : op_ok a.words.now ≡ true = sym c.op_ok.ensures ∙ c.if-not-op_ok.false in
    let end = c.unwrap_or-end.ensures ∙ ap (λ (o : Option AppliedIn). unwrap_or o (record { root = get_or a.top.now 0 0; revision = get_or a.top.now 1 0 })) c.unwrap_or.ensures in
    applies-good (lot a.top.now a.heads.now a.ids.now a.shares.now a.minima.now) a.words.now a.fraction a.out.now _ c.op_of-op.result _ _ _ _ c.apply_columns-done.result _ _ _ c.tell-n.result (λ c. g c && h c)
    (tidy-lent a.heads.now _ a.ids.now a.shares.now a.minima.now c.tidy_lent.ensures a.top.now) c.op_of-op.ensures c.apply_columns-done.ensures.0 end _ c.answer_of-answer.ensures c.tell-n.ensures c.keep_columns.ensures
