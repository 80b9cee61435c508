-- `mending::is_still` meets its contract: a length over 16 is told by the heads, and else the walk that only reads tells. Assumes nothing.
use mathlib.Core.Path.{sym, ◌∙◌}
use Rattle.settling.proofs.PlainLaws.{slim-heads}
use Rattle.mending.proofs.MendLaws.{over-not, calm-so}
use Rattle.mending.proofs.is_still.Goals as goal

pub returns-then-heads_over : goal.returns-then-heads_over
returns-then-heads_over c =
    let x = c.args in
    λ v. over-not x.root v x.heads.now x.ids.now x.shares.now x.minima.now (sym c.heads_over.ensures ∙ c.if-heads_over.true)

pub calm_columns-requires : goal.calm_columns-requires
calm_columns-requires c =
    slim-heads c.args.heads.now (sym c.heads_over.ensures ∙ c.if-heads_over.false)

pub returns : goal.returns
returns c =
    let x = c.args in
    λ v. calm-so x.root v x.heads.now x.ids.now x.shares.now x.minima.now (c.told-heads, c.told-ids, c.told-shares, c.told-minima) (sym c.heads_over.ensures ∙ c.if-heads_over.false) c.calm_columns.result c.calm_columns.ensures
