-- `repair::whole::is_still` meets its contract: a list given too long is refused, and else the walk that only reads tells. Assumes nothing.
use mathlib.Core.Path.{sym, ◌∙◌}
use Rattle.settling.proofs.PlainLaws.{slim-heads}
use Rattle.repair.proofs.StillLaws.{over-still, calm-tells}
use Rattle.repair.proofs.whole.is_still.Goals as goal

pub returns-then-heads_over : goal.returns-then-heads_over
returns-then-heads_over c =
    let x = c.args in
    λ r. over-still x.root r x.heads.now x.ids.now x.shares.now x.minima.now c.requires (sym c.heads_over.ensures ∙ c.if-heads_over.true)

pub calm_columns-requires : goal.calm_columns-requires
calm_columns-requires c =
    slim-heads c.args.heads.now (sym c.heads_over.ensures ∙ c.if-heads_over.false)

pub returns : goal.returns
returns c =
    let x = c.args in
    λ r. calm-tells x.root r x.heads.now x.ids.now x.shares.now x.minima.now c.requires (sym c.heads_over.ensures ∙ c.if-heads_over.false) c.calm_columns.result c.calm_columns.ensures
