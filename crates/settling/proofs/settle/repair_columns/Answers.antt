-- `settling::settle::repair_columns` meets its contract: a list given too long is refused, the rest is settled. Assumes nothing.
use Rattle.std.specs.Prelude.{Err}
use Rattle.rules.specs.declared.refusal.Refusal.TheVariants.{TooWide}
use mathlib.Core.Path.{refl, sym, ◌∙◌}
use Rattle.settling.proofs.SettleLaws.{mends-over, mends-whole}
use Rattle.settling.proofs.settle.repair_columns.Goals as goal

pub returns-then-heads_over : goal.returns-then-heads_over
returns-then-heads_over c =
    let x = c.args in
    mends-over x.root x.heads.now x.ids.now x.shares.now x.minima.now c.requires _ _ _ _ _ (Err TooWide) (sym c.heads_over.ensures ∙ c.if-heads_over.true) (record { answer = refl; count = refl })

pub settle-requires : goal.settle-requires
settle-requires c =
    record { plain = c.requires; whole = sym c.heads_over.ensures ∙ c.if-heads_over.false }

pub returns : goal.returns
returns c =
    let x = c.args in
    mends-whole x.root x.heads.now x.ids.now x.shares.now x.minima.now c.requires _ _ _ _ _ c.settle.result (sym c.heads_over.ensures ∙ c.if-heads_over.false) c.first_empty-spare.result c.first_empty-spare.ensures c.settle.ensures
