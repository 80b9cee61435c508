-- `keeping::splits::keep_split` stores the lists with their shares repaired. Assumes nothing.
use mathlib.Core.Path.{ap}
use mathlib.Core.Bool.{Bool, not, ◌||◌}
use Rattle.sifting.specs.Work.{cols}
use Rattle.melting.specs.Splits.{kids_in}
use Rattle.melting.proofs.SplitLaws.{lent-in, closed-more}
use Rattle.keeping.proofs.splits.keep_split.Goals as goal

pub returns : goal.returns
returns c =
    let a = c.args in
    let L = lent-in a.cs.now a.ss.now a.ms.now a.t.len a.t.moved c.told-cs c.told-ss c.told-ms c.requires.tally in
    λ cs seen Z room.
    closed-more (cols a.heads.now a.ids.now a.shares.now a.minima.now cs seen a.acts.now a.c) Z room a.id a.mode a.old (kids_in a.cs.now a.ss.now a.ms.now a.t.len a.t.moved) L.even L.long c.requires.many
    c.repaired_shares-repaired.result c.compact_constraints-compact.result c.repaired_shares-repaired.ensures c.compact_constraints-compact.ensures _
    (ap (λ (b : Bool). a.t.moved || not b) c.eq_reals-same.ensures) _ _ _ _ c.store.ensures _ c.note_action_if-listed.result c.note_action_if-listed.ensures
