-- `keeping::splits::split_done`, by how many children are left. Assumes nothing.
use mathlib.Core.Path.{sym}
use native.Mathlib.Omega.{arith}
use lib.ListN.{get_or}
use lib.Seq.{get_or-take}
use Rattle.sifting.specs.Work.{cols}
use Rattle.melting.specs.Splits.{kids_in}
use Rattle.melting.proofs.SplitLaws.{lent-in, closed_none, closed-one}
use Rattle.keeping.proofs.splits.split_done.Goals as goal

pub returns-then-t-eq0 : goal.returns-then-t-eq0
returns-then-t-eq0 c =
    let a = c.args in
    let L = lent-in a.cs.now a.ss.now a.ms.now a.t.len a.t.moved c.told-cs c.told-ss c.told-ms c.requires.tally in
    λ cs seen Z room.
    closed_none (cols a.heads.now a.ids.now a.shares.now a.minima.now cs seen a.acts.now a.c) Z room a.id a.mode a.old (kids_in a.cs.now a.ss.now a.ms.now a.t.len a.t.moved) L.even L.long c.if-t-eq0.true _ _
    c.note_action-n.result c.clear.ensures c.note_action-n.ensures

pub returns-then-t-eq1 : goal.returns-then-t-eq1
returns-then-t-eq1 c =
    let a = c.args in
    let L = lent-in a.cs.now a.ss.now a.ms.now a.t.len a.t.moved c.told-cs c.told-ss c.told-ms c.requires.tally in
    λ cs seen Z room.
    closed-one (cols a.heads.now a.ids.now a.shares.now a.minima.now cs seen a.acts.now a.c) Z room a.id a.mode a.old (kids_in a.cs.now a.ss.now a.ms.now a.t.len a.t.moved) L.even L.long c.if-t-eq1.true
    (get_or a.cs.now 0 0) (sym (get_or-take a.t.len a.cs.now 0 0 (omega (arith, c.if-t-eq1.true)))) _ _
    c.note_action-n-then-t-eq1.result c.clear-then-t-eq1.ensures c.note_action-n-then-t-eq1.ensures
