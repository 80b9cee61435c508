-- `keeping::splits::place`, by what came back. Assumes nothing.
use Prim.Native.Nat.{◌*◌}
use Rattle.forest.specs.Lists.{free}
use Rattle.sifting.specs.Work.{cols}
use Rattle.melting.proofs.SplitLaws.{lent-in, placed-kept, room-kept, lent-moved, placed-gone}
use Rattle.keeping.proofs.splits.place.Goals as goal

pub returns-in-At : goal.returns-in-At
returns-in-At c =
    let a = c.args in
    let q = c.in-At.is in
    let E = c.place_at.ensures in
    (E.0, λ cs seen e ps pm Z room. placed-kept q (E.1 cs seen e ps pm Z (room-kept a.c.acts (19 * free cs) q room)))

pub returns-in-Gone : goal.returns-in-Gone
returns-in-Gone c =
    let a = c.args in
    let L = lent-in a.cs.now a.ss.now a.ms.now a.t.len a.t.moved c.told-cs c.told-ss c.told-ms c.requires.tally in (
      lent-moved a.cs.now a.ss.now a.ms.now a.t.len a.t.moved L,
      λ cs seen e ps pm Z room.
          placed-kept c.in-Gone.is
          (placed-gone (cols a.heads.now a.ids.now a.shares.now a.minima.now cs seen a.acts.now a.c) Z a.mode e a.cs.now a.ss.now a.ms.now a.t.len a.t.moved L),
    )

pub returns-in-Wide : goal.returns-in-Wide
returns-in-Wide c = absurd (c.requires.narrow c.in-Wide.is)
