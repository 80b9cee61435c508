-- `keeping::splits::place_at`: a child melted in, or placed as it is. Assumes nothing.
use Rattle.std.proofs.Common.{rules, ◌≡◌, None, true, false, [], get_or, refl, sym, ◌∙◌, arith}
use Rattle.rules.specs.Repair.{melts}
use Rattle.columns.specs.Columns.{axis_from, node_from}
use Rattle.sifting.specs.Work.{cols}
use Rattle.melting.specs.Splits.{kids_in}
use Rattle.melting.proofs.SplitLaws.{melts-past, placed_one, placed-over, placed-melted}
use Rattle.keeping.proofs.splits.place_at.Goals.{else-id-lt64-via-then-id-lt64+else-is_meltable, else-id-lt64-via-else-id-lt64}
use Rattle.keeping.proofs.splits.place_at.Goals as goal

pub returns-in_err-tally : goal.returns-in_err-tally
returns-in_err-tally c =
    let a = c.args in
    let m = c.melt_kids.new in
    let F = c.in_err-tally.ensures in
    let e : c.from_residual.result ≡ None = search rules in
    rw e (
      F.lent,
      λ cs seen e ps pm Z room.
          placed-over (cols a.heads.now a.ids.now a.shares.now a.minima.now cs seen a.acts.now a.c) Z a.mode e (kids_in a.cs.now a.ss.now a.ms.now a.t.len a.t.moved) a.share a.minimum ps pm a.id
          c.load-given.result c.load-given.ensures (kids_in m.cs m.ss m.ms a.t.len a.t.moved) true F
          (sym (c.is_meltable.ensures _ _ _) ∙ c.if-is_meltable.true) refl,
    )

pub returns-then-is_meltable : goal.returns-then-is_meltable
returns-then-is_meltable c =
    let a = c.args in
    let m = c.melt_kids.new in
    let u = c.in_ok-tally.tally in
    let F = c.in_ok-tally.ensures in (
      F.lent,
      λ cs seen e ps pm Z room.
          placed-melted (cols a.heads.now a.ids.now a.shares.now a.minima.now cs seen a.acts.now a.c) Z a.mode e (kids_in a.cs.now a.ss.now a.ms.now a.t.len a.t.moved) a.share a.minimum ps pm a.id
          c.load-given.result c.load-given.ensures (kids_in m.cs m.ss m.ms u.len u.moved) false F
          (sym (c.is_meltable.ensures _ _ _) ∙ c.if-is_meltable.true) refl room _ c.note_action-n.result c.note_action-n.ensures,
    )

pub returns-in_err-tally-2 : goal.returns-in_err-tally-2
returns-in_err-tally-2 c =
    let a = c.args in
    let m = c.place_one.new in
    let F = c.in_err-tally-2.ensures in
    let e : c.from_residual-in_err-tally-2.result ≡ None = search rules in
    let no : melts (axis_from a.mode) a.minimum (node_from (get_or a.heads.now a.id []) (get_or a.ids.now a.id []) (get_or a.shares.now a.id []) (get_or a.minima.now a.id [])) ≡ false =
    elim c.else-id-lt64.branch [
      | else-id-lt64-via-then-id-lt64+else-is_meltable w ↦ sym (w.is_meltable.ensures _ _ _) ∙ w.if-is_meltable.false
      | else-id-lt64-via-else-id-lt64 w ↦ melts-past a.mode a.minimum a.heads.now a.ids.now a.shares.now a.minima.now a.id (omega (arith, c.told-heads, w.if-id-lt64.false))
    ] in
    rw e (
      F.lent,
      λ cs seen e ps pm Z room.
          placed_one (cols a.heads.now a.ids.now a.shares.now a.minima.now cs seen a.acts.now a.c) Z a.mode e (kids_in a.cs.now a.ss.now a.ms.now a.t.len a.t.moved) a.share a.minimum ps pm a.id
          (kids_in m.cs m.ss m.ms a.t.len a.t.moved) true F no,
    )

pub returns : goal.returns
returns c =
    let a = c.args in
    let m = c.place_one.new in
    let u = c.in_ok-tally-2.tally in
    let F = c.in_ok-tally-2.ensures in
    let no : melts (axis_from a.mode) a.minimum (node_from (get_or a.heads.now a.id []) (get_or a.ids.now a.id []) (get_or a.shares.now a.id []) (get_or a.minima.now a.id [])) ≡ false =
    elim c.else-id-lt64.branch [
      | else-id-lt64-via-then-id-lt64+else-is_meltable w ↦ sym (w.is_meltable.ensures _ _ _) ∙ w.if-is_meltable.false
      | else-id-lt64-via-else-id-lt64 w ↦ melts-past a.mode a.minimum a.heads.now a.ids.now a.shares.now a.minima.now a.id (omega (arith, c.told-heads, w.if-id-lt64.false))
    ] in (
      F.lent,
      λ cs seen e ps pm Z room.
          placed_one (cols a.heads.now a.ids.now a.shares.now a.minima.now cs seen a.acts.now a.c) Z a.mode e (kids_in a.cs.now a.ss.now a.ms.now a.t.len a.t.moved) a.share a.minimum ps pm a.id
          (kids_in m.cs m.ss m.ms u.len u.moved) false F no,
    )
