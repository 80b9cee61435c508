-- `ops::whole::apply_columns` refuses an unsound arena, or goes by what the operation comes to. Assumes nothing.
use mathlib.Core.Path.{refl, sym, ap, ◌∙◌}
use Rattle.std.specs.Prelude.{Some, None, Ok}
use Rattle.rules.specs.Operations.{apply_inner}
use Rattle.columns.specs.Columns.{nodes_from}
use Rattle.columns.specs.Shown.{arena_from}
use Rattle.docking.proofs.TakenLaws.{exits}
use Rattle.changing.proofs.OpLaws.{steps-told}
use Rattle.ops.proofs.WholeLaws.{sound-ready, unsound-ends, refused-ends, changed-ends, same_ends}
use Rattle.ops.proofs.whole.apply_columns.Goals as goal

pub returns-then-not-sound_columns : goal.returns-then-not-sound_columns
returns-then-not-sound_columns c =
    let x = c.args in
    unsound-ends (arena_from x.root x.revision x.heads.now x.ids.now x.shares.now x.minima.now) x.op x.heads.now x.ids.now x.shares.now x.minima.now (sym (c.sound_columns.ensures x.revision) ∙ c.if-not-sound_columns.true)

pub apply_inner-requires : goal.apply_inner-requires
apply_inner-requires c =
    let x = c.args in
    sound-ready x.root x.revision x.heads.now x.ids.now x.shares.now x.minima.now c.requires c.root_row.ensures (sym (c.sound_columns.ensures x.revision) ∙ c.if-not-sound_columns.false)

pub returns-in_err-to : goal.returns-in_err-to
returns-in_err-to c =
    let x = c.args in
    refused-ends (arena_from x.root x.revision x.heads.now x.ids.now x.shares.now x.minima.now) x.op c.apply_inner.new.heads c.apply_inner.new.ids c.apply_inner.new.shares c.apply_inner.new.minima (sym (c.sound_columns.ensures x.revision) ∙ c.if-not-sound_columns.false) _ c.from_residual.result (exits c.from_residual.result c.from_residual.ensures.1) (c.in_err-to.ensures.steps x.revision)

pub change-requires : goal.change-requires
change-requires c = c.apply_inner.ensures.even

pub returns-in_default : goal.returns-in_default
returns-in_default c =
    let x = c.args in
    same_ends x.root x.revision x.heads.now x.ids.now x.shares.now x.minima.now x.op c.apply_inner.new.heads c.apply_inner.new.ids c.apply_inner.new.shares c.apply_inner.new.minima (sym (c.sound_columns.ensures x.revision) ∙ c.if-not-sound_columns.false) (sound-ready x.root x.revision x.heads.now x.ids.now x.shares.now x.minima.now c.requires c.root_row.ensures (sym (c.sound_columns.ensures x.revision) ∙ c.if-not-sound_columns.false)).0 c.apply_inner.ensures.even
    (steps-told (arena_from x.root x.revision x.heads.now x.ids.now x.shares.now x.minima.now) (apply_inner (arena_from x.root x.revision x.heads.now x.ids.now x.shares.now x.minima.now) x.op) c.apply_inner.result (Ok None) (nodes_from c.apply_inner.new.heads c.apply_inner.new.ids c.apply_inner.new.shares c.apply_inner.new.minima) (c.in_ok-to.was ∙ ap Ok c.in_default.is) (c.apply_inner.ensures.steps x.revision))

pub returns-in_err-done : goal.returns-in_err-done
returns-in_err-done c =
    let x = c.args in
    let M = steps-told (arena_from x.root x.revision x.heads.now x.ids.now x.shares.now x.minima.now) (apply_inner (arena_from x.root x.revision x.heads.now x.ids.now x.shares.now x.minima.now) x.op) c.apply_inner.result (Ok (Some c.in-Some.to)) (nodes_from c.apply_inner.new.heads c.apply_inner.new.ids c.apply_inner.new.shares c.apply_inner.new.minima) (c.in_ok-to.was ∙ ap Ok c.in-Some.is) (c.apply_inner.ensures.steps x.revision) in
    refused-ends (arena_from x.root x.revision x.heads.now x.ids.now x.shares.now x.minima.now) x.op c.change.new.heads c.change.new.ids c.change.new.shares c.change.new.minima (sym (c.sound_columns.ensures x.revision) ∙ c.if-not-sound_columns.false) _ c.from_residual-in_err-done.result (exits c.from_residual-in_err-done.result c.from_residual-in_err-done.ensures.1) (c.in_err-done.ensures (arena_from x.root x.revision x.heads.now x.ids.now x.shares.now x.minima.now) (apply_inner (arena_from x.root x.revision x.heads.now x.ids.now x.shares.now x.minima.now) x.op) refl M)

pub returns : goal.returns
returns c =
    let x = c.args in
    let M = steps-told (arena_from x.root x.revision x.heads.now x.ids.now x.shares.now x.minima.now) (apply_inner (arena_from x.root x.revision x.heads.now x.ids.now x.shares.now x.minima.now) x.op) c.apply_inner.result (Ok (Some c.in-Some.to)) (nodes_from c.apply_inner.new.heads c.apply_inner.new.ids c.apply_inner.new.shares c.apply_inner.new.minima) (c.in_ok-to.was ∙ ap Ok c.in-Some.is) (c.apply_inner.ensures.steps x.revision) in
    changed-ends (arena_from x.root x.revision x.heads.now x.ids.now x.shares.now x.minima.now) x.op c.change.new.heads c.change.new.ids c.change.new.shares c.change.new.minima (sym (c.sound_columns.ensures x.revision) ∙ c.if-not-sound_columns.false) c.in_ok-done.done _ _ (nodes_from c.apply_inner.new.heads c.apply_inner.new.ids c.apply_inner.new.shares c.apply_inner.new.minima) M (c.in_ok-done.ensures (arena_from x.root x.revision x.heads.now x.ids.now x.shares.now x.minima.now) (apply_inner (arena_from x.root x.revision x.heads.now x.ids.now x.shares.now x.minima.now) x.op) refl M)
