-- `checks::validate::check_rows`: the walk of validation, with what is left of the sections. Assumes nothing.
use Rattle.std.proofs.Common.{arith, refl, sym, ap, subst, ◌∙◌, ◌+◌, ◌<◌, length}
use Rattle.std.proofs.lemmas.Grind.{common_steps}
use Rattle.table.specs.Rows.{row_from, table_of}
use Rattle.table.specs.declared.row.Taken.{Taken}
use Rattle.checks.specs.Checks.{checked_as}
use Rattle.checks.specs.Entries.{length-entries}
use Rattle.checks.specs.Walk.{Along, along-start, along-more, along-room, along-fits}
use Rattle.checks.specs.SplitLaws.{Checking, checking-bad, checking-more, checking-end}
use Rattle.checks.proofs.validate.check_rows.Goals as goal

pub loop-i-init : goal.loop-i-init
loop-i-init c = (along-start _ c.requires.used, refl)

pub check_row-requires-clause-room : goal.check_row-requires-clause-room
check_row-requires-clause-room c =
    let a = c.args in
    along-room a.b.now a.t c.loop-i.i c.loop-i.taken _ c.loop-i.invariant.0 c.loop-i-test.true c.known_row-row.ensures

pub returns-in_err-check_row : goal.returns-in_err-check_row
returns-in_err-check_row c =
    let a = c.args in
    let l = c.loop-i in
    let inside : l.i < length (table_of a.b.now a.t).rows = omega (arith, length-entries a.b.now a.t.rows row_from) in
    let bad = checking-bad (table_of a.b.now a.t) l.i l.taken l.invariant.1 inside _ c.known_row-row.ensures _ (ap checked_as (sym c.in_err-check_row.was) ∙ c.check_row.ensures) in
    grind (arith, common_steps, bad)

pub with-taken-requires-clause-panes : goal.with-taken-requires-clause-panes
with-taken-requires-clause-panes c = (along-fits _ _ _ _ _ c.requires.placed c.loop-i.invariant.0 c.loop-i-test.true c.known_row-row.ensures).0

pub with-taken-requires-clause-shares : goal.with-taken-requires-clause-shares
with-taken-requires-clause-shares c = (along-fits _ _ _ _ _ c.requires.placed c.loop-i.invariant.0 c.loop-i-test.true c.known_row-row.ensures).1

pub with-taken-requires-clause-minima : goal.with-taken-requires-clause-minima
with-taken-requires-clause-minima c = (along-fits _ _ _ _ _ c.requires.placed c.loop-i.invariant.0 c.loop-i-test.true c.known_row-row.ensures).2

pub loop-i-preserved : goal.loop-i-preserved
loop-i-preserved c =
    let a = c.args in
    let l = c.loop-i in
    let table = table_of a.b.now a.t in
    let inside : l.i < length table.rows = omega (arith, length-entries a.b.now a.t.rows row_from) in
    subst (λ (k : Taken). Along table (l.i + 1) k × Checking table (l.i + 1) k) (sym c.with-taken.ensures) (
      along-more table l.i l.taken _ l.invariant.0 inside c.known_row-row.ensures,
      checking-more table l.i l.taken l.invariant.1 inside _ c.known_row-row.ensures (ap checked_as (sym c.in_ok-check_row.was) ∙ c.check_row.ensures),
    )

pub returns : goal.returns
returns c =
    let a = c.args in
    checking-end (table_of a.b.now a.t) _ _ c.loop-i.invariant.1 (omega (arith, length-entries a.b.now a.t.rows row_from))
