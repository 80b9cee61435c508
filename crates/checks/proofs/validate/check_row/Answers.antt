-- `checks::validate::check_row`: each row by its own clause of the rules. Assumes nothing.
use Rattle.std.proofs.Common.{arith, subst}
use Rattle.std.proofs.lemmas.Grind.{common_steps}
use Rattle.table.specs.Row.{row_is}
use Rattle.table.specs.declared.row.TableRow.{TableRow}
use Rattle.checks.specs.Checks.{Room}
use Rattle.checks.specs.LoadLaws.{loaded-front, loaded-part}
use Rattle.checks.proofs.validate.check_row.Goals as goal

pub returns-in-Pane : goal.returns-in-Pane
returns-in-Pane c =
    let a = c.args in
    let room = subst (λ (r : TableRow). Room a.t (row_is r) a.taken) c.in-Pane.is c.requires.room in
    let front = loaded-front a.b.now a.t a.panes.now c.requires.loaded a.taken.panes 1 room.panes in
    let part = loaded-part a.b.now a.t a.panes.now c.requires.loaded a.taken.panes 1 room.panes in
    grind (arith, common_steps, front, part)

pub returns-in-Tabs : goal.returns-in-Tabs
returns-in-Tabs c = grind (arith, common_steps, loaded-front, loaded-part)
