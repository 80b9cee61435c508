-- `checks::validate::check_rows`: the walk of validation, with what is left of the sections. Assumes nothing.
use Rattle.table.specs.Rows.{table_of}
use Rattle.checks.specs.Walk.{Along}
use Rattle.checks.specs.SplitLaws.{Checking}
use Rattle.checks.proofs.validate.check_rows.Given as goal

abbrev pub invariant-loop-i : goal.invariant-loop-i
invariant-loop-i l = Along (table_of l.b l.t) l.i l.taken × Checking (table_of l.b l.t) l.i l.taken
