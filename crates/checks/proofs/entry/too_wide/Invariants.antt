-- `checks::entry::too_wide`: a search along the rows. Assumes nothing.
use Rattle.rules.specs.Spec.{wide_row}
use Rattle.table.specs.Rows.{rows_at}
use Rattle.checks.specs.Entries.{Searching}
use Rattle.checks.proofs.entry.too_wide.Given as goal

abbrev pub invariant-loop-i : goal.invariant-loop-i
invariant-loop-i l = Searching wide_row (rows_at l.b l.t) l.t.rows.count l.i
