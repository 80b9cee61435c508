-- `checks::entry::too_wide`: a search along the rows. Assumes nothing.
use Rattle.std.proofs.Common.{arith}
use Rattle.rules.specs.Spec.{wide_row}
use Rattle.rules.specs.Table.{pane_row}
use Rattle.table.specs.Rows.{row_from, rows_at}
use Rattle.checks.specs.Entries.{length-entries, search-start, search-found, search-more, search-end}
use Rattle.checks.proofs.entry.too_wide.Goals as goal

pub loop-i-init : goal.loop-i-init
loop-i-init c = search-start wide_row (rows_at c.args.b.now c.args.t) _ (length-entries c.args.b.now c.args.t.rows row_from)

pub returns-then-is_wide : goal.returns-then-is_wide
returns-then-is_wide c = search-found wide_row (rows_at c.args.b.now c.args.t) _ c.loop-i.i pane_row c.loop-i.invariant (omega arith) (cc)

pub loop-i-preserved : goal.loop-i-preserved
loop-i-preserved c = search-more wide_row (rows_at c.args.b.now c.args.t) _ c.loop-i.i pane_row c.loop-i.invariant (omega arith) (cc)

pub returns : goal.returns
returns c = search-end wide_row (rows_at c.args.b.now c.args.t) _ c.loop-i.i c.loop-i.invariant (omega arith)
