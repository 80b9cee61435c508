-- `table::preorder::rows_fit`: the loop is the walk along the rows; the sums stay below 2^48. Assumes nothing.
use Rattle.table.specs.RowsLoop.{Going}
use Rattle.table.proofs.preorder.rows_fit.Given as goal

abbrev pub invariant-loop-i : goal.invariant-loop-i
invariant-loop-i l = Going l.b l.t l.i l.due l.taken
