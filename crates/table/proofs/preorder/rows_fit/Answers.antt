-- `table::preorder::rows_fit`: the loop is the walk along the rows; the sums stay below 2^48. Assumes nothing.
use Rattle.std.proofs.Common.{arith}
use Rattle.std.proofs.lemmas.Grind.{common_steps}
use Rattle.table.specs.RowsLoop.{going_start, going-closed, going-bad, going_more, going_end}
use Rattle.table.proofs.preorder.rows_fit.Goals as goal

pub loop-i-init : goal.loop-i-init
loop-i-init c = going_start _ _

pub returns-then-due-eq0 : goal.returns-then-due-eq0
returns-then-due-eq0 c = grind (arith, common_steps, going-closed)

pub returns-in_default : goal.returns-in_default
returns-in_default c = grind (arith, common_steps, going-bad)

pub loop-i-preserved : goal.loop-i-preserved
loop-i-preserved c = grind (arith, common_steps, going_more)

pub returns : goal.returns
returns c = grind (arith, common_steps, going_end)
