-- `table::preorder::read_table`: what the walk answers is whether the table is one. Assumes nothing.
use Rattle.std.proofs.Common.{arith}
use Rattle.std.proofs.lemmas.Grind.{common_steps}
use Rattle.table.specs.RowsLaws.{table-good, table-bad}
use Rattle.table.proofs.preorder.read_table.Goals as goal

pub returns : goal.returns
returns c = grind (arith, common_steps, table-good, table-bad)
