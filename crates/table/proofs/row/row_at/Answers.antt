-- `table::row::row_at`: the five numbers of a row are those of its eight bytes, and three of them have 16 bits. Assumes nothing.
use Rattle.std.proofs.Common.{arith}
use Rattle.table.specs.RowLaws.{row_read}
use Rattle.table.proofs.row.row_at.Goals as goal

pub returns : goal.returns
returns c = search (arith, row_read)
