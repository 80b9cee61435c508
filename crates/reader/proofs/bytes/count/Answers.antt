-- `reader::bytes::count`: std's number of four bytes is the rules'. Assumes nothing.
use Rattle.std.proofs.Common.{arith}
use Rattle.reader.specs.Bytes.{count-read}
use Rattle.reader.proofs.bytes.count.Goals as goal

pub returns : goal.returns
returns c = grind (arith, count-read)
