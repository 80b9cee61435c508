-- `reader::bytes::pair`: std's number of two bytes is the rules'. Assumes nothing.
use Rattle.std.proofs.Common.{arith}
use Rattle.reader.specs.Bytes.{pair-read}
use Rattle.reader.proofs.bytes.pair.Goals as goal

pub returns : goal.returns
returns c = grind (arith, pair-read)
