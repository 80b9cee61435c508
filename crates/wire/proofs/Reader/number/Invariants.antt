-- `wire::Reader::number` only reads on. Assumes nothing.
use Rattle.std.proofs.Common.{◌≤◌, length}
use Rattle.wire.proofs.Reader.number.Given as goal

abbrev pub invariant-loop-k : goal.invariant-loop-k
invariant-loop-k l = length l.self.rest.now ≤ length l.fn.self.rest.now
