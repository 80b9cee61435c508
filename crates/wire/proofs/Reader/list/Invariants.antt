-- `wire::Reader::list` only reads on. Assumes nothing.
use Rattle.std.proofs.Common.{◌≡◌, ◌≤◌, length}
use Rattle.wire.proofs.Reader.list.Given as goal

abbrev pub invariant-loop-i : goal.invariant-loop-i
invariant-loop-i g l = (length l.at ≡ 16) × (length l.self.rest.now ≤ length l.fn.self.rest.now)
