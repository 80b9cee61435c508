-- `wire::Reader::tree_after` only reads on. Assumes nothing.
use Rattle.std.proofs.Common.{◌≡◌, ◌≤◌, length}
use Rattle.wire.proofs.Reader.tree_after.Given as goal

abbrev pub invariant-loop : goal.invariant-loop
invariant-loop l = (length l.slots ≡ 64) × (length l.self.rest.now ≤ length l.fn.self.rest.now)
