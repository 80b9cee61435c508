-- `wire::input::count_cases`: no more agree than were read, and the reader only goes on. Assumes nothing.
use Rattle.std.proofs.Common.{◌≤◌}
use Rattle.wire.specs.Passing.{Passes}
use Rattle.wire.proofs.input.count_cases.Given as goal

abbrev pub invariant-loop-i : goal.invariant-loop-i
invariant-loop-i g l = (l.agreed ≤ l._i) × Passes (g.R.Read.remaining l.fn.input) (g.R.Read.remaining l.input)
