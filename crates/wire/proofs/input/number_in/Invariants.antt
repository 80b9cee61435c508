-- `wire::input::number_in`: the reader only goes on. Assumes nothing.
use Rattle.wire.specs.Passing.{Passes}
use Rattle.wire.proofs.input.number_in.Given as goal

abbrev pub invariant-loop-k : goal.invariant-loop-k
invariant-loop-k g l = Passes (g.R.Read.remaining l.fn.input) (g.R.Read.remaining l.input)
