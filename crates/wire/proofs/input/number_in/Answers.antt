-- Each byte takes the reader further on.
use Rattle.wire.proofs.Passing.{passes-more}
use Rattle.wire.proofs.input.number_in.Goals as goal

pub returns-in_err-x-clause-passes : goal.returns-in_err-x-clause-passes
returns-in_err-x-clause-passes g c = passes-more _ _ _ c.loop-k.invariant c.byte_in.ensures

pub returns-then-x-lt128-clause-passes : goal.returns-then-x-lt128-clause-passes
returns-then-x-lt128-clause-passes g c = passes-more _ _ _ c.loop-k.invariant c.byte_in.ensures

pub loop-k-preserved : goal.loop-k-preserved
loop-k-preserved g c = passes-more _ _ _ c.loop-k.invariant c.byte_in.ensures
