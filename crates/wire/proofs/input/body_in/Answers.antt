-- The length takes the reader further on, and the body further still.
use Rattle.wire.proofs.Passing.{passes-more}
use Rattle.wire.proofs.input.body_in.Goals as goal

pub returns-clause-passes : goal.returns-clause-passes
returns-clause-passes g c = passes-more _ _ _ c.number_in.ensures.passes c.read_full.ensures.passes
