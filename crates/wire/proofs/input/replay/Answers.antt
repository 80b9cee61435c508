-- The word, the number and the cases each take the reader further on.
use Rattle.wire.proofs.Passing.{passes-more}
use Rattle.wire.proofs.input.replay.Goals as goal

pub returns-in_err-cases-clause-passes : goal.returns-in_err-cases-clause-passes
returns-in_err-cases-clause-passes g c = passes-more _ _ _ c.skip_magic.ensures.passes c.number_in.ensures.passes

pub returns-in_err-agreed-clause-passes : goal.returns-in_err-agreed-clause-passes
returns-in_err-agreed-clause-passes g c =
    passes-more _ _ _ (passes-more _ _ _ c.skip_magic.ensures.passes c.number_in.ensures.passes) c.count_cases.ensures.passes

pub returns-clause-passes : goal.returns-clause-passes
returns-clause-passes g c =
    passes-more _ _ _ (passes-more _ _ _ c.skip_magic.ensures.passes c.number_in.ensures.passes) c.count_cases.ensures.passes
