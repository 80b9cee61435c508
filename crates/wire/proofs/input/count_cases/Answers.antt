-- Each case takes the reader further on.
use Rattle.std.proofs.Common.{rules}
use Rattle.wire.proofs.Passing.{passes-more}
use Rattle.wire.proofs.input.count_cases.Goals as goal

pub returns-in_err-n-clause-passes : goal.returns-in_err-n-clause-passes
returns-in_err-n-clause-passes g c = passes-more _ _ _ c.loop-i.invariant.1 c.body_in.ensures.passes

pub loop-i-preserved : goal.loop-i-preserved
loop-i-preserved g c = (search rules, passes-more _ _ _ c.loop-i.invariant.1 c.body_in.ensures.passes)
