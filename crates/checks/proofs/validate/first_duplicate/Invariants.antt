-- `checks::validate::first_duplicate`: each pane is looked for among those before it. Assumes nothing.
use Rattle.checks.specs.CheckLaws.{Fresh}
use Rattle.checks.proofs.validate.first_duplicate.Given as goal

abbrev pub invariant-loop-k : goal.invariant-loop-k
invariant-loop-k l = Fresh l.panes l.p l.n l.k
