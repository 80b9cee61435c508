-- `lists::position` passes one entry after another until one is the one looked for. Assumes nothing.
use Rattle.rules.specs.Tree.{listed}
use Rattle.lists.specs.Find.{Passed}
use Rattle.lists.proofs.position.Given as goal

abbrev pub invariant-loop-i : goal.invariant-loop-i
invariant-loop-i g l = Passed (g.T.PartialEq.eq l.x) (listed l.l) l.i
