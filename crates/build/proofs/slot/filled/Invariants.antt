-- `build::slot::filled`: a fresh list is filled from its front. Assumes nothing.
use Rattle.rules.specs.Lists.{tabulate}
use Rattle.lists.specs.Build.{Building}
use Rattle.build.proofs.slot.filled.Given as goal

abbrev pub invariant-loop-j : goal.invariant-loop-j
invariant-loop-j g l = Building g.T.Blank.blank (tabulate g.nth l.n) l.n l.j l.at
