-- `lists::remove` fills a fresh list. Assumes nothing.
use Rattle.rules.specs.Lists.{remove_at}
use Rattle.rules.specs.Tree.{listed}
use Rattle.lists.specs.Build.{Building}
use Rattle.lists.proofs.remove.Given as goal

abbrev pub invariant-loop-j : goal.invariant-loop-j
invariant-loop-j g l = Building g.T.Blank.blank (remove_at l.p (listed l.l)) l.n l.j l.at
