-- `lists::insert` fills a fresh list. Assumes nothing.
use Rattle.rules.specs.Lists.{insert_at}
use Rattle.rules.specs.Tree.{listed}
use Rattle.lists.specs.Build.{Building}
use Rattle.lists.proofs.insert.Given as goal

abbrev pub invariant-loop-j : goal.invariant-loop-j
invariant-loop-j g l = Building g.T.Blank.blank (insert_at l.p l.x (listed l.l)) l.n l.j l.at
