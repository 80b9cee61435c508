-- `util::minima::min_major` fills a fresh list with each child's minimum. Assumes nothing.
use Rattle.rules.specs.Numbers.{zero-f}
use Rattle.rules.specs.Tree.{reals}
use Rattle.rules.specs.Minima.{min_major}
use Rattle.lists.specs.Build.{Building}
use Rattle.util.proofs.minima.min_major.Given as goal

abbrev pub invariant-loop-j : goal.invariant-loop-j
invariant-loop-j l = Building zero-f (min_major l.count (reals l.minima) l.fallback) l.count l.j l.at
