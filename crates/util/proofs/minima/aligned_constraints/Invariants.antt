-- `util::minima::aligned_constraints` fills a fresh list with mended minima. Assumes nothing.
use Rattle.rules.specs.Numbers.{zero-f}
use Rattle.rules.specs.Tree.{reals}
use Rattle.rules.specs.Minima.{aligned_constraints}
use Rattle.lists.specs.Build.{Building}
use Rattle.util.proofs.minima.aligned_constraints.Given as goal

abbrev pub invariant-loop-j : goal.invariant-loop-j
invariant-loop-j l = Building zero-f (aligned_constraints l.count (reals l.minima)) l.count l.j l.at
