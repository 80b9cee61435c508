-- `util::minima::kept` passes zeros from the end. Assumes nothing.
use Rattle.rules.specs.Tree.{reals}
use Rattle.util.specs.Entries.{Cutting}
use Rattle.util.proofs.minima.kept.Given as goal

abbrev pub invariant-loop-n : goal.invariant-loop-n
invariant-loop-n l = Cutting (reals l.minima) l.n
