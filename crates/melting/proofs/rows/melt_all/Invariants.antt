-- `melting::rows::melt_all` pushes each child of the split that is melted in. Assumes nothing.
use Rattle.rules.specs.Tree.{ids, reals}
use Rattle.melting.proofs.SplitLaws.{zipped, Melted}
use Rattle.melting.proofs.rows.melt_all.Given as goal

abbrev pub invariant-loop-j : goal.invariant-loop-j
invariant-loop-j l = Melted l.initial.cs l.initial.ss l.initial.ms l.n (zipped (ids l.children) (reals l.shares) (reals l.minima)) l.share l.cs l.ss l.ms l.j
