-- `kids::spread_all` meets its contract: the first i are spread, and the rest are as they were. Assumes nothing.
use Rattle.rules.specs.Solver.{spread}
use Rattle.loops.proofs.Work.{Working}
use Rattle.loops.proofs.kids.spread_all.Given as goal

abbrev pub invariant-loop-i : goal.invariant-loop-i
invariant-loop-i l = Working (spread l.room l.flex) l.kids.shares.now l.kids.minima.now l.initial.sizes l.fixed l.sizes l.fixed l.i
