-- `kids::hold_all` meets its contract: the first i are held and counted, and the rest are as they were. Assumes nothing.
use Rattle.loops.proofs.Work.{Holding}
use Rattle.loops.proofs.kids.hold_all.Given as goal

abbrev pub invariant-loop-i : goal.invariant-loop-i
invariant-loop-i l = Holding l.kids.shares.now l.kids.minima.now l.initial.sizes l.initial.fixed l.kids.count l.sizes l.fixed l.run l.i
