-- `passes::run` meets its contract: the invariant says what is left to run. Assumes nothing.
use Prim.Native.Nat.{◌-◌}
use Rattle.solver.proofs.Runs.{Running}
use Rattle.solver.proofs.passes.run.Given as goal

abbrev pub invariant-loop-earlier : goal.invariant-loop-earlier
invariant-loop-earlier l = Running l.total l.kids.count l.kids.shares.now l.kids.minima.now l.initial.sizes l.sizes l.fixed l.earlier (l.kids.count - l.earlier)
