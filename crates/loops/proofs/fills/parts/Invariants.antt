-- `fills::parts` meets its contract: the first i are parts, and the rest zeros. Assumes nothing.
use mathlib.Core.List.{map}
use Prim.Native.Nat.{ℕ}
use lib.ListN.{take}
use lib.Ieee.{Float}
use Rattle.rules.specs.Solver.{part}
use Rattle.loops.proofs.Filling.{Filled, zeros}
use Rattle.loops.proofs.fills.parts.Given as goal

abbrev pub invariant-loop-i : goal.invariant-loop-i
invariant-loop-i l = Filled (λ (j : ℕ). map (λ (x : Float). part l.total x l.whole) (take j l.xs)) zeros l.lengths l.i
