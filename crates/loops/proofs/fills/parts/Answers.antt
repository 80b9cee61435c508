-- `fills::parts` meets its contract: the first i are parts, and the rest zeros. Assumes nothing.
use mathlib.Core.List.{map}
use Prim.Native.Nat.{ℕ}
use native.Mathlib.Omega.{arith}
use lib.ListN.{take}
use lib.Ieee.{Float}
use Rattle.rules.specs.Solver.{part}
use Rattle.loops.proofs.Filling.{padded-end}
use Rattle.loops.proofs.fills.parts.Goals as goal

pub returns : goal.returns
returns c =
    let a = c.args in
    padded-end (λ (j : ℕ). map (λ (x : Float). part a.total x a.whole) (take j a.xs.now)) c.loop-i.lengths a.n c.loop-i.i c.loop-i-test.false (omega arith) c.loop-i.invariant
