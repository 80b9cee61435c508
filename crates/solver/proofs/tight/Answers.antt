-- `tight` meets its contract, by its test. Assumes nothing.
use mathlib.Core.Path.{◌≡◌}
use native.Mathlib.Omega.{arith}
use lib.ListN.{length, take}
use lib.Seq.{length-take-le}
use lib.Ieee.{of_bits}
use Rattle.solver.proofs.Solves.{tight-even}
use Rattle.solver.proofs.tight.Goals as goal

pub returns-else-least : goal.returns-else-least
unfolding of_bits
returns-else-least c =
    let a = c.args in
    let l : length (take a.n a.minima.now) ≡ a.n = length-take-le a.n a.minima.now (omega arith) in
    tight-even a.total a.least a.n (take a.n a.minima.now) _ c.if-least.false l c.whole.result c.whole.ensures c.even.ensures
