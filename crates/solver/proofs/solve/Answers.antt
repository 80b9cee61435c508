-- `solve` meets its contract: `solve_into` of both lists, and a list of zeros. Assumes nothing.
use lib.Ieee.{of_bits}
use Rattle.solver.proofs.Solves.{into-value}
use Rattle.solver.proofs.solve.Goals as goal

pub returns : goal.returns
unfolding of_bits
returns c =
    let a = c.args in
    let w = into-value a.total a.shares a.minima _ c.solve_into-d.result c.solve_into-d.ensures in
    record { result_value = w.0; clear = w.1 }
