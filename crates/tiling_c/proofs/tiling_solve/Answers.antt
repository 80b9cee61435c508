-- `tiling_c::tiling_solve` tells what the solver answered. Assumes nothing.
use Rattle.rules.specs.Solver.{solve}
use Rattle.coding.specs.Lent.{reals_of}
use Rattle.tiling_c.proofs.CallLaws.{solves}
use Rattle.tiling_c.proofs.tiling_solve.Goals as goal

pub returns : goal.returns
returns c =
    let a = c.args in
    solves (solve a.total (reals_of a.shares.now a.share_count) (reals_of a.minima.now a.minimum_count)) c.solve_into-d.result a.lengths.now _ _ c.tell.result c.solve_into-d.ensures c.tell.ensures
