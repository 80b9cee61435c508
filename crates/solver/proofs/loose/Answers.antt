-- `loose` meets its contract: by its test, the lengths at once or after the loop. Assumes nothing.
use lib.Ieee.{of_bits}
use Rattle.solver.proofs.Solves.{begun-free, begun-still, begun-ran}
use Rattle.solver.proofs.loose.Goals as goal

pub returns-then-sums : goal.returns-then-sums
unfolding of_bits
returns-then-sums c =
    let a = c.args in
    begun-still a.total a.sums.shares a.kids.shares.now a.kids.minima.now _ a.kids.count c.requires.some a.kids.few a.kids.shares_long a.kids.minima_long c.requires.summed c.parts.ensures a.sums.minima c.if-sums.true

pub run-requires : goal.run-requires
run-requires c =
    let a = c.args in
    begun-free a.total a.sums.shares a.kids.shares.now a.kids.minima.now _ a.kids.count c.requires.some a.kids.few a.kids.shares_long a.kids.minima_long c.requires.summed c.parts.ensures

pub returns-else-sums : goal.returns-else-sums
unfolding of_bits
returns-else-sums c =
    let a = c.args in
    begun-ran a.total a.sums.shares a.kids.shares.now a.kids.minima.now _ a.kids.count c.requires.some a.kids.few a.kids.shares_long a.kids.minima_long c.requires.summed c.parts.ensures a.sums.minima c.if-sums.false _ c.run.result c.run.ensures
