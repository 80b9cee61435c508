-- `solve_into` meets its contract: refused where the input is bad, and else the lengths of the input read with minus zero as zero. Assumes nothing.
use lib.ListN.{take}
use Rattle.solver.specs.Call.{reals_of}
use Rattle.solver.proofs.Solves.{ok-counts, into-refused, read-refused, read-accepted}
use mathlib.Core.Path.{ap}
use mathlib.Core.Bool.{not}
use Rattle.std.specs.Prelude.{is_ok}
use Rattle.solver.proofs.solve_into.Goals as goal

pub returns-then-not-counts_ok : goal.returns-then-not-counts_ok
returns-then-not-counts_ok c =
    let a = c.args in
    into-refused a.total (reals_of a.shares.now a.share_count) (reals_of a.minima.now a.minimum_count)
    (ok-counts a.share_count a.minimum_count a.total (take a.share_count a.shares.now) (take a.minimum_count a.minima.now) c.counts_ok.result c.counts_ok.ensures (ap not c.if-not-counts_ok.true)) c.refused.result c.refused.ensures a.lengths.now

pub returns-in_default : goal.returns-in_default
returns-in_default c =
    let a = c.args in
    read-refused a.total a.shares.now a.minima.now _ a.share_count a.minimum_count c.counts_ok.result c.counts_ok.ensures (ap not c.if-not-counts_ok.false) c.read_all.result c.read_all.ensures (ap is_ok c.in_default.is) c.refused-in_default.result c.refused-in_default.ensures a.lengths.now

pub returns : goal.returns
returns c =
    let a = c.args in
    read-accepted a.total a.shares.now a.minima.now _ a.share_count a.minimum_count c.counts_ok.result c.counts_ok.ensures (ap not c.if-not-counts_ok.false) c.read_all.result c.read_all.ensures (ap is_ok c.in-Ok.is) c.plus_zero.result c.plus_zero.ensures a.lengths.now _ c.solve_lent-passes.result c.solve_lent-passes.ensures
