-- `given::read_all` meets its contract: the first i are read. Assumes nothing.
use Rattle.loops.proofs.Reading.{Reading}
use Rattle.loops.proofs.given.read_all.Given as goal

abbrev pub invariant-loop-i : goal.invariant-loop-i
invariant-loop-i l = Reading l.n l.shares l.minima l.initial.least l.least l.share_above l.share_below l.minimum_above l.minimum_below l.share_sum l.min_total l.i
