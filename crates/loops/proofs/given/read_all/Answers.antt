-- `given::read_all` meets its contract: the first i are read. Assumes nothing.
use lib.Ieee.{of_bits}
use Rattle.loops.proofs.Reading.{reading-on, reading-good, reading-bad}
use Rattle.loops.proofs.given.read_all.Goals as goal

pub loop-i-preserved : goal.loop-i-preserved
unfolding of_bits
loop-i-preserved c =
    let a = c.args in
    reading-on a.n a.shares.now a.minima.now a.least.now c.requires c.told-shares c.told-minima c.told-least c.loop-i.least c.loop-i.share_above c.loop-i.share_below c.loop-i.minimum_above c.loop-i.minimum_below c.loop-i.share_sum c.loop-i.min_total c.loop-i.i c.loop-i.invariant
    c.loop-i-test.true c.plus_zero-plain.result c.plus_zero-plain.ensures

pub returns-then-share_above-share_below : goal.returns-then-share_above-share_below
returns-then-share_above-share_below c =
    let a = c.args in
    reading-good a.n a.shares.now a.minima.now a.least.now c.requires c.told-shares c.told-minima c.told-least c.loop-i.least c.loop-i.share_above c.loop-i.share_below c.loop-i.minimum_above c.loop-i.minimum_below c.loop-i.share_sum c.loop-i.min_total c.loop-i.i c.loop-i.invariant c.loop-i-test.false c.if-share_above-share_below.true

pub returns-else-share_above-share_below : goal.returns-else-share_above-share_below
returns-else-share_above-share_below c =
    let a = c.args in
    reading-bad a.n a.shares.now a.minima.now a.least.now c.requires c.told-shares c.told-minima c.told-least c.loop-i.least c.loop-i.share_above c.loop-i.share_below c.loop-i.minimum_above c.loop-i.minimum_below c.loop-i.share_sum c.loop-i.min_total c.loop-i.i c.loop-i.invariant c.loop-i-test.false c.if-share_above-share_below.false
