-- `compare::same::same_real`: a number that equals itself is no NaN, so that it has bits. Assumes nothing.
use Rattle.compare.proofs.Bits.{no_nan, two-numbers, number-and-nan, nan-first}
use Rattle.compare.proofs.same.same_real.Goals as goal

pub float_to_bits-result : goal.float_to_bits-result
float_to_bits-result c = no_nan c.args.x c.if-x.true

pub float_to_bits-result-then-y : goal.float_to_bits-result-then-y
float_to_bits-result-then-y c = no_nan c.args.y c.if-y.true

pub returns-then-y : goal.returns-then-y
returns-then-y c = two-numbers c.args.x c.args.y c.if-x.true c.if-y.true

pub returns-then-x : goal.returns-then-x
returns-then-x c = number-and-nan c.args.x c.args.y c.if-x.true c.if-y.false

pub returns : goal.returns
returns c = nan-first c.args.x c.args.y c.if-x.false
