-- `placing::input::thickness_ok`: both comparisons. Assumes nothing.
use lib.Ieee.{of_bits}
use Rattle.placing.proofs.PlaceLaws.{and-on, and-off}
use Rattle.placing.proofs.input.thickness_ok.Goals as goal

pub returns-then-x : goal.returns-then-x
unfolding of_bits
returns-then-x c = and-on c.if-x.true

pub returns-else-x : goal.returns-else-x
unfolding of_bits
returns-else-x c = and-off c.if-x.false _
