-- `checks::validate::load_panes`: each turn loads the next pane. Assumes nothing.
use Rattle.std.proofs.Common.{arith}
use Rattle.std.proofs.lemmas.Grind.{common_steps}
use Rattle.checks.specs.LoadLaws.{load-start, load-more, load-end}
use Rattle.checks.proofs.validate.load_panes.Goals as goal

pub loop-j-init : goal.loop-j-init
loop-j-init c = grind (arith, common_steps, load-start)

pub loop-j-preserved : goal.loop-j-preserved
loop-j-preserved c = grind (arith, common_steps, load-more)

pub returns : goal.returns
returns c = grind (arith, common_steps, load-end)
