-- `parting::splits::at_least` meets its contract: the number written in the code is the rule's. Assumes nothing.
use mathlib.Core.Path.{ap, ◌∙◌}
use Rattle.rules.specs.Numbers.{larger}
use Rattle.nodes.proofs.SplitLaws.{a-hundredth}
use Rattle.parting.proofs.splits.at_least.Goals as goal

pub returns : goal.returns
returns c = c.larger.ensures ∙ ap (larger c.args.x) a-hundredth
