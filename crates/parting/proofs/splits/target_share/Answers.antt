-- `parting::splits::target_share` meets its contract. Assumes nothing.
use mathlib.Core.Path.{ap, ◌∙◌}
use lib.Ieee.{Float, binary64, sub}
use Rattle.rules.specs.Numbers.{larger, hundredth}
use Rattle.parting.proofs.splits.target_share.Goals as goal

pub returns : goal.returns
returns c = c.at_least.ensures ∙ ap (λ (x : Float). larger (sub binary64 c.args.old x) hundredth) c.inserted_share-inserted.ensures
