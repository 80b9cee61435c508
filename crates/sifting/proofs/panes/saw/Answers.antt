-- `sifting::panes::saw`: std's `contains` is the rules'. Assumes nothing.
use mathlib.Core.Path.{◌∙◌}
use lib.ListN.{take}
use Rattle.noting.specs.ActionLaws.{contains-listed}
use Rattle.sifting.proofs.panes.saw.Goals as goal

pub returns : goal.returns
returns c = let a = c.args in c.contains.ensures.value ∙ contains-listed a.pane (take a.n a.seen.now)
