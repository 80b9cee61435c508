-- `ops::finish::number_of` gives the first of the free slots, or 64. Assumes nothing.
use mathlib.Core.Path.{sym, ◌∙◌}
use Rattle.ops.proofs.WholeLaws.{number-none, number-some}
use Rattle.ops.proofs.finish.number_of.Goals as goal

pub returns-in-Some : goal.returns-in-Some
returns-in-Some c = λ free q. number-some _ free (sym c.in-Some.is ∙ q)

pub returns-in-None : goal.returns-in-None
returns-in-None c = λ free q. number-none free (sym c.in-None.is ∙ q)
