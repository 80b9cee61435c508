-- `columns::modes::axis_of`: any number but 0 is vertical. Assumes nothing.
use Rattle.columns.specs.PackLaws.{axis-other}
use borrow.Author.Rules.{rules}
use Rattle.columns.proofs.modes.axis_of.Goals as goal

pub returns-in_default : goal.returns-in_default
returns-in_default c = axis-other c.args.mode (search rules)
