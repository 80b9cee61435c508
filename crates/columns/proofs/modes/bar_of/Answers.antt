-- `columns::modes::bar_of`: any number over 3 is the right side. Assumes nothing.
use Rattle.columns.specs.PackLaws.{bar-other}
use borrow.Author.Rules.{rules}
use Rattle.columns.proofs.modes.bar_of.Goals as goal

pub returns-in_default : goal.returns-in_default
returns-in_default c = bar-other c.args.mode (search rules) (search rules) (search rules) (search rules)
