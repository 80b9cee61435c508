-- `checks::entry::pane_at`: eight bytes are the i-th pane. Assumes nothing.
use Rattle.std.proofs.Common.{arith}
use Rattle.std.proofs.lemmas.Grind.{common_steps}
use Rattle.checks.specs.Entries.{number-entry}
use Rattle.checks.proofs.entry.pane_at.Goals as goal

pub returns : goal.returns
returns c = grind (arith, common_steps, number-entry)
