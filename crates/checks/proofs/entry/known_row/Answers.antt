-- `checks::entry::known_row`: a row that was read is the i-th. Assumes nothing.
use Rattle.std.proofs.Common.{arith}
use Rattle.std.proofs.lemmas.Grind.{common_steps}
use Rattle.checks.specs.Entries.{row-entry}
use Rattle.checks.proofs.entry.known_row.Goals as goal

pub returns : goal.returns
returns c = grind (arith, common_steps, row-entry)
