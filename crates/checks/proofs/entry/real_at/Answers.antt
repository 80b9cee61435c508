-- `checks::entry::real_at`: eight bytes, decoded, are the i-th real. Assumes nothing.
use Rattle.std.proofs.Common.{arith}
use Rattle.std.proofs.lemmas.Grind.{common_steps}
use Rattle.checks.specs.Entries.{real-entry}
use Rattle.checks.proofs.entry.real_at.Goals as goal

pub returns : goal.returns
returns c = grind (arith, common_steps, real-entry)
