-- `build::slot::reals_of`: the reals that fill the list. Assumes nothing.
use Rattle.std.proofs.Common.{◌+◌, get_or}
use Rattle.rules.specs.Numbers.{zero-f}
use Rattle.table.specs.Rows.{reals_at}
use Rattle.build.proofs.slot.reals_of.Given as goal

abbrev pub ghost-filled : goal.ghost-filled
ghost-filled a = λ j. get_or (reals_at a.entry.0.now a.entry.1) (a.entry.2 + j) zero-f
