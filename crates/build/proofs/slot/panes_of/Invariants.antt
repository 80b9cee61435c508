-- `build::slot::panes_of`: the panes that fill the list. Assumes nothing.
use Rattle.std.proofs.Common.{◌+◌, get_or}
use Rattle.table.specs.Rows.{panes_at}
use Rattle.build.proofs.slot.panes_of.Given as goal

abbrev pub ghost-filled : goal.ghost-filled
ghost-filled a = λ j. get_or (panes_at a.entry.0.now a.entry.1) (a.entry.2 + j) 0
