-- `build::slot::children_of`: the numbers that fill the list. Assumes nothing.
use Rattle.std.proofs.Common.{◌+◌, ◌*◌, get_or}
use Rattle.rules.specs.Tree.{tile}
use Rattle.build.proofs.slot.children_of.Given as goal

abbrev pub ghost-filled : goal.ghost-filled
ghost-filled a = λ j. tile (get_or a.entry.0.now (16 * a.entry.1.now + j) 0)
