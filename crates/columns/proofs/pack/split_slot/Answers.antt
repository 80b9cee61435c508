-- `columns::pack::split_slot` fills the fields that a split uses. Assumes nothing.
use mathlib.Core.Path.{refl}
use Rattle.columns.specs.PackLaws.{split-made}
use Rattle.columns.proofs.pack.split_slot.Goals as goal

pub returns : goal.returns
returns c =
    let a = c.args in
    split-made _ a.h a.row a.shares a.minima c.axis_of-axis.result c.bare_slot-s.ensures c.axis_of-axis.ensures c.tiles_of-at.ensures refl refl refl refl refl
