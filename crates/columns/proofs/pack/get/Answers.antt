-- `columns::pack::get` makes the slot of its row. Assumes nothing.
use mathlib.Core.Path.{sym, ◌∙◌}
use Rattle.columns.specs.ColumnLaws.{nodes-at}
use Rattle.columns.proofs.pack.get.Goals as goal

pub returns : goal.returns
returns c =
    let x = c.args in
    let e = c.slot_of.ensures in
    (e.0 ∙ sym (nodes-at x.heads.now x.ids.now x.shares.now x.minima.now c.told-heads c.told-ids c.told-shares c.told-minima x.i), e.1)
