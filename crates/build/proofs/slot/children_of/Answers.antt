-- `build::slot::children_of`: the numbers that fill the list. Assumes nothing.
use Rattle.std.proofs.Common.{arith, subst, List, ◌*◌}
use Rattle.rules.specs.Tree.{tile}
use Rattle.rules.specs.declared.model.TileId.{TileId}
use Rattle.lists.specs.Exact.{Exactly}
use Rattle.build.specs.SlotLaws.{part-made}
use Rattle.build.proofs.slot.children_of.Goals as goal

pub returns : goal.returns
returns c =
    let a = c.args in
    subst (λ (l : List TileId). Exactly (tile 0) c.filled.result.at c.filled.result.len l) (part-made tile a.kids.now (16 * a.i) a.n 0 (omega arith)) c.filled.ensures
