-- `tiling_c::lay` tells what the layout answered. Assumes nothing.
use Rattle.columns.specs.Shown.{arena_from}
use Rattle.tiling_c.proofs.CallLaws.{lays}
use Rattle.tiling_c.proofs.lay.Goals as goal

pub returns : goal.returns
returns c =
    let a = c.args in
    lays (arena_from a.root a.revision a.heads.now a.ids.now a.shares.now a.minima.now) a.given a.items.now a.rects.now _ _ c.layout_columns-d.result _ c.tell.result c.layout_columns-d.ensures c.tell.ensures
