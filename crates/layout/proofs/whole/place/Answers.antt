-- `layout::whole::place`: the columns of a sound arena, walked. Assumes nothing.
use Rattle.layout.proofs.WholeLaws.{begun}
use Rattle.layout.proofs.whole.place.Goals as goal

pub layout_tile-requires : goal.layout_tile-requires
layout_tile-requires c =
    let x = c.args in
    begun x.root 0 x.heads.now x.ids.now x.shares.now x.minima.now c.requires.plain c.root_row.ensures c.requires.sound

pub returns : goal.returns
returns c = c.layout_tile.ensures
