-- `laying::tiles::handle_after`: a handle or nothing. Assumes nothing.
use Rattle.rules.specs.Tree.{tile}
use Rattle.streaming.specs.Stream.{stream}
use Rattle.streaming.proofs.Laws.{handle-yes, handle-no}
use Rattle.laying.proofs.tiles.handle_after.Goals as goal

pub returns-then-not-more : goal.returns-then-not-more
returns-then-not-more c =
    let a = c.args in
    handle-no a.more (tile a.id) a.index a.axis a.rect (stream a.items.now a.rects.now a.n) c.if-not-more.true

pub returns : goal.returns
returns c =
    let a = c.args in
    handle-yes a.more (tile a.id) a.index a.axis a.rect (stream a.items.now a.rects.now a.n) (stream c.push_entry.new.items c.push_entry.new.rects c.push_entry.result) c.if-not-more.false c.push_entry.ensures
