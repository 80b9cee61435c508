-- `streaming::tabs::tab_all`: what is left of the tabs. Assumes nothing.
use lib.ListN.{length}
use Rattle.rules.specs.Tabs.{tab_rects}
use Rattle.rules.specs.Frame.{tabs_from}
use Rattle.streaming.specs.Stream.{stream, push_all}
use Rattle.streaming.proofs.Laws.{tabs-more, tabs-done}
use Rattle.streaming.proofs.tabs.tab_all.Goals as goal

pub loop-index-preserved : goal.loop-index-preserved
loop-index-preserved c =
    let a = c.args in
    let l = c.loop-index in
    tabs-more a.group a.placement a.bar a.active a.panes.now l.index c.tab_rect.result (stream l.items l.rects l.m)
    (stream c.push_entry-m.new.items c.push_entry-m.new.rects c.push_entry-m.result)
    (push_all (tabs_from a.group a.active 0 a.panes.now (tab_rects a.bar a.placement (length a.panes.now))) (stream a.items.now a.rects.now a.n))
    c.loop-index-test.true c.tab_rect.ensures c.push_entry-m.ensures l.invariant

pub returns : goal.returns
returns c =
    let a = c.args in
    let l = c.loop-index in
    tabs-done a.group a.placement a.bar a.active a.panes.now l.index (stream l.items l.rects l.m)
    (push_all (tabs_from a.group a.active 0 a.panes.now (tab_rects a.bar a.placement (length a.panes.now))) (stream a.items.now a.rects.now a.n))
    c.loop-index-test.false l.invariant
