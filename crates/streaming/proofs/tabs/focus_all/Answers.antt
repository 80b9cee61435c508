-- `streaming::tabs::focus_all`: what is left of the panes. Assumes nothing.
use Rattle.rules.specs.Frame.{focus_items}
use Rattle.streaming.specs.Stream.{stream, push_all}
use Rattle.streaming.proofs.Laws.{focus-more, focus-done}
use Rattle.streaming.proofs.tabs.focus_all.Goals as goal

pub loop-pane-preserved : goal.loop-pane-preserved
loop-pane-preserved c =
    let a = c.args in
    let l = c.loop-pane in
    focus-more a.panes.now l.pane-index (stream l.items l.rects l.m) (stream c.push_entry-m.new.items c.push_entry-m.new.rects c.push_entry-m.result)
    (push_all (focus_items a.panes.now) (stream a.items.now a.rects.now a.n)) c.loop-pane-test.true c.push_entry-m.ensures l.invariant

pub returns : goal.returns
returns c =
    let a = c.args in
    let l = c.loop-pane in
    focus-done a.panes.now l.pane-index (stream l.items l.rects l.m) (push_all (focus_items a.panes.now) (stream a.items.now a.rects.now a.n)) c.loop-pane-test.false l.invariant
