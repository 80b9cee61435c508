-- `streaming::tabs::bar_all`: nothing, or the bar and its tabs. Assumes nothing.
use mathlib.Core.Path.{ap}
use Rattle.rules.specs.Tree.{same_placement}
use Rattle.rules.specs.declared.model.TabBarPlacement.{TabBarPlacement}
use Rattle.rules.specs.declared.model.TabBarPlacement.TheVariants.{Hidden}
use Rattle.streaming.specs.Stream.{stream}
use Rattle.streaming.proofs.Laws.{not-hidden, bar-none, bar-some}
use Rattle.streaming.proofs.tabs.bar_all.Goals as goal

pub returns-in-Hidden : goal.returns-in-Hidden
returns-in-Hidden c =
    let a = c.args in
    bar-none a.group a.placement a.bar a.active a.panes.now (same_placement a.placement Hidden) (stream a.items.now a.rects.now a.n)
    (ap (λ (b : TabBarPlacement). same_placement b Hidden) c.in-Hidden.is)

pub returns : goal.returns
returns c =
    let a = c.args in
    bar-some a.group a.placement a.bar a.active a.panes.now (same_placement a.placement Hidden) (stream a.items.now a.rects.now a.n)
    (stream c.push_entry-m.new.items c.push_entry-m.new.rects c.push_entry-m.result) (stream c.tab_all.new.items c.tab_all.new.rects c.tab_all.result)
    (not-hidden a.placement c.in_default.not-Hidden) c.push_entry-m.ensures c.tab_all.ensures
