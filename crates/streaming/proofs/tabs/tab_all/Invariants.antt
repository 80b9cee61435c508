-- `streaming::tabs::tab_all`: what is left of the tabs. Assumes nothing.
use mathlib.Core.Path.{◌≡◌}
use lib.ListN.{length, drop}
use Rattle.rules.specs.Tabs.{tab_rects}
use Rattle.rules.specs.Frame.{tabs_from}
use Rattle.streaming.specs.Stream.{stream, push_all}
use Rattle.streaming.proofs.tabs.tab_all.Given as goal

abbrev pub invariant-loop-index : goal.invariant-loop-index
invariant-loop-index l =
    push_all (tabs_from l.group l.active l.index (drop l.index l.panes) (drop l.index (tab_rects l.bar l.placement (length l.panes)))) (stream l.items l.rects l.m)
    ≡ push_all (tabs_from l.group l.active 0 l.panes (tab_rects l.bar l.placement (length l.panes))) (stream l.initial.items l.initial.rects l.n)
