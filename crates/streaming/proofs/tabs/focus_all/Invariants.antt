-- `streaming::tabs::focus_all`: what is left of the panes. Assumes nothing.
use mathlib.Core.Path.{◌≡◌}
use lib.ListN.{drop}
use Rattle.rules.specs.Frame.{focus_items}
use Rattle.streaming.specs.Stream.{stream, push_all}
use Rattle.streaming.proofs.tabs.focus_all.Given as goal

abbrev pub invariant-loop-pane : goal.invariant-loop-pane
invariant-loop-pane l =
    push_all (focus_items (drop l.pane-index l.panes)) (stream l.items l.rects l.m) ≡ push_all (focus_items l.panes) (stream l.initial.items l.initial.rects l.n)
