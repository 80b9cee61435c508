-- `streaming::tabs::layout_tabs`: focus order, bar and tabs, then the active pane. Assumes nothing.
use mathlib.Core.Path.{ap, ◌∙◌}
use Prim.Native.Nat.{◌<◌}
use native.Mathlib.Omega.{arith}
use lib.ListN.{length, get_or, take}
use Rattle.std.proofs.lemmas.Bool.Decides.{nat_tests}
use Rattle.rules.specs.Tree.{tile}
use Rattle.rules.specs.Frame.{layout_tabs}
use Rattle.rules.specs.declared.model.TabBarPlacement.{TabBarPlacement}
use Rattle.columns.specs.Columns.{bar_from}
use Rattle.streaming.specs.Stream.{stream, push_all}
use Rattle.streaming.proofs.Laws.{group-none, group-some}
use Rattle.streaming.proofs.tabs.layout_tabs.Goals as goal

pub returns-then-is_empty : goal.returns-then-is_empty
returns-then-is_empty c =
    let a = c.args in
    let h = a.head in
    let ps = take (get_or h 4 0) a.panes in
    group-none (tile a.id) (bar_from (get_or h 1 0)) (get_or h 3 0) a.rect a.input ps (stream a.items.now a.rects.now a.n) (stream c.focus_all-m.new.items c.focus_all-m.new.rects c.focus_all-m.result)
    (grind (arith, nat_tests)) c.focus_all-m.ensures

pub returns : goal.returns
returns c =
    let a = c.args in
    let h = a.head in
    let ps = take (get_or h 4 0) a.panes in
    let active = c.active_index-active.result in
    let some : 0 < length ps = omega (arith, c.active_index-active.ensures.1) in
    let s₀ = stream a.items.now a.rects.now a.n in
    let s₁ = stream c.focus_all-m.new.items c.focus_all-m.new.rects c.focus_all-m.result in
    let s₂ = stream c.bar_all-k.new.items c.bar_all-k.new.rects c.bar_all-k.result in
    let s₃ = stream c.push_entry.new.items c.push_entry.new.rects c.push_entry.result in
    group-some (tile a.id) c.bar_of-placement.result (get_or h 3 0) a.rect a.input ps active c.split_tab_bar-b.result.bar c.split_tab_bar-b.result.pane s₀ s₁ s₂ s₃ some
    c.active_index-active.ensures.0 c.split_tab_bar-b.ensures c.focus_all-m.ensures c.bar_all-k.ensures c.push_entry.ensures
    ∙ ap (λ (x : TabBarPlacement). push_all (layout_tabs (tile a.id) x (get_or h 3 0) ps a.rect a.input) s₀) c.bar_of-placement.ensures
