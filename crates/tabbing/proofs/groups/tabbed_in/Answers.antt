-- `tabbing::groups::tabbed_in` goes by the slot's kind. Assumes nothing.
use native.Mathlib.Omega.{arith}
use mathlib.Core.Path.{◌≡◌, refl}
use borrow.Author.Rules.{rules}
use lib.ListN.{length}
use Rattle.nodes.proofs.SlotLaws.{tabs-few}
use Rattle.nodes.proofs.GroupLaws.{roomy, tabbed}
use Rattle.tabbing.proofs.groups.tabbed_in.Goals as goal

pub insert-more-requires : goal.insert-more-requires
insert-more-requires c =
    (omega arith, (c.clamped-place.ensures.1, roomy c.args.s _ c.in-Tabs.is c.requires.roomy))

pub returns-in-Tabs : goal.returns-in-Tabs
returns-in-Tabs c =
    let x = c.args in
    let e = c.in-Tabs.is in
    let long : length x.s.panes.at ≡ 16 = search rules in
    tabbed x.s _ _ e refl x.pane x.index long (tabs-few x.s _ e c.requires.whole) c.clamped-place.ensures.0 c.clamped-place.result c.clamped-place.ensures.0 c.insert-more.ensures
