-- `nodes::take::removed_from` goes by the slot's kind. Assumes nothing.
use native.Mathlib.Omega.{arith}
use Rattle.nodes.proofs.SlotLaws.{tabs-few, tabs-place, removed-is}
use mathlib.Core.Path.{refl}
use Rattle.nodes.proofs.take.removed_from.Goals as goal

pub remove-left-requires : goal.remove-left-requires
remove-left-requires c =
    let e = c.in-Tabs.is in
    (omega arith, (tabs-place c.args.s _ e c.args.index c.requires.inside, tabs-few c.args.s _ e c.requires.whole))

pub returns-in-Tabs : goal.returns-in-Tabs
returns-in-Tabs c =
    let x = c.args in
    removed-is x.s _ _ c.in-Tabs.is refl x.index c.remove-left.ensures c.active_after.ensures
