-- `tabbing::groups::reordered` meets its contract. Assumes nothing.
use native.Mathlib.Omega.{arith}
use mathlib.Core.Path.{refl}
use Rattle.nodes.proofs.SlotLaws.{tabs-few, tabs-place}
use Rattle.nodes.proofs.GroupLaws.{group-kind, reorder-places, reordered-is}
use Rattle.tabbing.proofs.groups.reordered.Goals as goal

pub remove-left-requires : goal.remove-left-requires
remove-left-requires c =
    let s = c.args.s in
    (omega arith, group-kind s c.requires.group (λ b e. (tabs-place s b e c.args.from c.requires.inside, tabs-few s b e c.requires.whole)))

pub insert-moved-requires : goal.insert-moved-requires
insert-moved-requires c =
    let x = c.args in
    (omega arith, group-kind x.s c.requires.group (λ b e. reorder-places x.s b e x.from x.to c.remove-left.result c.requires.whole c.requires.inside c.requires.lands c.remove-left.ensures))

pub kept_active-active-requires : goal.kept_active-active-requires
kept_active-active-requires c =
    let s = c.args.s in
    group-kind s c.requires.group (λ b e. record { few = tabs-few s b e c.requires.whole; few_moved = c.insert-moved.ensures.few })

pub returns : goal.returns
returns c =
    let x = c.args in
    group-kind x.s c.requires.group (λ b e. reordered-is x.s b e _ refl x.pane x.from x.to c.remove-left.result c.remove-left.ensures c.insert-moved.ensures c.kept_active-active.ensures)
