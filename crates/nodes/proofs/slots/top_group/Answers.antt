-- `nodes::slots::top_group` meets its contract. Assumes nothing.
use borrow.Author.Tests.{le-ltb}
use mathlib.Core.List.{[]}
use native.Mathlib.Omega.{arith}
use Rattle.rules.specs.Tree.{tabs}
use Rattle.rules.specs.declared.model.TabBarPlacement.TheVariants.{Top}
use Rattle.rules.specs.declared.model.Kind.TheVariants.{Tabs}
use Rattle.lists.specs.Build.{exactly-push}
use Rattle.nodes.proofs.SlotLaws.{bare-view, bare-whole}
use mathlib.Core.Path.{ap, ◌∙◌}
use Rattle.nodes.proofs.slots.top_group.Goals as goal

pub returns : goal.returns
returns c =
    let k = c.bare_slot-s.ensures in
    let e = c.empty-none.ensures in
    let o = exactly-push _ _ _ _ _ _ [] e (omega (arith, e.size)) c.push-panes.ensures in
    (bare-view _ (Tabs Top) k ∙ ap (tabs Top 0) o.list, bare-whole _ (Tabs Top) k ∙ le-ltb 16 _ o.few)
