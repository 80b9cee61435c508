-- `parting::splits::split_of` meets its contract. Assumes nothing.
use mathlib.Core.Path.{◌∙◌}
use Rattle.rules.specs.Tree.{split}
use Rattle.rules.specs.declared.model.Kind.TheVariants.{Split}
use Rattle.nodes.proofs.SlotLaws.{bare-view}
use Rattle.nodes.proofs.SplitLaws.{split-whole}
use Rattle.parting.proofs.splits.split_of.Goals as goal

pub returns : goal.returns
returns c =
    let k = c.bare_slot-s.ensures in
    let t = c.two-children.ensures in
    let p = c.two-parts.ensures in
    let e = c.empty-none.ensures in
    let x = c.args.axis in
    (bare-view _ (Split x) k ∙ (λ z. split x (t.list z) (p.list z) (e.list z)), split-whole _ x k t.few p.few e.few)
