-- `nodes::targets::validate_target` goes by the target. Assumes nothing.
use mathlib.Core.Path.{sym, ap, ◌∙◌}
use Rattle.rules.specs.Target.{existing, a_group, validate_target}
use Rattle.columns.specs.Columns.{nodes_from}
use Rattle.nodes.proofs.SlotLaws.{ratio-good, ratio-bad, target-root, target-group}
use Rattle.nodes.proofs.targets.validate_target.Goals as goal

pub returns-then-is_valid_split_fraction : goal.returns-then-is_valid_split_fraction
returns-then-is_valid_split_fraction c =
    let x = c.args in
    let ns = nodes_from x.heads.now x.ids.now x.shares.now x.minima.now in
    c.is_there.ensures ∙ ap existing c.get_node-s.ensures.0 ∙ ratio-good ns _ _ _ _ (sym c.is_valid_split_fraction.ensures ∙ c.if-is_valid_split_fraction.true) ∙ ap (validate_target ns) (sym c.in-Split.is)

pub returns-in-Root : goal.returns-in-Root
returns-in-Root c =
    let x = c.args in
    let ns = nodes_from x.heads.now x.ids.now x.shares.now x.minima.now in
    target-root ns ∙ ap (validate_target ns) (sym c.in-Root.is)

pub returns-else-is_valid_split_fraction : goal.returns-else-is_valid_split_fraction
returns-else-is_valid_split_fraction c =
    let x = c.args in
    let ns = nodes_from x.heads.now x.ids.now x.shares.now x.minima.now in
    ratio-bad ns _ _ _ _ (sym c.is_valid_split_fraction.ensures ∙ c.if-is_valid_split_fraction.false) ∙ ap (validate_target ns) (sym c.in-Split.is)

pub returns-in-TabInto : goal.returns-in-TabInto
returns-in-TabInto c =
    let x = c.args in
    let ns = nodes_from x.heads.now x.ids.now x.shares.now x.minima.now in
    c.is_group.ensures ∙ ap a_group c.get_node-s-in-TabInto.ensures.0 ∙ target-group ns _ _ ∙ ap (validate_target ns) (sym c.in-TabInto.is)
