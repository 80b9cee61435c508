-- `changing::operations::insert_tile_at_target` goes by the target. Assumes nothing.
use mathlib.Core.Path.{refl, sym, ap, ◌∙◌}
use mathlib.Core.List.{[], ◌∷◌}
use Rattle.rules.specs.Tree.{Node, view_slot, pane, tabs}
use Rattle.rules.specs.Insert.{draft, beside}
use Rattle.rules.specs.declared.operation.DockTarget.{DockTarget}
use Rattle.rules.specs.declared.model.Axis.TheVariants.{Horizontal}
use Rattle.rules.specs.declared.model.Placement.TheVariants.{After}
use Rattle.rules.specs.declared.model.TabBarPlacement.TheVariants.{Top}
use Rattle.columns.specs.Columns.{nodes_from}
use Rattle.docking.specs.Steps.{always}
use Rattle.changing.proofs.OpLaws.{steps-like, fits-new, root-target, a_half}
use Rattle.rules.specs.Operations as Rule
use Rattle.changing.proofs.operations.insert_tile_at_target.Goals as goal

pub put_near-requires : goal.put_near-requires
put_near-requires c =
    let x = c.args in
    let (a, T) = c.requires.from in
    record { even = c.requires.even; whole = c.top_group-new.ensures.1; from = (a, (fits-new x.root x.room (nodes_from x.heads.now x.ids.now x.shares.now x.minima.now) (view_slot c.top_group-new.result) (tabs Top 0 (x.pane ∷ [])) a c.top_group-new.ensures.0 refl T)) }

pub put_near-requires-in-Split : goal.put_near-requires-in-Split
put_near-requires-in-Split c =
    let x = c.args in
    let (a, T) = c.requires.from in
    record { even = c.requires.even; whole = c.pane_slot-new.ensures.1; from = (a, (fits-new x.root x.room (nodes_from x.heads.now x.ids.now x.shares.now x.minima.now) (view_slot c.pane_slot-new.result) (pane x.pane) a c.pane_slot-new.ensures.0 refl T)) }

pub returns-in-Root : goal.returns-in-Root
returns-in-Root c =
    let x = c.args in
    record {
      even = c.put_near.ensures.even;
      steps = λ a T. steps-like a (Rule.insert_tile_at_target a x.pane x.target (draft a.root (nodes_from x.heads.now x.ids.now x.shares.now x.minima.now))) _ (always c.put_near.result) _
          (ap (λ (d : DockTarget). Rule.insert_tile_at_target a x.pane d (draft a.root (nodes_from x.heads.now x.ids.now x.shares.now x.minima.now))) c.in-Root.is ∙ (λ z. Rule.put_near a (sym c.top_group-new.ensures.0 z) (beside (sym (root-target x.root x.room (nodes_from x.heads.now x.ids.now x.shares.now x.minima.now) a T) z) Horizontal After (sym a_half z)) (draft a.root (nodes_from x.heads.now x.ids.now x.shares.now x.minima.now))))
          (c.put_near.ensures.steps a (fits-new x.root x.room (nodes_from x.heads.now x.ids.now x.shares.now x.minima.now) (view_slot c.top_group-new.result) (tabs Top 0 (x.pane ∷ [])) a c.top_group-new.ensures.0 refl T));
    }

pub returns-in-Split : goal.returns-in-Split
returns-in-Split c =
    let x = c.args in
    record {
      even = c.put_near-in-Split.ensures.even;
      steps = λ a T. steps-like a (Rule.insert_tile_at_target a x.pane x.target (draft a.root (nodes_from x.heads.now x.ids.now x.shares.now x.minima.now))) _ (always c.put_near-in-Split.result) _
          (ap (λ (d : DockTarget). Rule.insert_tile_at_target a x.pane d (draft a.root (nodes_from x.heads.now x.ids.now x.shares.now x.minima.now))) c.in-Split.is ∙ ap (λ (n : Node). Rule.put_near a n (beside c.in-Split.tile c.in-Split.axis c.in-Split.placement c.in-Split.ratio) (draft a.root (nodes_from x.heads.now x.ids.now x.shares.now x.minima.now))) (sym c.pane_slot-new.ensures.0))
          (c.put_near-in-Split.ensures.steps a (fits-new x.root x.room (nodes_from x.heads.now x.ids.now x.shares.now x.minima.now) (view_slot c.pane_slot-new.result) (pane x.pane) a c.pane_slot-new.ensures.0 refl T));
    }

pub returns-in-TabInto : goal.returns-in-TabInto
returns-in-TabInto c =
    let x = c.args in
    record { even = c.tab_into.ensures.even; steps = λ a T. steps-like a (Rule.insert_tile_at_target a x.pane x.target (draft a.root (nodes_from x.heads.now x.ids.now x.shares.now x.minima.now))) _ (always c.tab_into.result) _ (ap (λ (d : DockTarget). Rule.insert_tile_at_target a x.pane d (draft a.root (nodes_from x.heads.now x.ids.now x.shares.now x.minima.now))) c.in-TabInto.is) (c.tab_into.ensures.steps a T) }
