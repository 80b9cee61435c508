-- `changing::reorder::reorder_tab` goes by the slot's kind. Assumes nothing.
use mathlib.Core.Path.{refl, ap}
use Rattle.rules.specs.Tree.{view_slot, node_of}
use Rattle.rules.specs.declared.model.Kind.{Kind}
use Rattle.rules.specs.declared.refusal.Refusal.TheVariants.{InvalidTileId}
use Rattle.columns.specs.Shown.{arena_from}
use Rattle.nodes.proofs.GroupLaws.{is-group}
use Rattle.changing.proofs.OpLaws.{steps-like, refused_as, reorder-kind}
use Rattle.rules.specs.Operations as Rule
use Rattle.changing.proofs.reorder.reorder_tab.Goals as goal

pub reorder_in-requires : goal.reorder_in-requires
reorder_in-requires c =
    let x = c.args in
    record { even = c.requires; whole = c.get_node-s.ensures.1; group = is-group c.get_node-s.result _ c.in-Tabs.is }

pub returns-in-Empty : goal.returns-in-Empty
returns-in-Empty c =
    let x = c.args in
    record { even = c.requires; steps = λ v. refused_as (arena_from x.root v x.heads.now x.ids.now x.shares.now x.minima.now) (Rule.reorder_tab (arena_from x.root v x.heads.now x.ids.now x.shares.now x.minima.now) x.group x.pane x.index) InvalidTileId (reorder-kind (arena_from x.root v x.heads.now x.ids.now x.shares.now x.minima.now) x.group x.pane x.index (view_slot c.get_node-s.result) _ c.get_node-s.ensures.0 (ap (λ (y : Kind). node_of y c.get_node-s.result) c.in-Empty.is)) }

pub returns-in-Pane : goal.returns-in-Pane
returns-in-Pane c =
    let x = c.args in
    record { even = c.requires; steps = λ v. refused_as (arena_from x.root v x.heads.now x.ids.now x.shares.now x.minima.now) (Rule.reorder_tab (arena_from x.root v x.heads.now x.ids.now x.shares.now x.minima.now) x.group x.pane x.index) InvalidTileId (reorder-kind (arena_from x.root v x.heads.now x.ids.now x.shares.now x.minima.now) x.group x.pane x.index (view_slot c.get_node-s.result) _ c.get_node-s.ensures.0 (ap (λ (y : Kind). node_of y c.get_node-s.result) c.in-Pane.is)) }

pub returns-in-Tabs : goal.returns-in-Tabs
returns-in-Tabs c =
    let x = c.args in
    record { even = c.reorder_in.ensures.even; steps = λ v. steps-like (arena_from x.root v x.heads.now x.ids.now x.shares.now x.minima.now) (Rule.reorder_tab (arena_from x.root v x.heads.now x.ids.now x.shares.now x.minima.now) x.group x.pane x.index) _ c.reorder_in.result _ (reorder-kind (arena_from x.root v x.heads.now x.ids.now x.shares.now x.minima.now) x.group x.pane x.index (view_slot c.get_node-s.result) (view_slot c.get_node-s.result) c.get_node-s.ensures.0 refl) (c.reorder_in.ensures.steps v) }

pub returns-in-Split : goal.returns-in-Split
returns-in-Split c =
    let x = c.args in
    record { even = c.requires; steps = λ v. refused_as (arena_from x.root v x.heads.now x.ids.now x.shares.now x.minima.now) (Rule.reorder_tab (arena_from x.root v x.heads.now x.ids.now x.shares.now x.minima.now) x.group x.pane x.index) InvalidTileId (reorder-kind (arena_from x.root v x.heads.now x.ids.now x.shares.now x.minima.now) x.group x.pane x.index (view_slot c.get_node-s.result) _ c.get_node-s.ensures.0 (ap (λ (y : Kind). node_of y c.get_node-s.result) c.in-Split.is)) }
