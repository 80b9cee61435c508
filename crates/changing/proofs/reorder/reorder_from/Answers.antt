-- `changing::reorder::reorder_from` goes by where the pane lands. Assumes nothing.
use mathlib.Core.Path.{refl, ap, ◌∙◌}
use mathlib.Core.Option.{some}
use Rattle.rules.specs.Tree.{Node, view_slot, set_node}
use Rattle.columns.specs.Columns.{nodes_from}
use Rattle.columns.specs.RowLaws.{even-long}
use Rattle.columns.specs.Shown.{arena_from}
use Rattle.nodes.specs.Parts.{reordered_in}
use Rattle.docking.specs.Steps.{reorder_as}
use Rattle.changing.proofs.OpLaws.{only-goes, reorder-stays, reorder-moves}
use Rattle.changing.proofs.reorder.reorder_from.Goals as goal

pub returns-then-from-to : goal.returns-then-from-to
returns-then-from-to c =
    let x = c.args in
    record { even = c.requires.even; steps = λ v. (reorder-stays (arena_from x.root v x.heads.now x.ids.now x.shares.now x.minima.now) x.group x.pane x.index x.from c.landing-to.result (view_slot x.s) c.requires.group c.landing-to.ensures.0 c.if-from-to.true, refl) }

pub returns : goal.returns
returns c =
    let x = c.args in
    record {
      even = c.set_node.ensures.1;
      steps = λ v. only-goes (arena_from x.root v x.heads.now x.ids.now x.shares.now x.minima.now) (even-long x.heads.now x.ids.now x.shares.now x.minima.now c.requires.even) (reorder_as (some x.from) (view_slot x.s) (arena_from x.root v x.heads.now x.ids.now x.shares.now x.minima.now) x.group x.pane x.index) (set_node x.group (reordered_in x.pane x.from c.landing-to.result (view_slot x.s)) (nodes_from x.heads.now x.ids.now x.shares.now x.minima.now)) _ c.next_empty-spare.result
          (reorder-moves (arena_from x.root v x.heads.now x.ids.now x.shares.now x.minima.now) x.group x.pane x.index x.from c.landing-to.result (view_slot x.s) c.requires.group c.landing-to.ensures.0 c.if-from-to.false)
          (c.set_node.ensures.0 ∙ ap (λ (n : Node). set_node x.group n (nodes_from x.heads.now x.ids.now x.shares.now x.minima.now)) c.reordered-next.ensures.0) (c.next_empty-spare.ensures.right x.ids.now x.shares.now x.minima.now c.requires.even.ids c.requires.even.shares c.requires.even.minima);
    }
