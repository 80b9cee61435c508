-- `changing::operations::split_at` puts a pane tile beside the target. Assumes nothing.
use mathlib.Core.Path.{refl, sym, ap}
use Rattle.rules.specs.Tree.{Node, view_slot, pane}
use Rattle.columns.specs.Columns.{nodes_from}
use Rattle.columns.specs.Shown.{arena_from}
use Rattle.nodes.specs.Parts.{beside_of}
use Rattle.docking.specs.Steps.{always}
use Rattle.changing.proofs.OpLaws.{steps-like, fits-new, none-taken}
use Rattle.rules.specs.Operations as Rule
use Rattle.changing.proofs.operations.split_at.Goals as goal

pub put_near-requires : goal.put_near-requires
put_near-requires c =
    let x = c.args in
    record { even = c.requires.0; whole = c.pane_slot-new.ensures.1; from = ((arena_from x.root 0 x.heads.now x.ids.now x.shares.now x.minima.now), (fits-new x.root c.spares-room.result (nodes_from x.heads.now x.ids.now x.shares.now x.minima.now) (view_slot c.pane_slot-new.result) (pane x.pane) (arena_from x.root 0 x.heads.now x.ids.now x.shares.now x.minima.now) c.pane_slot-new.ensures.0 refl (none-taken (arena_from x.root 0 x.heads.now x.ids.now x.shares.now x.minima.now) c.spares-room.result c.requires.1 (c.spares-room.ensures x.ids.now x.shares.now x.minima.now c.requires.0.ids c.requires.0.shares c.requires.0.minima)))) }

pub returns : goal.returns
returns c =
    let x = c.args in
    record {
      even = c.put_near.ensures.even;
      steps = λ v. steps-like (arena_from x.root v x.heads.now x.ids.now x.shares.now x.minima.now) (Rule.put_near (arena_from x.root v x.heads.now x.ids.now x.shares.now x.minima.now) (pane x.pane) (beside_of x.b) (Rule.start (arena_from x.root v x.heads.now x.ids.now x.shares.now x.minima.now))) _ (always c.put_near.result) _
          (ap (λ (n : Node). Rule.put_near (arena_from x.root v x.heads.now x.ids.now x.shares.now x.minima.now) n (beside_of x.b) (Rule.start (arena_from x.root v x.heads.now x.ids.now x.shares.now x.minima.now))) (sym c.pane_slot-new.ensures.0)) (c.put_near.ensures.steps (arena_from x.root v x.heads.now x.ids.now x.shares.now x.minima.now) (fits-new x.root c.spares-room.result (nodes_from x.heads.now x.ids.now x.shares.now x.minima.now) (view_slot c.pane_slot-new.result) (pane x.pane) (arena_from x.root v x.heads.now x.ids.now x.shares.now x.minima.now) c.pane_slot-new.ensures.0 refl (none-taken (arena_from x.root v x.heads.now x.ids.now x.shares.now x.minima.now) c.spares-room.result c.requires.1 (c.spares-room.ensures x.ids.now x.shares.now x.minima.now c.requires.0.ids c.requires.0.shares c.requires.0.minima))));
    }
