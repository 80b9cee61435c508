-- `changing::operations::move_pane` goes by the pane, then by the target. Assumes nothing.
use mathlib.Core.Path.{sym, ap, ◌∙◌}
use Rattle.rules.specs.Target.{PaneLocation}
use Rattle.rules.specs.declared.refusal.Refusal.TheVariants.{InvalidPaneId}
use Rattle.columns.specs.RowLaws.{even-long}
use Rattle.columns.specs.Shown.{arena_from}
use Rattle.nodes.specs.Parts.{location_of, checked_of}
use Rattle.docking.specs.Steps.{always}
use Rattle.docking.proofs.TakenLaws.{exits, refuses}
use Rattle.changing.proofs.OpLaws.{nowhere-none, somewhere-there, steps-like, refused_as, located-nowhere, stands, taken_out, move-refused, move-goes}
use Rattle.rules.specs.Operations as Rule
use Rattle.changing.proofs.operations.move_pane.Goals as goal

pub returns-then-is_none : goal.returns-then-is_none
returns-then-is_none c =
    let x = c.args in
    record { even = c.requires.0; steps = λ v. refused_as (arena_from x.root v x.heads.now x.ids.now x.shares.now x.minima.now) (Rule.move_pane (arena_from x.root v x.heads.now x.ids.now x.shares.now x.minima.now) x.pane x.to) InvalidPaneId (located-nowhere (arena_from x.root v x.heads.now x.ids.now x.shares.now x.minima.now) c.requires.1 x.pane (location_of c.find_pane-l.result) (c.find_pane-l.ensures x.shares.now x.minima.now c.requires.0.shares c.requires.0.minima) (λ (m : PaneLocation). Rule.move_at m (arena_from x.root v x.heads.now x.ids.now x.shares.now x.minima.now) x.pane x.to) (nowhere-none c.find_pane-l.result c.is_none.result c.is_none.ensures c.if-is_none.true)) }

pub returns-in_err-validate_target : goal.returns-in_err-validate_target
returns-in_err-validate_target c =
    let x = c.args in
    record { even = c.requires.0; steps = λ v. refuses (arena_from x.root v x.heads.now x.ids.now x.shares.now x.minima.now) _ _ _ c.from_residual.result (exits c.from_residual.result c.from_residual.ensures.1) (refused_as (arena_from x.root v x.heads.now x.ids.now x.shares.now x.minima.now) (Rule.move_pane (arena_from x.root v x.heads.now x.ids.now x.shares.now x.minima.now) x.pane x.to) _ (move-refused (arena_from x.root v x.heads.now x.ids.now x.shares.now x.minima.now) c.requires.1 x.pane (location_of c.find_pane-l.result) (c.find_pane-l.ensures x.shares.now x.minima.now c.requires.0.shares c.requires.0.minima) x.to _ (somewhere-there c.find_pane-l.result c.is_none.result c.is_none.ensures c.if-is_none.false) (sym (ap checked_of c.in_err-validate_target.was) ∙ c.validate_target.ensures))) }

pub remove_pane-requires : goal.remove_pane-requires
remove_pane-requires c =
    let x = c.args in
    record { even = c.requires.0; stands = stands (arena_from x.root 0 x.heads.now x.ids.now x.shares.now x.minima.now) c.requires.1 x.pane (location_of c.find_pane-l.result) (c.find_pane-l.ensures x.shares.now x.minima.now c.requires.0.shares c.requires.0.minima) }

pub insert_tile_at_target-requires : goal.insert_tile_at_target-requires
insert_tile_at_target-requires c =
    let x = c.args in
    record { even = c.remove_pane.ensures.1; from = ((arena_from x.root 0 x.heads.now x.ids.now x.shares.now x.minima.now), (taken_out (arena_from x.root 0 x.heads.now x.ids.now x.shares.now x.minima.now) c.requires.1 x.pane (location_of c.find_pane-l.result) (c.find_pane-l.ensures x.shares.now x.minima.now c.requires.0.shares c.requires.0.minima) c.spares-room.result _ (c.spares-room.ensures x.ids.now x.shares.now x.minima.now c.requires.0.ids c.requires.0.shares c.requires.0.minima) (even-long _ _ _ _ c.remove_pane.ensures.1) c.remove_pane.ensures.0)) }

pub returns : goal.returns
returns c =
    let x = c.args in
    record {
      even = c.insert_tile_at_target.ensures.even;
      steps = λ v. steps-like (arena_from x.root v x.heads.now x.ids.now x.shares.now x.minima.now) (Rule.move_pane (arena_from x.root v x.heads.now x.ids.now x.shares.now x.minima.now) x.pane x.to) _ (always c.insert_tile_at_target.result) _
          (move-goes (arena_from x.root v x.heads.now x.ids.now x.shares.now x.minima.now) c.requires.1 x.pane (location_of c.find_pane-l.result) (c.find_pane-l.ensures x.shares.now x.minima.now c.requires.0.shares c.requires.0.minima) x.to _ (somewhere-there c.find_pane-l.result c.is_none.result c.is_none.ensures c.if-is_none.false) (sym (ap checked_of c.in_ok-validate_target.was) ∙ c.validate_target.ensures) c.remove_pane.ensures.0)
          (c.insert_tile_at_target.ensures.steps (arena_from x.root v x.heads.now x.ids.now x.shares.now x.minima.now) (taken_out (arena_from x.root v x.heads.now x.ids.now x.shares.now x.minima.now) c.requires.1 x.pane (location_of c.find_pane-l.result) (c.find_pane-l.ensures x.shares.now x.minima.now c.requires.0.shares c.requires.0.minima) c.spares-room.result _ (c.spares-room.ensures x.ids.now x.shares.now x.minima.now c.requires.0.ids c.requires.0.shares c.requires.0.minima) (even-long _ _ _ _ c.remove_pane.ensures.1) c.remove_pane.ensures.0));
    }
