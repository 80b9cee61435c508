-- `changing::operations::activate_pane` goes by where the pane stands. Assumes nothing.
use mathlib.Core.Path.{refl, ap, ◌∙◌}
use Rattle.std.specs.Prelude.{Some}
use Rattle.docking.proofs.TakenLaws.{none_was, some_was, tried, refuses_so}
use Rattle.rules.specs.Target.{PaneLocation}
use Rattle.rules.specs.declared.refusal.Refusal.TheVariants.{InvalidPaneId}
use Rattle.columns.specs.Shown.{arena_from}
use Rattle.nodes.specs.Parts.{location_of}
use Rattle.changing.proofs.OpLaws.{steps-like, refused_as, located-step}
use Rattle.rules.specs.Operations as Rule
use Rattle.changing.proofs.operations.activate_pane.Goals as goal

pub returns-in_err-l : goal.returns-in_err-l
returns-in_err-l c =
    let x = c.args in
    record { even = c.requires.0; steps = λ v. refuses_so (arena_from x.root v x.heads.now x.ids.now x.shares.now x.minima.now) _ InvalidPaneId _ c.from_residual.result (tried c.from_residual.result c.ok_or.ensures.value c.ok_or.ensures.ok_part c.in_err-l.was c.from_residual.ensures.1) (refused_as (arena_from x.root v x.heads.now x.ids.now x.shares.now x.minima.now) (Rule.activate_pane (arena_from x.root v x.heads.now x.ids.now x.shares.now x.minima.now) x.pane) InvalidPaneId (located-step (arena_from x.root v x.heads.now x.ids.now x.shares.now x.minima.now) c.requires.1 x.pane (location_of c.find_pane.result) (c.find_pane.ensures x.shares.now x.minima.now c.requires.0.shares c.requires.0.minima) (λ (m : PaneLocation). Rule.activate_at m (arena_from x.root v x.heads.now x.ids.now x.shares.now x.minima.now)) _ (ap location_of (none_was c.ok_or.ensures.ok_part c.in_err-l.was)))) }

pub returns-in-Tile : goal.returns-in-Tile
returns-in-Tile c =
    let x = c.args in
    record { even = c.requires.0; steps = λ v. ((located-step (arena_from x.root v x.heads.now x.ids.now x.shares.now x.minima.now) c.requires.1 x.pane (location_of c.find_pane.result) (c.find_pane.ensures x.shares.now x.minima.now c.requires.0.shares c.requires.0.minima) (λ (m : PaneLocation). Rule.activate_at m (arena_from x.root v x.heads.now x.ids.now x.shares.now x.minima.now)) _ (ap location_of (some_was c.ok_or.ensures.ok_part c.in_ok-l.was ∙ ap Some c.in-Tile.is))), refl) }

pub returns-in-InTabs : goal.returns-in-InTabs
returns-in-InTabs c =
    let x = c.args in
    record {
      even = c.activate_in.ensures.even;
      steps = λ v. steps-like (arena_from x.root v x.heads.now x.ids.now x.shares.now x.minima.now) (Rule.activate_pane (arena_from x.root v x.heads.now x.ids.now x.shares.now x.minima.now) x.pane) _ c.activate_in.result _ (located-step (arena_from x.root v x.heads.now x.ids.now x.shares.now x.minima.now) c.requires.1 x.pane (location_of c.find_pane.result) (c.find_pane.ensures x.shares.now x.minima.now c.requires.0.shares c.requires.0.minima) (λ (m : PaneLocation). Rule.activate_at m (arena_from x.root v x.heads.now x.ids.now x.shares.now x.minima.now)) _ (ap location_of (some_was c.ok_or.ensures.ok_part c.in_ok-l.was ∙ ap Some c.in-InTabs.is))) (c.activate_in.ensures.steps v);
    }
