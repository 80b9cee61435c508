-- `changing::operations::split_pane` goes by the fraction, the new pane and the pane. Assumes nothing.
use mathlib.Core.Path.{sym, ap, ◌∙◌}
use Rattle.rules.specs.declared.refusal.Refusal.TheVariants.{InvalidPaneId, InvalidOperation, DuplicatePane}
use Rattle.columns.specs.Shown.{arena_from}
use Rattle.nodes.specs.Parts.{location_of}
use Rattle.std.specs.Prelude.{Some}
use Rattle.nodes.proofs.FindLaws.{somewhere-some}
use Rattle.docking.specs.Steps.{always}
use Rattle.docking.proofs.TakenLaws.{none_was, some_was, tried, refuses}
use Rattle.changing.proofs.OpLaws.{steps-like, refused_as, split-bad, split-twice, split-fresh}
use Rattle.rules.specs.Operations as Rule
use Rattle.changing.proofs.operations.split_pane.Goals as goal

pub returns-then-not-is_valid_split_fraction : goal.returns-then-not-is_valid_split_fraction
returns-then-not-is_valid_split_fraction c =
    let x = c.args in
    record { even = c.requires.0; steps = λ v. refused_as (arena_from x.root v x.heads.now x.ids.now x.shares.now x.minima.now) (Rule.split_pane (arena_from x.root v x.heads.now x.ids.now x.shares.now x.minima.now) x.pane x.axis x.new_pane x.placement x.share) InvalidOperation (split-bad (arena_from x.root v x.heads.now x.ids.now x.shares.now x.minima.now) c.requires.1 x.pane x.axis x.new_pane x.placement x.share (sym c.is_valid_split_fraction.ensures ∙ c.if-not-is_valid_split_fraction.true)) }

pub returns-then-is_some : goal.returns-then-is_some
returns-then-is_some c =
    let x = c.args in
    record { even = c.requires.0; steps = λ v. refused_as (arena_from x.root v x.heads.now x.ids.now x.shares.now x.minima.now) (Rule.split_pane (arena_from x.root v x.heads.now x.ids.now x.shares.now x.minima.now) x.pane x.axis x.new_pane x.placement x.share) (DuplicatePane x.new_pane) (split-twice (arena_from x.root v x.heads.now x.ids.now x.shares.now x.minima.now) c.requires.1 x.pane x.axis x.new_pane x.placement x.share (sym c.is_valid_split_fraction.ensures ∙ c.if-not-is_valid_split_fraction.false) (location_of c.find_pane-other.result) (c.find_pane-other.ensures x.shares.now x.minima.now c.requires.0.shares c.requires.0.minima) (somewhere-some c.find_pane-other.result ∙ sym c.is_some.ensures ∙ c.if-is_some.true)) }

pub returns-in_err-l : goal.returns-in_err-l
returns-in_err-l c =
    let x = c.args in
    record { even = c.requires.0; steps = λ v. refuses (arena_from x.root v x.heads.now x.ids.now x.shares.now x.minima.now) _ InvalidPaneId _ c.from_residual.result (tried c.from_residual.result c.ok_or.ensures.value c.ok_or.ensures.ok_part c.in_err-l.was c.from_residual.ensures.1) (refused_as (arena_from x.root v x.heads.now x.ids.now x.shares.now x.minima.now) (Rule.split_pane (arena_from x.root v x.heads.now x.ids.now x.shares.now x.minima.now) x.pane x.axis x.new_pane x.placement x.share) InvalidPaneId (split-fresh (arena_from x.root v x.heads.now x.ids.now x.shares.now x.minima.now) c.requires.1 x.pane x.axis x.new_pane x.placement x.share (sym c.is_valid_split_fraction.ensures ∙ c.if-not-is_valid_split_fraction.false) (location_of c.find_pane-other.result) (c.find_pane-other.ensures x.shares.now x.minima.now c.requires.0.shares c.requires.0.minima) (somewhere-some c.find_pane-other.result ∙ sym c.is_some.ensures ∙ c.if-is_some.false) (location_of c.find_pane.result) (c.find_pane.ensures x.shares.now x.minima.now c.requires.0.shares c.requires.0.minima) _ (ap location_of (none_was c.ok_or.ensures.ok_part c.in_err-l.was)))) }

pub returns-in-Tile : goal.returns-in-Tile
returns-in-Tile c =
    let x = c.args in
    record { even = c.split_at.ensures.even; steps = λ v. steps-like (arena_from x.root v x.heads.now x.ids.now x.shares.now x.minima.now) (Rule.split_pane (arena_from x.root v x.heads.now x.ids.now x.shares.now x.minima.now) x.pane x.axis x.new_pane x.placement x.share) _ (always c.split_at.result) _ (split-fresh (arena_from x.root v x.heads.now x.ids.now x.shares.now x.minima.now) c.requires.1 x.pane x.axis x.new_pane x.placement x.share (sym c.is_valid_split_fraction.ensures ∙ c.if-not-is_valid_split_fraction.false) (location_of c.find_pane-other.result) (c.find_pane-other.ensures x.shares.now x.minima.now c.requires.0.shares c.requires.0.minima) (somewhere-some c.find_pane-other.result ∙ sym c.is_some.ensures ∙ c.if-is_some.false) (location_of c.find_pane.result) (c.find_pane.ensures x.shares.now x.minima.now c.requires.0.shares c.requires.0.minima) _ (ap location_of (some_was c.ok_or.ensures.ok_part c.in_ok-l.was ∙ ap Some c.in-Tile.is))) (c.split_at.ensures.steps v) }

pub returns-in-InTabs : goal.returns-in-InTabs
returns-in-InTabs c =
    let x = c.args in
    record { even = c.split_at-in-InTabs.ensures.even; steps = λ v. steps-like (arena_from x.root v x.heads.now x.ids.now x.shares.now x.minima.now) (Rule.split_pane (arena_from x.root v x.heads.now x.ids.now x.shares.now x.minima.now) x.pane x.axis x.new_pane x.placement x.share) _ (always c.split_at-in-InTabs.result) _ (split-fresh (arena_from x.root v x.heads.now x.ids.now x.shares.now x.minima.now) c.requires.1 x.pane x.axis x.new_pane x.placement x.share (sym c.is_valid_split_fraction.ensures ∙ c.if-not-is_valid_split_fraction.false) (location_of c.find_pane-other.result) (c.find_pane-other.ensures x.shares.now x.minima.now c.requires.0.shares c.requires.0.minima) (somewhere-some c.find_pane-other.result ∙ sym c.is_some.ensures ∙ c.if-is_some.false) (location_of c.find_pane.result) (c.find_pane.ensures x.shares.now x.minima.now c.requires.0.shares c.requires.0.minima) _ (ap location_of (some_was c.ok_or.ensures.ok_part c.in_ok-l.was ∙ ap Some c.in-InTabs.is))) (c.split_at-in-InTabs.ensures.steps v) }
