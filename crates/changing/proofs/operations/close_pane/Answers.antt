-- `changing::operations::close_pane` refuses a pane that is nowhere, or takes it out. Assumes nothing.
use Rattle.rules.specs.Target.{PaneLocation}
use Rattle.rules.specs.declared.refusal.Refusal.TheVariants.{InvalidPaneId}
use Rattle.columns.specs.Shown.{arena_from}
use Rattle.nodes.specs.Parts.{location_of}
use Rattle.changing.proofs.OpLaws.{nowhere-none, somewhere-there, refused_as, located-nowhere, stands, close-goes}
use Rattle.rules.specs.Operations as Rule
use Rattle.changing.proofs.operations.close_pane.Goals as goal

pub returns-then-is_none : goal.returns-then-is_none
returns-then-is_none c =
    let x = c.args in
    record { even = c.requires.0; steps = λ v. refused_as (arena_from x.root v x.heads.now x.ids.now x.shares.now x.minima.now) (Rule.close_pane (arena_from x.root v x.heads.now x.ids.now x.shares.now x.minima.now) x.pane) InvalidPaneId (located-nowhere (arena_from x.root v x.heads.now x.ids.now x.shares.now x.minima.now) c.requires.1 x.pane (location_of c.find_pane-l.result) (c.find_pane-l.ensures x.shares.now x.minima.now c.requires.0.shares c.requires.0.minima) (λ (m : PaneLocation). Rule.close_at m (arena_from x.root v x.heads.now x.ids.now x.shares.now x.minima.now)) (nowhere-none c.find_pane-l.result c.is_none.result c.is_none.ensures c.if-is_none.true)) }

pub remove_pane-requires : goal.remove_pane-requires
remove_pane-requires c =
    let x = c.args in
    record { even = c.requires.0; stands = stands (arena_from x.root 0 x.heads.now x.ids.now x.shares.now x.minima.now) c.requires.1 x.pane (location_of c.find_pane-l.result) (c.find_pane-l.ensures x.shares.now x.minima.now c.requires.0.shares c.requires.0.minima) }

pub returns : goal.returns
returns c =
    let x = c.args in
    record { even = c.remove_pane.ensures.1; steps = λ v. close-goes (arena_from x.root v x.heads.now x.ids.now x.shares.now x.minima.now) c.requires.1 x.pane (location_of c.find_pane-l.result) (c.find_pane-l.ensures x.shares.now x.minima.now c.requires.0.shares c.requires.0.minima) _ c.next_empty-spare.result (somewhere-there c.find_pane-l.result c.is_none.result c.is_none.ensures c.if-is_none.false) c.remove_pane.ensures.0 (c.next_empty-spare.ensures.right x.ids.now x.shares.now x.minima.now c.requires.0.ids c.requires.0.shares c.requires.0.minima) }
