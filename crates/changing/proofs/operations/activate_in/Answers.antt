-- `changing::operations::activate_in` goes by whether the pane is the active one. Assumes nothing.
use mathlib.Core.Path.{refl, sym, ◌∙◌}
use Rattle.rules.specs.Tree.{view_slot}
use Rattle.columns.specs.RowLaws.{even-long}
use Rattle.columns.specs.Shown.{arena_from}
use Rattle.changing.proofs.OpLaws.{activate-same, activate-other}
use Rattle.changing.proofs.operations.activate_in.Goals as goal

pub returns-then-active_is : goal.returns-then-active_is
returns-then-active_is c =
    let x = c.args in
    record {
      even = c.requires;
      steps = λ v. (activate-same (arena_from x.root v x.heads.now x.ids.now x.shares.now x.minima.now) (even-long x.heads.now x.ids.now x.shares.now x.minima.now c.requires) x.group x.index (view_slot c.get_node-s.result) c.get_node-s.ensures.0 (sym c.active_is.ensures ∙ c.if-active_is.true), refl);
    }

pub returns : goal.returns
returns c =
    let x = c.args in
    record {
      even = c.set_node.ensures.1;
      steps = λ v. activate-other (arena_from x.root v x.heads.now x.ids.now x.shares.now x.minima.now) (even-long x.heads.now x.ids.now x.shares.now x.minima.now c.requires) x.group x.index (view_slot c.get_node-s.result) c.get_node-s.ensures.0 _ _ c.next_empty-spare.result (sym c.active_is.ensures ∙ c.if-active_is.false) c.set_active-next.ensures.0 c.set_node.ensures.0 (c.next_empty-spare.ensures.right x.ids.now x.shares.now x.minima.now c.requires.ids c.requires.shares c.requires.minima);
    }
