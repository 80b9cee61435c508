-- `docking::near::put_near` goes by the target, by what holds it, and by the axis. Assumes nothing.
use mathlib.Core.Path.{sym, ap, ◌∙◌}
use Rattle.rules.specs.Tree.{view_slot, is_empty}
use Rattle.rules.specs.Insert.{same_axis_parent}
use Rattle.forest.specs.Lists.{never}
use Rattle.columns.specs.Columns.{nodes_from}
use Rattle.nodes.specs.Parts.{holder_of}
use Rattle.std.specs.Prelude.{Option}
use Rattle.nodes.specs.declared.Holder.{Holder}
use Rattle.docking.proofs.NearLaws.{put-absent, put-nears, put-axis, put-within}
use Rattle.docking.proofs.TakenLaws.{none_was, some_was}
use Rattle.docking.proofs.near.put_near.Goals as goal

pub returns-then-is_empty : goal.returns-then-is_empty
returns-then-is_empty c =
    let x = c.args in
    record { even = c.requires.even; steps = λ a F. put-absent x.root x.room (nodes_from x.heads.now x.ids.now x.shares.now x.minima.now) (view_slot x.new) x.b a F (ap is_empty (sym c.get_node-at.ensures.0) ∙ sym c.is_empty.ensures ∙ c.if-is_empty.true) }

pub put_apart-requires : goal.put_apart-requires
put_apart-requires c =
    let x = c.args in
    let (a, F) = c.requires.from in
    record { even = c.requires.even; whole = c.requires.whole; from = (a, ((put-nears x.root x.room (nodes_from x.heads.now x.ids.now x.shares.now x.minima.now) (view_slot x.new) x.b a F (holder_of c.find_parent-parent.result) (ap is_empty (sym c.get_node-at.ensures.0) ∙ sym c.is_empty.ensures ∙ c.if-is_empty.false) (c.find_parent-parent.ensures x.shares.now x.minima.now c.requires.even.shares c.requires.even.minima)), sym (put-axis x.root x.room (nodes_from x.heads.now x.ids.now x.shares.now x.minima.now) (view_slot x.new) x.b a F x.b.axis (holder_of c.find_parent-parent.result) c.same_axis_parent.result c.same_axis_parent.ensures) ∙ c.if-not-same_axis_parent.true)) }

pub returns-then-not-same_axis_parent : goal.returns-then-not-same_axis_parent
returns-then-not-same_axis_parent c =
    let x = c.args in
    record {
      even = c.put_apart.ensures.even;
      steps = λ a F. c.put_apart.ensures.steps a ((put-nears x.root x.room (nodes_from x.heads.now x.ids.now x.shares.now x.minima.now) (view_slot x.new) x.b a F (holder_of c.find_parent-parent.result) (ap is_empty (sym c.get_node-at.ensures.0) ∙ sym c.is_empty.ensures ∙ c.if-is_empty.false) (c.find_parent-parent.ensures x.shares.now x.minima.now c.requires.even.shares c.requires.even.minima)), sym (put-axis x.root x.room (nodes_from x.heads.now x.ids.now x.shares.now x.minima.now) (view_slot x.new) x.b a F x.b.axis (holder_of c.find_parent-parent.result) c.same_axis_parent.result c.same_axis_parent.ensures) ∙ c.if-not-same_axis_parent.true);
    }

pub put_in-requires : goal.put_in-requires
put_in-requires c =
    let x = c.args in
    let (a, F) = c.requires.from in
    record { even = c.requires.even; whole = c.requires.whole; from = (a, put-within x.root x.room (nodes_from x.heads.now x.ids.now x.shares.now x.minima.now) (view_slot x.new) x.b a (holder_of c.find_parent-parent.result) (put-nears x.root x.room (nodes_from x.heads.now x.ids.now x.shares.now x.minima.now) (view_slot x.new) x.b a F (holder_of c.find_parent-parent.result) (ap is_empty (sym c.get_node-at.ensures.0) ∙ sym c.is_empty.ensures ∙ c.if-is_empty.false) (c.find_parent-parent.ensures x.shares.now x.minima.now c.requires.even.shares c.requires.even.minima)) _ _ (ap holder_of (some_was c.ok_or.ensures.ok_part c.in_ok-p.was)) (sym (put-axis x.root x.room (nodes_from x.heads.now x.ids.now x.shares.now x.minima.now) (view_slot x.new) x.b a F x.b.axis (holder_of c.find_parent-parent.result) c.same_axis_parent.result c.same_axis_parent.ensures) ∙ c.if-not-same_axis_parent.false)) }

pub returns-in_err-p : goal.returns-in_err-p
returns-in_err-p c =
    let x = c.args in
    record {
      even = c.requires.even;
      steps = λ a F. never (sym c.if-not-same_axis_parent.false ∙ c.same_axis_parent.ensures ∙ ap (λ (q : Option Holder). same_axis_parent x.b.axis (holder_of q) (nodes_from x.heads.now x.ids.now x.shares.now x.minima.now)) (none_was c.ok_or.ensures.ok_part c.in_err-p.was));
    }

pub returns : goal.returns
returns c =
    let x = c.args in
    record {
      even = c.put_in.ensures.even;
      steps = λ a F. c.put_in.ensures.steps a (put-within x.root x.room (nodes_from x.heads.now x.ids.now x.shares.now x.minima.now) (view_slot x.new) x.b a (holder_of c.find_parent-parent.result) (put-nears x.root x.room (nodes_from x.heads.now x.ids.now x.shares.now x.minima.now) (view_slot x.new) x.b a F (holder_of c.find_parent-parent.result) (ap is_empty (sym c.get_node-at.ensures.0) ∙ sym c.is_empty.ensures ∙ c.if-is_empty.false) (c.find_parent-parent.ensures x.shares.now x.minima.now c.requires.even.shares c.requires.even.minima)) _ _ (ap holder_of (some_was c.ok_or.ensures.ok_part c.in_ok-p.was)) (sym (put-axis x.root x.room (nodes_from x.heads.now x.ids.now x.shares.now x.minima.now) (view_slot x.new) x.b a F x.b.axis (holder_of c.find_parent-parent.result) c.same_axis_parent.result c.same_axis_parent.ensures) ∙ c.if-not-same_axis_parent.false));
    }
