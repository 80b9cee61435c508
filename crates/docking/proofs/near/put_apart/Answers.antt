-- `docking::near::put_apart` goes by whether the target is the root, and by what holds it. Assumes nothing.
use mathlib.Core.Path.{ap}
use Rattle.rules.specs.Tree.{view_slot}
use Rattle.columns.specs.Columns.{nodes_from}
use Rattle.nodes.specs.Parts.{holder_of}
use Rattle.docking.proofs.NearLaws.{put-loose, put-rooted, put-unders}
use Rattle.rules.specs.declared.refusal.Refusal.TheVariants.{InvalidOperation}
use Rattle.docking.proofs.TakenLaws.{none_was, some_was, tried, refuses}
use Rattle.docking.proofs.near.put_apart.Goals as goal

pub returns-then-target-root : goal.returns-then-target-root
returns-then-target-root c =
    let x = c.args in
    record { even = c.put_over.ensures.even; steps = λ a W. c.put_over.ensures.steps a (put-rooted x.root x.room (nodes_from x.heads.now x.ids.now x.shares.now x.minima.now) (view_slot x.new) x.b a (holder_of x.parent) W.0 W.1 c.if-target-root.true) }

pub put_under-requires : goal.put_under-requires
put_under-requires c =
    let x = c.args in
    let (a, W) = c.requires.from in
    record { even = c.requires.even; whole = c.requires.whole; from = (a, put-unders x.root x.room (nodes_from x.heads.now x.ids.now x.shares.now x.minima.now) (view_slot x.new) x.b a (holder_of x.parent) W.0 _ _ (ap holder_of (some_was c.ok_or.ensures.ok_part c.in_ok-p.was)) W.1 c.if-target-root.false) }

pub returns-in_err-p : goal.returns-in_err-p
returns-in_err-p c =
    let x = c.args in
    record { even = c.requires.even; steps = λ a W. refuses a _ InvalidOperation _ c.from_residual.result (tried c.from_residual.result c.ok_or.ensures.value c.ok_or.ensures.ok_part c.in_err-p.was c.from_residual.ensures.1) (put-loose x.root x.room (nodes_from x.heads.now x.ids.now x.shares.now x.minima.now) (view_slot x.new) x.b a (holder_of x.parent) W.0 c.if-target-root.false (ap holder_of (none_was c.ok_or.ensures.ok_part c.in_err-p.was))) }

pub returns : goal.returns
returns c =
    let x = c.args in
    record { even = c.put_under.ensures.even; steps = λ a W. c.put_under.ensures.steps a (put-unders x.root x.room (nodes_from x.heads.now x.ids.now x.shares.now x.minima.now) (view_slot x.new) x.b a (holder_of x.parent) W.0 _ _ (ap holder_of (some_was c.ok_or.ensures.ok_part c.in_ok-p.was)) W.1 c.if-target-root.false) }
