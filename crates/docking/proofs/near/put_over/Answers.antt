-- `docking::near::put_over` refuses for want of room, or makes the tile and a split over it and the root. Assumes nothing.
use Rattle.std.proofs.Common.{inl, inr}
use Rattle.rules.specs.Tree.{view_slot}
use Rattle.columns.specs.Columns.{nodes_from}
use Rattle.docking.proofs.NearLaws.{put-over-full, put-over-goes}
use Rattle.rules.specs.declared.refusal.Refusal.TheVariants.{ArenaFull}
use Rattle.docking.proofs.TakenLaws.{none_was, some_was, tried, refuses}
use Rattle.docking.proofs.near.put_over.Goals as goal

pub returns-in_err-inserted : goal.returns-in_err-inserted
returns-in_err-inserted c =
    let x = c.args in
    record { even = c.requires.even; steps = λ a W. refuses a _ ArenaFull _ c.from_residual.result (tried c.from_residual.result c.ok_or.ensures.value c.ok_or.ensures.ok_part c.in_err-inserted.was c.from_residual.ensures.1) (put-over-full x.room (nodes_from x.heads.now x.ids.now x.shares.now x.minima.now) (view_slot x.new) x.b a W (inl (none_was c.ok_or.ensures.ok_part c.in_err-inserted.was))) }

pub returns-in_err-top : goal.returns-in_err-top
returns-in_err-top c =
    let x = c.args in
    record { even = c.requires.even; steps = λ a W. refuses a _ ArenaFull _ c.from_residual-in_err-top.result (tried c.from_residual-in_err-top.result c.ok_or-2.ensures.value c.ok_or-2.ensures.ok_part c.in_err-top.was c.from_residual-in_err-top.ensures.1) (put-over-full x.room (nodes_from x.heads.now x.ids.now x.shares.now x.minima.now) (view_slot x.new) x.b a W (inr (none_was c.ok_or-2.ensures.ok_part c.in_err-top.was))) }

pub returns : goal.returns
returns c =
    let x = c.args in
    record {
      even = c.set_node-2.ensures.1;
      steps = λ a W. put-over-goes x.room (nodes_from x.heads.now x.ids.now x.shares.now x.minima.now) (view_slot x.new) x.b a W c.in_ok-inserted.inserted c.in_ok-top.top (some_was c.ok_or.ensures.ok_part c.in_ok-inserted.was) (some_was c.ok_or-2.ensures.ok_part c.in_ok-top.was) _ c.set_node.ensures.0 _ c.new_split-both.ensures.0 _ c.set_node-2.ensures.0;
    }
