-- `docking::near::put_under` refuses for want of room, or makes the tile and a split of the two, and puts that into the parent. Assumes nothing.
use Rattle.std.proofs.Common.{inl, inr}
use Rattle.rules.specs.Tree.{view_slot}
use Rattle.columns.specs.Columns.{nodes_from}
use Rattle.docking.proofs.NearLaws.{split-bounds, put-under-full, put-under-place, put-under-goes}
use Rattle.rules.specs.declared.refusal.Refusal.TheVariants.{ArenaFull}
use Rattle.docking.proofs.TakenLaws.{none_was, some_was, tried, refuses}
use Rattle.docking.proofs.near.put_under.Goals as goal

pub returns-in_err-inserted : goal.returns-in_err-inserted
returns-in_err-inserted c =
    let x = c.args in
    record { even = c.requires.even; steps = λ a W. refuses a _ ArenaFull _ c.from_residual.result (tried c.from_residual.result c.ok_or.ensures.value c.ok_or.ensures.ok_part c.in_err-inserted.was c.from_residual.ensures.1) (put-under-full x.root x.room (nodes_from x.heads.now x.ids.now x.shares.now x.minima.now) (view_slot x.new) x.b a x.split x.index W (inl (none_was c.ok_or.ensures.ok_part c.in_err-inserted.was))) }

pub returns-in_err-held : goal.returns-in_err-held
returns-in_err-held c =
    let x = c.args in
    record { even = c.requires.even; steps = λ a W. refuses a _ ArenaFull _ c.from_residual-in_err-held.result (tried c.from_residual-in_err-held.result c.ok_or-2.ensures.value c.ok_or-2.ensures.ok_part c.in_err-held.was c.from_residual-in_err-held.ensures.1) (put-under-full x.root x.room (nodes_from x.heads.now x.ids.now x.shares.now x.minima.now) (view_slot x.new) x.b a x.split x.index W (inr (none_was c.ok_or-2.ensures.ok_part c.in_err-held.was))) }

pub replaced_in-swapped-requires : goal.replaced_in-swapped-requires
replaced_in-swapped-requires c =
    let x = c.args in
    let (a, W) = c.requires.from in
    let p = put-under-place x.root x.room (nodes_from x.heads.now x.ids.now x.shares.now x.minima.now) (view_slot x.new) x.b a x.split x.index W c.in_ok-inserted.inserted c.in_ok-held.held (some_was c.ok_or.ensures.ok_part c.in_ok-inserted.was) (some_was c.ok_or-2.ensures.ok_part c.in_ok-held.was) _ c.set_node.ensures.0 _ c.new_split-both.ensures.0 _ c.set_node-2.ensures.0 c.get_node-s.result c.get_node-s.ensures.0 in
    let (u, v, w) = split-bounds c.get_node-s.result x.index c.get_node-s.ensures.1 p in
    record { inside = u; few = v; whole = c.get_node-s.ensures.1 }

pub set_node-requires-3 : goal.set_node-requires-3
set_node-requires-3 c = record { even = c.set_node-2.ensures.1; whole = c.replaced_in-swapped.ensures.1 }

pub returns : goal.returns
returns c =
    let x = c.args in
    record {
      even = c.set_node-3.ensures.1;
      steps = λ a W. put-under-goes x.root x.room (nodes_from x.heads.now x.ids.now x.shares.now x.minima.now) (view_slot x.new) x.b a x.split x.index W c.in_ok-inserted.inserted c.in_ok-held.held (some_was c.ok_or.ensures.ok_part c.in_ok-inserted.was) (some_was c.ok_or-2.ensures.ok_part c.in_ok-held.was) _ c.set_node.ensures.0 _ c.new_split-both.ensures.0 _ c.set_node-2.ensures.0 c.get_node-s.result c.get_node-s.ensures.0 _ c.replaced_in-swapped.ensures.0 _ c.set_node-3.ensures.0;
    }
