-- `docking::near::put_in` refuses for want of room or of places, or makes the tile and puts it into the split. Assumes nothing.
use mathlib.Core.Path.{◌≡◌}
use borrow.Author.Rules.{rules}
use lib.ListN.{length}
use Rattle.lists.specs.Places.{length-mapped}
use Rattle.rules.specs.Tree.{view_slot}
use Rattle.columns.specs.Columns.{nodes_from}
use Rattle.docking.proofs.NearLaws.{split-bounds, put-in-full, put_in_place, put-in-wide, put-in-goes}
use Rattle.rules.specs.declared.refusal.Refusal.TheVariants.{ArenaFull}
use Rattle.docking.proofs.TakenLaws.{none_was, some_was, tried, refuses}
use Rattle.docking.proofs.near.put_in.Goals as goal

pub returns-in_err-inserted : goal.returns-in_err-inserted
returns-in_err-inserted c =
    let x = c.args in
    record { even = c.requires.even; steps = λ a W. refuses a _ ArenaFull _ c.from_residual.result (tried c.from_residual.result c.ok_or.ensures.value c.ok_or.ensures.ok_part c.in_err-inserted.was c.from_residual.ensures.1) (put-in-full x.root x.room (nodes_from x.heads.now x.ids.now x.shares.now x.minima.now) (view_slot x.new) x.b a x.split x.index W (none_was c.ok_or.ensures.ok_part c.in_err-inserted.was)) }

pub returns-then-children-ge16 : goal.returns-then-children-ge16
returns-then-children-ge16 c =
    let x = c.args in
    let long : length c.get_node-s.result.children.at ≡ 16 = search (rules, length-mapped) in
    record {
      even = c.set_node.ensures.1;
      steps = λ a W. put-in-wide x.root x.room (nodes_from x.heads.now x.ids.now x.shares.now x.minima.now) (view_slot x.new) x.b a x.split x.index W c.in_ok-inserted.inserted (some_was c.ok_or.ensures.ok_part c.in_ok-inserted.was) _ c.set_node.ensures.0 c.get_node-s.result c.get_node-s.ensures.0 long c.if-children-ge16.true;
    }

pub inserted_in-grown-requires : goal.inserted_in-grown-requires
inserted_in-grown-requires c =
    let x = c.args in
    let (a, W) = c.requires.from in
    let p = put_in_place x.root x.room (nodes_from x.heads.now x.ids.now x.shares.now x.minima.now) (view_slot x.new) x.b a x.split x.index W c.in_ok-inserted.inserted (some_was c.ok_or.ensures.ok_part c.in_ok-inserted.was) _ c.set_node.ensures.0 c.get_node-s.result c.get_node-s.ensures.0 in
    let (u, v, z) = split-bounds c.get_node-s.result x.index c.get_node-s.ensures.1 p in
    record { inside = u; roomy = c.if-children-ge16.false; few = z; whole = c.get_node-s.ensures.1 }

pub set_node-requires-2 : goal.set_node-requires-2
set_node-requires-2 c = record { even = c.set_node.ensures.1; whole = c.inserted_in-grown.ensures.1 }

pub returns : goal.returns
returns c =
    let x = c.args in
    record {
      even = c.set_node-2.ensures.1;
      steps = λ a W. put-in-goes x.root x.room (nodes_from x.heads.now x.ids.now x.shares.now x.minima.now) (view_slot x.new) x.b a x.split x.index W c.in_ok-inserted.inserted (some_was c.ok_or.ensures.ok_part c.in_ok-inserted.was) _ c.set_node.ensures.0 c.get_node-s.result c.get_node-s.ensures.0 _ _ c.inserted_in-grown.ensures.0 c.set_node-2.ensures.0;
    }
