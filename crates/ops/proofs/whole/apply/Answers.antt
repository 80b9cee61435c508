-- `ops::whole::apply` applies the operation to columns of the tree, and packs them where they changed. Assumes nothing.
use mathlib.Core.Path.{refl, sym, ◌∙◌}
use borrow.Author.Rules.{rules}
use Rattle.columns.specs.Shown.{Columned}
use Rattle.settling.proofs.PlainLaws.{tree_plain, tree-shown}
use Rattle.ops.proofs.WholeLaws.{given-applies, new-applies}
use Rattle.ops.proofs.whole.apply.Goals as goal

pub apply_columns-done-requires : goal.apply_columns-done-requires
apply_columns-done-requires c =
    let t = c.args.t in
    let K : Columned t _ _ _ _ = record { size = search rules; columns = c.unpack.ensures } in
    tree_plain t _ _ _ _ K

pub returns-in_default : goal.returns-in_default
returns-in_default c =
    let t = c.args.t in
    let K : Columned t _ _ _ _ = record { size = search rules; columns = c.unpack.ensures } in
    given-applies t c.args.op _ (tree-shown t _ _ _ _ K) c.apply_columns-done.result c.apply_columns-done.new.heads c.apply_columns-done.new.ids c.apply_columns-done.new.shares c.apply_columns-done.new.minima c.apply_columns-done.ensures _ c.answer_of-answer.ensures (sym c.unwrap_or.ensures ∙ c.in_default.is) refl

pub returns : goal.returns
returns c =
    let t = c.args.t in
    let K : Columned t _ _ _ _ = record { size = search rules; columns = c.unpack.ensures } in
    new-applies t c.args.op _ (tree-shown t _ _ _ _ K) c.apply_columns-done.result c.apply_columns-done.new.heads c.apply_columns-done.new.ids c.apply_columns-done.new.shares c.apply_columns-done.new.minima c.apply_columns-done.ensures _ c.answer_of-answer.ensures c.in-Some.next (sym c.unwrap_or.ensures ∙ c.in-Some.is) c.pack-slots.result refl c.pack-slots.ensures
