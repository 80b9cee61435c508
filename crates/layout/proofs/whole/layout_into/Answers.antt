-- `layout::whole::layout_into`: the layout of the tree's columns. Assumes nothing.
use mathlib.Core.Path.{◌≡◌}
use borrow.Author.Rules.{rules}
use lib.ListN.{length}
use Rattle.columns.specs.Shown.{Columned}
use Rattle.settling.proofs.PlainLaws.{tree_plain, tree-shown}
use Rattle.layout.proofs.WholeLaws.{lays-alike}
use Rattle.layout.proofs.whole.layout_into.Goals as goal

pub layout_columns-requires : goal.layout_columns-requires
layout_columns-requires c =
    let t = c.args.t in
    let long : length t.slots ≡ 64 = search rules in
    let K : Columned t _ _ _ _ = record { size = long; columns = c.unpack.ensures } in
    tree_plain t _ _ _ _ K

pub returns : goal.returns
returns c =
    let x = c.args in
    let long : length x.t.slots ≡ 64 = search rules in
    let K : Columned x.t _ _ _ _ = record { size = long; columns = c.unpack.ensures } in
    lays-alike _ _ x.input x.items.now x.rects.now _ _ c.layout_columns.result (tree-shown x.t _ _ _ _ K) c.layout_columns.ensures
