-- `repair::whole::repair` meets its contract: the columns are repaired, and packed. Assumes nothing.
use borrow.Author.Rules.{rules}
use Rattle.columns.specs.Shown.{Columned}
use Rattle.settling.proofs.PlainLaws.{tree_plain}
use Rattle.repair.proofs.PackedLaws.{packed-repairs}
use Rattle.repair.proofs.whole.repair.Goals as goal

pub repair_columns-s-requires : goal.repair_columns-s-requires
repair_columns-s-requires c =
    let t = c.args.t in
    let K : Columned t _ _ _ _ = record { size = search rules; columns = c.unpack.ensures } in
    tree_plain t _ _ _ _ K

pub returns : goal.returns
returns c =
    let t = c.args.t in
    let K : Columned t _ _ _ _ = record { size = search rules; columns = c.unpack.ensures } in
    packed-repairs t _ _ _ _ K _ _ _ _ _ c.repair_columns-s.result c.packed.result c.packed.ensures c.repair_columns-s.ensures
