-- `repair::whole::is_sound` meets its contract: soundness of the tree's columns. Assumes nothing.
use mathlib.Core.Path.{ap, ◌∙◌}
use Rattle.rules.specs.Sound.{sound}
use borrow.Author.Rules.{rules}
use Rattle.columns.specs.Shown.{Columned}
use Rattle.settling.proofs.PlainLaws.{tree_plain, tree-shown}
use Rattle.repair.proofs.whole.is_sound.Goals as goal

pub sound_columns-requires : goal.sound_columns-requires
sound_columns-requires c =
    let t = c.args.t in
    let K : Columned t _ _ _ _ = record { size = search rules; columns = c.unpack.ensures } in
    tree_plain t _ _ _ _ K

pub returns : goal.returns
returns c =
    let t = c.args.t in
    let K : Columned t _ _ _ _ = record { size = search rules; columns = c.unpack.ensures } in
    c.sound_columns.ensures t.revision ∙ ap sound (tree-shown t _ _ _ _ K)
