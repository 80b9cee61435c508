-- The same entry n times, copied over blanks. Assumes nothing.
use Rattle.std.proofs.Common.{◌∙◌, sym, arith}
use Rattle.lists.specs.Exact.{pad_to}
use Rattle.lists.specs.Build.{front-filled}
use Rattle.std.proofs.lemmas.List.{length-replicate, take-replicate}
use Rattle.lists.proofs.repeat.Goals as goal

pub returns : goal.returns
unfolding pad_to
returns g c =
    let a = c.args in
    front-filled g.T.Blank.blank c.blank-at.result c.copy_from_slice.new.self _ a.n c.blank-at.ensures (c.copy_from_slice.ensures.after ∙ take-replicate a.n 16 a.x (omega arith)) (sym (length-replicate a.n a.x)) (omega arith)
