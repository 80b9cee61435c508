-- The first of a list, copied over blanks. Assumes nothing.
use Rattle.std.proofs.Common.{rules, ◌≡◌, ◌≤◌, ◌∙◌, sym, arith, length, take}
use Rattle.rules.specs.Tree.{listed}
use Rattle.lists.specs.Exact.{pad_to}
use Rattle.lists.specs.Places.{size-take}
use Rattle.lists.specs.Build.{front-filled}
use Rattle.std.proofs.Common.{take-take}
use Rattle.lists.proofs.first.Goals as goal

pub returns : goal.returns
unfolding pad_to
returns g c =
    let a = c.args in
    let s : length a.l.at ≡ 16 = search rules in
    let h : a.l.len ≤ length a.l.at = omega arith in
    front-filled g.T.Blank.blank c.blank-at.result c.copy_from_slice.new.self (take a.n (listed a.l)) a.n c.blank-at.ensures (c.copy_from_slice.ensures.after ∙ sym (take-take a.n a.l.len a.l.at (omega arith))) (size-take a.l.len a.l.at h a.n (omega arith)) (omega arith)
