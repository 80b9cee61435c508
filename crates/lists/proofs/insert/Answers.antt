-- `lists::insert` fills a fresh list. Assumes nothing.
use Rattle.std.proofs.Common.{rules, ◌≡◌, ◌≤◌, ap, arith, length, []}
use Rattle.rules.specs.Lists.{insert_at}
use Rattle.rules.specs.Tree.{listed}
use Rattle.lists.specs.Exact.{pad_to}
use Rattle.lists.specs.Places.{size-insert_at}
use Rattle.lists.specs.Build.{building-start, building-more, building-done}
use Rattle.lists.proofs.insert.Goals as goal

pub loop-j-init : goal.loop-j-init
unfolding pad_to
loop-j-init g c =
    let a = c.args in
    let s : length a.l.at ≡ 16 = search rules in
    let h : a.l.len ≤ length a.l.at = omega arith in
    building-start g.T.Blank.blank (insert_at a.p a.x (listed a.l)) _ _ (omega (arith, size-insert_at a.l.len a.l.at h a.p a.x)) (omega arith) (ap (λ y. pad_to 16 y []) c.blank-at.ensures)

pub loop-j-preserved : goal.loop-j-preserved
loop-j-preserved g c =
    let a = c.args in
    let l = c.loop-j in
    building-more g.T.Blank.blank (insert_at a.p a.x (listed a.l)) l.at _ l.j c.inserted.result l.invariant c.loop-j-test.true c.inserted.ensures

pub returns : goal.returns
returns g c =
    let a = c.args in
    let l = c.loop-j in
    building-done g.T.Blank.blank (insert_at a.p a.x (listed a.l)) l.at _ l.j l.invariant c.loop-j-test.false
