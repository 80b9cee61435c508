-- `lists::position` passes one entry after another until one is the one looked for. Assumes nothing.
use Rattle.std.proofs.Common.{rules, ◌≡◌, ◌≤◌, ◌∙◌, sym, ap, arith, length, get_or-take}
use Rattle.rules.specs.Tree.{listed}
use Rattle.lists.specs.Places.{used-length}
use Rattle.lists.specs.Find.{passed_none, passed-more, passed-found, passed-all}
use Rattle.lists.proofs.position.Goals as goal

pub loop-i-init : goal.loop-i-init
loop-i-init g c = passed_none (g.T.PartialEq.eq c.args.x) (listed c.args.l)

pub returns-then-eq : goal.returns-then-eq
returns-then-eq g c =
    let a = c.args in
    let i = c.loop-i.i in
    let t = g.T.PartialEq.eq a.x in
    let s : length a.l.at ≡ 16 = search rules in
    let h : a.l.len ≤ length a.l.at = omega arith in
    let u = used-length a.l.len a.l.at h in
    passed-found t (listed a.l) i c.index-l-i.result (omega (arith, u))
    (ap t (get_or-take a.l.len a.l.at i c.index-l-i.result c.loop-i-test.true) ∙ sym c.eq.ensures ∙ c.if-eq.true)
    c.loop-i.invariant

pub loop-i-preserved : goal.loop-i-preserved
loop-i-preserved g c =
    let a = c.args in
    let i = c.loop-i.i in
    let t = g.T.PartialEq.eq a.x in
    let s : length a.l.at ≡ 16 = search rules in
    let h : a.l.len ≤ length a.l.at = omega arith in
    let u = used-length a.l.len a.l.at h in
    passed-more t (listed a.l) i c.index-l-i.result (omega (arith, u))
    (ap t (get_or-take a.l.len a.l.at i c.index-l-i.result c.loop-i-test.true) ∙ sym c.eq.ensures ∙ c.if-eq.false)
    c.loop-i.invariant

pub returns : goal.returns
returns g c =
    let a = c.args in
    let s : length a.l.at ≡ 16 = search rules in
    let h : a.l.len ≤ length a.l.at = omega arith in
    let u = used-length a.l.len a.l.at h in
    passed-all (g.T.PartialEq.eq a.x) (listed a.l) c.loop-i.i (omega (arith, u, c.loop-i-test.false)) c.loop-i.invariant
