-- `sifting::panes::retain` is the rule's `retain`: its loop, by what is left. Assumes nothing.
use mathlib.Core.Path.{◌≡◌}
use native.Mathlib.Omega.{arith}
use borrow.Author.Rules.{rules}
use lib.ListN.{length, take, get_or, length-take}
use lib.Seq.{get_or-take, length-take-le}
use Rattle.rules.specs.Tree.{ids}
use Rattle.sifting.proofs.LeafLaws.{sifting, sifting-none, sifting-more, sifting-all}
use Rattle.sifting.proofs.panes.retain.Goals as goal

pub loop-j-init : goal.loop-j-init
loop-j-init c =
    let a = c.args in
    sifting-none a.id (ids a.panes) a.seen.now a.acts.now (sifting c.empty.result a.c) c.empty.ensures.size

pub keep_pane-s-requires : goal.keep_pane-s-requires
keep_pane-s-requires c =
    let i = c.loop-j.invariant in
    record { place = omega (arith, i.short, c.requires.few); sight = omega (arith, i.seen_most, c.requires); listing = omega (arith, i.acts-most, c.requires) }

pub loop-j-preserved : goal.loop-j-preserved
loop-j-preserved c =
    let a = c.args in
    let n = a.panes.len in
    let at = a.panes.at in
    let j = c.loop-j.j in
    let s : length at ≡ 16 = search rules in
    sifting-more a.id (take n at) a.seen.now a.acts.now (sifting c.empty.result a.c) c.loop-j.seen c.loop-j.acts c.loop-j.s j c.loop-j.invariant
    (omega (arith, length-take-le n at (omega (arith, s, c.requires.few)), c.loop-j-test.true)) (get_or at j 0) (get_or-take n at j 0 c.loop-j-test.true)
    _ _ c.keep_pane-s.result c.keep_pane-s.ensures

pub returns : goal.returns
returns c =
    let a = c.args in
    let n = a.panes.len in
    let at = a.panes.at in
    sifting-all a.id (take n at) a.seen.now a.acts.now (sifting c.empty.result a.c) c.loop-j.seen c.loop-j.acts c.loop-j.s c.loop-j.j c.loop-j.invariant
    (omega (arith, length-take n at, c.loop-j-test.false)) c.empty.ensures
