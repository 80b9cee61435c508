-- `melting::rows::melt_all` pushes each child of the split that is melted in. Assumes nothing.
use mathlib.Core.Bool.{true}
use Prim.Native.Nat.{◌+◌}
use native.Mathlib.Omega.{arith}
use borrow.Author.Rules.{rules}
use lib.Ieee.{nan}
use Rattle.rules.specs.Numbers.{zero-f}
use Rattle.rules.specs.Tree.{tile}
use Rattle.rules.specs.Repair.{Entry, entry}
use Rattle.sifting.specs.Walked.{entries_of}
use Rattle.melting.specs.Splits.{Long}
use Rattle.melting.proofs.SplitLaws.{lent-in, melting-start, melting-more, melting-done, grown-one, even-count, even-read}
use Rattle.melting.proofs.rows.melt_all.Goals as goal

none : Entry
none = entry (tile 0) zero-f zero-f

pub loop-j-init : goal.loop-j-init
loop-j-init c =
    let a = c.args in
    melting-start a.cs.now a.ss.now a.ms.now a.n (entries_of a.sub) a.share (lent-in a.cs.now a.ss.now a.ms.now a.n true c.told-cs c.told-ss c.told-ms (omega (arith, c.requires.room)))

pub loop-j-preserved : goal.loop-j-preserved
loop-j-preserved c =
    let a = c.args in
    let b = a.sub in
    let g : Long c.args.sub = search rules in
    let h = c.loop-j-test.true in
    let l = c.loop-j in
    let p = c.push3 in
    melting-more a.cs.now a.ss.now a.ms.now a.n (entries_of b) a.share l.cs l.ss l.ms l.j _ none p.new.cs p.new.ss p.new.ms l.invariant
    (omega (arith, even-count b c.requires.even g, h))
    (even-read b c.requires.even g l.j 0 nan nan none h)
    (grown-one l.cs l.ss l.ms (a.n + l.j) true true l.invariant.lent (omega (arith, h, c.requires.room)) _ _ _ p.new.cs p.new.ss p.new.ms p.ensures.0 p.ensures.1 p.ensures.2)

pub returns : goal.returns
returns c =
    let a = c.args in
    let l = c.loop-j in
    melting-done a.cs.now a.ss.now a.ms.now a.n (entries_of a.sub) a.share l.cs l.ss l.ms l.j a.sub.children.len l.invariant (even-count a.sub c.requires.even (let g : Long c.args.sub = search rules in g)) c.loop-j-test.false
