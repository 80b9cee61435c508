-- `util::minima::kept` passes zeros from the end. Assumes nothing.
use mathlib.Core.Path.{◌≡◌, sym, ap, subst, ◌∙◌}
use mathlib.Core.Bool.{true, false}
use Prim.Native.Nat.{ℕ, ◌<◌, ◌-◌, ◌+◌}
use native.Mathlib.Omega.{arith}
use borrow.Author.Rules.{rules}
use borrow.Author.Tests.{not-true, not-false}
use lib.ListN.{length, get_or, take}
use lib.Ieee.{Float, of_bits, nan, eq, ne}
use Rattle.rules.specs.Numbers.{zero-f}
use Rattle.rules.specs.Tree.{reals}
use Rattle.rules.specs.Minima.{compact_constraints}
use Rattle.lists.specs.Places.{get_d-used}
use Rattle.util.specs.Entries.{cutting-more, cutting-kept, cutting-none}
use Rattle.util.proofs.minima.kept.Goals as goal

pub returns-then-minima-n : goal.returns-then-minima-n
unfolding of_bits ne
returns-then-minima-n c =
    let m = c.args.minima in
    let l = c.loop-n in
    let s : length m.at ≡ 16 = search rules in
    let h : l.n - 1 < m.len = omega (arith, c.loop-n-test.true) in
    let x : get_or m.at (l.n - 1) nan ≡ get_or (reals m) (l.n - 1) zero-f = get_d-used m.len m.at (l.n - 1) zero-f nan h (omega arith) in
    let e : eq (get_or (reals m) (l.n - 1) zero-f) zero-f ≡ false = sym (ap (λ (x : Float). eq x zero-f) x) ∙ not-true _ c.if-minima-n.true in
    let k : l.n ≡ l.n - 1 + 1 = omega (arith, c.loop-n-test.true) in
    let P : ℕ → Type 0 = λ k. take k (reals m) ≡ compact_constraints (reals m) in
    (omega arith, subst P k (cutting-kept (reals m) l.n c.loop-n-test.true e l.invariant))

pub loop-n-preserved : goal.loop-n-preserved
unfolding of_bits ne
loop-n-preserved c =
    let m = c.args.minima in
    let l = c.loop-n in
    let s : length m.at ≡ 16 = search rules in
    let h : l.n - 1 < m.len = omega (arith, c.loop-n-test.true) in
    let x : get_or m.at (l.n - 1) nan ≡ get_or (reals m) (l.n - 1) zero-f = get_d-used m.len m.at (l.n - 1) zero-f nan h (omega arith) in
    let e : eq (get_or (reals m) (l.n - 1) zero-f) zero-f ≡ true = sym (ap (λ (x : Float). eq x zero-f) x) ∙ not-false _ c.if-minima-n.false in
    cutting-more (reals m) l.n c.loop-n-test.true e l.invariant

pub returns : goal.returns
returns c =
    let m = c.args.minima in
    let l = c.loop-n in
    let e : l.n ≡ 0 = omega (arith, c.loop-n-test.false) in
    let P : ℕ → Type 0 = λ k. take k (reals m) ≡ compact_constraints (reals m) in
    (omega arith, subst P e (cutting-none (reals m) l.n c.loop-n-test.false l.invariant))
