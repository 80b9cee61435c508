-- `util::minima::aligned_constraints` fills a fresh list with mended minima. Assumes nothing.
use mathlib.Core.Path.{◌≡◌, refl, sym, ap, ◌∙◌}
use native.Mathlib.Omega.{arith}
use borrow.Author.Rules.{rules}
use lib.ListN.{length, get_or}
use lib.Ieee.{of_bits, nan}
use Rattle.forest.specs.Lengths.{aligned-length}
use Rattle.rules.specs.Numbers.{zero-f}
use Rattle.rules.specs.Tree.{reals}
use Rattle.rules.specs.Minima.{fix_minimum, aligned_constraints}
use Rattle.lists.specs.Exact.{pad_to}
use Rattle.lists.specs.Places.{get_d-used, get_d-unused}
use Rattle.lists.specs.Build.{building-start, building-more, building-done}
use Rattle.util.specs.Entries.{aligned_at}
use Rattle.util.proofs.minima.aligned_constraints.Goals as goal
use Rattle.util.proofs.minima.aligned_constraints.Goals.{then-j-minima, else-j-minima}

pub loop-j-init : goal.loop-j-init
unfolding pad_to of_bits
loop-j-init c =
    let a = c.args in
    building-start zero-f (aligned_constraints a.count (reals a.minima)) _ a.count (sym (aligned-length a.count (reals a.minima))) (omega arith) refl

pub loop-j-preserved : goal.loop-j-preserved
unfolding of_bits
loop-j-preserved c =
    let a = c.args in
    let l = c.loop-j in
    let h = c.loop-j-test.true in
    let m = a.minima in
    let s : length m.at ≡ 16 = search rules in
    let x : c.if-j-minima.minimum ≡ get_or (reals m) l.j zero-f =
    elim c.if-j-minima.branch [
      | then-j-minima w ↦ w.minimum-is ∙ get_d-used m.len m.at l.j zero-f nan w.if-j-minima.true (omega arith)
      | else-j-minima w ↦ w.minimum-is ∙ get_d-unused m.len m.at l.j zero-f w.if-j-minima.false
    ] in
    building-more zero-f (aligned_constraints a.count (reals m)) l.at a.count l.j c.fix_minimum.result l.invariant h
    (c.fix_minimum.ensures ∙ ap fix_minimum x ∙ sym (aligned_at a.count (reals m) l.j h))

pub returns : goal.returns
returns c =
    let a = c.args in
    let l = c.loop-j in
    building-done zero-f (aligned_constraints a.count (reals a.minima)) l.at a.count l.j l.invariant c.loop-j-test.false
