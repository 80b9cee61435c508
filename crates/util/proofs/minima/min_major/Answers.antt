-- `util::minima::min_major` fills a fresh list with each child's minimum. Assumes nothing.
use mathlib.Core.Path.{refl, sym, ◌∙◌}
use native.Mathlib.Omega.{arith}
use lib.Ieee.{of_bits}
use Rattle.forest.specs.Lengths.{major-length}
use Rattle.rules.specs.Numbers.{zero-f}
use Rattle.rules.specs.Tree.{reals}
use Rattle.rules.specs.Minima.{min_major}
use Rattle.lists.specs.Exact.{pad_to}
use Rattle.lists.specs.Build.{building-start, building-more, building-done}
use Rattle.util.specs.Entries.{min_major-at}
use Rattle.util.proofs.minima.min_major.Goals as goal

pub loop-j-init : goal.loop-j-init
unfolding pad_to of_bits
loop-j-init c =
    let a = c.args in
    building-start zero-f (min_major a.count (reals a.minima) a.fallback) _ a.count (sym (major-length a.count (reals a.minima) a.fallback)) (omega arith) refl

pub loop-j-preserved : goal.loop-j-preserved
loop-j-preserved c =
    let a = c.args in
    let l = c.loop-j in
    let h = c.loop-j-test.true in
    building-more zero-f (min_major a.count (reals a.minima) a.fallback) l.at a.count l.j c.least_at.result l.invariant h
    (c.least_at.ensures ∙ sym (min_major-at a.count (reals a.minima) a.fallback l.j h))

pub returns : goal.returns
returns c =
    let a = c.args in
    let l = c.loop-j in
    building-done zero-f (min_major a.count (reals a.minima) a.fallback) l.at a.count l.j l.invariant c.loop-j-test.false
