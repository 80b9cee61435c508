-- `solve_lent` meets its contract, test by test. Assumes nothing.
use mathlib.Core.Path.{◌≡◌, sym, ap, ◌∙◌, subst}
use mathlib.Core.List.{[]}
use Prim.Native.Nat.{ℕ, ◌<◌}
use native.Mathlib.Omega.{arith}
use lib.ListN.{length, take, replicate}
use lib.Seq.{length-take-le}
use borrow.Author.Tests.{eq-eqb}
use mathlib.Core.Bool.{true, false, true≢false}
use lib.Ieee.{of_bits, eq}
use Rattle.rules.specs.Numbers.{zero-f}
use Rattle.rules.specs.Solver.{still, tight, solve_lengths_with_min}
use Rattle.loops.specs.Padded.{Padded}
use Rattle.loops.proofs.Filling.{zeros, padded-none, padded-zeros}
use Rattle.solver.proofs.Solves.{shows, shows-as, same-for, solve-none, solve-zero, solve-tight, solve-loose}
use Rattle.solver.proofs.solve_lent.Goals as goal
use Rattle.solver.proofs.solve_lent.Goals.{then-kids-eq0, else-kids-eq0}

pub returns-then-total : goal.returns-then-total
unfolding of_bits
returns-then-total c =
    let a = c.args in
    let n = a.kids.count in
    let ss = take n a.kids.shares.now in
    let ms = take n a.kids.minima.now in
    elim c.if-kids-eq0.branch [
      | then-kids-eq0 w ↦
          let e = w.if-kids-eq0.true in
          shows zeros [] n 0 (solve_lengths_with_min a.total ss ms) (subst (λ (k : ℕ). Padded k [] zeros) (sym e) padded-none) (solve-none a.total n a.kids.shares.now ms e)
      | else-kids-eq0 w ↦
          let ls : length ss ≡ n = length-take-le n a.kids.shares.now (omega (arith, a.kids.few, a.kids.shares_long)) in
          let some : 0 < length ss = omega (arith, ls, w.if-kids-eq0.false) in
          let lm : length ms ≡ n = length-take-le n a.kids.minima.now (omega (arith, a.kids.few, a.kids.minima_long)) in
          let e : eq a.total zero-f ≡ true = sym w.value-is ∙ c.if-total.true in
          shows zeros (replicate n zero-f) n 0 (solve_lengths_with_min a.total ss ms) (padded-zeros n a.kids.few) (ap still (same-for zero-f n ms lm) ∙ solve-zero a.total ss ms some e)
    ]

pub returns-then-total-sums : goal.returns-then-total-sums
unfolding of_bits
returns-then-total-sums c =
    let a = c.args in
    let n = a.kids.count in
    let ss = take n a.kids.shares.now in
    let ms = take n a.kids.minima.now in
    let ls : length ss ≡ n = length-take-le n a.kids.shares.now (omega (arith, a.kids.few, a.kids.shares_long)) in
    elim c.if-kids-eq0.branch [
      | then-kids-eq0 w ↦ absurd (true≢false (sym (eq-eqb n 0 w.if-kids-eq0.true) ∙ sym w.value-is ∙ c.if-total.false))
      | else-kids-eq0 w ↦
          let some : 0 < length ss = omega (arith, ls, w.if-kids-eq0.false) in
          let e : eq a.total zero-f ≡ false = sym w.value-is ∙ c.if-total.false in
          shows _ (tight a.total a.sums.minima ms) n 0 (solve_lengths_with_min a.total ss ms) c.tight.ensures (solve-tight a.total ss ms some a.sums.minima c.requires.minima e c.if-total-sums.true)
    ]

pub returns-else-total-sums : goal.returns-else-total-sums
unfolding of_bits
returns-else-total-sums c =
    let a = c.args in
    let n = a.kids.count in
    let ss = take n a.kids.shares.now in
    let ms = take n a.kids.minima.now in
    let ls : length ss ≡ n = length-take-le n a.kids.shares.now (omega (arith, a.kids.few, a.kids.shares_long)) in
    elim c.if-kids-eq0.branch [
      | then-kids-eq0 w ↦ absurd (true≢false (sym (eq-eqb n 0 w.if-kids-eq0.true) ∙ sym w.value-is ∙ c.if-total.false))
      | else-kids-eq0 w ↦
          let some : 0 < length ss = omega (arith, ls, w.if-kids-eq0.false) in
          let e : eq a.total zero-f ≡ false = sym w.value-is ∙ c.if-total.false in
          shows-as (solve-loose a.total ss ms some a.sums.minima c.requires.minima e c.if-total-sums.false) c.loose.ensures
    ]
