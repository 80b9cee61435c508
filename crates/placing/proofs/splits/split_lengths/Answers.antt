-- `placing::splits::split_lengths`: the shares and minima of the rule, then its solver. Assumes nothing.
use mathlib.Core.Path.{◌≡◌, sym, ap, ◌∙◌}
use borrow.Author.Rules.{rules}
use native.Mathlib.Omega.{arith}
use lib.ListN.{length, get_or, take}
use lib.Seq.{length-take-le}
use Rattle.rules.specs.Minima.{split_min_major}
use Rattle.rules.specs.Solver.{Lengths, solve_lengths_with_min}
use Rattle.forest.specs.Lengths.{repaired-length, minima-length}
use Rattle.placing.proofs.splits.split_lengths.Goals as goal

pub solve_lengths_with_min-requires : goal.solve_lengths_with_min-requires
solve_lengths_with_min-requires c =
    let l = c.split_min_major-least.ensures in
    let s = c.repaired_shares-by.ensures in
    let a = c.args in
    let n = get_or a.head 4 0 in (
      s.few,
      l.size ∙ minima-length n (take (get_or a.head 6 0) a.minima) c.major_size-default_min_major.result ∙ sym (s.size ∙ repaired-length n (take (get_or a.head 5 0) a.shares)),
    )

pub returns : goal.returns
returns c =
    let v = c.solve_lengths_with_min.ensures in
    let a = c.args in
    let n = get_or a.head 4 0 in
    let ms = take (get_or a.head 6 0) a.minima in
    let ls = c.solve_lengths_with_min.result.lengths in
    let places : length ls.at ≡ 16 = search rules in (
      ap (λ (l : Lengths). l.lengths) v.0
          ∙ (λ i. (solve_lengths_with_min (c.child_total-total.ensures i) (c.repaired_shares-by.ensures.list i) ((c.split_min_major-least.ensures.list ∙ ap (split_min_major n ms) c.major_size-default_min_major.ensures) i)).lengths),
      length-take-le ls.len ls.at (omega (arith, v.2.few)) ∙ v.1 ∙ c.repaired_shares-by.ensures.size ∙ repaired-length n (take (get_or a.head 5 0) a.shares),
    )
