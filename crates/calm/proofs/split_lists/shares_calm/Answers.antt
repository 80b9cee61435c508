-- `calm::split_lists::shares_calm`: shares need no mending where there is one for each child and each is good. Assumes nothing.
use mathlib.Core.Path.{◌∙◌}
use native.Mathlib.Omega.{arith}
use lib.ListN.{take}
use lib.Seq.{length-take-le}
use Rattle.calm.proofs.ListLaws.{shares-other, shares-good}
use Rattle.calm.proofs.split_lists.shares_calm.Goals as goal

pub returns-then-n-count : goal.returns-then-n-count
returns-then-n-count c =
    let a = c.args in
    let l = length-take-le a.n a.row.now (omega (arith, c.told-row)) in
    shares-other a.count (take a.n a.row.now) (λ e. c.if-n-count.true (omega (arith, l, e)))

pub returns : goal.returns
returns c =
    let a = c.args in
    let l = length-take-le a.n a.row.now (omega (arith, c.told-row)) in
    c.shares_ok.ensures ∙ shares-good a.count (take a.n a.row.now) (l ∙ c.if-n-count.false)
