-- `calm::split_lists::minima_calm`: minima need no mending where they are no more than the children, each is good, and the last is not zero. Assumes nothing.
use mathlib.Core.Path.{◌∙◌}
use Prim.Native.Nat.{◌-◌, ◌<◌}
use native.Mathlib.Nat.{pos_of_ne-zero}
use native.Mathlib.Omega.{arith}
use lib.ListN.{take, get_or}
use lib.Seq.{length-take-le}
use lib.Ieee.{nan, of_bits}
use Rattle.calm.proofs.ListLaws.{minima-none, minima-many, minima-cut, minima-good, last-in}
use Rattle.calm.proofs.split_lists.minima_calm.Goals as goal

pub returns-then-n-eq0 : goal.returns-then-n-eq0
returns-then-n-eq0 c =
    let a = c.args in
    let l = length-take-le a.n a.row.now (omega (arith, c.told-row)) in
    minima-none a.count (take a.n a.row.now) (l ∙ c.if-n-eq0.true)

pub returns-then-count-n : goal.returns-then-count-n
returns-then-count-n c =
    let a = c.args in
    let l = length-take-le a.n a.row.now (omega (arith, c.told-row)) in
    minima-many a.count (take a.n a.row.now) (omega (arith, l, c.if-count-n.true))

pub returns-then-row-n : goal.returns-then-row-n
unfolding of_bits
returns-then-row-n c =
    let a = c.args in
    let some-there : 0 < a.n = pos_of_ne-zero c.if-n-eq0.false in
    let l = length-take-le a.n a.row.now (omega (arith, c.told-row)) in
    minima-cut a.count (take a.n a.row.now) (get_or a.row.now (a.n - 1) nan) nan (omega (arith, l)) (last-in a.n a.row.now nan some-there l) c.if-row-n.true

pub returns : goal.returns
unfolding of_bits
returns c =
    let a = c.args in
    let some-there : 0 < a.n = pos_of_ne-zero c.if-n-eq0.false in
    let l = length-take-le a.n a.row.now (omega (arith, c.told-row)) in
    c.minima_ok.ensures
    ∙ minima-good a.count (take a.n a.row.now) (get_or a.row.now (a.n - 1) nan) nan (omega (arith, l)) (last-in a.n a.row.now nan some-there l) (omega (arith, l, c.if-count-n.false)) c.if-row-n.false
