-- `calm::split_lists::minimum_at` is the entry of the list, zero past its end. Assumes nothing.
use mathlib.Core.Path.{sym}
use native.Mathlib.Omega.{arith}
use lib.ListN.{take, length-take, get_or-eq_default}
use lib.Ieee.{nan, of_bits}
use Rattle.rules.specs.Numbers.{zero-f}
use Rattle.calm.proofs.ListLaws.{in_take}
use Rattle.calm.proofs.split_lists.minimum_at.Goals as goal

pub returns-then-n-j : goal.returns-then-n-j
unfolding of_bits
returns-then-n-j c =
    let a = c.args in
    sym (get_or-eq_default (take a.n a.row.now) zero-f (omega (arith, length-take a.n a.row.now, c.if-n-j.true)))

pub returns : goal.returns
returns c =
    let a = c.args in
    in_take a.n a.row.now a.j nan zero-f c.if-n-j.false (omega (arith, c.told-row))
