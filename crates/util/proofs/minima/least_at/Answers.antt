-- `util::minima::least_at` asks whether the child has a minimum of its own. Assumes nothing.
use mathlib.Core.Path.{◌≡◌, sym, ap, ◌∙◌}
use Prim.Native.Nat.{◌≤◌}
use native.Mathlib.Omega.{arith}
use borrow.Author.Rules.{rules}
use lib.ListN.{length}
use lib.Ieee.{nan}
use Rattle.rules.specs.Numbers.{zero-f}
use Rattle.rules.specs.Tree.{reals}
use Rattle.rules.specs.Minima.{least_of}
use Rattle.lists.specs.Places.{used-length, get_d-used}
use Rattle.util.specs.Entries.{least-own, least-missing}
use Rattle.util.proofs.minima.least_at.Goals as goal

pub returns-then-j-minima : goal.returns-then-j-minima
returns-then-j-minima c =
    let a = c.args in
    let s : length a.minima.at ≡ 16 = search rules in
    let h : a.minima.len ≤ length a.minima.at = omega arith in
    let u = used-length a.minima.len a.minima.at h in
    c.least.ensures ∙ ap (least_of a.fallback) (get_d-used a.minima.len a.minima.at a.j zero-f nan c.if-j-minima.true (omega arith))
    ∙ sym (least-own (reals a.minima) a.fallback a.j (omega (arith, u)))

pub returns-else-j-minima : goal.returns-else-j-minima
returns-else-j-minima c =
    let a = c.args in
    let s : length a.minima.at ≡ 16 = search rules in
    let h : a.minima.len ≤ length a.minima.at = omega arith in
    let u = used-length a.minima.len a.minima.at h in
    c.plus_zero.ensures ∙ sym (least-missing (reals a.minima) a.fallback a.j (omega (arith, u)))
