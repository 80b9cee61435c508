-- `checks::validate::first_bad`: a search for a real that is not good. Assumes nothing.
use Rattle.std.proofs.Common.{not, ◌≤◌, Float, take, drop}
use Rattle.lists.specs.Find.{Passed}
use Rattle.table.specs.Rows.{reals_at}
use Rattle.checks.proofs.validate.first_bad.Given as goal

abbrev pub invariant-loop-i : goal.invariant-loop-i
invariant-loop-i g l = (l.i ≤ l.n) × Passed (λ (x : Float). not (g.test x)) (take l.n (drop l.from (reals_at l.b l.reals))) l.i
