-- `build::push::push_spec`: the measure is the rows left; the loop has built so many of the children, and says what the rules still do. Assumes nothing.
use Rattle.std.proofs.Common.{◌-◌, ◌≤◌}
use Rattle.table.specs.Rows.{rows_at}
use Rattle.build.specs.PushLoop.{Filling}
use Rattle.build.proofs.push.+push_spec.Given as goal

abbrev pub decreases-push_spec : goal.decreases-push_spec
decreases-push_spec l = l.t.rows.count - l.at

abbrev pub invariant-loop-j : goal.invariant-loop-j
invariant-loop-j l = (l.n ≤ 16) × Filling (rows_at l.b l.t) l.at l.n l.initial.kids l.kids l.j l.next
