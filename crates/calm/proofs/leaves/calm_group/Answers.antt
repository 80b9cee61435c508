-- `calm::leaves::calm_group` is the rule `calm_group`, whatever is claimed. Assumes nothing.
use native.Mathlib.Omega.{arith}
use Rattle.calm.proofs.Laws.{group-no, group-yes}
use Rattle.calm.proofs.leaves.calm_group.Goals as goal

pub returns-then-h : goal.returns-then-h
returns-then-h c =
    let a = c.args in
    group-no a.h a.row.now a.seen.now a.n c.if-h.true _ (omega arith)

pub returns : goal.returns
returns c =
    let a = c.args in
    group-yes a.h a.row.now a.seen.now a.n c.if-h.false c.requires.few c.told-row _ c.calm_panes.result c.calm_panes.ensures
