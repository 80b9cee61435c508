-- `ops::whole::apply_inner` goes by the operation. Assumes nothing.
use mathlib.Core.Path.{ap}
use Rattle.std.specs.Prelude.{Some, Ok}
use Rattle.rules.specs.Operations.{apply_inner}
use Rattle.columns.specs.Shown.{arena_from}
use Rattle.docking.specs.Steps.{always}
use Rattle.docking.proofs.TakenLaws.{exits, steps_on}
use Rattle.changing.proofs.OpLaws.{steps-like}
use Rattle.ops.proofs.whole.apply_inner.Goals as goal

pub returns-in-ActivatePane : goal.returns-in-ActivatePane
unfolding apply_inner
returns-in-ActivatePane c =
    let x = c.args in
    record { even = c.activate_pane.ensures.even; steps = λ v. steps-like (arena_from x.root v x.heads.now x.ids.now x.shares.now x.minima.now) (apply_inner (arena_from x.root v x.heads.now x.ids.now x.shares.now x.minima.now) x.op) _ c.activate_pane.result _ (ap (apply_inner (arena_from x.root v x.heads.now x.ids.now x.shares.now x.minima.now)) c.in-ActivatePane.is) (c.activate_pane.ensures.steps v) }

pub returns-in_err-c-in-ClosePane : goal.returns-in_err-c-in-ClosePane
unfolding apply_inner
returns-in_err-c-in-ClosePane c =
    let x = c.args in
    record { even = c.close_pane.ensures.even; steps = λ v. steps-like (arena_from x.root v x.heads.now x.ids.now x.shares.now x.minima.now) (apply_inner (arena_from x.root v x.heads.now x.ids.now x.shares.now x.minima.now) x.op) _ c.from_residual.result _ (ap (apply_inner (arena_from x.root v x.heads.now x.ids.now x.shares.now x.minima.now)) c.in-ClosePane.is) (steps_on (arena_from x.root v x.heads.now x.ids.now x.shares.now x.minima.now) _ _ _ _ (ap always c.in_err-c-in-ClosePane.was) (exits c.from_residual.result c.from_residual.ensures.1) (c.close_pane.ensures.steps v)) }

pub returns-in_ok-c-in-ClosePane : goal.returns-in_ok-c-in-ClosePane
unfolding apply_inner
returns-in_ok-c-in-ClosePane c =
    let x = c.args in
    record { even = c.close_pane.ensures.even; steps = λ v. steps-like (arena_from x.root v x.heads.now x.ids.now x.shares.now x.minima.now) (apply_inner (arena_from x.root v x.heads.now x.ids.now x.shares.now x.minima.now) x.op) _ (Ok (Some c.in_ok-c-in-ClosePane.c)) _ (ap (apply_inner (arena_from x.root v x.heads.now x.ids.now x.shares.now x.minima.now)) c.in-ClosePane.is) (c.in_ok-c-in-ClosePane.ensures.steps v) }

pub returns-in_err-c-in-SplitPane : goal.returns-in_err-c-in-SplitPane
unfolding apply_inner
returns-in_err-c-in-SplitPane c =
    let x = c.args in
    record { even = c.split_pane.ensures.even; steps = λ v. steps-like (arena_from x.root v x.heads.now x.ids.now x.shares.now x.minima.now) (apply_inner (arena_from x.root v x.heads.now x.ids.now x.shares.now x.minima.now) x.op) _ c.from_residual-in_err-c-in-SplitPane.result _ (ap (apply_inner (arena_from x.root v x.heads.now x.ids.now x.shares.now x.minima.now)) c.in-SplitPane.is) (steps_on (arena_from x.root v x.heads.now x.ids.now x.shares.now x.minima.now) _ _ _ _ (ap always c.in_err-c-in-SplitPane.was) (exits c.from_residual-in_err-c-in-SplitPane.result c.from_residual-in_err-c-in-SplitPane.ensures.1) (c.split_pane.ensures.steps v)) }

pub returns-in_ok-c-in-SplitPane : goal.returns-in_ok-c-in-SplitPane
unfolding apply_inner
returns-in_ok-c-in-SplitPane c =
    let x = c.args in
    record { even = c.split_pane.ensures.even; steps = λ v. steps-like (arena_from x.root v x.heads.now x.ids.now x.shares.now x.minima.now) (apply_inner (arena_from x.root v x.heads.now x.ids.now x.shares.now x.minima.now) x.op) _ (Ok (Some c.in_ok-c-in-SplitPane.c)) _ (ap (apply_inner (arena_from x.root v x.heads.now x.ids.now x.shares.now x.minima.now)) c.in-SplitPane.is) (c.in_ok-c-in-SplitPane.ensures.steps v) }

pub returns-in_err-c-in-MovePane : goal.returns-in_err-c-in-MovePane
unfolding apply_inner
returns-in_err-c-in-MovePane c =
    let x = c.args in
    record { even = c.move_pane.ensures.even; steps = λ v. steps-like (arena_from x.root v x.heads.now x.ids.now x.shares.now x.minima.now) (apply_inner (arena_from x.root v x.heads.now x.ids.now x.shares.now x.minima.now) x.op) _ c.from_residual-in_err-c-in-MovePane.result _ (ap (apply_inner (arena_from x.root v x.heads.now x.ids.now x.shares.now x.minima.now)) c.in-MovePane.is) (steps_on (arena_from x.root v x.heads.now x.ids.now x.shares.now x.minima.now) _ _ _ _ (ap always c.in_err-c-in-MovePane.was) (exits c.from_residual-in_err-c-in-MovePane.result c.from_residual-in_err-c-in-MovePane.ensures.1) (c.move_pane.ensures.steps v)) }

pub returns-in_ok-c-in-MovePane : goal.returns-in_ok-c-in-MovePane
unfolding apply_inner
returns-in_ok-c-in-MovePane c =
    let x = c.args in
    record { even = c.move_pane.ensures.even; steps = λ v. steps-like (arena_from x.root v x.heads.now x.ids.now x.shares.now x.minima.now) (apply_inner (arena_from x.root v x.heads.now x.ids.now x.shares.now x.minima.now) x.op) _ (Ok (Some c.in_ok-c-in-MovePane.c)) _ (ap (apply_inner (arena_from x.root v x.heads.now x.ids.now x.shares.now x.minima.now)) c.in-MovePane.is) (c.in_ok-c-in-MovePane.ensures.steps v) }

pub returns-in-ReorderTab : goal.returns-in-ReorderTab
unfolding apply_inner
returns-in-ReorderTab c =
    let x = c.args in
    record { even = c.reorder_tab.ensures.even; steps = λ v. steps-like (arena_from x.root v x.heads.now x.ids.now x.shares.now x.minima.now) (apply_inner (arena_from x.root v x.heads.now x.ids.now x.shares.now x.minima.now) x.op) _ c.reorder_tab.result _ (ap (apply_inner (arena_from x.root v x.heads.now x.ids.now x.shares.now x.minima.now)) c.in-ReorderTab.is) (c.reorder_tab.ensures.steps v) }
