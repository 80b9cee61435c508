-- `checks::validate::load_panes`: each turn loads the next pane. Assumes nothing.
use Rattle.checks.specs.LoadLaws.{Loading}
use Rattle.checks.proofs.validate.load_panes.Given as goal

abbrev pub invariant-loop-j : goal.invariant-loop-j
invariant-loop-j l = Loading l.b l.t l.panes l.j
