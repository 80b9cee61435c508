-- `calm::leaves::calm_panes` is the rule `calm_panes`: its loop, by what is left. Assumes nothing.
use lib.ListN.{take}
use Rattle.calm.proofs.Laws.{Looking}
use Rattle.calm.proofs.leaves.calm_panes.Given as goal

abbrev pub invariant-loop-j : goal.invariant-loop-j
invariant-loop-j l = Looking (take l.count l.row) l.initial.seen l.n l.seen l.m l.j
