-- `calm::nodes::calm_node` is the rule `calm`, and `calm_split` the rule of its name: fuel falls from tile to tile. Assumes nothing.
use mathlib.Core.List.{[]}
use Prim.Native.Nat.{◌+◌, ◌*◌}
use lib.ListN.{get_or}
use Rattle.columns.specs.Columns.{axis_from, nodes_from}
use Rattle.calm.specs.Calm.{calm}
use Rattle.calm.proofs.NodeLaws.{Going, kids}
use Rattle.calm.proofs.nodes.+calm_node_calm_split.Given as goal

abbrev pub decreases-calm_node : goal.decreases-calm_node
decreases-calm_node l = 2 * l.depth

abbrev pub decreases-calm_split : goal.decreases-calm_split
decreases-calm_split l = 2 * l.depth + 1

abbrev pub invariant-calm_split-loop-j : goal.invariant-calm_split-loop-j
invariant-calm_split-loop-j l =
    Going (calm l.depth (nodes_from l.heads l.ids l.shares l.minima)) (nodes_from l.heads l.ids l.shares l.minima) (axis_from l.mode) (kids (get_or l.heads l.id []) l.kids (get_or l.shares l.id []) (get_or l.minima l.id [])) l.initial.claimed l.initial.seen l.n l.claimed l.seen l.m l.j
