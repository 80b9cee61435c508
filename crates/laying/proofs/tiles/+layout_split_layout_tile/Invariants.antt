-- `laying::tiles::layout_tile` and `laying::tiles::layout_split` meet their contracts: the depth falls, and what is left of the children. Assumes nothing.
use mathlib.Core.Path.{◌≡◌}
use mathlib.Core.List.{map}
use Prim.Native.Nat.{◌+◌, ◌*◌}
use lib.ListN.{take, drop}
use Rattle.rules.specs.Tree.{tile, reals}
use Rattle.rules.specs.Frame.{layout_kids, layout_tile}
use Rattle.columns.specs.Columns.{nodes_from}
use Rattle.streaming.specs.Stream.{stream, push_all}
use Rattle.laying.proofs.tiles.+layout_split_layout_tile.Given as goal

abbrev pub decreases-layout_split : goal.decreases-layout_split
decreases-layout_split l = 2 * l.depth + 1

abbrev pub decreases-layout_tile : goal.decreases-layout_tile
decreases-layout_tile l = 2 * l.depth

abbrev pub invariant-layout_split-loop-j : goal.invariant-layout_split-loop-j
invariant-layout_split-loop-j l =
    push_all (layout_kids (layout_tile l.depth (nodes_from l.heads l.ids l.shares l.minima) l.input) (tile l.id) l.axis l.rect l.handle l.j (map tile (drop l.j (take l.count l.children))) (drop l.j (reals l.lengths)) l.at) (stream l.items l.rects l.m)
    ≡ push_all (layout_kids (layout_tile l.depth (nodes_from l.heads l.ids l.shares l.minima) l.input) (tile l.id) l.axis l.rect l.handle 0 (map tile (take l.count l.children)) (reals l.lengths) l.initial.at) (stream l.initial.items l.initial.rects l.n)
