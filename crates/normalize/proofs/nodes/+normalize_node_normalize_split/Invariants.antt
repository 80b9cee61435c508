-- The cycle of `normalize::nodes::normalize_node` and `normalize_split`. Each answer hands paths to a law of WalkLaws. Assumes nothing.
use Prim.Native.Nat.{◌+◌}
use Rattle.forest.specs.Lists.{free}
use Rattle.sifting.specs.Work.{Cols, cols}
use Rattle.melting.specs.Splits.{kids_in}
use Rattle.normalize.proofs.WalkLaws.{Going, Ctx}
use Rattle.normalize.proofs.nodes.+normalize_node_normalize_split.Given as goal

abbrev pub decreases-normalize_node : goal.decreases-normalize_node
decreases-normalize_node l = free l.claimed.now + free l.claimed.now + 1

abbrev pub decreases-normalize_split : goal.decreases-normalize_split
decreases-normalize_split l = free l.claimed.now + free l.claimed.now

abbrev pub invariant-normalize_split-loop-j : goal.invariant-normalize_split-loop-j
invariant-normalize_split-loop-j l =
    (C₀ : Cols) → Ctx l.o.rows C₀ (cols l.initial.heads l.initial.ids l.initial.shares l.initial.minima l.initial.claimed l.initial.seen l.initial.acts l.initial.counts) l.id l.o.mode l.o.given
    → Going l.o.rows C₀ (cols l.initial.heads l.initial.ids l.initial.shares l.initial.minima l.initial.claimed l.initial.seen l.initial.acts l.initial.counts) l.id l.o.mode l.o.given (cols l.heads l.ids l.shares l.minima l.claimed l.seen l.acts l.counts) (kids_in l.cs l.ss l.ms l.tally.len l.tally.moved) l.j
