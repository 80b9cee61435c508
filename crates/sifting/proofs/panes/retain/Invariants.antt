-- `sifting::panes::retain` is the rule's `retain`: its loop, by what is left. Assumes nothing.
use lib.ListN.{take}
use Rattle.sifting.proofs.LeafLaws.{Sifting}
use Rattle.sifting.proofs.panes.retain.Given as goal

abbrev pub invariant-loop-j : goal.invariant-loop-j
invariant-loop-j l = Sifting l.id (take l.n l.at) l.initial.seen l.initial.acts l.initial.s l.seen l.acts l.s l.j
