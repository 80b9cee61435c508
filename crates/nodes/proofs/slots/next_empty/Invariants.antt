-- `nodes::slots::next_empty` passes one head after another until one is empty. Assumes nothing.
use Rattle.nodes.proofs.SlotLaws.{Heading}
use Rattle.nodes.proofs.slots.next_empty.Given as goal

abbrev pub invariant-loop-i : goal.invariant-loop-i
invariant-loop-i l = Heading l.heads l.from l.i
