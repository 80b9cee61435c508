-- `nodes::slots::next_empty` passes one head after another until one is empty. Assumes nothing.
use mathlib.Core.Path.{refl}
use native.Mathlib.Omega.{arith}
use Rattle.nodes.proofs.SlotLaws.{heading-found, heading-more, heading-all}
use Rattle.nodes.proofs.slots.next_empty.Goals as goal

pub loop-i-init : goal.loop-i-init
loop-i-init c = λ xs ss ms lx ls lm. refl

pub returns-then-h-eq0-clause-right : goal.returns-then-h-eq0-clause-right
returns-then-h-eq0-clause-right c = heading-found c.args.heads.now c.args.from c.told-heads c.loop-i.i (omega arith) c.if-h-eq0.true c.loop-i.invariant

pub loop-i-preserved : goal.loop-i-preserved
loop-i-preserved c = heading-more c.args.heads.now c.args.from c.told-heads c.loop-i.i (omega arith) c.if-h-eq0.false c.loop-i.invariant

pub returns-clause-right : goal.returns-clause-right
returns-clause-right c = heading-all c.args.heads.now c.args.from c.told-heads c.loop-i.i (omega arith) c.loop-i.invariant
