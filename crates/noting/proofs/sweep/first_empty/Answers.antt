-- `noting::sweep::first_empty` passes one slot after another until one is empty. Assumes nothing.
use native.Mathlib.Omega.{arith}
use Rattle.columns.specs.PackLaws.{looked-none, looked-more, looked-found, looked-all}
use Rattle.noting.proofs.sweep.first_empty.Goals as goal

pub loop-i-init : goal.loop-i-init
loop-i-init c = looked-none c.args.heads.now

pub returns-then-heads-i-eq0 : goal.returns-then-heads-i-eq0
returns-then-heads-i-eq0 c = looked-found c.args.heads.now c.told-heads c.loop-i.i c.loop-i.invariant (omega arith) c.if-heads-i-eq0.true

pub loop-i-preserved : goal.loop-i-preserved
loop-i-preserved c = looked-more c.args.heads.now c.told-heads c.loop-i.i c.loop-i.invariant (omega arith) c.if-heads-i-eq0.false

pub returns : goal.returns
returns c = looked-all c.args.heads.now c.told-heads c.loop-i.i c.loop-i.invariant (omega arith)
