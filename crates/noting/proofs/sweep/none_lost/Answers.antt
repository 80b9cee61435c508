-- `noting::sweep::none_lost` passes one slot after another until one is occupied and not claimed. Assumes nothing.
use native.Mathlib.Omega.{arith}
use borrow.Author.Tests.{eq-eqb, ne_eqb}
use Rattle.columns.specs.PackLaws.{passing-more, passing-lost, passing-all}
use Rattle.noting.proofs.sweep.none_lost.Goals.{else-not-claimed-i-via-then-not-claimed-i+else-heads-i-ne0, else-not-claimed-i-via-else-not-claimed-i}
use Rattle.noting.proofs.sweep.none_lost.Goals as goal

pub returns-then-heads-i-ne0 : goal.returns-then-heads-i-ne0
returns-then-heads-i-ne0 c =
    passing-lost c.args.heads.now c.args.claimed.now c.told-heads c.told-claimed c.loop-i.i (omega arith)
    (rw (c.if-not-claimed-i.true, ne_eqb _ _ c.if-heads-i-ne0.true)) c.loop-i.invariant

pub loop-i-preserved : goal.loop-i-preserved
loop-i-preserved c =
    passing-more c.args.heads.now c.args.claimed.now c.told-heads c.told-claimed c.loop-i.i (omega arith)
    (elim c.else-not-claimed-i.branch [
      | else-not-claimed-i-via-then-not-claimed-i+else-heads-i-ne0 w ↦ rw (w.if-not-claimed-i.true, eq-eqb _ _ w.if-heads-i-ne0.false)
      | else-not-claimed-i-via-else-not-claimed-i w ↦ rw w.if-not-claimed-i.false
    ]) c.loop-i.invariant

pub returns : goal.returns
returns c = passing-all c.args.heads.now c.args.claimed.now c.told-heads c.told-claimed c.loop-i.i (omega arith) c.loop-i.invariant
