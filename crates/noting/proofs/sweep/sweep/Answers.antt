-- `noting::sweep::sweep` passes one slot after another. Assumes nothing.
use native.Mathlib.Omega.{arith}
use Rattle.columns.specs.PackLaws.{sweeping-none, sweeping-kept, sweeping-emptied, sweeping-all}
use Rattle.noting.proofs.sweep.sweep.Goals as goal

pub loop-i-init : goal.loop-i-init
loop-i-init c = let a = c.args in sweeping-none a.heads.now a.claimed.now a.acts.now a.n c.told-heads c.told-claimed

pub note_action_if-m-requires : goal.note_action_if-m-requires
note_action_if-m-requires c = omega (arith, c.loop-i.invariant.most, c.requires)

pub loop-i-preserved-then-claimed-i : goal.loop-i-preserved-then-claimed-i
loop-i-preserved-then-claimed-i c =
    let a = c.args in
    let l = c.loop-i in
    sweeping-kept a.heads.now a.claimed.now a.acts.now a.n c.told-heads c.told-claimed l.heads l.acts l.m l.i l.invariant (omega arith) c.if-claimed-i.true

pub loop-i-preserved : goal.loop-i-preserved
loop-i-preserved c =
    let a = c.args in
    let l = c.loop-i in
    let n = c.note_action_if-m in
    sweeping-emptied a.heads.now a.claimed.now a.acts.now a.n c.told-heads c.told-claimed l.heads l.acts l.m l.i l.invariant (omega arith) c.if-claimed-i.false
    n.new.acts n.result n.ensures

pub returns : goal.returns
returns c =
    let a = c.args in
    let l = c.loop-i in
    sweeping-all a.heads.now a.claimed.now a.acts.now a.n c.told-heads c.told-claimed l.heads l.acts l.m l.i l.invariant (omega arith)
