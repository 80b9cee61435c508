-- `sifting::leaves::pane_step` claims the slot; the first sight of a pane wins. Assumes nothing.
use mathlib.Core.List.{[]}
use mathlib.Core.Path.{refl, sym, ◌∙◌}
use Prim.Native.Nat.{◌<◌}
use native.Mathlib.Omega.{arith}
use lib.ListN.{get_or, replicate}
use Rattle.sifting.proofs.LeafLaws.{open-room, pane-again, pane-first}
use Rattle.sifting.proofs.leaves.pane_step.Goals as goal

pub returns-then-saw : goal.returns-then-saw
returns-then-saw c xs ss ms S =
    let a = c.args in
    let p = get_or (get_or a.heads.now a.id []) 2 0 in
    pane-again a.heads.now xs ss ms a.claimed.now a.seen.now a.acts.now a.c a.id S c.requires.slot p c.requires.pane refl
    (replicate 8 0) _ c.note_action-n.result refl (omega arith, omega arith, omega arith) (sym c.saw.ensures ∙ c.if-saw.true)
    c.note_action-n.ensures

pub see-n-requires : goal.see-n-requires
see-n-requires c =
    let a = c.args in
    let h : a.c.seen < 1024 = omega (arith, (open-room a.heads.now a.claimed.now a.c a.id c.requires.slot).0) in
    h

pub returns : goal.returns
returns c xs ss ms S =
    let a = c.args in
    let p = get_or (get_or a.heads.now a.id []) 2 0 in
    pane-first a.heads.now xs ss ms a.claimed.now a.seen.now a.acts.now a.c a.id S c.requires.slot p c.requires.pane refl
    _ c.see-n.result (sym c.saw.ensures ∙ c.if-saw.false) c.see-n.ensures.0 c.see-n.ensures.1
