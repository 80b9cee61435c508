-- `sifting::leaves::group_step` claims the slot, keeps the panes not seen before, and stores what is left. Assumes nothing.
use mathlib.Core.Path.{refl}
use mathlib.Core.List.{[], ◌∷◌}
use Prim.Native.Nat.{◌≤◌, ◌<◌, ◌+◌}
use native.Mathlib.Omega.{arith}
use lib.ListN.{get_or, replicate}
use Rattle.sifting.proofs.LeafLaws.{open-room, retains-few, group-none, group-some}
use Rattle.sifting.proofs.leaves.group_step.Goals as goal

pub retain-s-requires : goal.retain-s-requires
retain-s-requires c =
    let a = c.args in
    let o = open-room a.heads.now a.claimed.now a.c a.id c.requires.slot in
    let s : a.c.seen + 16 ≤ 1024 = o.0 in
    let m : a.c.acts + 16 ≤ 1300 = omega (arith, o.1) in
    record { few = c.requires.few; sights = s; listing = m }

pub note_action-n-requires : goal.note_action-n-requires
note_action-n-requires c =
    let a = c.args in
    let o = open-room a.heads.now a.claimed.now a.c a.id c.requires.slot in
    let f = retains-few _ _ _ _ _ _ _ _ _ _ c.retain-s.ensures c.requires.few in
    let h : c.retain-s.result.counts.acts < 1300 = omega (arith, o.1, f.1) in
    h

pub returns-then-kept-eq0 : goal.returns-then-kept-eq0
returns-then-kept-eq0 c ss ms S =
    let a = c.args in
    group-none a.heads.now a.ids.now ss ms a.claimed.now a.seen.now a.acts.now a.c a.id S c.requires.slot c.requires.group
    _ _ c.retain-s.result.list c.retain-s.result.counts c.retain-s.ensures
    (replicate 8 0) _ c.note_action-n.result refl (omega arith, omega arith, omega arith) c.if-kept-eq0.true
    c.note_action-n.ensures

pub active_of-active-requires : goal.active_of-active-requires
active_of-active-requires c =
    let f = retains-few _ _ _ _ _ _ _ _ _ _ c.retain-s.ensures c.requires.few in
    record { few = c.requires.few; fewer = f.0 }

pub note_action_if-n-requires : goal.note_action_if-n-requires
note_action_if-n-requires c =
    let a = c.args in
    let o = open-room a.heads.now a.claimed.now a.c a.id c.requires.slot in
    let f = retains-few _ _ _ _ _ _ _ _ _ _ c.retain-s.ensures c.requires.few in
    let h : c.retain-s.result.counts.acts < 1300 = omega (arith, o.1, f.1) in
    h

pub returns : goal.returns
returns c ss ms S =
    let a = c.args in
    let f = retains-few _ _ _ _ _ _ _ _ _ _ c.retain-s.ensures c.requires.few in
    let l = c.retain-s.result.list in
    group-some a.heads.now a.ids.now ss ms a.claimed.now a.seen.now a.acts.now a.c a.id S c.requires.slot c.requires.group
    _ _ l c.retain-s.result.counts c.retain-s.ensures
    (2 ∷ get_or (get_or a.heads.now a.id []) 1 0 ∷ 0 ∷ c.active_of-active.result ∷ l.len ∷ 0 ∷ 0 ∷ 0 ∷ []) _ c.note_action_if-n.result
    refl refl c.active_of-active.ensures refl (f.0, omega arith, omega arith) c.if-kept-eq0.false
    c.note_action_if-n.ensures
