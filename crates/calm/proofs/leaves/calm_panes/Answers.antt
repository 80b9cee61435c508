-- `calm::leaves::calm_panes` is the rule `calm_panes`: its loop, by what is left. Assumes nothing.
use mathlib.Core.Path.{sym, subst}
use native.Mathlib.Omega.{arith}
use Rattle.std.specs.Prelude.{Result}
use Prim.Native.Nat.{ℕ}
use mathlib.Core.List.{[], ◌∷◌}
use lib.ListN.{take, get_or, length-take}
use lib.Seq.{get_or-take, length-take-le}
use Rattle.calm.specs.Reads.{Sights}
use Rattle.calm.proofs.Laws.{hands-on, looking-more, looking-stop, looking-done}
use Rattle.calm.proofs.leaves.calm_panes.Goals as goal

pub returns-in_err-m : goal.returns-in_err-m
returns-in_err-m c =
    let a = c.args in
    let ps = take a.count a.row.now in
    let h = c.loop-j-test.true in
    let long = length-take-le a.count a.row.now (omega (arith, c.told-row)) in
    let S = looking-stop ps a.seen.now a.n c.loop-j.seen c.loop-j.m c.loop-j.j c.loop-j.invariant (omega (arith, long, h)) (get_or a.row.now c.loop-j.j 0) (get_or-take a.count a.row.now c.loop-j.j 0 h) c.calm_pane.new.seen
    c.in_err-m.field-0.0 (subst (λ (r : Result ℕ ℕ). Sights (get_or a.row.now c.loop-j.j 0 ∷ []) c.loop-j.seen c.loop-j.m c.calm_pane.new.seen r) c.in_err-m.was c.calm_pane.ensures) in
    subst (λ (r : Result ℕ ℕ). Sights ps a.seen.now a.n c.calm_pane.new.seen r) (sym (hands-on c.in_err-m.field-0.0 c.from_residual.result c.from_residual.ensures.1)) S

pub loop-j-preserved : goal.loop-j-preserved
loop-j-preserved c =
    let a = c.args in
    let ps = take a.count a.row.now in
    let h = c.loop-j-test.true in
    let long = length-take-le a.count a.row.now (omega (arith, c.told-row)) in
    looking-more ps a.seen.now a.n c.loop-j.seen c.loop-j.m c.loop-j.j c.loop-j.invariant (omega (arith, long, h)) (get_or a.row.now c.loop-j.j 0) (get_or-take a.count a.row.now c.loop-j.j 0 h) c.calm_pane.new.seen
    c.in_ok-m.m (subst (λ (r : Result ℕ ℕ). Sights (get_or a.row.now c.loop-j.j 0 ∷ []) c.loop-j.seen c.loop-j.m c.calm_pane.new.seen r) c.in_ok-m.was c.calm_pane.ensures)

pub returns : goal.returns
returns c =
    let a = c.args in
    looking-done (take a.count a.row.now) a.seen.now a.n c.loop-j.seen c.loop-j.m c.loop-j.j c.loop-j.invariant (omega (arith, length-take a.count a.row.now, c.loop-j-test.false))
