-- `passes::run` meets its contract: the invariant says what is left to run. Assumes nothing.
use mathlib.Core.Path.{◌≡◌, subst}
use Prim.Native.Nat.{ℕ, ◌+◌, ◌-◌, ◌<◌}
use native.Mathlib.Omega.{arith}
use lib.Ieee.{of_bits}
use Rattle.solver.specs.Lent.{Ran}
use Rattle.solver.proofs.Runs.{Running, running-on, ended-none, ended-flex, ended-out}
use Rattle.solver.proofs.passes.run.Goals as goal
use Rattle.solver.proofs.passes.run.Goals.{then-not-turn-via-then-not-turn, then-not-turn-via-else-not-turn+then-turn}

pub returns-then-not-turn : goal.returns-then-not-turn
unfolding of_bits
returns-then-not-turn c =
    let a = c.args in
    let l = c.loop-earlier in
    let k = c.hold_all-turn in
    let some : 0 < a.kids.count - l.earlier = omega arith in
    elim c.then-not-turn.branch [
      | then-not-turn-via-then-not-turn w ↦
          ended-none a.total a.kids.count a.kids.shares.now a.kids.minima.now a.sizes.now l.sizes l.fixed l.earlier (a.kids.count - l.earlier) l.invariant some k.new.sizes k.new.fixed k.result k.ensures.worked k.ensures.tallied w.if-not-turn.true
      | then-not-turn-via-else-not-turn+then-turn w ↦
          ended-flex a.total a.kids.count a.kids.shares.now a.kids.minima.now a.sizes.now l.sizes l.fixed l.earlier (a.kids.count - l.earlier) l.invariant some k.new.sizes k.new.fixed k.result k.ensures.worked k.ensures.tallied w.if-turn.true
    ]

pub loop-earlier-preserved : goal.loop-earlier-preserved
unfolding of_bits
loop-earlier-preserved c =
    let a = c.args in
    let l = c.loop-earlier in
    let k = c.hold_all-turn in
    let some : 0 < a.kids.count - l.earlier = omega arith in
    let P : ℕ → Type 0 = λ left. Running a.total a.kids.count a.kids.shares.now a.kids.minima.now a.sizes.now c.spread_all.new.sizes k.new.fixed (l.earlier + 1) left in
    let e : a.kids.count - l.earlier - 1 ≡ a.kids.count - (l.earlier + 1) = omega arith in
    subst P e
    (running-on a.total a.kids.count a.kids.shares.now a.kids.minima.now a.sizes.now l.sizes l.fixed l.earlier (a.kids.count - l.earlier) l.invariant some k.new.sizes k.new.fixed k.result k.ensures.worked k.ensures.tallied c.if-not-turn.false c.if-turn.false c.larger-room.result c.larger-room.ensures c.spread_all.new.sizes c.spread_all.ensures)

pub returns : goal.returns
returns c =
    let a = c.args in
    let l = c.loop-earlier in
    let P : ℕ → Type 0 = λ passes. Ran a.total a.kids.count a.kids.shares.now a.kids.minima.now a.sizes.now l.sizes passes in
    let e : l.earlier ≡ a.kids.count = omega arith in
    subst P e (ended-out a.total a.kids.count a.kids.shares.now a.kids.minima.now a.sizes.now l.sizes l.fixed l.earlier (a.kids.count - l.earlier) l.invariant (omega arith))
