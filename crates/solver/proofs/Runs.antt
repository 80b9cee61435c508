-- The outer loop, a turn at a time: what is left to run, from children of which one is not held. Assumes nothing.
use mathlib.Core.Path.{◌≡◌, refl, sym, ap, ◌∙◌}
use mathlib.Core.Bool.{Bool, true, false, not, ◌&&◌, cond}
use mathlib.Core.List.{List, map}
use Prim.Native.Nat.{ℕ, zero, suc, ◌+◌, ◌-◌, ◌≤◌, ◌<◌}
use native.Mathlib.Numerals.{add-one}
use native.Mathlib.Nat.{lt_irrefl}
use native.Mathlib.Omega.{arith}
use lib.ListN.{take, drop}
use lib.Ieee.{Float, binary64, sub, le}
use Rattle.rules.specs.Numbers.{larger, zero-f}
use Rattle.rules.specs.Solver.{pin, spread, any_short, fixed_total, flexible_share_total, again, respread, Run, ran, run, sized}
use Rattle.rules.specs.declared.solving.Kid.{Kid}
use Rattle.solver.specs.Loop.{all_fixed, run-once, next-begins}
use Rattle.solver.specs.Lent.{Ran}
use Rattle.loops.specs.Columns.{kids_shown, unfixed, Long, Worked, Tallied}
use Rattle.loops.specs.declared.kids.Held.{Held}
use borrow.Author.Tests.{not-true, not-false}
use Rattle.loops.proofs.Work.{sizes-taken}

-- what is left to run: `left` runs at most, p counted so far, and a child that is not held
pub record Left (total : Float) (R : Run) (left p : ℕ) (ks : List Kid) : Type 0 where
  pub begins : all_fixed ks ≡ false
  pub so_far : run left total p ks ≡ R

back : (n : ℕ) → n ≡ suc n - 1
back n = omega arith

run-stop : (left : ℕ) (total : Float) (p : ℕ) (ks : List Kid) → 0 < left → all_fixed ks ≡ false → again ks ≡ false → run left total p ks ≡ ran (map pin ks) (suc p)
run-stop zero total p ks h f e = absurd (lt_irrefl 0 h)
run-stop (suc left) total p ks h f e = run-once left total p ks f ∙ (λ i. cond (e i) (run left total (suc p) (respread total (map pin ks))) (ran (map pin ks) (suc p)))

run_more : (left : ℕ) (total : Float) (p : ℕ) (ks : List Kid) → 0 < left → all_fixed ks ≡ false → again ks ≡ true → run left total p ks ≡ run (left - 1) total (p + 1) (respread total (map pin ks))
run_more zero total p ks h f e = absurd (lt_irrefl 0 h)
run_more (suc left) total p ks h f e =
    run-once left total p ks f ∙ (λ i. cond (e i) (run left total (suc p) (respread total (map pin ks))) (ran (map pin ks) (suc p)))
    ∙ (λ i. run (back left i) total (sym (add-one p) i) (respread total (map pin ks)))

pub run_out : (total : Float) (R : Run) (left p : ℕ) (ks : List Kid) → 0 ≡ left → Left total R left p ks → ran ks p ≡ R
unfolding run
run_out total R left p ks e l = ap (λ (z : ℕ). run z total p ks) e ∙ l.so_far

and-false : (b : Bool) → b && false ≡ false
and-false true = refl
and-false false = refl

-- what the code has in a turn: whether a child was short, and the children held
module _ (left : ℕ) (total : Float) (p : ℕ) (ks out : List Kid) (R : Run) (some : 0 < left) (l : Left total R left p ks) (more : Bool) (is-more : more ≡ any_short ks) (is-out : out ≡ map pin ks) where
  stop : again ks ≡ false → ran out (p + 1) ≡ R
  stop e = (λ i. ran (is-out i) (add-one p i)) ∙ sym (run-stop left total p ks some l.begins e) ∙ l.so_far

  pub stop-none : not more ≡ true → ran out (p + 1) ≡ R
  stop-none e = stop (λ i. (sym is-more ∙ not-true more e) i && not (le (flexible_share_total (map pin ks)) zero-f))

  module _ (flex : Float) (is-flex : flex ≡ flexible_share_total (map pin ks)) where
    pub stop-flex : le flex zero-f ≡ true → ran out (p + 1) ≡ R
    stop-flex e =
        let q : le (flexible_share_total (map pin ks)) zero-f ≡ true = ap (λ (z : Float). le z zero-f) (sym is-flex) ∙ e in
        stop (ap (λ (b : Bool). any_short ks && not b) q ∙ and-false (any_short ks))

    pub go_on : not more ≡ false → le flex zero-f ≡ false → (held room : Float) (next : List Kid) → held ≡ fixed_total (map pin ks) → room ≡ larger (sub binary64 total held) zero-f
        → next ≡ map (spread room flex) out → Left total R (left - 1) (p + 1) next
    go_on m e held room next is_held_lem is-room is-next =
        let q : le (flexible_share_total (map pin ks)) zero-f ≡ false = ap (λ (z : Float). le z zero-f) (sym is-flex) ∙ e in
        let a : again ks ≡ true = λ i. (sym is-more ∙ not-false more m) i && not (q i) in
        let r : room ≡ larger (sub binary64 total (fixed_total (map pin ks))) zero-f = is-room ∙ ap (λ (z : Float). larger (sub binary64 total z) zero-f) is_held_lem in
        let n : next ≡ respread total (map pin ks) = is-next ∙ (λ i. map (spread (r i) (is-flex i)) (is-out i)) in
        record {
          begins = ap all_fixed n ∙ next-begins total ks a;
          so_far = ap (run (left - 1) total (p + 1)) n ∙ sym (run_more left total p ks some l.begins a) ∙ l.so_far;
        }

-- ---- the same over the columns that the code works in
pub record Running (total : Float) (n : ℕ) (ss ms xs₀ xs : List Float) (fs : List Bool) (p left : ℕ) : Type 0 where
  pub long : Long ss ms xs fs
  pub past : drop n xs ≡ drop n xs₀
  pub rest : Left total (run n total 0 (take n (kids_shown ss ms xs₀ unfixed))) left p (take n (kids_shown ss ms xs fs))

module _ (total : Float) (n : ℕ) (ss ms xs₀ : List Float) where
  abbrev whole : Run
  whole = run n total 0 (take n (kids_shown ss ms xs₀ unfixed))

  -- the loop's children shown as lengths
  ended : (xs : List Float) (fs : List Bool) (p : ℕ) → Long ss ms xs fs → drop n xs ≡ drop n xs₀ → ran (take n (kids_shown ss ms xs fs)) p ≡ whole → Ran total n ss ms xs₀ xs p
  ended xs fs p l d e = record {
    lengths = (λ i. record { lengths = sym (sizes-taken ss ms xs fs l n) i; passes = p }) ∙ ap sized e;
    past = d;
    long = l.sizes;
  }

  module _ (xs : List Float) (fs : List Bool) (p left : ℕ) (w : Running total n ss ms xs₀ xs fs p left) where
    pub ended-out : left ≤ 0 → Ran total n ss ms xs₀ xs p
    ended-out h = ended xs fs p w.long w.past (run_out total whole left p (take n (kids_shown ss ms xs fs)) (omega arith) w.rest)

    module _ (some : 0 < left) (xs₁ : List Float) (fs₁ : List Bool) (t : Held) (d : Worked pin n ss ms xs fs xs₁ fs₁) (y : Tallied (take n (kids_shown ss ms xs fs)) t) where
      pub ended-none : not t.changed ≡ true → Ran total n ss ms xs₀ xs₁ (p + 1)
      ended-none e =
          ended xs₁ fs₁ (p + 1) d.long (d.sizes-past ∙ w.past)
          (stop-none left total p (take n (kids_shown ss ms xs fs)) (take n (kids_shown ss ms xs₁ fs₁)) whole some w.rest t.changed y.changed d.kids e)

      pub ended-flex : le t.flexible zero-f ≡ true → Ran total n ss ms xs₀ xs₁ (p + 1)
      ended-flex e =
          ended xs₁ fs₁ (p + 1) d.long (d.sizes-past ∙ w.past)
          (stop-flex left total p (take n (kids_shown ss ms xs fs)) (take n (kids_shown ss ms xs₁ fs₁)) whole some w.rest t.changed y.changed d.kids t.flexible y.flexible e)

      pub running-on : not t.changed ≡ false → le t.flexible zero-f ≡ false → (room : Float) → room ≡ larger (sub binary64 total t.held) zero-f
          → (xs₂ : List Float) → Worked (spread room t.flexible) n ss ms xs₁ fs₁ xs₂ fs₁ → Running total n ss ms xs₀ xs₂ fs₁ (p + 1) (left - 1)
      running-on m e room r xs₂ d₂ = record {
        long = d₂.long;
        past = d₂.sizes-past ∙ d.sizes-past ∙ w.past;
        rest = go_on left total p (take n (kids_shown ss ms xs fs)) (take n (kids_shown ss ms xs₁ fs₁)) whole some w.rest t.changed y.changed d.kids t.flexible y.flexible m e t.held room (take n (kids_shown ss ms xs₂ fs₁)) y.held r d₂.kids;
      }
