-- The outer loop of `solve_lengths_with_min`: it ends by itself, every run begins with a child that is not held and is counted, and the rule's fuel truncates nothing.
-- All of it holds for any numbers, good or bad. Assumes nothing.
use Rattle.std.specs.Prelude.{◌≡◌, refl, Bool, true, false, not, ◌&&◌, cond, List, [], ◌∷◌, map, ℕ, zero, suc, ◌+◌, ◌≤◌, ◌<◌, T, length, Float}
use Rattle.std.proofs.Common.{sym, ap, ◌∙◌, subst, true≢false, zero-le, le_refl, add-le-add, zero-lt-suc, arith, T_not}
use Rattle.std.specs.Float.{binary64}
use Rattle.std.specs.Float.Ieee.{add, lt, le}
use Rattle.std.specs.Float.Ieee.Fits.{and_l, and_r}
use Rattle.rules.specs.Numbers.{zero-f}
use Rattle.rules.specs.Lists.{all_of}
use Rattle.rules.specs.Solver.{sum_by, sum_of, part, resized, short, flexible, pin, spread, any_short, flexible_share_total, again, remaining, respread, Run, ran, run, start}
use Rattle.rules.specs.declared.solving.Kid.{Kid}
use Rattle.number.specs.Order.{le-self}

-- ---- how many are not held: a pass that goes on holds one more
unfoldable pub one : Kid → ℕ
one k = cond (flexible k) 1 0

unfoldable pub free : List Kid → ℕ
unfolding one
free [] = 0
free (k ∷ ks) = one k + free ks

pin-one : (k : Kid) → one (pin k) ≤ one k
unfolding one pin
pin-one k = go (short k)
  where
    go : (b : Bool) → cond (flexible (cond b (resized k k.minimum true) k)) 1 0 ≤ cond (flexible k) 1 0
    go true = zero-le
    go false = le_refl (cond (flexible k) 1 0)

pin-short : (k : Kid) → T (short k) → one (pin k) < one k
unfolding one pin
pin-short k = go k.fixed (lt k.size k.minimum)
  where
    go : (h l : Bool) → T (not h && l) → cond (flexible (cond (not h && l) (resized k k.minimum true) k)) 1 0 < cond (not h) 1 0
    go true l t = absurd t
    go false true t = zero-lt-suc 0
    go false false t = absurd t

spread-one : (room flex : Float) (k : Kid) → one (spread room flex k) ≡ one k
unfolding one spread
spread-one room flex k = go k.fixed refl
  where
    go : (b : Bool) → k.fixed ≡ b → ◌≡◌ {A = ℕ} (cond (flexible (cond b k (resized k (part room k.share flex) false))) 1 0) (cond (flexible k) 1 0)
    go true e = refl
    go false e = ap {B = ℕ} (λ (h : Bool). cond (not h) 1 0) (sym e)

pub free-spread : (room flex : Float) (ks : List Kid) → free (map (spread room flex) ks) ≡ free ks
unfolding free
free-spread room flex [] = refl
free-spread room flex (k ∷ ks) = λ i. spread-one room flex k i + free-spread room flex ks i

free-pin : (ks : List Kid) → free (map pin ks) ≤ free ks
unfolding free
free-pin [] = zero-le
free-pin (k ∷ ks) = add-le-add (pin-one k) (free-pin ks)

pub free-short : (ks : List Kid) → T (any_short ks) → free (map pin ks) < free ks
unfolding free any_short
free-short [] t = absurd t
free-short (k ∷ ks) t = go (short k) (λ u. u) t (free-short ks)
  where
    go : (b : Bool) → (T b → T (short k)) → T (cond b true (any_short ks)) → (T (any_short ks) → free (map pin ks) < free ks) → one (pin k) + free (map pin ks) < one k + free ks
    go true u t ih = omega (arith, pin-short k (u tt), free-pin ks)
    go false u t ih = omega (arith, pin-one k, ih t)

flex-none : (a : Float) (ks : List Kid) → free ks ≡ 0 → sum_by flexible (λ (k : Kid). k.share) a ks ≡ a
unfolding sum_by free one
flex-none a [] e = refl
flex-none a (k ∷ ks) e = go (flexible k) e (λ b. flex-none b ks)
  where
    go : (b : Bool) → cond b 1 0 + free ks ≡ 0 → ((b : Float) → free ks ≡ 0 → sum_by flexible (λ (k : Kid). k.share) b ks ≡ b) → sum_by flexible (λ (k : Kid). k.share) (cond b (add binary64 a k.share) a) ks ≡ a
    go true e ih = absurd (no_one (free ks) e)
      where
        no_one : (n : ℕ) → 1 + n ≡ 0 → ⊥
        no_one n e = omega arith
    go false e ih = ih a (omega (arith, e))

abbrev pub all_fixed : List Kid → Bool
all_fixed ks = all_of (λ (k : Kid). k.fixed) ks

pub some-free : (ks : List Kid) → all_fixed ks ≡ false → 1 ≤ free ks
unfolding all_of free one
some-free [] e = absurd (true≢false e)
some-free (k ∷ ks) e = go k.fixed e (some-free ks)
  where
    go : (b : Bool) → b && all_fixed ks ≡ false → (all_fixed ks ≡ false → 1 ≤ free ks) → 1 ≤ cond (not b) 1 0 + free ks
    go true e ih = omega (arith, ih e)
    go false e ih = omega arith

pub free-some : (ks : List Kid) → 1 ≤ free ks → all_fixed ks ≡ false
unfolding all_of free one
free-some [] h = absurd (no h)
  where
    no : 1 ≤ 0 → ⊥
    no h = omega arith
free-some (k ∷ ks) h = go k.fixed h (free-some ks)
  where
    go : (b : Bool) → 1 ≤ cond (not b) 1 0 + free ks → (1 ≤ free ks → all_fixed ks ≡ false) → b && all_fixed ks ≡ false
    go true h ih = ih (omega arith)
    go false h ih = refl

-- ---- a run that goes on leaves a child that is not held: where every child is held the flexible total is zero, and the run was the last
some_left : (n : ℕ) → (n ≡ 0 → ⊥) → 1 ≤ n
some_left n h = omega arith

pub left_one : (total : Float) (ks : List Kid) → T (not (le (flexible_share_total (map pin ks)) zero-f)) → 1 ≤ free (respread total (map pin ks))
left_one total ks t = some_left (free (respread total (map pin ks)))
    (λ e. T_not (le (flexible_share_total (map pin ks)) zero-f) t (subst (λ (z : Float). T (le z zero-f)) (sym (flex-none zero-f (map pin ks) (sym (free-spread (remaining total (map pin ks)) (flexible_share_total (map pin ks)) (map pin ks)) ∙ e))) (le-self zero-f tt)))

-- the two tests of a run that goes on
pub goes-short : (ks : List Kid) → again ks ≡ true → T (any_short ks)
goes-short ks e = and_l (any_short ks) (not (le (flexible_share_total (map pin ks)) zero-f)) (subst T (sym e) tt)

pub goes-flexible : (ks : List Kid) → again ks ≡ true → T (not (le (flexible_share_total (map pin ks)) zero-f))
goes-flexible ks e = and_r (any_short ks) (not (le (flexible_share_total (map pin ks)) zero-f)) (subst T (sym e) tt)

pub next-begins : (total : Float) (ks : List Kid) → again ks ≡ true → all_fixed (respread total (map pin ks)) ≡ false
next-begins total ks e = free-some (respread total (map pin ks)) (left_one total ks (goes-flexible ks e))

pub next-fewer : (total : Float) (ks : List Kid) → again ks ≡ true → free (respread total (map pin ks)) < free ks
next-fewer total ks e = omega (arith, free-spread (remaining total (map pin ks)) (flexible_share_total (map pin ks)) (map pin ks), free-short ks (goes-short ks e))

-- ---- the same loop with no fuel and no `tick`: it stops where `again` fails, and only there; each run begins with a child that is not held, and is counted
pub data Runs (total : Float) : ℕ → List Kid → Run → Type 0 where
  stops : {p : ℕ} {ks : List Kid} → all_fixed ks ≡ false → again ks ≡ false → Runs total p ks (ran (map pin ks) (suc p))
  goes : {p : ℕ} {ks : List Kid} {r : Run} → all_fixed ks ≡ false → again ks ≡ true → Runs total (suc p) (respread total (map pin ks)) r → Runs total p ks r

-- one run of the rule, where a child is not held
pub run-once : (fuel : ℕ) (total : Float) (p : ℕ) (ks : List Kid) → all_fixed ks ≡ false
    → run (suc fuel) total p ks ≡ cond (again ks) (run fuel total (suc p) (respread total (map pin ks))) (ran (map pin ks) (suc p))
unfolding run
run-once fuel total p ks e = λ i. cond (again ks) (run fuel total (cond (e i) p (suc p)) (respread total (map pin ks))) (ran (map pin ks) (cond (e i) p (suc p)))

-- THE COUNT: the rule's run is that loop, so with and without `tick` agree, and the fuel is never used up before the loop has ended
pub run-runs : (fuel : ℕ) (total : Float) (p : ℕ) (ks : List Kid) → all_fixed ks ≡ false → free ks ≤ fuel → Runs total p ks (run fuel total p ks)
run-runs zero total p ks e h = absurd (no (free ks) (some-free ks e) h)
  where
    no : (c : ℕ) → 1 ≤ c → c ≤ 0 → ⊥
    no c a b = omega arith
run-runs (suc fuel) total p ks e h =
    subst (λ (r : Run). Runs total p ks r) (sym (run-once fuel total p ks e))
    (go (again ks) refl (λ (a : again ks ≡ true). run-runs fuel total (suc p) (respread total (map pin ks)) (next-begins total ks a) (omega (arith, next-fewer total ks a))))
  where
    go : (c : Bool) → again ks ≡ c → (again ks ≡ true → Runs total (suc p) (respread total (map pin ks)) (run fuel total (suc p) (respread total (map pin ks))))
        → Runs total p ks (cond c (run fuel total (suc p) (respread total (map pin ks))) (ran (map pin ks) (suc p)))
    go true a ih = goes e a (ih a)
    go false a ih = stops e a

pub runs-unique : {total : Float} {p : ℕ} {ks : List Kid} {r s : Run} → Runs total p ks r → Runs total p ks s → r ≡ s
runs-unique (stops e a) (stops f b) = refl
runs-unique (stops e a) (goes f b t) = absurd (true≢false (sym b ∙ a))
runs-unique (goes e a t) (stops f b) = absurd (true≢false (sym a ∙ b))
runs-unique (goes e a t) (goes f b u) = runs-unique t u

-- THE FUEL: more gives the same
pub fuel-enough : (few lots : ℕ) (total : Float) (p : ℕ) (ks : List Kid) → all_fixed ks ≡ false → free ks ≤ few → free ks ≤ lots → run few total p ks ≡ run lots total p ks
fuel-enough few lots total p ks e h k = runs-unique (run-runs few total p ks e h) (run-runs lots total p ks e k)

-- ---- the children that the loop begins with: none is held
abbrev pub begun : Float → List Float → List Float → List Kid
begun total ss ms = start total (sum_of ss) ss ms

pub start-free : (total w : Float) (ss ms : List Float) → free (start total w ss ms) ≡ length (start total w ss ms)
unfolding start free one
start-free total w [] ms = refl
start-free total w (s ∷ ss) [] = refl
start-free total w (s ∷ ss) (m ∷ ms) = let h = start-free total w ss ms in omega arith

suc-back : (m n : ℕ) → suc m ≡ suc n → m ≡ n
suc-back m n e = omega arith

pub start-length : (total w : Float) (ss ms : List Float) → length ss ≡ length ms → length (start total w ss ms) ≡ length ms
unfolding start
start-length total w [] [] e = refl
start-length total w [] (m ∷ ms) e = e
start-length total w (s ∷ ss) [] e = refl
start-length total w (s ∷ ss) (m ∷ ms) e = ap suc (start-length total w ss ms (suc-back (length ss) (length ms) e))

pub start-begins : (total w : Float) (ss ms : List Float) → 0 < length ms → length ss ≡ length ms → all_fixed (start total w ss ms) ≡ false
start-begins total w ss ms h e = free-some (start total w ss ms) (omega (arith, start-free total w ss ms, start-length total w ss ms e))

-- both for the loop of the rule: it is counted run by run, and its fuel, a run for each child, is as good as any more
pub loop-counted : (total w : Float) (ss ms : List Float) → 0 < length ms → length ss ≡ length ms → Runs total 0 (start total w ss ms) (run (length (start total w ss ms)) total 0 (start total w ss ms))
loop-counted total w ss ms h e = run-runs (length (start total w ss ms)) total 0 (start total w ss ms) (start-begins total w ss ms h e) (omega (arith, start-free total w ss ms))

pub loop-not-cut : (total w : Float) (ss ms : List Float) → 0 < length ms → length ss ≡ length ms → (lots : ℕ) → length (start total w ss ms) ≤ lots
    → run (length (start total w ss ms)) total 0 (start total w ss ms) ≡ run lots total 0 (start total w ss ms)
loop-not-cut total w ss ms h e lots k =
    let f = start-free total w ss ms in
    fuel-enough (length (start total w ss ms)) lots total 0 (start total w ss ms) (start-begins total w ss ms h e) (omega arith) (omega arith)
