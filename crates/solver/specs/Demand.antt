-- Demand 3 of the solver's rule, on good input: lengths from zero to the total, minima held where their sum is below the total, and no more passes than children.
-- Over lists as the record Meets; then for each index. Assumes nothing.
use Rattle.std.specs.Prelude.{◌≡◌, refl, Bool, not, cond, get_or, Float}
use Rattle.std.proofs.Common.{sym, ap, ◌∙◌, subst, le_of_suc-le-suc, not-suc-le-zero, T_not}
use Rattle.std.proofs.Math.Bool.{true, false}
use mathlib.Core.List.{List, [], ◌∷◌, map}
use Prim.Native.Nat.{ℕ, zero, suc, ◌+◌, ◌≤◌, ◌<◌, zero-le}
use native.Mathlib.Omega.{arith}
use Rattle.std.proofs.Math.Dec.{T}
use Rattle.std.proofs.Math.ListN.{length, length-map}
use Rattle.std.specs.Float.Ieee.{binary64, div, lt, le, eq}
use Rattle.std.specs.Float.Ieee.Fits.{mul-fits}
use Rattle.std.specs.Float.Ieee.Scale.{finite}
use Rattle.rules.specs.Numbers.{zero-f, whole}
use Rattle.rules.specs.Solver.{sum_by, sum_of, part, pin, Run, ran, run, start, Lengths, still, sized, tight, loose, solve_lengths_with_min}
use Rattle.rules.specs.declared.solving.Kid.{Kid}
use Rattle.number.specs.Each.{All, none, more, all-at, all_map, all_both, all-weak}
use Rattle.number.specs.Order.{le-self, le-chain, lt-le, le-anti, eq→le, not-lt→le, not-le→le, lt→not-le}
use Rattle.number.specs.Arithmetic.{zero-least}
use Rattle.number.specs.Sums.{Good, good-zero, sum-good, sum-each}
use Rattle.number.specs.Checks.{ShareOk}
use Rattle.solver.specs.Loop.{free, all_fixed, some-free, goes-flexible, next-fewer, Runs, stops, goes, run-runs, start-free, start-begins}
use Rattle.solver.specs.Children.{part-le, Ok, pin-ok, Fine, pin-all-fine, minima_of, pinned-minima, respread-minima, respread-ok}

-- ---- good input, minus zero read already
pub record Input (total : Float) (shares minima : List Float) : Type 0 where
  pub total-good : Good total
  pub total-finite : T (finite total)
  pub shares-ok : All ShareOk shares
  pub minima-ok : All (λ (m : Float). Good m × T (finite m)) minima
  pub paired : length shares ≡ length minima

-- each of the second list is at least its fellow of the first
pub data Over : List Float → List Float → Type 0 where
  no_pairs : Over [] []
  pair : {m x : Float} {ms xs : List Float} → T (le m x) → Over ms xs → Over (m ∷ ms) (x ∷ xs)

pub record Meets (total : Float) (minima : List Float) (out : Lengths) : Type 0 where
  pub many : length out.lengths ≡ length minima
  pub inside : All (λ (x : Float). T (le zero-f x) × T (le x total)) out.lengths
  pub held : T (lt (sum_of minima) total) → Over minima out.lengths
  pub few : out.passes ≤ length minima

over-of : (ks : List Kid) → All (λ (k : Kid). T (le k.minimum k.size)) ks → Over (minima_of ks) (map (λ (k : Kid). k.size) ks)
unfolding minima_of
over-of [] none = no_pairs
over-of (k ∷ ks) (more p ps) = pair p (over-of ks ps)

Beside : Float → Float → Type 0
Beside w s = ShareOk s × T (le s w)

start-ok : (total w : Float) (ss ms : List Float) → Good total → T (finite total) → Good w → All (Beside w) ss → All (λ (m : Float). Good m × T (le m total)) ms → All (Ok total) (start total w ss ms)
unfolding start Beside
start-ok total w [] ms g n q none bs = none
start-ok total w (s ∷ ss) [] g n q (more a zs) none = none
start-ok total w (s ∷ ss) (m ∷ ms) g n q (more a zs) (more b bs) =
    let o = a.0 in
    let p = part-le total s w g n o.good.sign o.small (lt-le zero-f s w tt o.good.sign q.sign o.above a.1) a.1 in
    more (record { share-good = o.good; share-finite = o.small; share-above = o.above; minimum-good = b.0; minimum-le = b.1; size-good = record { here = mul-fits binary64 total (div binary64 s w); sign = p.0 }; size-le = p.1; at_least = λ t. absurd t })
    (start-ok total w ss ms g n q zs bs)

no-pair : (n : ℕ) → suc n ≡ 0 → ⊥
no-pair n e = omega arith

no-pair' : (n : ℕ) → 0 ≡ suc n → ⊥
no-pair' n e = omega arith

suc-back : (m n : ℕ) → suc m ≡ suc n → m ≡ n
suc-back m n e = omega arith

start-minima : (total w : Float) (ss ms : List Float) → length ss ≡ length ms → minima_of (start total w ss ms) ≡ ms
unfolding start minima_of
start-minima total w [] [] e = refl
start-minima total w [] (m ∷ ms) e = absurd (no-pair' (length ms) e)
start-minima total w (s ∷ ss) [] e = absurd (no-pair (length ss) e)
start-minima total w (s ∷ ss) (m ∷ ms) e = ap (λ (l : List Float). m ∷ l) (start-minima total w ss ms (suc-back (length ss) (length ms) e))

minima_of-length : (ks : List Kid) → length (minima_of ks) ≡ length ks
unfolding minima_of
minima_of-length ks = length-map ks (λ (k : Kid). k.minimum)

-- ---- the loop: what each run keeps
record Ran (total : Float) (p : ℕ) (ks : List Kid) (r : Run) : Type 0 where
  fine : All (Fine total) r.kids
  same : minima_of r.kids ≡ minima_of ks
  few : r.passes ≤ p + free ks

runs-law : {total : Float} {p : ℕ} {ks : List Kid} {r : Run} → Runs total p ks r → Good total → T (finite total) → All (Ok total) ks → Ran total p ks r
runs-law {total} {p} {ks} (stops e a) g n os = record { fine = pin-all-fine total ks os; same = pinned-minima ks; few = omega (arith, some-free ks e) }
runs-law {total} {p} {ks} (goes e a rs) g n os =
    let r = runs-law rs g n (respread-ok total (map pin ks) g n (all_map pin ks (pin-ok total) os) (goes-flexible ks a)) in
    record { fine = r.fine; same = r.same ∙ respread-minima total (map pin ks) ∙ pinned-minima ks; few = omega (arith, r.few, next-fewer total ks a) }

-- the rule, where there is a child
unfoldable pub solve_some : Float → List Float → List Float → Lengths
solve_some total shares minima =
    cond (eq total zero-f) (still (map (λ (m : Float). zero-f) minima))
    (cond (le total (sum_of minima)) (still (tight total (sum_of minima) minima))
    (loose total (sum_of minima) (start total (sum_of shares) shares minima)))

module _ (total : Float) (shares minima : List Float) (ok : Input total shares minima) where
  least : Float
  least = sum_of minima

  shared : Float
  shared = sum_of shares

  kids : List Kid
  kids = start total shared shares minima

  minima-good : All Good minima
  minima-good = all-weak minima (λ (m : Float) (p : Good m × T (finite m)). p.0) ok.minima-ok

  shares-good : All Good shares
  shares-good = all-weak shares (λ (s : Float) (p : ShareOk s). p.good) ok.shares-ok

  least-good : Good least
  unfolding least
  least-good = sum-good (λ (x : Float). true) (λ (x : Float). x) zero-f minima good-zero minima-good

  shared-good : Good shared
  unfolding shared
  shared-good = sum-good (λ (x : Float). true) (λ (x : Float). x) zero-f shares good-zero shares-good

  each-least : All (λ (m : Float). (Good m × T (finite m)) × T (le m least)) minima
  unfolding least
  each-least = all_both minima ok.minima-ok (all-weak minima (λ (m : Float) (h : T true → T (le m (sum_of minima))). h tt) (sum-each (λ (x : Float). true) (λ (x : Float). x) zero-f minima good-zero minima-good))

  each-share : All (Beside shared) shares
  unfolding shared Beside
  each-share = all_both shares ok.shares-ok (all-weak shares (λ (s : Float) (h : T true → T (le s (sum_of shares))). h tt) (sum-each (λ (x : Float). true) (λ (x : Float). x) zero-f shares good-zero shares-good))

  -- the minima's sum is below the total, or it is not
  low-or-not : T (le total least) → T (lt least total) → ⊥
  low-or-not h k = lt→not-le least total least-good.sign ok.total-good.sign k h

  nothing : T (eq total zero-f) → Meets total minima (still (map (λ (m : Float). zero-f) minima))
  unfolding least
  nothing t = record {
    many = length-map minima (λ (m : Float). zero-f);
    inside = all_map (λ (m : Float). zero-f) minima (λ (m : Float) (p : Good m). (le-self zero-f tt, zero-least total ok.total-good.sign)) minima-good;
    held = λ k. absurd (low-or-not (le-chain total zero-f least ok.total-good.sign tt least-good.sign (eq→le total zero-f t) (zero-least least least-good.sign)) k);
    few = zero-le;
  }

  squeezed : T (not (eq total zero-f)) → T (le total least) → Meets total minima (still (tight total least minima))
  unfolding least
  squeezed z t = go (lt zero-f least) (λ u. u) (λ u. u)
    where
      go : (b : Bool) → (T b → T (lt zero-f least)) → (T (not b) → T (not (lt zero-f least))) → Meets total minima (still (cond b (map (λ (m : Float). part total m least) minima) (map (λ (m : Float). div binary64 total (whole (length minima))) minima)))
      go true u v = record {
        many = length-map minima (λ (m : Float). part total m least);
        inside = all_map (λ (m : Float). part total m least) minima
            (λ (m : Float) (p : (Good m × T (finite m)) × T (le m least)). let q = part-le total m least ok.total-good ok.total-finite p.0.0.sign p.0.1 (u tt) p.1 in (zero-least (part total m least) q.0, q.1))
            each-least;
        held = λ k. absurd (low-or-not t k);
        few = zero-le;
      }
      go false u v = absurd (T_not (eq total zero-f) z (le-anti total zero-f ok.total-good.sign tt
          (le-chain total least zero-f ok.total-good.sign least-good.sign tt t (not-lt→le zero-f least tt least-good.sign (v tt)))
          (zero-least total ok.total-good.sign)))

  kids-ok : T (not (le total least)) → All (Ok total) kids
  unfolding kids
  kids-ok t = start-ok total shared shares minima ok.total-good ok.total-finite shared-good each-share
      (all-weak minima (λ (m : Float) (p : (Good m × T (finite m)) × T (le m least)). (p.0.0, le-chain m least total p.0.0.sign least-good.sign ok.total-good.sign p.1 (not-le→le total least ok.total-good.sign least-good.sign t))) each-least)

  kids-minima : minima_of kids ≡ minima
  unfolding kids
  kids-minima = start-minima total shared shares minima ok.paired

  kids-length : length kids ≡ length minima
  kids-length = sym (minima_of-length kids) ∙ ap length kids-minima

  sized-meets : (r : Run) → All (Fine total) r.kids → minima_of r.kids ≡ minima → r.passes ≤ length minima → Meets total minima (sized r)
  sized-meets r fs e f = record {
    many = length-map r.kids (λ (k : Kid). k.size) ∙ sym (minima_of-length r.kids) ∙ ap length e;
    inside = all_map (λ (k : Kid). k.size) r.kids (λ (k : Kid) (p : Fine total k). (p.above, p.within)) fs;
    held = λ k. subst (λ (l : List Float). Over l (map (λ (k : Kid). k.size) r.kids)) e (over-of r.kids (all-weak r.kids (λ (k : Kid) (p : Fine total k). p.enough) fs));
    few = f;
  }

  -- minima that are all zero
  at_rest : T (not (le total least)) → T (le least zero-f) → All (Fine total) kids
  unfolding kids minima_of
  at_rest t z = go kids (kids-ok t) (subst (λ (l : List Float). All (λ (m : Float). (Good m × T (finite m)) × T (le m least)) l) (sym kids-minima) each-least)
    where
      go : (ks : List Kid) → All (Ok total) ks → All (λ (m : Float). (Good m × T (finite m)) × T (le m least)) (minima_of ks) → All (Fine total) ks
      go [] none none = none
      go (k ∷ ks) (more o os) (more p ps) =
          more (record {
            above = zero-least k.size o.size-good.sign;
            within = o.size-le;
            enough = le-chain k.minimum least k.size o.minimum-good.sign least-good.sign o.size-good.sign p.1 (le-chain least zero-f k.size least-good.sign tt o.size-good.sign z (zero-least k.size o.size-good.sign));
          })
          (go ks os ps)

  some-kid : T (not (le least zero-f)) → 1 ≤ length minima
  unfolding least sum_by
  some-kid t = go minima t
    where
      go : (ms : List Float) → T (not (le (sum_of ms) zero-f)) → 1 ≤ length ms
      go [] t = absurd (T_not (le zero-f zero-f) t (le-self zero-f tt))
      go (m ∷ ms) t = zero-lt-suc' (length ms)
        where
          zero-lt-suc' : (n : ℕ) → 1 ≤ suc n
          zero-lt-suc' n = omega arith

  kids-free : free kids ≡ length kids
  unfolding kids
  kids-free = start-free total shared shares minima

  kids-begin : 0 < length minima → all_fixed kids ≡ false
  unfolding kids
  kids-begin h = start-begins total shared shares minima h ok.paired

  loosened : T (not (le total least)) → Meets total minima (loose total least kids)
  loosened t = go (le least zero-f) (λ u. u) (λ u. u)
    where
      go : (b : Bool) → (T b → T (le least zero-f)) → (T (not b) → T (not (le least zero-f))) → Meets total minima (cond b (still (map (λ (k : Kid). k.size) kids)) (sized (run (length kids) total 0 kids)))
      go true u v = sized-meets (ran kids 0) (at_rest t (u tt)) kids-minima zero-le
      go false u v =
          let r = runs-law (run-runs (length kids) total 0 kids (kids-begin (some-kid (v tt))) (omega (arith, kids-free))) ok.total-good ok.total-finite (kids-ok t) in
          sized-meets (run (length kids) total 0 kids) r.fine (r.same ∙ kids-minima) (omega (arith, r.few, kids-free, kids-length))

  pub some-meets : Meets total minima (solve_some total shares minima)
  unfolding solve_some least kids shared
  some-meets = first (eq total zero-f) (λ t. t) (λ t. t)
    where
      second : (b : Bool) → T (not (eq total zero-f)) → (T b → T (le total least)) → (T (not b) → T (not (le total least))) → Meets total minima (cond b (still (tight total least minima)) (loose total least kids))
      second true z u v = squeezed z (u tt)
      second false z u v = loosened (v tt)

      first : (b : Bool) → (T b → T (eq total zero-f)) → (T (not b) → T (not (eq total zero-f))) → Meets total minima (cond b (still (map (λ (m : Float). zero-f) minima)) (cond (le total least) (still (tight total least minima)) (loose total least kids)))
      first true u v = nothing (u tt)
      first false u v = second (le total least) (v tt) (λ t. t) (λ t. t)

-- THE DEMAND
pub solve-meets : (total : Float) (shares minima : List Float) → Input total shares minima → Meets total minima (solve_lengths_with_min total shares minima)
unfolding solve_lengths_with_min solve_some
solve-meets total [] [] ok = record { many = refl; inside = none; held = λ k. no_pairs; few = zero-le }
solve-meets total [] (m ∷ ms) ok = absurd (no-pair' (length ms) ok.paired)
solve-meets total (s ∷ ss) ms ok = some-meets total (s ∷ ss) ms ok

-- ---- for each index
over-at : {ms xs : List Float} (i : ℕ) (d : Float) → Over ms xs → i < length ms → T (le (get_or ms i d) (get_or xs i d))
over-at i d no_pairs h = absurd (not-suc-le-zero h)
over-at zero d (pair p ps) h = p
over-at (suc i) d (pair p ps) h = over-at i d ps (le_of_suc-le-suc h)

module _ (total : Float) (shares minima : List Float) (ok : Input total shares minima) where
  pub lengths-counted : length (solve_lengths_with_min total shares minima).lengths ≡ length minima
  lengths-counted = (solve-meets total shares minima ok).many

  pub lengths-within : (i : ℕ) (d : Float) → i < length minima → T (le zero-f (get_or (solve_lengths_with_min total shares minima).lengths i d)) × T (le (get_or (solve_lengths_with_min total shares minima).lengths i d) total)
  lengths-within i d h = all-at i d (solve-meets total shares minima ok).inside (omega (arith, lengths-counted))

  pub minima-held : T (lt (sum_of minima) total) → (i : ℕ) (d : Float) → i < length minima → T (le (get_or minima i d) (get_or (solve_lengths_with_min total shares minima).lengths i d))
  minima-held k i d h = over-at i d ((solve-meets total shares minima ok).held k) h

  pub passes-bounded : (solve_lengths_with_min total shares minima).passes ≤ length minima
  passes-bounded = (solve-meets total shares minima ok).few
