-- The rules of the solver by the tests that the code makes. Assumes nothing.
use mathlib.Core.Path.{◌≡◌, refl, sym, ap, ◌∙◌, subst}
use mathlib.Core.Bool.{Bool, true, false, not, ◌&&◌, cond, and_assoc}
use mathlib.Core.List.{List, [], ◌∷◌, ◌++◌, map}
use Prim.Native.Nat.{ℕ, ◌-◌, ◌≤◌, ◌<◌}
use native.Mathlib.Nat.{lt_irrefl}
use native.Mathlib.Omega.{arith}
use lib.Dec.{T, eqb, leb, leb→le, eqb→eq}
use lib.ListN.{length, take, drop, replicate, take-append-drop}
use lib.Seq.{length-take-le, take_at, drop_at}
use lib.Ieee.{Float, binary64, div, lt, le, eq}
use lib.Ieee.Fits.{and_l, and_r}
use Rattle.rules.specs.Numbers.{zero-f, whole, plus, minimum_ok, share_ok}
use Rattle.rules.specs.Lists.{all_of}
use Rattle.rules.specs.Tree.{reals}
use Rattle.rules.specs.Solver.{sum_of, part, start, run, Lengths, still, sizes, sized, tight, loose, solver_ok, solve_lengths_with_min, solve_by, solved, view_solution}
use Rattle.rules.specs.Solver as Rules
use Rattle.rules.specs.Tree.{Reals}
use Rattle.rules.specs.declared.solving.Kid.{Kid}
use Rattle.rules.specs.Refusals.{Answer}
use Rattle.rules.specs.Refusals.{Accepted, Refused}
use Rattle.rules.specs.declared.refusal.Refusal.{Refusal}
use Rattle.rules.specs.declared.refusal.Refusal.TheVariants.{BadInput}
use Rattle.solver.specs.Loop.{all_fixed, begun, start-length, start-begins}
use Rattle.solver.specs.Lent.{Ran, Shows}
use Rattle.solver.specs.Demand.{solve_some}
use Rattle.solver.specs.declared.SolvedInto.{SolvedInto}
use Rattle.solver.specs.Call.{Clear, reals_of, counts_ok, bad_into, SolvesInto}
use Rattle.loops.specs.Padded.{Padded}
use Rattle.loops.specs.Given.{Reads}
use Rattle.loops.specs.declared.given.Sums.{Sums}
use Rattle.std.specs.Prelude.{Result, is_ok}
use Rattle.loops.specs.Columns.{kids_shown, unfixed, Long}
use borrow.Author.Tests.{not-true, not-false}
use Rattle.loops.proofs.Work.{sizes-taken, start-shown}
use Rattle.loops.proofs.Filling.{zeros}

-- ---- the input, test by test
module _ (n m : ℕ) (total : Float) where
  pub counts-few : (b : Bool) → b ≡ counts_ok n m total → not b ≡ false → (n ≤ 16) × (m ≡ n)
  counts-few b is good =
      let t : T (counts_ok n m total) = subst T (sym (not-false b good) ∙ is) tt in
      let a : T (leb n 16 && eqb m n) = and_l (leb n 16 && eqb m n) (minimum_ok total) t in
      (leb→le n 16 (and_l (leb n 16) (eqb m n) a), eqb→eq m n (and_r (leb n 16) (eqb m n) a))

  -- then the lists
  module _ (ss ms : List Float) (b : Bool) (is : b ≡ counts_ok n m total) where
    pub ok-counts : not b ≡ true → solver_ok n m total ss ms ≡ false
    ok-counts un = λ i. (sym is ∙ not-true b un) i && all_of share_ok ss && all_of minimum_ok ms

    pub ok-lists : not b ≡ false → (f : Bool) → f ≡ (all_of share_ok ss && all_of minimum_ok ms) → solver_ok n m total ss ms ≡ f
    ok-lists good f is_f = and_assoc (counts_ok n m total) (all_of share_ok ss) (all_of minimum_ok ms) ∙ (λ i. (sym is ∙ not-false b good) i && sym is_f i)

-- ---- the minima take all
same-each : (x : Float) (ms : List Float) → replicate (length ms) x ≡ map (λ (m : Float). x) ms
same-each x [] = refl
same-each x (m ∷ ms) = ap (λ (l : List Float). x ∷ l) (same-each x ms)

pub same-for : (x : Float) (n : ℕ) (ms : List Float) → length ms ≡ n → replicate n x ≡ map (λ (m : Float). x) ms
same-for x n ms e = ap (λ (k : ℕ). replicate k x) (sym e) ∙ same-each x ms

module _ (total least : Float) (n : ℕ) (ms out : List Float) where
  pub tight-even : lt zero-f least ≡ false → length ms ≡ n → (w : Float) → w ≡ whole n → Padded n (replicate n (div binary64 total w)) out → Padded n (tight total least ms) out
  tight-even e l w is p =
      let a : replicate n (div binary64 total w) ≡ map (λ (m : Float). div binary64 total (whole (length ms))) ms = ap (λ (z : Float). replicate n (div binary64 total z)) (is ∙ ap whole (sym l)) ∙ same-for (div binary64 total (whole (length ms))) n ms l in
      subst (λ (xs : List Float). Padded n xs out) (a ∙ (λ i. cond (sym e i) (map (λ (m : Float). part total m least) ms) (map (λ (m : Float). div binary64 total (whole (length ms))) ms))) p

-- ---- what a call leaves in the lent list: the rule's lengths, as many as asked, and zeros after them
pub shows : (at xs : List Float) (n p : ℕ) (out : Lengths) → Padded n xs at → record { lengths = xs; passes = p } ≡ out → Shows out n at p
shows at xs n p out pad e = record { lengths = (λ i. record { lengths = pad.front i; passes = p }) ∙ e; past = pad.back; long = pad.long }

pub shows-as : {l m : Lengths} {n : ℕ} {xs : List Float} {p : ℕ} → l ≡ m → Shows l n xs p → Shows m n xs p
shows-as e S = record { lengths = S.lengths ∙ e; past = S.past; long = S.long }

-- ---- the lengths by the shares, and the loop
module _ (total least : Float) (ks : List Kid) where
  loose-rest : le least zero-f ≡ true → still (sizes ks) ≡ loose total least ks
  loose-rest e = λ i. cond (sym e i) (still (sizes ks)) (sized (run (length ks) total 0 ks))

  loose-run : le least zero-f ≡ false → (n : ℕ) → length ks ≡ n → (l : Lengths) → l ≡ sized (run n total 0 ks) → l ≡ loose total least ks
  loose-run e n k l r = r ∙ ap (λ (j : ℕ). sized (run j total 0 ks)) (sym k) ∙ (λ i. cond (sym e i) (still (sizes ks)) (sized (run (length ks) total 0 ks)))

-- the lengths by the shares, and the children that they begin with
module _ (total w : Float) (ss ms at : List Float) (n : ℕ) (some : 0 < n) (few : n ≤ 16) (ls : length ss ≡ 16) (lm : length ms ≡ 16) (is : w ≡ sum_of (take n ss)) (pad : Padded n (map (λ (s : Float). part total s w) (take n ss)) at) where
  abbrev ks : List Kid
  ks = begun total (take n ss) (take n ms)

  paired : length (take n ss) ≡ length (take n ms)
  paired = length-take-le n ss (omega arith) ∙ sym (length-take-le n ms (omega arith))

  counted : length (take n ms) ≡ n
  counted = length-take-le n ms (omega arith)

  pub begun-long : Long ss ms at unfixed
  begun-long = record { shares = ls; minima = lm; sizes = pad.long; fixed = refl }

  begun-shown : take n (kids_shown ss ms at unfixed) ≡ ks
  begun-shown = start-shown total w ss ms at n ls few pad.front ∙ ap (λ (z : Float). start total z (take n ss) (take n ms)) is

  pub begun-free : all_fixed (take n (kids_shown ss ms at unfixed)) ≡ false
  begun-free = ap all_fixed begun-shown ∙ start-begins total (sum_of (take n ss)) (take n ss) (take n ms) (omega (arith, counted)) paired

  begun-at : Padded n (sizes ks) at
  begun-at = record { front = sym (sizes-taken ss ms at unfixed begun-long n) ∙ ap sizes begun-shown; back = pad.back; long = pad.long }

  pub begun-still : (least : Float) → le least zero-f ≡ true → Shows (loose total least ks) n at 0
  begun-still least e = shows at (sizes ks) n 0 (loose total least ks) begun-at (loose-rest total least ks e)

  pub begun-ran : (least : Float) → le least zero-f ≡ false → (xs : List Float) (p : ℕ) → Ran total n ss ms at xs p → Shows (loose total least ks) n xs p
  begun-ran least e xs p r =
      shows xs (take n xs) n p (loose total least ks) (record { front = refl; back = r.past ∙ pad.back; long = r.long })
      (loose-run total least ks e n (start-length total (sum_of (take n ss)) (take n ss) (take n ms) paired ∙ counted) (record { lengths = take n xs; passes = p })
      (r.lengths ∙ ap (λ (z : List Kid). sized (run n total 0 z)) begun-shown))

-- ---- the whole
pub solve-none : (total : Float) (n : ℕ) (ss ms : List Float) → n ≡ 0 → still [] ≡ solve_lengths_with_min total (take n ss) ms
unfolding solve_lengths_with_min
solve-none total n ss ms e = ap (λ (k : ℕ). solve_lengths_with_min total (take k ss) ms) (sym e)

solve-some : (total : Float) (ss ms : List Float) → 0 < length ss → solve_some total ss ms ≡ solve_lengths_with_min total ss ms
unfolding solve_lengths_with_min solve_some
solve-some total [] ms h = absurd (lt_irrefl 0 h)
solve-some total (s ∷ ss) ms h = refl

module _ (total : Float) (ss ms : List Float) (some : 0 < length ss) where
  rest : Lengths
  rest = cond (le total (sum_of ms)) (still (tight total (sum_of ms) ms)) (loose total (sum_of ms) (start total (sum_of ss) ss ms))

  pub solve-zero : eq total zero-f ≡ true → still (map (λ (m : Float). zero-f) ms) ≡ solve_lengths_with_min total ss ms
  unfolding solve_some rest
  solve-zero e = (λ i. cond (sym e i) (still (map (λ (m : Float). zero-f) ms)) rest) ∙ solve-some total ss ms some

  module _ (least : Float) (is-least : least ≡ sum_of ms) (z : eq total zero-f ≡ false) where
    rest-is : rest ≡ solve_lengths_with_min total ss ms
    unfolding solve_some rest
    rest-is = (λ i. cond (sym z i) (still (map (λ (m : Float). zero-f) ms)) rest) ∙ solve-some total ss ms some

    pub solve-tight : le total least ≡ true → still (tight total least ms) ≡ solve_lengths_with_min total ss ms
    unfolding rest
    solve-tight t =
        let b : le total (sum_of ms) ≡ true = ap (le total) (sym is-least) ∙ t in
        ap (λ (l : Float). still (tight total l ms)) is-least
        ∙ (λ i. cond (sym b i) (still (tight total (sum_of ms) ms)) (loose total (sum_of ms) (start total (sum_of ss) ss ms))) ∙ rest-is

    pub solve-loose : le total least ≡ false → loose total least (begun total ss ms) ≡ solve_lengths_with_min total ss ms
    unfolding rest
    solve-loose t =
        let b : le total (sum_of ms) ≡ false = ap (le total) (sym is-least) ∙ t in
        (λ i. loose total (is-least i) (begun total ss ms))
        ∙ (λ i. cond (sym b i) (still (tight total (sum_of ms) ms)) (loose total (sum_of ms) (start total (sum_of ss) ss ms))) ∙ rest-is

-- ---- the public call
bad_input : Rules.Solved
bad_input = record { answer = Refused BadInput; lengths = []; passes = 0 }

never : {A : Type 0} (a : Answer) (e : Refusal) → a ≡ Accepted → a ≡ Refused e → A
never a e p q = let z : ◌≡◌ {A = ℕ} 0 1 = cc in absurd (no_way z)
  where
    no_way : ◌≡◌ {A = ℕ} 0 1 → ⊥
    no_way z = omega arith

module _ (total : Float) (shares minima : Reals) where
  abbrev ok : Bool
  ok = solver_ok shares.len minima.len total (reals shares) (reals minima)

  pub into-refused : ok ≡ false → (d : SolvedInto) → d ≡ bad_into → (xs : List Float) → SolvesInto (Rules.solve total shares minima) xs xs d
  unfolding Rules.solve bad_input
  into-refused e d is xs =
      subst (λ (r : SolvedInto). SolvesInto (Rules.solve total shares minima) xs xs r) (sym is)
      (subst (λ (x : Rules.Solved). SolvesInto x xs xs bad_into) (λ i. solve_by (sym e i) total (reals shares) (reals minima))
      (record { answer = refl; len = refl; few = omega arith; passes = refl; accepted = λ a. never (Refused BadInput) BadInput a refl; refused = λ f q. refl }))

  pub into-accepted : ok ≡ true → (n : ℕ) → n ≤ 16 → (xs xs' : List Float) (p : ℕ) → Shows (solve_lengths_with_min (plus total) (reals shares) (map plus (reals minima))) n xs' p
      → SolvesInto (Rules.solve total shares minima) xs xs' (record { answer = Accepted; len = n; passes = p })
  unfolding Rules.solve
  into-accepted e n few xs xs' p S =
      let size : length (take n xs') ≡ n = length-take-le n xs' (omega (arith, S.long)) in
      subst (λ (x : Rules.Solved). SolvesInto x xs xs' (record { answer = Accepted; len = n; passes = p })) (ap solved S.lengths ∙ (λ i. solve_by (sym e i) total (reals shares) (reals minima)))
      (record {
        answer = refl;
        len = sym size;
        few = few;
        passes = refl;
        accepted = λ a. sym (take-append-drop n xs') ∙ ap (λ (l : List Float). take n xs' ++ l) (S.past ∙ ap (λ (k : ℕ). replicate (16 - k) zero-f) (sym size));
        refused = λ f q. never Accepted f refl q;
      })

  -- the same by value
  pub into-value : (xs' : List Float) (d : SolvedInto) → SolvesInto (Rules.solve total shares minima) zeros xs' d
      → (view_solution (record { answer = d.answer; lengths = reals_of xs' d.len; passes = d.passes }) ≡ Rules.solve total shares minima) × Clear (reals_of xs' d.len)
  unfolding Rules.solve
  into-value xs' d = go ok
    where
      shown : (x : Rules.Solved) → SolvesInto x zeros xs' d → xs' ≡ x.lengths ++ replicate (16 - length x.lengths) zero-f
          → (view_solution (record { answer = d.answer; lengths = reals_of xs' d.len; passes = d.passes }) ≡ x) × Clear (reals_of xs' d.len)
      shown x S e =
          let zs = replicate (16 - length x.lengths) zero-f in (
            (λ i. record { answer = S.answer i; lengths = (ap (take d.len) e ∙ take_at x.lengths zs d.len (sym S.len)) i; passes = S.passes i }),
            record {
              few = S.few;
              past = ap (drop d.len) e ∙ drop_at x.lengths zs d.len (sym S.len) ∙ ap (λ (k : ℕ). replicate (16 - k) zero-f) (sym S.len);
            },
          )

      go : (b : Bool) → SolvesInto (solve_by b total (reals shares) (reals minima)) zeros xs' d
          → (view_solution (record { answer = d.answer; lengths = reals_of xs' d.len; passes = d.passes }) ≡ solve_by b total (reals shares) (reals minima)) × Clear (reals_of xs' d.len)
      go true S = shown (solve_by true total (reals shares) (reals minima)) S (S.accepted refl)
      go false S = shown (solve_by false total (reals shares) (reals minima)) S (S.refused BadInput refl)

-- the call on lent lists, by what their reading came to
module _ (total : Float) (ss ms least : List Float) (n m : ℕ) (b : Bool) (is : b ≡ counts_ok n m total) (good : not b ≡ false) (g : Result Sums Sums) (R : Reads n ss ms least g) where
  same : m ≡ n
  same = (counts-few n m total b is good).1

  tested : solver_ok n m total (take n ss) (take m ms) ≡ is_ok g
  tested = ok-lists n m total (take n ss) (take m ms) b is good (is_ok g) (R.fine ∙ (λ i. all_of share_ok (take n ss) && all_of minimum_ok (take (sym same i) ms)))

  pub read-refused : is_ok g ≡ false → (d : SolvedInto) → d ≡ bad_into → (xs : List Float) → SolvesInto (Rules.solve total (reals_of ss n) (reals_of ms m)) xs xs d
  read-refused e = into-refused total (reals_of ss n) (reals_of ms m) (tested ∙ e)

  pub read-accepted : is_ok g ≡ true → (t : Float) → t ≡ plus total → (xs xs' : List Float) (p : ℕ) → Shows (solve_lengths_with_min t (take n ss) (take n least)) n xs' p
      → SolvesInto (Rules.solve total (reals_of ss n) (reals_of ms m)) xs xs' (record { answer = Accepted; len = n; passes = p })
  read-accepted e t is-t xs xs' p S =
      into-accepted total (reals_of ss n) (reals_of ms m) (tested ∙ e) n (counts-few n m total b is good).0 xs xs' p
      (shows-as (λ i. solve_lengths_with_min (is-t i) (take n ss) ((R.plain ∙ ap (λ (k : ℕ). map plus (take k ms)) (sym same)) i)) S)
