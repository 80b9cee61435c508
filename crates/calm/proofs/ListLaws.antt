-- A split's lists need no mending exactly where each entry is good: the tests that the code makes are the rule's. Over plain lists. Assumes nothing.
use mathlib.Core.Path.{◌≡◌, refl, sym, ap, ◌∙◌}
use mathlib.Core.Bool.{Bool, true, false, not, ◌&&◌, ◌||◌, cond}
use mathlib.Core.List.{List, [], ◌∷◌, map}
use Prim.Native.Nat.{ℕ, zero, suc, ◌-◌, ◌<◌, ◌≤◌}
use native.Mathlib.Omega.{arith}
use borrow.Author.Tests.{lt-leb, le-leb}
use lib.Dec.{leb, leb-zero, leb-suc-zero, leb-suc-suc}
use lib.ListN.{length, take, get_or}
use lib.Seq.{length-take-le, get_or-take}
use lib.Ieee.{Float, nan, inf, fin, eq, lt, le, is_nan}
use lib.Ieee.Scale.{finite}
use Rattle.rules.specs.Numbers.{zero-f, one-f, plus, minimum_ok, share_ok}
use Rattle.rules.specs.Lists.{all_of, same_list}
use Rattle.rules.specs.Shares.{fix_share, repaired_shares, eq_reals}
use Rattle.rules.specs.Minima.{fix_minimum, aligned_constraints, compact_constraints, compact_cons, compact_by}
use Rattle.rules.specs.Tree.{Node, empty, pane, tabs, split, same_axis}
use Rattle.rules.specs.Repair.{melts}
use Rattle.rules.specs.declared.model.Axis.{Axis}
use Rattle.forest.specs.Lists.{never}
use Rattle.forest.specs.Mended.{eq_self, shares-mended, aligned-mended}
use Rattle.forest.specs.Equal.{one-good, shares-kept, plus-same}
use Rattle.forest.specs.Bools.{and_both}
use Rattle.calm.specs.Reads.{lists_calm}

-- what is not true is false
not_so : (b : Bool) → (b ≡ true → ⊥) → b ≡ false
not_so true n = absurd (n refl)
not_so false n = refl

finite_number : (x : Float) (b : Bool) → (finite x && b) ≡ true → x ≡ nan → ⊥
unfolding is_nan
finite_number nan b e n = never (sym e)
finite_number (inf s) b e n = never (sym e)
finite_number (fin s m d) b e n = never (sym (ap is_nan n))

-- ---- shares

share-same : (x : Float) → eq (fix_share x) x ≡ share_ok x
unfolding fix_share
share-same x = go (share_ok x) refl
  where
    go : (b : Bool) → share_ok x ≡ b → eq (cond b x one-f) x ≡ b
    go true q = eq_self x (finite_number x (lt zero-f x) q)
    go false q = not_so (eq one-f x) (λ e. never (sym (one-good x e) ∙ q))

shares-same : (ss : List Float) → eq_reals (map fix_share ss) ss ≡ all_of share_ok ss
unfolding same_list all_of
shares-same [] = refl
shares-same (x ∷ ss) = λ z. share-same x z && shares-same ss z

-- shares of another number than the children
pub shares-other : (n : ℕ) (ss : List Float) → (length ss ≡ n → ⊥) → false ≡ eq_reals (repaired_shares n ss) ss
shares-other n ss h = sym (not_so (eq_reals (repaired_shares n ss) ss) (λ e. h (shares-kept n ss e).0))

-- as many as the children: each is good
pub shares-good : (n : ℕ) (ss : List Float) → length ss ≡ n → all_of share_ok ss ≡ eq_reals (repaired_shares n ss) ss
shares-good n ss l = sym (ap (λ (k : ℕ). eq_reals (repaired_shares k ss) ss) (sym l) ∙ ap (λ (xs : List Float). eq_reals xs ss) (shares-mended ss) ∙ shares-same ss)

-- ---- one minimum

and-false : (b : Bool) → (b && false) ≡ false
and-false true = refl
and-false false = refl

or_left : (a b : Bool) → (a || (b && false)) ≡ true → a ≡ true
or_left true b e = refl
or_left false true e = never (sym e)
or_left false false e = never (sym e)

plus-equal : (x : Float) → minimum_ok x ≡ true → eq (plus x) x ≡ true
unfolding is_nan
plus-equal nan q = never (sym q)
plus-equal (inf s) q = never (sym q)
plus-equal (fin s m d) q = or_left (eq (plus (fin s m d)) (fin s m d)) (is_nan (plus (fin s m d))) (plus-same (fin s m d))

-- what equals zero is good
zero-good : (x : Float) → eq zero-f x ≡ true → minimum_ok x ≡ true
unfolding le eq
zero-good nan e = never (sym e)
zero-good (inf s) e = never (sym e)
zero-good (fin s m d) e = ap (λ (b : Bool). lt zero-f (fin s m d) || b) e ∙ or-true (lt zero-f (fin s m d))
  where
    or-true : (b : Bool) → (b || true) ≡ true
    or-true true = refl
    or-true false = refl

-- a minimum is as it was, a zero's sign aside, exactly where it is good
minimum-same : (x : Float) → eq (fix_minimum x) x ≡ minimum_ok x
unfolding fix_minimum
minimum-same x = go (minimum_ok x) refl
  where
    go : (b : Bool) → minimum_ok x ≡ b → eq (cond b (plus x) zero-f) x ≡ b
    go true q = plus-equal x q
    go false q = not_so (eq zero-f x) (λ e. never (sym (zero-good x e) ∙ q))

zero_same : eq zero-f zero-f ≡ true
unfolding eq
zero_same = refl

plus-zero : (x : Float) → eq (plus x) zero-f ≡ eq x zero-f
plus-zero x = go (eq x zero-f) refl
  where
    go : (b : Bool) → eq x zero-f ≡ b → eq (cond b zero-f x) zero-f ≡ b
    go true q = zero_same
    go false q = q

-- a good minimum is zero where it was, and any other becomes it
zero-kept : (x : Float) → minimum_ok x ≡ true → eq (fix_minimum x) zero-f ≡ eq x zero-f
unfolding fix_minimum
zero-kept x q = ap (λ (b : Bool). eq (cond b (plus x) zero-f) zero-f) q ∙ plus-zero x

zero-made : (x : Float) → minimum_ok x ≡ false → eq (fix_minimum x) zero-f ≡ true
unfolding fix_minimum
zero-made x q = ap (λ (b : Bool). eq (cond b (plus x) zero-f) zero-f) q ∙ zero_same

-- ---- minima

-- the last, if there is any, is not zero
unfoldable uncut : List Float → Bool
uncut [] = true
uncut (m ∷ []) = not (eq m zero-f)
uncut (m ∷ y ∷ ys) = uncut (y ∷ ys)

abbrev Told : ℕ → List Float → Bool
Told n ms = leb (length ms) n && (all_of minimum_ok ms && uncut ms)

zeros-cut : (n : ℕ) → compact_constraints (aligned_constraints n []) ≡ []
unfolding aligned_constraints compact_constraints
zeros-cut zero = refl
zeros-cut (suc n) = ap (compact_cons zero-f) (zeros-cut n) ∙ ap (λ (b : Bool). compact_by b zero-f) zero_same

module _ (m : Float) where
  -- one minimum alone, of one child or more
  one_told : eq_reals (compact_by (eq (fix_minimum m) zero-f) (fix_minimum m)) (m ∷ []) ≡ ((minimum_ok m && true) && not (eq m zero-f))
  unfolding same_list
  one_told = good (minimum_ok m) refl
    where
      kept : (z : Bool) → minimum_ok m ≡ true → eq_reals (compact_by z (fix_minimum m)) (m ∷ []) ≡ not z
      kept true q = refl
      kept false q = ap (λ (b : Bool). b && true) (minimum-same m ∙ q)

      good : (b : Bool) → minimum_ok m ≡ b → eq_reals (compact_by (eq (fix_minimum m) zero-f) (fix_minimum m)) (m ∷ []) ≡ ((b && true) && not (eq m zero-f))
      good true q = kept (eq (fix_minimum m) zero-f) q ∙ ap not (zero-kept m q)
      good false q = ap (λ (z : Bool). eq_reals (compact_by z (fix_minimum m)) (m ∷ [])) (zero-made m q)

  -- and before others: c is what is left of them
  more-told : (n : ℕ) (y : Float) (ys c : List Float) → eq_reals c (y ∷ ys) ≡ Told n (y ∷ ys) → eq_reals (compact_cons (fix_minimum m) c) (m ∷ y ∷ ys) ≡ (leb (length (y ∷ ys)) n && ((minimum_ok m && all_of minimum_ok (y ∷ ys)) && uncut (y ∷ ys)))
  unfolding same_list
  more-told n y ys c ih = by c ih ∙ swap (minimum_ok m) (leb (length (y ∷ ys)) n) (all_of minimum_ok (y ∷ ys)) (uncut (y ∷ ys))
    where
      swap : (g l a u : Bool) → (g && (l && (a && u))) ≡ (l && ((g && a) && u))
      swap true l a u = refl
      swap false true a u = refl
      swap false false a u = refl

      none_left : (z g t : Bool) → false ≡ t → eq_reals (compact_by z (fix_minimum m)) (m ∷ y ∷ ys) ≡ (g && t)
      none_left true true t e = e
      none_left true false t e = refl
      none_left false true t e = and-false (eq (fix_minimum m) m) ∙ e
      none_left false false t e = and-false (eq (fix_minimum m) m)

      by : (c : List Float) → eq_reals c (y ∷ ys) ≡ Told n (y ∷ ys) → eq_reals (compact_cons (fix_minimum m) c) (m ∷ y ∷ ys) ≡ (minimum_ok m && Told n (y ∷ ys))
      by [] e = none_left (eq (fix_minimum m) zero-f) (minimum_ok m) (Told n (y ∷ ys)) e
      by (x ∷ xs) e = λ z. minimum-same m z && e z

minima-told : (n : ℕ) (ms : List Float) → eq_reals (compact_constraints (aligned_constraints n ms)) ms ≡ Told n ms
unfolding aligned_constraints compact_constraints same_list all_of uncut
minima-told zero [] = refl
minima-told zero (m ∷ ms) = ap (λ (b : Bool). b && (all_of minimum_ok (m ∷ ms) && uncut (m ∷ ms))) (sym (leb-suc-zero (length ms)))
minima-told (suc n) [] = ap (λ (c : List Float). eq_reals c []) (zeros-cut (suc n)) ∙ ap (λ (b : Bool). b && true) (sym (leb-zero (suc n)))
minima-told (suc n) (m ∷ []) = ap (λ (c : List Float). eq_reals (compact_cons (fix_minimum m) c) (m ∷ [])) (zeros-cut n) ∙ one_told m ∙ ap (λ (b : Bool). b && ((minimum_ok m && true) && not (eq m zero-f))) (sym (leb-suc-suc 0 n ∙ leb-zero n))
minima-told (suc n) (m ∷ y ∷ ys) = more-told m n y ys (compact_constraints (aligned_constraints n (y ∷ ys))) (minima-told n (y ∷ ys)) ∙ ap (λ (b : Bool). b && ((minimum_ok m && all_of minimum_ok (y ∷ ys)) && uncut (y ∷ ys))) (sym (leb-suc-suc (length (y ∷ ys)) n))

last-is : (ms : List Float) (d : Float) → 0 < length ms → uncut ms ≡ not (eq (get_or ms (length ms - 1) d) zero-f)
unfolding uncut
last-is [] d h = absurd (omega arith)
last-is (m ∷ []) d h = refl
last-is (m ∷ y ∷ ys) d h =
    let e : suc (length (y ∷ ys) - 1) ≡ length (m ∷ y ∷ ys) - 1 = omega arith in
    last-is (y ∷ ys) d (omega arith) ∙ ap (λ (k : ℕ). not (eq (get_or (m ∷ y ∷ ys) k d) zero-f)) e

module _ (n : ℕ) (ms : List Float) where
  abbrev as-they-are : Bool
  as-they-are = eq_reals (compact_constraints (aligned_constraints n ms)) ms

  pub minima-none : length ms ≡ 0 → true ≡ as-they-are
  unfolding all_of uncut
  minima-none l = sym (minima-told n ms ∙ go ms l)
    where
      go : (xs : List Float) → length xs ≡ 0 → Told n xs ≡ true
      go [] z = ap (λ (b : Bool). b && true) (leb-zero n)
      go (x ∷ xs) z = absurd (omega arith)

  pub minima-many : n < length ms → false ≡ as-they-are
  minima-many h = sym (minima-told n ms ∙ ap (λ (b : Bool). b && (all_of minimum_ok ms && uncut ms)) (lt-leb (length ms) n h))

  -- the last of them is x
  module _ (x d : Float) (some-there : 0 < length ms) (last : get_or ms (length ms - 1) d ≡ x) where
    uncut-is : uncut ms ≡ not (eq x zero-f)
    uncut-is = last-is ms d some-there ∙ ap (λ (y : Float). not (eq y zero-f)) last

    pub minima-cut : eq x zero-f ≡ true → false ≡ as-they-are
    minima-cut e = sym (minima-told n ms ∙ (λ z. leb (length ms) n && (all_of minimum_ok ms && (uncut-is ∙ ap not e) z)) ∙ none (leb (length ms) n) (all_of minimum_ok ms))
      where
        none : (a b : Bool) → (a && (b && false)) ≡ false
        none true b = and-false b
        none false b = refl

    pub minima-good : length ms ≤ n → eq x zero-f ≡ false → all_of minimum_ok ms ≡ as-they-are
    minima-good h e =
        sym (minima-told n ms ∙ (λ z. le-leb (length ms) n h z && (all_of minimum_ok ms && (uncut-is ∙ ap not e) z)) ∙ and-true (all_of minimum_ok ms))
      where
        and-true : (b : Bool) → (b && true) ≡ b
        and-true true = refl
        and-true false = refl

-- ---- all three tests: the first that fails ends them

module _ (n : ℕ) (ss ms : List Float) where
  abbrev shares-are : Bool
  shares-are = eq_reals (repaired_shares n ss) ss

  pub few-children : n < 2 → false ≡ lists_calm n ss ms
  few-children h = ap (λ (b : Bool). b && (shares-are && as-they-are n ms)) (sym (lt-leb 2 n h))

  module _ (h : 2 ≤ n) (b : Bool) (told : b ≡ shares-are) where
    pub shares-fail : b ≡ false → false ≡ lists_calm n ss ms
    shares-fail e = (λ z. sym (le-leb 2 n h) z && ((sym e ∙ told) z && as-they-are n ms))

    pub minima-tell : b ≡ true → (r : Bool) → r ≡ as-they-are n ms → r ≡ lists_calm n ss ms
    minima-tell e r f = f ∙ (λ z. sym (le-leb 2 n h) z && ((sym e ∙ told) z && as-they-are n ms))

-- ---- what lists that need no mending are

and-told : (a b c : Bool) → (a && (b && c)) ≡ true → (b ≡ true) × (c ≡ true)
and-told true b c e = and_both b c e
and-told false b c e = never (sym e)

-- as many shares as children
pub shares-long : (n : ℕ) (ss ms : List Float) → lists_calm n ss ms ≡ true → length (repaired_shares n ss) ≡ n
shares-long n ss ms e =
    let (count, same) = shares-kept n ss (and-told (leb 2 n) (eq_reals (repaired_shares n ss) ss) (as-they-are n ms) e).0 in
    ap length same ∙ count

aligned_at : (n : ℕ) (ms : List Float) (j : ℕ) → j < n → get_or (aligned_constraints n ms) j zero-f ≡ fix_minimum (get_or ms j zero-f)
unfolding aligned_constraints
aligned_at zero ms j h = absurd (omega arith)
aligned_at (suc n) [] zero h = sym (aligned-mended 1 []).0
aligned_at (suc n) [] (suc j) h = aligned_at n [] j (omega arith)
aligned_at (suc n) (m ∷ ms) zero h = refl
aligned_at (suc n) (m ∷ ms) (suc j) h = aligned_at n ms j (omega arith)

good-at : (ms : List Float) → all_of minimum_ok ms ≡ true → (j : ℕ) → minimum_ok (get_or ms j zero-f) ≡ true
unfolding all_of
good-at [] e j = zero-good zero-f zero_same
good-at (m ∷ ms) e zero = (and_both (minimum_ok m) (all_of minimum_ok ms) e).0
good-at (m ∷ ms) e (suc j) = good-at ms (and_both (minimum_ok m) (all_of minimum_ok ms) e).1 j

melts-by : (a : Axis) (x y : Float) (n : Node) → eq x zero-f ≡ eq y zero-f → melts a x n ≡ melts a y n
melts-by a x y empty e = refl
melts-by a x y (pane p) e = refl
melts-by a x y (tabs b t ps) e = refl
melts-by a x y (split b cs ss ms) e = ap (λ (c : Bool). same_axis b a && c) e

-- a child melts by its minimum as it stands, zero where it has none
pub melts-same : (a : Axis) (n : ℕ) (ss ms : List Float) → lists_calm n ss ms ≡ true → (j : ℕ) → j < n → (t : Node) → melts a (get_or ms j zero-f) t ≡ melts a (get_or (aligned_constraints n ms) j zero-f) t
melts-same a n ss ms e j h t =
    let good = (and-told (leb (length ms) n) (all_of minimum_ok ms) (uncut ms) (sym (minima-told n ms) ∙ (and-told (leb 2 n) (eq_reals (repaired_shares n ss) ss) (as-they-are n ms) e).1)).0 in
    melts-by a (get_or ms j zero-f) (get_or (aligned_constraints n ms) j zero-f) t (sym (ap (λ (x : Float). eq x zero-f) (aligned_at n ms j h) ∙ zero-kept (get_or ms j zero-f) (good-at ms good j)))

-- ---- the first of a row

pub in_take : (n : ℕ) (xs : List Float) (j : ℕ) (d e : Float) → j < n → n ≤ length xs → get_or xs j d ≡ get_or (take n xs) j e
in_take n xs j d e h k = sym (get_d-same (take n xs) j e d (omega (arith, length-take-le n xs k)) ∙ get_or-take n xs j d h)
  where
    get_d-same : (ys : List Float) (j : ℕ) (d e : Float) → j < length ys → get_or ys j d ≡ get_or ys j e
    get_d-same [] j d e h = absurd (omega arith)
    get_d-same (y ∷ ys) zero d e h = refl
    get_d-same (y ∷ ys) (suc j) d e h = get_d-same ys j d e (omega arith)

pub last-in : (n : ℕ) (xs : List Float) (d : Float) → 0 < n → length (take n xs) ≡ n → get_or (take n xs) (length (take n xs) - 1) d ≡ get_or xs (n - 1) d
last-in n xs d h l = ap (λ (k : ℕ). get_or (take n xs) (k - 1) d) l ∙ get_or-take n xs (n - 1) d (omega arith)
