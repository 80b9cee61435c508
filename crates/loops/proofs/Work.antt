-- The four columns and the list of children that they show: read, written at one place, and worked through from the front. Then a run's three sums beside it. Assumes nothing.
use mathlib.Core.Path.{◌≡◌, refl, sym, ap, ◌∙◌, subst}
use mathlib.Core.Bool.{Bool, true, false, cond}
use mathlib.Core.List.{List, [], ◌∷◌, ◌++◌, map}
use Prim.Native.Nat.{ℕ, zero, suc, ◌+◌, ◌≤◌, ◌<◌}
use native.Mathlib.Nat.{add-zero}
use native.Mathlib.Numerals.{add-one}
use native.Mathlib.Omega.{arith}
use lib.ListN.{length, get_or, take, drop, set, length-set, replicate}
use lib.Seq.{get_or-drop, take-suc-set, drop-set-lt, drop-drop, set-get_or, length-take-le}
use lib.Ieee.{Float, nan, binary64, add}
use Rattle.rules.specs.Numbers.{zero-f}
use Rattle.rules.specs.Solver.{part, start, resized, short, flexible, pin, spread, any_short}
use Rattle.rules.specs.declared.solving.Kid.{Kid}
use Rattle.loops.specs.Columns.{kid, kids_shown, unfixed, Long, Worked, Tallied, Turned}
use Rattle.loops.specs.declared.kids.Held.{Held}
use Rattle.loops.proofs.Loops.{kid0, rest_at, rest-none, sum-map, Summed, summed-step, summed-end}
use Rattle.loops.proofs.Filling.{map_more, take-replicate}

-- ---- columns of one length show as many children, each its row
kids-even : (ss ms xs : List Float) (fs : List Bool) → length ms ≡ length ss → length xs ≡ length ss → length fs ≡ length ss → length (kids_shown ss ms xs fs) ≡ length ss
unfolding kids_shown
kids-even [] ms xs fs p q r = refl
kids-even (s ∷ ss) [] xs fs p q r = absurd (omega arith)
kids-even (s ∷ ss) (m ∷ ms) [] fs p q r = absurd (omega arith)
kids-even (s ∷ ss) (m ∷ ms) (x ∷ xs) [] p q r = absurd (omega arith)
kids-even (s ∷ ss) (m ∷ ms) (x ∷ xs) (f ∷ fs) p q r = ap suc (kids-even ss ms xs fs (omega arith) (omega arith) (omega arith))

kids-even-at : (ss ms xs : List Float) (fs : List Bool) → length ms ≡ length ss → length xs ≡ length ss → length fs ≡ length ss
    → (i : ℕ) → i < length ss → get_or (kids_shown ss ms xs fs) i kid0 ≡ kid (get_or ss i nan) (get_or ms i nan) (get_or xs i nan) (get_or fs i false)
unfolding kids_shown
kids-even-at [] ms xs fs p q r i h = absurd (omega arith)
kids-even-at (s ∷ ss) [] xs fs p q r i h = absurd (omega arith)
kids-even-at (s ∷ ss) (m ∷ ms) [] fs p q r i h = absurd (omega arith)
kids-even-at (s ∷ ss) (m ∷ ms) (x ∷ xs) [] p q r i h = absurd (omega arith)
kids-even-at (s ∷ ss) (m ∷ ms) (x ∷ xs) (f ∷ fs) p q r zero h = refl
kids-even-at (s ∷ ss) (m ∷ ms) (x ∷ xs) (f ∷ fs) p q r (suc i) h = kids-even-at ss ms xs fs (omega arith) (omega arith) (omega arith) i (omega arith)

sizes-even : (n : ℕ) (ss ms xs : List Float) (fs : List Bool) → length ms ≡ length ss → length xs ≡ length ss → length fs ≡ length ss → map (λ (k : Kid). k.size) (take n (kids_shown ss ms xs fs)) ≡ take n xs
unfolding kids_shown
sizes-even zero ss ms xs fs p q r = refl
sizes-even (suc n) [] ms [] fs p q r = refl
sizes-even (suc n) [] ms (x ∷ xs) fs p q r = absurd (omega arith)
sizes-even (suc n) (s ∷ ss) [] xs fs p q r = absurd (omega arith)
sizes-even (suc n) (s ∷ ss) (m ∷ ms) [] fs p q r = absurd (omega arith)
sizes-even (suc n) (s ∷ ss) (m ∷ ms) (x ∷ xs) [] p q r = absurd (omega arith)
sizes-even (suc n) (s ∷ ss) (m ∷ ms) (x ∷ xs) (f ∷ fs) p q r = ap (λ (l : List Float). x ∷ l) (sizes-even n ss ms xs fs (omega arith) (omega arith) (omega arith))

module _ (ss ms xs : List Float) (fs : List Bool) (l : Long ss ms xs fs) where
  pub kids-long : length (kids_shown ss ms xs fs) ≡ 16
  kids-long = kids-even ss ms xs fs (l.minima ∙ sym l.shares) (l.sizes ∙ sym l.shares) (l.fixed ∙ sym l.shares) ∙ l.shares

  kids-at : (i : ℕ) → i < 16 → get_or (kids_shown ss ms xs fs) i kid0 ≡ kid (get_or ss i nan) (get_or ms i nan) (get_or xs i nan) (get_or fs i false)
  kids-at i h = kids-even-at ss ms xs fs (l.minima ∙ sym l.shares) (l.sizes ∙ sym l.shares) (l.fixed ∙ sym l.shares) i (omega (arith, l.shares))

  pub sizes-taken : (n : ℕ) → map (λ (k : Kid). k.size) (take n (kids_shown ss ms xs fs)) ≡ take n xs
  sizes-taken n = sizes-even n ss ms xs fs (l.minima ∙ sym l.shares) (l.sizes ∙ sym l.shares) (l.fixed ∙ sym l.shares)

kids-set : (ss ms xs : List Float) (fs : List Bool) (i : ℕ) (x : Float) (f : Bool) → kids_shown ss ms (set xs i x) (set fs i f) ≡ set (kids_shown ss ms xs fs) i (kid (get_or ss i nan) (get_or ms i nan) x f)
unfolding kids_shown
kids-set [] ms xs fs i x f = refl
kids-set (s ∷ ss) [] xs fs i x f = refl
kids-set (s ∷ ss) (m ∷ ms) [] fs i x f = refl
kids-set (s ∷ ss) (m ∷ ms) (x₀ ∷ xs) [] zero x f = refl
kids-set (s ∷ ss) (m ∷ ms) (x₀ ∷ xs) [] (suc i) x f = refl
kids-set (s ∷ ss) (m ∷ ms) (x₀ ∷ xs) (f₀ ∷ fs) zero x f = refl
kids-set (s ∷ ss) (m ∷ ms) (x₀ ∷ xs) (f₀ ∷ fs) (suc i) x f = ap (λ (l : List Kid). kid s m x₀ f₀ ∷ l) (kids-set ss ms xs fs i x f)

-- ---- the children that the outer loop begins with
take-kids : (n : ℕ) (ss ms xs : List Float) (fs : List Bool) → take n (kids_shown ss ms xs fs) ≡ kids_shown (take n ss) (take n ms) (take n xs) (take n fs)
unfolding kids_shown
take-kids zero ss ms xs fs = refl
take-kids (suc n) [] ms xs fs = refl
take-kids (suc n) (s ∷ ss) [] xs fs = refl
take-kids (suc n) (s ∷ ss) (m ∷ ms) [] fs = refl
take-kids (suc n) (s ∷ ss) (m ∷ ms) (x ∷ xs) [] = refl
take-kids (suc n) (s ∷ ss) (m ∷ ms) (x ∷ xs) (f ∷ fs) = ap (λ (l : List Kid). kid s m x f ∷ l) (take-kids n ss ms xs fs)

kids-start : (t w : Float) (ss ms : List Float) → kids_shown ss ms (map (λ (s : Float). part t s w) ss) (replicate (length ss) false) ≡ start t w ss ms
unfolding kids_shown start
kids-start t w [] ms = refl
kids-start t w (s ∷ ss) [] = refl
kids-start t w (s ∷ ss) (m ∷ ms) = ap (λ (l : List Kid). kid s m (part t s w) false ∷ l) (kids-start t w ss ms)

pub start-shown : (t w : Float) (ss ms xs : List Float) (n : ℕ) → length ss ≡ 16 → n ≤ 16 → take n xs ≡ map (λ (s : Float). part t s w) (take n ss) → take n (kids_shown ss ms xs unfixed) ≡ start t w (take n ss) (take n ms)
start-shown t w ss ms xs n l h e =
    let k : length (take n ss) ≡ n = length-take-le n ss (omega (arith, l)) in
    take-kids n ss ms xs unfixed
    ∙ (λ j. kids_shown (take n ss) (take n ms) (e j) ((take-replicate n 16 false h ∙ ap (λ (m : ℕ). replicate m false) (sym k)) j))
    ∙ kids-start t w (take n ss) (take n ms)

-- ---- what is left of a list from i on
module _ {A : Type 0} where
  rest_read : (xs ys : List A) (i : ℕ) (d : A) → drop i xs ≡ drop i ys → get_or xs i d ≡ get_or ys i d
  rest_read xs ys i d e =
      ap (λ (k : ℕ). get_or xs k d) (sym (add-zero i)) ∙ sym (get_or-drop i xs 0 d) ∙ ap (λ (z : List A). get_or z 0 d) e ∙ get_or-drop i ys 0 d ∙ ap (λ (k : ℕ). get_or ys k d) (add-zero i)

  rest-set : (xs ys : List A) (i : ℕ) (a : A) → drop i xs ≡ drop i ys → drop (i + 1) (set xs i a) ≡ drop (i + 1) ys
  rest-set xs ys i a e = drop-set-lt (i + 1) xs i a (omega arith) ∙ sym (drop-drop 1 i xs) ∙ ap (drop 1) e ∙ drop-drop 1 i ys

-- ---- the first i children are changed by g, and the rest are as they were
pub record Working (g : Kid → Kid) (ss ms xs₀ : List Float) (fs₀ : List Bool) (xs : List Float) (fs : List Bool) (i : ℕ) : Type 0 where
  pub long : Long ss ms xs fs
  pub sizes-rest : drop i xs ≡ drop i xs₀
  pub fixed-rest : drop i fs ≡ drop i fs₀
  pub done : take i (kids_shown ss ms xs fs) ≡ map g (take i (kids_shown ss ms xs₀ fs₀))

module _ (g : Kid → Kid) (ss ms xs₀ : List Float) (fs₀ : List Bool) (l₀ : Long ss ms xs₀ fs₀) where
  pub working-start : Working g ss ms xs₀ fs₀ xs₀ fs₀ 0
  working-start = record { long = l₀; sizes-rest = refl; fixed-rest = refl; done = refl }

  module _ (xs : List Float) (fs : List Bool) (i : ℕ) (w : Working g ss ms xs₀ fs₀ xs fs i) where
    -- the child that the code reads is the one that the loop began with
    pub working-read : i < 16 → get_or (kids_shown ss ms xs₀ fs₀) i kid0 ≡ kid (get_or ss i nan) (get_or ms i nan) (get_or xs i nan) (get_or fs i false)
    working-read h =
        kids-at ss ms xs₀ fs₀ l₀ i h
        ∙ (λ j. kid (get_or ss i nan) (get_or ms i nan) (sym (rest_read xs xs₀ i nan w.sizes-rest) j) (sym (rest_read fs fs₀ i false w.fixed-rest) j))

    pub working-step : i < 16 → (x : Float) (f : Bool) → kid (get_or ss i nan) (get_or ms i nan) x f ≡ g (kid (get_or ss i nan) (get_or ms i nan) (get_or xs i nan) (get_or fs i false))
        → Working g ss ms xs₀ fs₀ (set xs i x) (set fs i f) (i + 1)
    working-step h x f e =
        let k : i < length (kids_shown ss ms xs fs) = omega (arith, kids-long ss ms xs fs w.long) in
        let k₀ : i < length (kids_shown ss ms xs₀ fs₀) = omega (arith, kids-long ss ms xs₀ fs₀ l₀) in
        let v : kid (get_or ss i nan) (get_or ms i nan) x f ≡ g (get_or (kids_shown ss ms xs₀ fs₀) i kid0) = e ∙ ap g (sym (working-read h)) in
        record {
          long = record { shares = w.long.shares; minima = w.long.minima; sizes = length-set xs i x ∙ w.long.sizes; fixed = length-set fs i f ∙ w.long.fixed };
          sizes-rest = rest-set xs xs₀ i x w.sizes-rest;
          fixed-rest = rest-set fs fs₀ i f w.fixed-rest;
          done =
              (λ j. take (add-one i j) (kids-set ss ms xs fs i x f j))
              ∙ take-suc-set (kids_shown ss ms xs fs) i (kid (get_or ss i nan) (get_or ms i nan) x f) k
              ∙ (λ j. w.done j ++ (v j ∷ []))
              ∙ sym (map_more g (kids_shown ss ms xs₀ fs₀) i kid0 k₀);
        }

    pub working-end : (n : ℕ) → n ≤ i → i ≤ n → Worked g n ss ms xs₀ fs₀ xs fs
    working-end n h k =
        let e : i ≡ n = omega arith in
        record {
          kids = subst (λ (j : ℕ). take j (kids_shown ss ms xs fs) ≡ map g (take j (kids_shown ss ms xs₀ fs₀))) e w.done;
          sizes-past = subst (λ (j : ℕ). drop j xs ≡ drop j xs₀) e w.sizes-rest;
          fixed-past = subst (λ (j : ℕ). drop j fs ≡ drop j fs₀) e w.fixed-rest;
          long = w.long;
        }

-- ---- the second inner loop writes lengths only
pub spread-step : (room flex : Float) (ss ms xs₀ : List Float) (fs : List Bool) → Long ss ms xs₀ fs → (xs : List Float) (i : ℕ) → Working (spread room flex) ss ms xs₀ fs xs fs i → i < 16
    → (x : Float) → kid (get_or ss i nan) (get_or ms i nan) x (get_or fs i false) ≡ spread room flex (kid (get_or ss i nan) (get_or ms i nan) (get_or xs i nan) (get_or fs i false))
    → Working (spread room flex) ss ms xs₀ fs (set xs i x) fs (i + 1)
spread-step room flex ss ms xs₀ fs l₀ xs i w h x e =
    subst (λ (z : List Bool). Working (spread room flex) ss ms xs₀ fs (set xs i x) z (i + 1)) (set-get_or fs i false)
    (working-step (spread room flex) ss ms xs₀ fs l₀ xs fs i w h x (get_or fs i false) e)

-- ---- the first, with its three sums by what is left
pin-keeps : (k : Kid) → kid k.share k.minimum (pin k).size (pin k).fixed ≡ pin k
unfolding pin
pin-keeps k = go (short k)
  where
    go : (b : Bool) → kid k.share k.minimum (cond b (resized k k.minimum true) k).size (cond b (resized k k.minimum true) k).fixed ≡ cond b (resized k k.minimum true) k
    go true = refl
    go false = refl

pub record Holding (ss ms xs₀ : List Float) (fs₀ : List Bool) (n : ℕ) (xs : List Float) (fs : List Bool) (r : Held) (i : ℕ) : Type 0 where
  pub few : i ≤ n
  pub work : Working pin ss ms xs₀ fs₀ xs fs i
  pub any : cond r.changed true (any_short (drop i (take n (kids_shown ss ms xs₀ fs₀)))) ≡ any_short (take n (kids_shown ss ms xs₀ fs₀))
  pub sum : Summed (λ (k : Kid). (pin k).fixed) (λ (k : Kid). (pin k).size) zero-f (kids_shown ss ms xs₀ fs₀) n i r.held
  pub left : Summed (λ (k : Kid). flexible (pin k)) (λ (k : Kid). (pin k).share) zero-f (kids_shown ss ms xs₀ fs₀) n i r.flexible

module _ (ss ms xs₀ : List Float) (fs₀ : List Bool) (n : ℕ) (l₀ : Long ss ms xs₀ fs₀) (few : n ≤ 16) where
  abbrev ks : List Kid
  ks = kids_shown ss ms xs₀ fs₀

  pub holding-start : Holding ss ms xs₀ fs₀ n xs₀ fs₀ (record { changed = false; held = zero-f; flexible = zero-f }) 0
  holding-start = record { few = omega arith; work = working-start pin ss ms xs₀ fs₀ l₀; any = refl; sum = refl; left = refl }

  module _ (xs : List Float) (fs : List Bool) (r : Held) (i : ℕ) (w : Holding ss ms xs₀ fs₀ n xs fs r i) where
    any_step : i < n → (k : Kid) → get_or ks i kid0 ≡ k → (b : Bool) → b ≡ cond (short k) true r.changed → cond b true (any_short (drop (i + 1) (take n ks))) ≡ any_short (take n ks)
    unfolding any_short
    any_step h k same b e =
        let a : any_short (drop i (take n ks)) ≡ cond (short k) true (any_short (drop (i + 1) (take n ks))) =
        ap any_short (rest_at ks n i kid0 h (omega (arith, kids-long ss ms xs₀ fs₀ l₀))) ∙ ap (λ (z : Kid). cond (short z) true (any_short (drop (i + 1) (take n ks)))) same in
        ap (λ (z : Bool). cond z true (any_short (drop (i + 1) (take n ks)))) e
        ∙ swap (short k) r.changed (any_short (drop (i + 1) (take n ks)))
        ∙ ap (cond r.changed true) (sym a) ∙ w.any
      where
        swap : (p q r : Bool) → cond (cond p true q) true r ≡ cond q true (cond p true r)
        swap true true r = refl
        swap true false r = refl
        swap false true r = refl
        swap false false r = refl

    pub holding-step : i < n → (k : Kid) (t : Held) → Turned (kid (get_or ss i nan) (get_or ms i nan) (get_or xs i nan) (get_or fs i false)) r k t
        → Holding ss ms xs₀ fs₀ n (set xs i k.size) (set fs i k.fixed) t (i + 1)
    holding-step h kid₁ t d =
        let k : n ≤ length ks = omega (arith, kids-long ss ms xs₀ fs₀ l₀) in
        let read = working-read pin ss ms xs₀ fs₀ l₀ xs fs i w.work (omega arith) in
        record {
          few = omega arith;
          work = working-step pin ss ms xs₀ fs₀ l₀ xs fs i w.work (omega arith) kid₁.size kid₁.fixed (ap (λ (z : Kid). kid (get_or ss i nan) (get_or ms i nan) z.size z.fixed) d.pinned ∙ pin-keeps (kid (get_or ss i nan) (get_or ms i nan) (get_or xs i nan) (get_or fs i false)));
          any = any_step h (kid (get_or ss i nan) (get_or ms i nan) (get_or xs i nan) (get_or fs i false)) read t.changed d.moved;
          sum = subst (Summed (λ (k : Kid). (pin k).fixed) (λ (k : Kid). (pin k).size) zero-f ks n (i + 1)) (ap (λ (z : Kid). cond (pin z).fixed (add binary64 r.held (pin z).size) r.held) read ∙ sym d.held) (summed-step (λ (k : Kid). (pin k).fixed) (λ (k : Kid). (pin k).size) zero-f ks n i r.held kid0 h k w.sum);
          left = subst (Summed (λ (k : Kid). flexible (pin k)) (λ (k : Kid). (pin k).share) zero-f ks n (i + 1)) (ap (λ (z : Kid). cond (flexible (pin z)) (add binary64 r.flexible (pin z).share) r.flexible) read ∙ sym d.flexible) (summed-step (λ (k : Kid). flexible (pin k)) (λ (k : Kid). (pin k).share) zero-f ks n i r.flexible kid0 h k w.left);
        }

    pub holding-end : n ≤ i → Worked pin n ss ms xs₀ fs₀ xs fs × Tallied (take n ks) r
    unfolding any_short
    holding-end h =
        let k : n ≤ length ks = omega (arith, kids-long ss ms xs₀ fs₀ l₀) in (
          working-end pin ss ms xs₀ fs₀ l₀ xs fs i w.work n h w.few,
          record {
            changed = still r.changed ∙ ap (λ (z : List Kid). cond r.changed true (any_short z)) (sym (rest-none ks n i h w.few k)) ∙ w.any;
            held = summed-end (λ (k : Kid). (pin k).fixed) (λ (k : Kid). (pin k).size) zero-f ks n i r.held h w.few k w.sum ∙ sum-map (λ (k : Kid). k.fixed) (λ (k : Kid). k.size) pin zero-f (take n ks);
            flexible = summed-end (λ (k : Kid). flexible (pin k)) (λ (k : Kid). (pin k).share) zero-f ks n i r.flexible h w.few k w.left ∙ sum-map flexible (λ (k : Kid). k.share) pin zero-f (take n ks);
          },
        )
      where
        still : (b : Bool) → b ≡ cond b true false
        still true = refl
        still false = refl
