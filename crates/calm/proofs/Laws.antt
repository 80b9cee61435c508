-- Laws that the proofs of the walk cite, over plain values. Assumes nothing.
use mathlib.Core.Path.{◌≡◌, refl, sym, ap, ◌∙◌}
use mathlib.Core.Bool.{Bool, true, false, cond}
use mathlib.Core.List.{List, [], ◌∷◌, ◌++◌}
use mathlib.Core.Option.{Option, none, some}
use Rattle.std.specs.Prelude.{Result, Ok, Err, IsErrAnd}
use Prim.Native.Nat.{ℕ, ◌+◌, ◌≤◌, ◌<◌}
use native.Mathlib.Numerals.{add-one}
use native.Mathlib.Omega.{arith}
use borrow.Author.Tests.{lt-ltb, le-ltb}
use lib.ListN.{length, length-take, take, drop, get_or, drop_of_length-le, get_or-eq_default}
use lib.Seq.{drop-cons, length-take-le}
use lib.Ieee.{Float}
use Rattle.rules.specs.Lists.{contains}
use Rattle.rules.specs.Tree.{empty, node_at, tile}
use Rattle.rules.specs.Repair.{melts}
use Rattle.rules.specs.declared.model.Axis.{Axis}
use Rattle.forest.specs.Answers.{some-none}
use Rattle.columns.specs.Columns.{nodes_from}
use Rattle.columns.specs.ColumnLaws.{nodes-long}
use Rattle.calm.specs.Calm.{calm_panes, seeing}
use Rattle.calm.specs.Reads.{sighted, looked, Sights, Groups}

abbrev or_none : Option (List ℕ) → List ℕ
or_none none = []
or_none (some x) = x

some_same : (x y : List ℕ) → some x ≡ some y → x ≡ y
some_same x y z = let w : or_none (some x) ≡ or_none (some y) = ap or_none z in w

-- what is claimed beside what was seen
pub looked-seen : (cs : List Bool) (seen : List ℕ) (r : Result ℕ ℕ) → looked r cs seen ≡ seeing cs (sighted r seen)
looked-seen cs seen (Ok m) = refl
looked-seen cs seen (Err m) = refl

-- the count that a `?` hands on
pub hands-on : (k : ℕ) (r : Result ℕ ℕ) → IsErrAnd r (λ y. y ≡ k) → r ≡ Err k
hands-on k (Ok m) h = absurd h
hands-on k (Err m) h = ap Err h

-- ---- one pane

abbrev one : Bool → ℕ → List ℕ → Option (List ℕ)
one b p s = cond b none (some (s ++ p ∷ []))

one-is : (p : ℕ) (s : List ℕ) → calm_panes (p ∷ []) s ≡ one (contains p s) p s
unfolding calm_panes
one-is p s = refl

module _ (p : ℕ) (seen : List ℕ) (n : ℕ) where
  pub sights-no : contains p (take n seen) ≡ true → Sights (p ∷ []) seen n seen (Err n)
  sights-no e = record { most = omega arith; right = sym (one-is p (take n seen) ∙ ap (λ (b : Bool). one b p (take n seen)) e) }

  pub sights-yes : (seen' : List ℕ) (m : ℕ) → contains p (take n seen) ≡ false → m ≡ n + 1 → take m seen' ≡ take n seen ++ p ∷ [] → Sights (p ∷ []) seen n seen' (Ok m)
  sights-yes seen' m e f g = record { most = omega (arith, f); right = ap some g ∙ sym (one-is p (take n seen) ∙ ap (λ (b : Bool). one b p (take n seen)) e) }

-- ---- panes, one by one

-- the first j were looked at, and m panes are seen
pub record Looking (ps : List ℕ) (seen₀ : List ℕ) (n : ℕ) (seen : List ℕ) (m j : ℕ) : Type 0 where
  pub few : j ≤ length ps
  pub most : m ≤ n + j
  pub left : calm_panes (drop j ps) (take m seen) ≡ calm_panes ps (take n seen₀)

module _ (ps seen₀ : List ℕ) (n : ℕ) where
  pub looking-none : Looking ps seen₀ n seen₀ n 0
  looking-none = record { few = omega arith; most = omega arith; left = refl }

  module _ (seen : List ℕ) (m j : ℕ) (L : Looking ps seen₀ n seen m j) where
    module _ (h : j < length ps) (x : ℕ) (at : get_or ps j 0 ≡ x) (seen' : List ℕ) where
      abbrev p : ℕ
      p = get_or ps j 0

      abbrev s : List ℕ
      s = take m seen

      step : calm_panes ps (take n seen₀) ≡ cond (contains p s) none (calm_panes (drop (j + 1) ps) (s ++ p ∷ []))
      unfolding calm_panes
      step = sym L.left ∙ ap (λ (l : List ℕ). calm_panes l s) (drop-cons ps j 0 h ∙ ap (λ (k : ℕ). p ∷ drop k ps) (sym (add-one j)))

      one-was : (r : Result ℕ ℕ) → Sights (x ∷ []) seen m seen' r → sighted r seen' ≡ one (contains p s) p s
      one-was r S = S.right ∙ one-is x s ∙ ap (λ (y : ℕ). one (contains y s) y s) (sym at)

      new : (l : List ℕ) (b : Bool) → some l ≡ one b p s → (b ≡ false) × (l ≡ s ++ p ∷ [])
      new l true e = some-none e
      new l false e = (refl, some_same _ _ e)

      old : (b : Bool) → none ≡ one b p s → b ≡ true
      old true e = refl
      old false e = some-none (sym e)

      pub looking-more : (k : ℕ) → Sights (x ∷ []) seen m seen' (Ok k) → Looking ps seen₀ n seen' k (j + 1)
      looking-more k S =
          let (fresh, now) = new (take k seen') (contains p s) (one-was (Ok k) S) in
          record {
            few = omega arith;
            most = omega (arith, S.most, L.most);
            left = ap (calm_panes (drop (j + 1) ps)) now ∙ sym (step ∙ ap (λ (b : Bool). cond b none (calm_panes (drop (j + 1) ps) (s ++ p ∷ []))) fresh);
          }

      pub looking-stop : (k : ℕ) → Sights (x ∷ []) seen m seen' (Err k) → Sights ps seen₀ n seen' (Err k)
      looking-stop k S =
          record {
            most = omega (arith, S.most, L.most, h);
            right = sym (step ∙ ap (λ (b : Bool). cond b none (calm_panes (drop (j + 1) ps) (s ++ p ∷ []))) (old (contains p s) (one-was (Err k) S)));
          }

    pub looking-done : length ps ≤ j → Sights ps seen₀ n seen (Ok m)
    unfolding calm_panes
    looking-done h = record { most = omega (arith, L.most, L.few); right = sym (ap (λ (l : List ℕ). calm_panes l (take m seen)) (drop_of_length-le ps h)) ∙ L.left }

-- ---- a slot

module _ (hs xs : List (List ℕ)) (ss ms : List (List Float)) (h : length hs ≡ 64) (x : length xs ≡ 64) (s : length ss ≡ 64) (m : length ms ≡ 64) where
  -- there is nothing past the slots
  pub past : (i : ℕ) → 64 ≤ i → (a : Axis) (f : Float) → false ≡ melts a f (node_at (nodes_from hs xs ss ms) (tile i))
  past i p a f = sym (ap (melts a f) (get_or-eq_default (nodes_from hs xs ss ms) empty (omega (arith, nodes-long hs xs ss ms h x s m))))

-- ---- a group

module _ (h row : List ℕ) (seen : List ℕ) (n : ℕ) where
  -- no pane is at the active index
  pub group-no : get_or h 4 0 ≤ get_or h 3 0 → (m : ℕ) → m ≤ n + 16 → Groups h row seen n seen (Err m)
  group-no p m g =
      record {
        most = g;
        right = λ cs. ap (λ (b : Bool). cond b (seeing cs (calm_panes (take (get_or h 4 0) row) (take n seen))) none) (sym (le-ltb (get_or h 3 0) (length (take (get_or h 4 0) row)) (omega (arith, length-take (get_or h 4 0) row))));
      }

  pub group-yes : get_or h 3 0 < get_or h 4 0 → get_or h 4 0 ≤ 16 → length row ≡ 16 → (seen' : List ℕ) (r : Result ℕ ℕ) → Sights (take (get_or h 4 0) row) seen n seen' r → Groups h row seen n seen' r
  group-yes p q l seen' r S =
      let long : length (take (get_or h 4 0) row) ≡ get_or h 4 0 = length-take-le (get_or h 4 0) row (omega arith) in
      record {
        most = omega (arith, S.most, long);
        right = λ cs.
            looked-seen cs seen' r ∙ ap (seeing cs) S.right
            ∙ ap (λ (b : Bool). cond b (seeing cs (calm_panes (take (get_or h 4 0) row) (take n seen))) none) (sym (lt-ltb (get_or h 3 0) (length (take (get_or h 4 0) row)) (omega (arith, long))));
      }
