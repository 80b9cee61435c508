-- Laws of heads as they are written back: they show the same arena, and every call takes their codes. Assumes nothing.
use mathlib.Core.Path.{◌≡◌, refl, ap, ◌∙◌}
use mathlib.Core.Bool.{Bool, true, false, ◌&&◌, ◌||◌}
use mathlib.Core.List.{List, [], ◌∷◌, map}
use Prim.Native.Nat.{ℕ, zero, suc}
use lib.ListN.{get_or, take}
use lib.Ieee.{Float}
use Rattle.rules.specs.Lists.{any_of, all_of}
use Rattle.rules.specs.Tree.{tabs, split, tile}
use Rattle.columns.specs.Columns.{bar_from, axis_from, node_by, node_from, nodes_from}
use Rattle.columns.specs.Pack.{over_kind, over_of}
use Rattle.columns.specs.Shown.{arena_from}
use Rattle.columns.specs.PackLaws.{bar-back, axis-back}
use Rattle.coding.specs.Lent.{lot, code_ok, codes_ok}
use Rattle.crossing.specs.Parts.{Holds}
use Rattle.lending.specs.Back.{fitted_by, fitted, fit_by, fit_heads}
use Rattle.coding.proofs.CodeLaws.{bar-ok, axis-ok}

-- ---- one head

module _ (h : List ℕ) where
  node-fit : (k : ℕ) (xs : List ℕ) (ss ms : List Float) → node_from (fitted_by k h) xs ss ms ≡ node_by k h xs ss ms
  node-fit zero xs ss ms = refl
  node-fit (suc zero) xs ss ms = refl
  node-fit (suc (suc zero)) xs ss ms = λ z. tabs (bar-back (bar_from (get_or h 1 0)) z) (get_or h 3 0) (take (get_or h 4 0) xs)
  node-fit (suc (suc (suc k))) xs ss ms = λ z. split (axis-back (axis_from (get_or h 1 0)) z) (map tile (take (get_or h 4 0) xs)) (take (get_or h 5 0) ss) (take (get_or h 6 0) ms)

  over-fit : (k : ℕ) → over_of (fitted_by k h) ≡ over_kind k h
  over-fit zero = refl
  over-fit (suc zero) = refl
  over-fit (suc (suc zero)) = refl
  over-fit (suc (suc (suc k))) = refl

  code-fit : (k : ℕ) → code_ok (fitted_by k h) ≡ true
  code-fit zero = refl
  code-fit (suc zero) = refl
  code-fit (suc (suc zero)) = bar-ok (bar_from (get_or h 1 0))
  code-fit (suc (suc (suc k))) = axis-ok (axis_from (get_or h 1 0))

-- ---- all heads

nodes-fit : (hs xs : List (List ℕ)) (ss ms : List (List Float)) → nodes_from (map fitted hs) xs ss ms ≡ nodes_from hs xs ss ms
unfolding nodes_from
nodes-fit [] xs ss ms = refl
nodes-fit (h ∷ hs) [] ss ms = refl
nodes-fit (h ∷ hs) (x ∷ xs) [] ms = refl
nodes-fit (h ∷ hs) (x ∷ xs) (s ∷ ss) [] = refl
nodes-fit (h ∷ hs) (x ∷ xs) (s ∷ ss) (m ∷ ms) = λ z. node-fit h (get_or h 0 0) x s m z ∷ nodes-fit hs xs ss ms z

overs-fit : (hs : List (List ℕ)) → any_of over_of (map fitted hs) ≡ any_of over_of hs
unfolding any_of
overs-fit [] = refl
overs-fit (h ∷ hs) = λ z. over-fit h (get_or h 0 0) z || overs-fit hs z

codes-fit : (hs : List (List ℕ)) → codes_ok (map fitted hs) ≡ true
unfolding all_of
codes-fit [] = refl
codes-fit (h ∷ hs) = λ z. code-fit h (get_or h 0 0) z && codes-fit hs z

-- ---- the same where they stay as they are

nodes-by : (b : Bool) (hs xs : List (List ℕ)) (ss ms : List (List Float)) → nodes_from (fit_by b hs) xs ss ms ≡ nodes_from hs xs ss ms
nodes-by true hs xs ss ms = refl
nodes-by false hs xs ss ms = nodes-fit hs xs ss ms

overs-by : (b : Bool) (hs : List (List ℕ)) → any_of over_of (fit_by b hs) ≡ any_of over_of hs
overs-by true hs = refl
overs-by false hs = overs-fit hs

codes-by : (b : Bool) (hs : List (List ℕ)) → codes_ok hs ≡ b → codes_ok (fit_by b hs) ≡ true
codes-by true hs e = e
codes-by false hs e = codes-fit hs

pub fit-holds : (root v : ℕ) (hs xs : List (List ℕ)) (ss ms : List (List Float)) (hs' : List (List ℕ)) → hs' ≡ fit_heads hs → Holds (arena_from root v hs xs ss ms) (lot (root ∷ v ∷ []) hs' xs ss ms)
fit-holds root v hs xs ss ms hs' e =
    let b = codes_ok hs in
    let nodes = ap (λ (l : List (List ℕ)). nodes_from l xs ss ms) e ∙ nodes-by b hs xs ss ms in
    let over = ap (any_of over_of) e ∙ overs-by b hs in
    record { arena = λ z. record { root = tile root; revision = v; nodes = nodes z; over = over z }; codes = ap codes_ok e ∙ codes-by b hs refl }
