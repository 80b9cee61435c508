-- Laws of the columns: the slots that they show, read and written at one slot. Assumes nothing.
use Rattle.std.specs.Prelude.{◌≡◌, refl, List, [], ◌∷◌, map, ℕ, zero, suc, length, get_or, take, set, Float}
use Rattle.std.proofs.Common.{ap, ◌∙◌, arith}
use Rattle.rules.specs.Tree.{Node, empty, split, tile}
use Rattle.columns.specs.Columns.{axis_from, node_by, node_from, nodes_from, Slim}

-- columns of one length show as many slots
nodes-even : (hs xs : List (List ℕ)) (ss ms : List (List Float)) → length xs ≡ length hs → length ss ≡ length hs → length ms ≡ length hs
    → length (nodes_from hs xs ss ms) ≡ length hs
unfolding nodes_from
nodes-even [] xs ss ms p q r = refl
nodes-even (h ∷ hs) [] ss ms p q r = absurd (omega arith)
nodes-even (h ∷ hs) (x ∷ xs) [] ms p q r = absurd (omega arith)
nodes-even (h ∷ hs) (x ∷ xs) (s ∷ ss) [] p q r = absurd (omega arith)
nodes-even (h ∷ hs) (x ∷ xs) (s ∷ ss) (m ∷ ms) p q r = ap suc (nodes-even hs xs ss ms (omega arith) (omega arith) (omega arith))

-- and each slot is its row; past the end it is empty
nodes-even-at : (hs xs : List (List ℕ)) (ss ms : List (List Float)) → length xs ≡ length hs → length ss ≡ length hs → length ms ≡ length hs
    → (i : ℕ) → get_or (nodes_from hs xs ss ms) i empty ≡ node_from (get_or hs i []) (get_or xs i []) (get_or ss i []) (get_or ms i [])
unfolding nodes_from
nodes-even-at [] xs ss ms p q r i = refl
nodes-even-at (h ∷ hs) [] ss ms p q r i = absurd (omega arith)
nodes-even-at (h ∷ hs) (x ∷ xs) [] ms p q r i = absurd (omega arith)
nodes-even-at (h ∷ hs) (x ∷ xs) (s ∷ ss) [] p q r i = absurd (omega arith)
nodes-even-at (h ∷ hs) (x ∷ xs) (s ∷ ss) (m ∷ ms) p q r zero = refl
nodes-even-at (h ∷ hs) (x ∷ xs) (s ∷ ss) (m ∷ ms) p q r (suc i) = nodes-even-at hs xs ss ms (omega arith) (omega arith) (omega arith) i

module _ (hs xs : List (List ℕ)) (ss ms : List (List Float)) (lh : length hs ≡ 64) (lx : length xs ≡ 64) (ls : length ss ≡ 64) (lm : length ms ≡ 64) where
  pub nodes-long : length (nodes_from hs xs ss ms) ≡ 64
  nodes-long = nodes-even hs xs ss ms (omega arith) (omega arith) (omega arith) ∙ lh

  pub nodes-at : (i : ℕ) → get_or (nodes_from hs xs ss ms) i empty ≡ node_from (get_or hs i []) (get_or xs i []) (get_or ss i []) (get_or ms i [])
  nodes-at i = nodes-even-at hs xs ss ms (omega arith) (omega arith) (omega arith) i

-- ---- one slot written, in every column or in some

pub nodes-set : (hs xs : List (List ℕ)) (ss ms : List (List Float)) (i : ℕ) (h x : List ℕ) (s m : List Float)
    → nodes_from (set hs i h) (set xs i x) (set ss i s) (set ms i m) ≡ set (nodes_from hs xs ss ms) i (node_from h x s m)
unfolding nodes_from
nodes-set [] xs ss ms i h x s m = refl
nodes-set (h₀ ∷ hs) [] ss ms zero h x s m = refl
nodes-set (h₀ ∷ hs) [] ss ms (suc i) h x s m = refl
nodes-set (h₀ ∷ hs) (x₀ ∷ xs) [] ms zero h x s m = refl
nodes-set (h₀ ∷ hs) (x₀ ∷ xs) [] ms (suc i) h x s m = refl
nodes-set (h₀ ∷ hs) (x₀ ∷ xs) (s₀ ∷ ss) [] zero h x s m = refl
nodes-set (h₀ ∷ hs) (x₀ ∷ xs) (s₀ ∷ ss) [] (suc i) h x s m = refl
nodes-set (h₀ ∷ hs) (x₀ ∷ xs) (s₀ ∷ ss) (m₀ ∷ ms) zero h x s m = refl
nodes-set (h₀ ∷ hs) (x₀ ∷ xs) (s₀ ∷ ss) (m₀ ∷ ms) (suc i) h x s m = ap (λ (l : List Node). node_from h₀ x₀ s₀ m₀ ∷ l) (nodes-set hs xs ss ms i h x s m)

-- only the head
pub nodes-head : (hs xs : List (List ℕ)) (ss ms : List (List Float)) (i : ℕ) (h : List ℕ)
    → nodes_from (set hs i h) xs ss ms ≡ set (nodes_from hs xs ss ms) i (node_from h (get_or xs i []) (get_or ss i []) (get_or ms i []))
unfolding nodes_from
nodes-head [] xs ss ms i h = refl
nodes-head (h₀ ∷ hs) [] ss ms zero h = refl
nodes-head (h₀ ∷ hs) [] ss ms (suc i) h = refl
nodes-head (h₀ ∷ hs) (x₀ ∷ xs) [] ms zero h = refl
nodes-head (h₀ ∷ hs) (x₀ ∷ xs) [] ms (suc i) h = refl
nodes-head (h₀ ∷ hs) (x₀ ∷ xs) (s₀ ∷ ss) [] zero h = refl
nodes-head (h₀ ∷ hs) (x₀ ∷ xs) (s₀ ∷ ss) [] (suc i) h = refl
nodes-head (h₀ ∷ hs) (x₀ ∷ xs) (s₀ ∷ ss) (m₀ ∷ ms) zero h = refl
nodes-head (h₀ ∷ hs) (x₀ ∷ xs) (s₀ ∷ ss) (m₀ ∷ ms) (suc i) h = ap (λ (l : List Node). node_from h₀ x₀ s₀ m₀ ∷ l) (nodes-head hs xs ss ms i h)

-- the head and the ids
pub nodes-row : (hs xs : List (List ℕ)) (ss ms : List (List Float)) (i : ℕ) (h x : List ℕ)
    → nodes_from (set hs i h) (set xs i x) ss ms ≡ set (nodes_from hs xs ss ms) i (node_from h x (get_or ss i []) (get_or ms i []))
unfolding nodes_from
nodes-row [] xs ss ms i h x = refl
nodes-row (h₀ ∷ hs) [] ss ms zero h x = refl
nodes-row (h₀ ∷ hs) [] ss ms (suc i) h x = refl
nodes-row (h₀ ∷ hs) (x₀ ∷ xs) [] ms zero h x = refl
nodes-row (h₀ ∷ hs) (x₀ ∷ xs) [] ms (suc i) h x = refl
nodes-row (h₀ ∷ hs) (x₀ ∷ xs) (s₀ ∷ ss) [] zero h x = refl
nodes-row (h₀ ∷ hs) (x₀ ∷ xs) (s₀ ∷ ss) [] (suc i) h x = refl
nodes-row (h₀ ∷ hs) (x₀ ∷ xs) (s₀ ∷ ss) (m₀ ∷ ms) zero h x = refl
nodes-row (h₀ ∷ hs) (x₀ ∷ xs) (s₀ ∷ ss) (m₀ ∷ ms) (suc i) h x = ap (λ (l : List Node). node_from h₀ x₀ s₀ m₀ ∷ l) (nodes-row hs xs ss ms i h x)

-- ---- heads

-- no list is too long, where a slim head is written
pub slim-set : (hs : List (List ℕ)) (i : ℕ) (h : List ℕ) → ((j : ℕ) → Slim (get_or hs j [])) → Slim h → (j : ℕ) → Slim (get_or (set hs i h) j [])
slim-set [] i h all one j = all j
slim-set (h₀ ∷ hs) zero h all one zero = one
slim-set (h₀ ∷ hs) zero h all one (suc j) = all (suc j)
slim-set (h₀ ∷ hs) (suc i) h all one zero = all 0
slim-set (h₀ ∷ hs) (suc i) h all one (suc j) = slim-set hs i h (λ k. all (suc k)) one j

-- a kind that is none of 0, 1, 2 is a split
pub split-of : (k : ℕ) (h xs : List ℕ) (ss ms : List Float) → (k ≡ 0 → ⊥) → (k ≡ 1 → ⊥) → (k ≡ 2 → ⊥)
    → node_by k h xs ss ms ≡ split (axis_from (get_or h 1 0)) (map tile (take (get_or h 4 0) xs)) (take (get_or h 5 0) ss) (take (get_or h 6 0) ms)
split-of zero h xs ss ms z o t = absurd (z refl)
split-of (suc zero) h xs ss ms z o t = absurd (o refl)
split-of (suc (suc zero)) h xs ss ms z o t = absurd (t refl)
split-of (suc (suc (suc n))) h xs ss ms z o t = refl
