-- Laws of tidied heads: they show the same arena, and a length over 16 stands only where it counts. Assumes nothing.
use mathlib.Core.Path.{◌≡◌, refl, sym, ap, ◌∙◌}
use mathlib.Core.Bool.{Bool, true, false, ◌||◌, or-false}
use mathlib.Core.List.{List, [], ◌∷◌, map}
use Prim.Native.Nat.{ℕ, zero, suc}
use lib.Dec.{ltb}
use lib.ListN.{length, get_or, length-map}
use lib.Ieee.{Float}
use Rattle.rules.specs.Lists.{any_of}
use Rattle.rules.specs.Tree.{tile}
use Rattle.columns.specs.Columns.{node_by, node_from, nodes_from}
use Rattle.columns.specs.Pack.{over_head, over_kind, over_of}
use Rattle.columns.specs.Shown.{Plain}
use Rattle.columns.specs.RowLaws.{unused-none}
use Rattle.coding.specs.Lent.{lot, lent, tidied_by, tidied}
use Rattle.crossing.specs.Parts.{tidy_by, tidy_heads}

module _ (h : List ℕ) where
  node-tidy : (k : ℕ) → get_or h 0 0 ≡ k → (xs : List ℕ) (ss ms : List Float) → node_from (tidied_by k h) xs ss ms ≡ node_by k h xs ss ms
  node-tidy zero e xs ss ms = refl
  node-tidy (suc zero) e xs ss ms = refl
  node-tidy (suc (suc zero)) e xs ss ms = refl
  node-tidy (suc (suc (suc k))) e xs ss ms = ap (λ (j : ℕ). node_by j h xs ss ms) e

  over-tidy : (k : ℕ) → get_or h 0 0 ≡ k → over_of (tidied_by k h) ≡ over_kind k h
  over-tidy zero e = refl
  over-tidy (suc zero) e = refl
  over-tidy (suc (suc zero)) e = refl
  over-tidy (suc (suc (suc k))) e = ap (λ (j : ℕ). over_kind j h) e

  plain-tidy : (k : ℕ) → get_or h 0 0 ≡ k → over_head (tidied_by k h) ≡ over_of (tidied_by k h)
  plain-tidy zero e = refl
  plain-tidy (suc zero) e = refl
  plain-tidy (suc (suc zero)) e = or-false (ltb 16 (get_or h 4 0) || false) ∙ or-false (ltb 16 (get_or h 4 0))
  plain-tidy (suc (suc (suc k))) e = ap (λ (j : ℕ). over_kind j h) (sym e)

nodes-tidy : (hs xs : List (List ℕ)) (ss ms : List (List Float)) → nodes_from (map tidied hs) xs ss ms ≡ nodes_from hs xs ss ms
unfolding nodes_from
nodes-tidy [] xs ss ms = refl
nodes-tidy (h ∷ hs) [] ss ms = refl
nodes-tidy (h ∷ hs) (x ∷ xs) [] ms = refl
nodes-tidy (h ∷ hs) (x ∷ xs) (s ∷ ss) [] = refl
nodes-tidy (h ∷ hs) (x ∷ xs) (s ∷ ss) (m ∷ ms) = λ z. node-tidy h (get_or h 0 0) refl x s m z ∷ nodes-tidy hs xs ss ms z

overs-tidy : (hs : List (List ℕ)) → any_of over_of (map tidied hs) ≡ any_of over_of hs
unfolding any_of
overs-tidy [] = refl
overs-tidy (h ∷ hs) = λ z. over-tidy h (get_or h 0 0) refl z || overs-tidy hs z

unused-tidy : (hs : List (List ℕ)) → map over_head (map tidied hs) ≡ map over_of (map tidied hs)
unused-tidy [] = refl
unused-tidy (h ∷ hs) = λ z. plain-tidy h (get_or h 0 0) refl z ∷ unused-tidy hs z

-- ---- where no length is over 16 the heads stay as they are

nodes-by : (b : Bool) (hs xs : List (List ℕ)) (ss ms : List (List Float)) → nodes_from (tidy_by b hs) xs ss ms ≡ nodes_from hs xs ss ms
nodes-by true hs xs ss ms = nodes-tidy hs xs ss ms
nodes-by false hs xs ss ms = refl

overs-by : (b : Bool) (hs : List (List ℕ)) → any_of over_of (tidy_by b hs) ≡ any_of over_of hs
overs-by true hs = overs-tidy hs
overs-by false hs = refl

length-by : (b : Bool) (hs : List (List ℕ)) → length (tidy_by b hs) ≡ length hs
length-by true hs = length-map hs tidied
length-by false hs = refl

unused-by : (b : Bool) (hs : List (List ℕ)) → any_of over_head hs ≡ b → map over_head (tidy_by b hs) ≡ map over_of (tidy_by b hs)
unused-by true hs e = unused-tidy hs
unused-by false hs e = unused-none hs e

-- by what a test of the lengths answered
pub tidy-none : (hs : List (List ℕ)) (b : Bool) → b ≡ any_of over_head hs → b ≡ false → hs ≡ tidy_heads hs
tidy-none hs b e f = ap (λ (x : Bool). tidy_by x hs) (sym f ∙ e)

pub tidy-some : (hs hs' : List (List ℕ)) (b : Bool) → b ≡ any_of over_head hs → b ≡ true → hs' ≡ map tidied hs → hs' ≡ tidy_heads hs
tidy-some hs hs' b e f m = m ∙ ap (λ (x : Bool). tidy_by x hs) (sym f ∙ e)

module _ (hs hs' xs : List (List ℕ)) (ss ms : List (List Float)) (e : hs' ≡ tidy_heads hs) where
  pub tidy-lent : (top : List ℕ) → lent (lot top hs' xs ss ms) ≡ lent (lot top hs xs ss ms)
  tidy-lent top =
      let b = any_of over_head hs in
      let nodes = ap (λ (l : List (List ℕ)). nodes_from l xs ss ms) e ∙ nodes-by b hs xs ss ms in
      let over = ap (any_of over_of) e ∙ overs-by b hs in
      λ z. record { root = tile (get_or top 0 0); revision = get_or top 1 0; nodes = nodes z; over = over z }

  pub tidy-plain : (length hs ≡ 64) × (length xs ≡ 64) × (length ss ≡ 64) × (length ms ≡ 64) → Plain hs' xs ss ms
  tidy-plain (a, b, c, d) =
      let t = any_of over_head hs in
      record { heads = ap length e ∙ length-by t hs ∙ a; ids = b; shares = c; minima = d; unused = ap (map over_head) e ∙ unused-by t hs refl ∙ sym (ap (map over_of) e) }
