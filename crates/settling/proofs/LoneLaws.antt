-- Laws of the lone empty root: a head's four tests, and a sweep that keeps the root alone. Assumes nothing.
use mathlib.Core.Path.{◌≡◌, refl, sym, ap, ◌∙◌}
use mathlib.Core.Bool.{Bool, true, false, ◌&&◌}
use mathlib.Core.List.{List, [], ◌∷◌}
use Prim.Native.Nat.{ℕ, zero, suc, ◌≤◌, ◌<◌}
use native.Mathlib.Omega.{arith}
use borrow.Author.Tests.{ne_eqb}
use lib.Dec.{eqb}
use lib.ListN.{length, get_or, take, set, replicate}
use lib.Ieee.{Float}
use Rattle.rules.specs.Lists.{all_of, same_list}
use Rattle.rules.specs.Tree.{Node, empty, is_empty, empty_group, bar_code, same_node}
use Rattle.rules.specs.Sound.{lone_empty_root}
use Rattle.forest.specs.Nodes.{past}
use Rattle.forest.specs.Still.{none_lost}
use Rattle.columns.specs.Columns.{bar_from, node_by, nodes_from}
use Rattle.columns.specs.Pack.{NoneLost}
use Rattle.columns.specs.ColumnLaws.{nodes-long, nodes-at}
use Rattle.columns.specs.Shown.{arena_from, Plain}
use Rattle.settling.specs.Lone.{is_blank}

-- an empty list is told by its length
none-by : (n : ℕ) (xs : List ℕ) → 0 < length xs → same_list eqb (take n xs) [] ≡ eqb n 0
unfolding same_list
none-by zero xs h = refl
none-by (suc n) [] h = absurd (omega arith)
none-by (suc n) (x ∷ xs) h = sym (ne_eqb (suc n) 0 (λ e. omega (arith, e)))

-- Hidden by its number
hidden-by : (m : ℕ) → eqb m 0 ≡ eqb (bar_code (bar_from m)) 0
hidden-by zero = refl
hidden-by (suc zero) = refl
hidden-by (suc (suc zero)) = refl
hidden-by (suc (suc (suc zero))) = refl
hidden-by (suc (suc (suc (suc n)))) = ne_eqb (suc (suc (suc (suc n)))) 0 (λ e. omega (arith, e))

-- a head is the empty Hidden group's by four numbers
blank-by : (k : ℕ) (h xs : List ℕ) (ss ms : List Float) → 0 < length xs → (eqb k 2 && eqb (get_or h 1 0) 0 && eqb (get_or h 3 0) 0 && eqb (get_or h 4 0) 0) ≡ same_node (node_by k h xs ss ms) empty_group
blank-by zero h xs ss ms l = refl
blank-by (suc zero) h xs ss ms l = refl
blank-by (suc (suc zero)) h xs ss ms l = λ z. hidden-by (get_or h 1 0) z && eqb (get_or h 3 0) 0 && sym (none-by (get_or h 4 0) xs l) z
blank-by (suc (suc (suc k))) h xs ss ms l = ap (λ (b : Bool). b && eqb (get_or h 1 0) 0 && eqb (get_or h 3 0) 0 && eqb (get_or h 4 0) 0) (ne_eqb (suc (suc (suc k))) 2 (λ e. omega (arith, e)))

-- ---- a sweep that keeps nothing, or one slot alone

kept-none : (n : ℕ) (ns : List Node) → length ns ≡ n → none_lost (replicate n false) ns ≡ all_of is_empty ns
unfolding none_lost all_of
kept-none n [] e = refl
kept-none zero (x ∷ ns) e = absurd (omega arith)
kept-none (suc n) (x ∷ ns) e = ap (λ (b : Bool). is_empty x && b) (kept-none n ns (omega arith))

kept-one : (n i : ℕ) (ns : List Node) → length ns ≡ n → none_lost (set (replicate n false) i true) ns ≡ all_of is_empty (set ns i empty)
unfolding none_lost all_of
kept-one n i [] e = refl
kept-one zero i (x ∷ ns) e = absurd (omega arith)
kept-one (suc n) zero (x ∷ ns) e = kept-none n ns (omega arith)
kept-one (suc n) (suc i) (x ∷ ns) e = ap (λ (b : Bool). is_empty x && b) (kept-one n i ns (omega arith))

-- ---- the root

module _ (root v : ℕ) (hs xs : List (List ℕ)) (ss ms : List (List Float)) (P : Plain hs xs ss ms) where
  abbrev ns : List Node
  ns = nodes_from hs xs ss ms

  long : length ns ≡ 64
  long = nodes-long hs xs ss ms P.heads P.ids P.shares P.minima

  abbrev Lone : Bool → Type 0
  Lone r = r ≡ lone_empty_root (arena_from root v hs xs ss ms)

  -- the root's node, then the others
  by-node : (b : Bool) → b ≡ same_node (get_or ns root empty) empty_group → Lone (b && all_of is_empty (set ns root empty))
  by-node b e = ap (λ (x : Bool). x && all_of is_empty (set ns root empty)) e

  pub lone-out : 64 ≤ root → Lone false
  lone-out h = by-node false (ap (λ (n : Node). same_node n empty_group) (sym (past ns root (omega (arith, long)))))

  module _ (row : length (get_or xs root []) ≡ 16) where
    head-is : is_blank (get_or hs root []) ≡ same_node (get_or ns root empty) empty_group
    head-is =
        blank-by (get_or (get_or hs root []) 0 0) (get_or hs root []) (get_or xs root []) (get_or ss root []) (get_or ms root []) (omega arith)
        ∙ ap (λ (n : Node). same_node n empty_group) (sym (nodes-at hs xs ss ms P.heads P.ids P.shares P.minima root))

    pub lone-not : is_blank (get_or hs root []) ≡ false → Lone false
    lone-not e = by-node false (sym e ∙ head-is)

    pub lone-by : is_blank (get_or hs root []) ≡ true → (r : Bool) → NoneLost hs (set (replicate 64 false) root true) r → Lone r
    lone-by e r N = N.right xs ss ms P.ids P.shares P.minima ∙ kept-one 64 root ns long ∙ by-node true (sym e ∙ head-is)
