-- Laws of how a repair begins: no list of slim heads is too wide, the arrays of the walk at its start, and the columns of slots. Assumes nothing.
use mathlib.Core.Path.{◌≡◌, refl, sym, ap, ◌∙◌}
use mathlib.Core.Bool.{Bool, false, ◌||◌}
use mathlib.Core.List.{List, [], ◌∷◌, map}
use Prim.Native.Nat.{ℕ, zero, suc, ◌≤◌}
use native.Mathlib.Omega.{arith}
use borrow.Author.Tests.{le-ltb}
use lib.Dec.{ltb}
use lib.ListN.{length, get_or, take, set, replicate, length-map, length-take}
use lib.Ieee.{Float}
use Rattle.rules.specs.Lists.{any_of}
use Rattle.rules.specs.Tree.{Node, tile, empty_group, wide_node, view_slot}
use Rattle.rules.specs.Repair.{begin}
use Rattle.rules.specs.declared.model.Slot.{Slot}
use Rattle.sifting.specs.Work.{Cols, cols, nodes_in, Sized, Shows}
use Rattle.sifting.specs.declared.Counts.{Counts}
use Rattle.columns.specs.Columns.{node_by, nodes_from, Slim}
use Rattle.columns.specs.Pack.{head_of, ids_of, shares_of, minima_of, Unpacks}
use Rattle.columns.specs.PackLaws.{unpacked}
use Rattle.forest.specs.Bools.{or_left, or_right}

-- ---- no list of slim heads is too wide

narrow-take : {A : Type 0} (n : ℕ) (xs : List A) → n ≤ 16 → ltb 16 (length (take n xs)) ≡ false
narrow-take n xs h = le-ltb 16 (length (take n xs)) (omega (arith, length-take n xs))

narrow-node : (k : ℕ) (h xs : List ℕ) (ss ms : List Float) → Slim h → wide_node (node_by k h xs ss ms) ≡ false
narrow-node zero h xs ss ms s = refl
narrow-node (suc zero) h xs ss ms s = refl
narrow-node (suc (suc zero)) h xs ss ms (a, b, c) = narrow-take (get_or h 4 0) xs a
narrow-node (suc (suc (suc k))) h xs ss ms (a, b, c) =
    rw (length-map (take (get_or h 4 0) xs) tile, narrow-take (get_or h 4 0) xs a, narrow-take (get_or h 5 0) ss b, narrow-take (get_or h 6 0) ms c) refl

narrow-from : (hs xs : List (List ℕ)) (ss ms : List (List Float)) → ((i : ℕ) → Slim (get_or hs i [])) → any_of wide_node (nodes_from hs xs ss ms) ≡ false
unfolding any_of nodes_from
narrow-from [] xs ss ms s = refl
narrow-from (h ∷ hs) [] ss ms s = refl
narrow-from (h ∷ hs) (x ∷ xs) [] ms s = refl
narrow-from (h ∷ hs) (x ∷ xs) (y ∷ ss) [] s = refl
narrow-from (h ∷ hs) (x ∷ xs) (y ∷ ss) (m ∷ ms) s = ap (λ (b : Bool). b || any_of wide_node (nodes_from hs xs ss ms)) (narrow-node (get_or h 0 0) h x y m (s 0)) ∙ narrow-from hs xs ss ms (λ i. s (suc i))

pub narrow-in : (C : Cols) → Sized C → any_of wide_node (nodes_in C) ≡ false
narrow-in C S = narrow-from C.heads C.ids C.shares C.minima S.slim

pub narrow-set : (ns : List Node) (i : ℕ) → any_of wide_node ns ≡ false → any_of wide_node (set ns i empty_group) ≡ false
unfolding any_of
narrow-set [] i e = refl
narrow-set (n ∷ ns) zero e = or_right (wide_node n) (any_of wide_node ns) e
narrow-set (n ∷ ns) (suc i) e =
    ap (λ (b : Bool). b || any_of wide_node (set ns i empty_group)) (or_left (wide_node n) (any_of wide_node ns) e) ∙ narrow-set ns i (or_right (wide_node n) (any_of wide_node ns) e)

-- ---- the walk begins

module _ (hs xs : List (List ℕ)) (ss ms : List (List Float)) (seen : List ℕ) (acts : List (List ℕ)) where
  abbrev pub nothing : Counts
  nothing = record { seen = 0; acts = 0 }

  abbrev pub start : Cols
  start = cols hs xs ss ms (replicate 64 false) seen acts nothing

  pub start-sized : length hs ≡ 64 → length xs ≡ 64 → length ss ≡ 64 → length ms ≡ 64 → ((i : ℕ) → Slim (get_or hs i [])) → Sized start
  start-sized a b c d s = record { heads = a; ids = b; shares = c; minima = d; flags = refl; slim = s; panes = omega arith; listing = omega arith }

  pub start-shows : (ns : List Node) → nodes_from hs xs ss ms ≡ ns → Shows start (begin ns)
  start-shows ns e = record { nodes = sym e; claimed = refl; panes = refl; actions = λ whole. refl }

-- ---- the columns of slots

module _ (s : List Slot) (hs xs : List (List ℕ)) (ss ms : List (List Float)) (size : length s ≡ 64) (U : Unpacks s hs xs ss ms) where
  pub heads-long : length hs ≡ 64
  heads-long = ap length U.heads ∙ length-map s head_of ∙ size

  pub ids-long : length xs ≡ 64
  ids-long = ap length U.ids ∙ length-map s ids_of ∙ size

  pub shares-long : length ss ≡ 64
  shares-long = ap length U.shares ∙ length-map s shares_of ∙ size

  pub minima-long : length ms ≡ 64
  minima-long = ap length U.minima ∙ length-map s minima_of ∙ size

  pub columns-show : nodes_from hs xs ss ms ≡ map view_slot s
  columns-show = (λ z. nodes_from (U.heads z) (U.ids z) (U.shares z) (U.minima z)) ∙ unpacked s
