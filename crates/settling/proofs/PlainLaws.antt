-- Laws of plain columns: how long their lists are, and that the columns of a tree are plain and show it. Assumes nothing.
use mathlib.Core.Path.{◌≡◌, refl, sym, ap, subst, ◌∙◌}
use mathlib.Core.Bool.{false, ◌||◌, or-false}
use mathlib.Core.List.{List, [], ◌∷◌, map}
use Prim.Native.Nat.{ℕ, zero, suc}
use native.Mathlib.Omega.{arith}
use borrow.Author.Tests.{ltb-false}
use lib.Dec.{ltb}
use lib.ListN.{length, get_or}
use lib.Ieee.{Float}
use Rattle.rules.specs.Lists.{any_of}
use Rattle.rules.specs.Tree.{over_slot, view}
use Rattle.rules.specs.declared.model.Kind.{Kind}
use Rattle.rules.specs.declared.model.Kind.TheVariants.{Empty, Pane, Tabs, Split}
use Rattle.rules.specs.declared.model.Slot.{Slot}
use Rattle.rules.specs.declared.model.TileTree.{TileTree}
use Rattle.columns.specs.Columns.{nodes_from, Slim}
use Rattle.columns.specs.Pack.{head_by, head_of, over_head, over_of}
use Rattle.columns.specs.Shown.{Columned, arena_from, Plain}
use Rattle.columns.specs.PackLaws.{heads-over}
use Rattle.forest.specs.Bools.{or_left, or_right}
use Rattle.columns.specs.OverLaws.{any-alike}
use Rattle.columns.specs.ColumnLaws.{nodes-long}
use Rattle.settling.proofs.StartLaws.{heads-long, ids-long, shares-long, minima-long, columns-show}

-- heads whose lengths are 16 at most
slim-by : (h : List ℕ) → over_head h ≡ false → Slim h
slim-by h e =
    let a = or_left (ltb 16 (get_or h 4 0) || ltb 16 (get_or h 5 0)) (ltb 16 (get_or h 6 0)) e in
    (ltb-false 16 (get_or h 4 0) (or_left (ltb 16 (get_or h 4 0)) (ltb 16 (get_or h 5 0)) a), ltb-false 16 (get_or h 5 0) (or_right (ltb 16 (get_or h 4 0)) (ltb 16 (get_or h 5 0)) a), ltb-false 16 (get_or h 6 0) (or_right (ltb 16 (get_or h 4 0) || ltb 16 (get_or h 5 0)) (ltb 16 (get_or h 6 0)) e))

pub slim-heads : (hs : List (List ℕ)) → any_of over_head hs ≡ false → (i : ℕ) → Slim (get_or hs i [])
unfolding any_of
slim-heads [] e i = (omega arith, omega arith, omega arith)
slim-heads (h ∷ hs) e zero = slim-by h (or_left (over_head h) (any_of over_head hs) e)
slim-heads (h ∷ hs) e (suc i) = slim-heads hs (or_right (over_head h) (any_of over_head hs) e) i

-- the heads tell whether a list is over 16
pub plain_over : (hs xs : List (List ℕ)) (ss ms : List (List Float)) → Plain hs xs ss ms → any_of over_head hs ≡ any_of over_of hs
plain_over hs xs ss ms P = any-alike over_head over_of hs hs P.unused

pub plain-long : (hs xs : List (List ℕ)) (ss ms : List (List Float)) → Plain hs xs ss ms → length (nodes_from hs xs ss ms) ≡ 64
plain-long hs xs ss ms P = nodes-long hs xs ss ms P.heads P.ids P.shares P.minima

-- ---- the columns of a tree

head_plain : (k : Kind) (s : Slot) → over_head (head_by k s) ≡ over_of (head_by k s)
head_plain Empty s = refl
head_plain (Pane p) s = refl
head_plain (Tabs b) s = or-false (ltb 16 s.panes.len || false) ∙ or-false (ltb 16 s.panes.len)
head_plain (Split x) s = refl

heads-plain : (ss : List Slot) → map over_head (map head_of ss) ≡ map over_of (map head_of ss)
heads-plain [] = refl
heads-plain (s ∷ ss) = λ z. head_plain s.kind s z ∷ heads-plain ss z

module _ (t : TileTree) (hs xs : List (List ℕ)) (ss ms : List (List Float)) (K : Columned t hs xs ss ms) where
  pub over-is : any_of over_head hs ≡ any_of over_slot t.slots
  over-is = ap (any_of over_head) K.columns.heads ∙ heads-over t.slots

  pub tree_plain : Plain hs xs ss ms
  tree_plain =
      record {
        heads = heads-long t.slots hs xs ss ms K.size K.columns;
        ids = ids-long t.slots hs xs ss ms K.size K.columns;
        shares = shares-long t.slots hs xs ss ms K.size K.columns;
        minima = minima-long t.slots hs xs ss ms K.size K.columns;
        unused = subst (λ (l : List (List ℕ)). map over_head l ≡ map over_of l) (sym K.columns.heads) (heads-plain t.slots);
      }

  -- and they show it
  pub tree-shown : arena_from t.root.slot t.revision hs xs ss ms ≡ view t
  tree-shown =
      let nodes = columns-show t.slots hs xs ss ms K.size K.columns in
      let over = sym (plain_over hs xs ss ms tree_plain) ∙ over-is in
      λ z. record { root = t.root; revision = t.revision; nodes = nodes z; over = over z }
