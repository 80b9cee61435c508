-- What stands in the stream after a list of items was pushed, where there was room for all of it. Assumes nothing.
use mathlib.Core.Path.{◌≡◌, refl, sym, ap, subst, ◌∙◌}
use mathlib.Core.Bool.{Bool, true, false}
use mathlib.Core.List.{List, [], ◌∷◌, ◌++◌, map, append_assoc, append-nil}
use Prim.Native.Nat.{ℕ, ◌+◌, ◌≤◌, ◌<◌}
use native.Mathlib.Numerals.{add-one}
use native.Mathlib.Omega.{arith}
use borrow.Author.Tests.{lt-ltb}
use lib.ListN.{length, take, drop, set, length-set}
use lib.Seq.{take-suc-set, drop-set-lt}
use Rattle.rules.specs.Frame.{Item, focus_item, pane_item, bar_item, tab_item, child_item, handle_item, a_bar, a_tab, a_handle}
use Rattle.rules.specs.declared.model.Axis.{Axis}
use Rattle.rules.specs.declared.model.TabBarPlacement.{TabBarPlacement}
use Rattle.columns.specs.PackLaws.{bar-back, axis-back}
use Rattle.streaming.specs.Stream.{flag_code, flag_from, code_of, sides_of, item_from, items_from, Stream, stream, push_by, push_all}

-- ---- an item comes back

flag-back : (b : Bool) → flag_from (flag_code b) ≡ b
flag-back true = refl
flag-back false = refl

code-back : (x : Item) → item_from (code_of x) (sides_of x) ≡ x
code-back (focus_item p) = refl
code-back (pane_item f) = refl
code-back (bar_item f) = ap (λ (b : TabBarPlacement). a_bar f.group f.rect b f.active_pane) (bar-back f.placement)
code-back (tab_item f) = ap (λ (b : Bool). a_tab f.group f.pane f.rect f.index b) (flag-back f.active)
code-back (child_item f) = refl
code-back (handle_item f) = ap (λ (a : Axis). a_handle f.split f.handle a f.rect) (axis-back f.axis)

-- and so does a list of them
pub items_back : (xs : List Item) → items_from (map code_of xs) (map sides_of xs) ≡ xs
unfolding items_from
items_back [] = refl
items_back (x ∷ xs) = λ z. code-back x z ∷ items_back xs z

-- ---- what was pushed

-- from s to s' the items xs were written, and nothing else
pub record Wrote (s : Stream) (xs : List Item) (s' : Stream) : Type 0 where
  pub size : s'.len ≡ s.len + length xs
  pub codes : take s'.len s'.items ≡ take s.len s.items ++ map code_of xs
  pub sides : take s'.len s'.rects ≡ take s.len s.rects ++ map sides_of xs
  pub long : (length s'.items ≡ length s.items) × (length s'.rects ≡ length s.rects)
  pub items : (k : ℕ) → s'.len ≤ k → drop k s'.items ≡ drop k s.items
  pub rects : (k : ℕ) → s'.len ≤ k → drop k s'.rects ≡ drop k s.rects

-- a store at the end of the part in use, then more
more : {A : Type 0} (l : List A) (n : ℕ) (c : A) (cs r : List A) → n < length l → r ≡ take (n + 1) (set l n c) ++ cs → r ≡ take n l ++ c ∷ cs
more {A} l n c cs r h e = e ∙ ap (λ (x : List A). x ++ cs) (ap (λ (k : ℕ). take k (set l n c)) (add-one n) ∙ take-suc-set l n c h) ∙ append_assoc (take n l) (c ∷ []) cs

pub wrote-all : (xs : List Item) (s : Stream) → length s.items ≡ 2304 → length s.rects ≡ 2304 → s.len + length xs ≤ 2304 → Wrote s xs (push_all xs s)
unfolding push_all
wrote-all [] s li lr h =
    record {
      size = omega arith;
      codes = sym (append-nil (take s.len s.items));
      sides = sym (append-nil (take s.len s.rects));
      long = (refl, refl);
      items = λ k p. refl;
      rects = λ k p. refl;
    }
wrote-all (x ∷ xs) s li lr h =
    let one : Stream = stream (set s.items s.len (code_of x)) (set s.rects s.len (sides_of x)) (s.len + 1) in
    let W = wrote-all xs one (length-set s.items s.len (code_of x) ∙ li) (length-set s.rects s.len (sides_of x) ∙ lr) (omega arith) in
    subst (λ (u : Stream). Wrote s (x ∷ xs) (push_all xs u)) (sym (ap (λ (b : Bool). push_by b (code_of x) (sides_of x) s) (lt-ltb s.len 2304 (omega arith))))
    record {
      size = omega (arith, W.size);
      codes = more s.items s.len (code_of x) (map code_of xs) (take (push_all xs one).len (push_all xs one).items) (omega arith) W.codes;
      sides = more s.rects s.len (sides_of x) (map sides_of xs) (take (push_all xs one).len (push_all xs one).rects) (omega arith) W.sides;
      long = (W.long.0 ∙ length-set s.items s.len (code_of x), W.long.1 ∙ length-set s.rects s.len (sides_of x));
      items = λ k p. W.items k p ∙ drop-set-lt k s.items s.len (code_of x) (omega (arith, W.size));
      rects = λ k p. W.rects k p ∙ drop-set-lt k s.rects s.len (sides_of x) (omega (arith, W.size));
    }
