-- Laws of splits made and changed, over plain values. Assumes nothing.
use mathlib.Core.Path.{◌≡◌, refl, sym, ap, subst, ◌∙◌}
use mathlib.Core.Bool.{false, ◌||◌}
use Prim.Native.Nat.{ℕ, ◌+◌, ◌≤◌, ◌<◌}
use native.Mathlib.Omega.{arith}
use native.Mathlib.Numerals.{add-one}
use borrow.Author.Tests.{le-ltb}
use lib.Dec.{ltb}
use lib.ListN.{length}
use lib.Seq.{length-take-le}
use lib.Ieee.{binary64, of_bits, div, of_int, round, units, odd, size, span, climb, of_fields}
use Rattle.rules.specs.Numbers.{zero-f, hundredth}
use Rattle.rules.specs.Lists.{insert_at}
use Rattle.rules.specs.Tree.{Node, split, tiles, reals, ids, node_of, over_by, view_slot, over_slot}
use Rattle.rules.specs.Shares.{repaired_shares}
use Rattle.rules.specs.Minima.{aligned_constraints, compact_constraints}
use Rattle.rules.specs.Insert.{Beside, insert_index, divided_shares, inserted_in, replaced_in}
use Rattle.rules.specs.declared.model.TileId.{TileId}
use Rattle.rules.specs.declared.model.Axis.{Axis}
use Rattle.rules.specs.declared.model.Placement.{Placement}
use Rattle.rules.specs.declared.model.Placement.TheVariants.{Before, After}
use Rattle.rules.specs.declared.model.Kind.{Kind}
use Rattle.rules.specs.declared.model.Kind.TheVariants.{Empty, Pane, Tabs, Split}
use Rattle.rules.specs.declared.model.Slot.{Slot}
use Rattle.lists.specs.Exact.{IsTiles, IsReals, Replaced}
use Rattle.nodes.proofs.SlotLaws.{bare-view, bare-whole, split-few}

-- 0.01 as it is written in the code
pub a-hundredth : of_bits binary64 4576918229304087675 ≡ hundredth
unfolding of_bits of_fields hundredth div of_int round units odd size span climb
a-hundredth = refl

-- ---- places

pub index-within : (p : Placement) (i n : ℕ) → i < n → insert_index p i ≤ n
index-within Before i n h = omega arith
index-within After i n h = omega arith

pub index-after : (p : Placement) (i : ℕ) → p ≡ After → i + 1 ≡ insert_index p i
index-after p i e = add-one i ∙ ap (λ (x : Placement). insert_index x i) (sym e)

-- ---- a split whose lists are changed

-- no list of a split is over 16
pub split-whole : (r : Slot) (a : Axis) → r.kind ≡ Split a → r.children.len ≤ 16 → r.shares.len ≤ 16 → r.minima.len ≤ 16 → over_slot r ≡ false
split-whole r a e x y z =
    bare-whole r (Split a) e ∙ (λ i. le-ltb 16 r.children.len x i || ltb 16 r.shares.len || ltb 16 r.minima.len) ∙ (λ i. le-ltb 16 r.shares.len y i || ltb 16 r.minima.len) ∙ le-ltb 16 r.minima.len z

module _ (s r : Slot) (q : r.kind ≡ s.kind) (u : r.active ≡ s.active) (v : r.panes ≡ s.panes) (whole : over_slot s ≡ false) where
  -- any other kind does not see them
  abbrev Leaf : Kind → Type 0
  Leaf Empty = Unit {0}
  Leaf (Pane p) = Unit {0}
  Leaf (Tabs b) = Unit {0}
  Leaf (Split a) = ⊥

  other-same : (k : Kind) → Leaf k → node_of k r ≡ node_of k s
  other-same Empty l = refl
  other-same (Pane p) l = refl
  other-same (Tabs b) l = λ z. Node.tabs b (u z) (ids (v z))
  other-same (Split a) l = absurd l

  other-over : (k : Kind) → Leaf k → over_by k r ≡ over_by k s
  other-over Empty l = refl
  other-over (Pane p) l = refl
  other-over (Tabs b) l = λ z. ltb 16 (v z).len
  other-over (Split a) l = absurd l

  abbrev Changed : (Node → Node) → Type 0
  Changed f = (view_slot r ≡ f (view_slot s)) × (over_slot r ≡ false)

  pub changed-leaf : (f : Node → Node) (k : Kind) → Leaf k → s.kind ≡ k → f (node_of k s) ≡ node_of k s → Changed f
  changed-leaf f k l e h =
      (bare-view r k (q ∙ e) ∙ other-same k l ∙ sym h ∙ sym (ap f (bare-view s k e)), bare-whole r k (q ∙ e) ∙ other-over k l ∙ sym (bare-whole s k e) ∙ whole)

  module _ (b : Beside) (new : TileId) (i p : ℕ) (at : p ≡ insert_index b.placement i) (long : length s.children.at ≡ 16) (few : s.children.len ≤ 16)
      (kids : IsTiles r.children (insert_at p new (tiles s.children)))
      (parts : IsReals r.shares (divided_shares b i (repaired_shares s.children.len (reals s.shares))))
      (mins : IsReals r.minima (compact_constraints (insert_at p zero-f (aligned_constraints s.children.len (reals s.minima))))) where
    count : length (tiles s.children) ≡ s.children.len
    count = length-take-le s.children.len s.children.at (omega arith)

    grown : (k : Kind) → s.kind ≡ k → Changed (inserted_in b new i)
    grown Empty e = changed-leaf (inserted_in b new i) Empty tt e refl
    grown (Pane x) e = changed-leaf (inserted_in b new i) (Pane x) tt e refl
    grown (Tabs x) e = changed-leaf (inserted_in b new i) (Tabs x) tt e refl
    grown (Split x) e = (
      bare-view r (Split x) (q ∙ e)
          ∙ (λ z. split x (kids.list z) (parts.list z) (mins.list z))
          ∙ (λ z. split x (insert_at (at z) new (tiles s.children)) (divided_shares b i (repaired_shares (sym count z) (reals s.shares))) (compact_constraints (insert_at (at z) zero-f (aligned_constraints (sym count z) (reals s.minima)))))
          ∙ sym (ap (inserted_in b new i) (bare-view s (Split x) e)),
      split-whole r x (q ∙ e) kids.few parts.few mins.few,
    )

    pub inserted-is : (view_slot r ≡ inserted_in b new i (view_slot s)) × (over_slot r ≡ false)
    inserted-is = grown s.kind refl

  module _ (other : TileId) (i : ℕ) (few : s.children.len ≤ 16) (w : r.shares ≡ s.shares) (m : r.minima ≡ s.minima)
      (kids : Replaced i other s.children.at s.children.len r.children.at r.children.len) where
    swapped : (k : Kind) → s.kind ≡ k → Changed (replaced_in other i)
    swapped Empty e = changed-leaf (replaced_in other i) Empty tt e refl
    swapped (Pane x) e = changed-leaf (replaced_in other i) (Pane x) tt e refl
    swapped (Tabs x) e = changed-leaf (replaced_in other i) (Tabs x) tt e refl
    swapped (Split x) e =
        let (f, g, h) = split-few s x e whole in (
          bare-view r (Split x) (q ∙ e) ∙ (λ z. split x (kids.list z) (reals (w z)) (reals (m z))) ∙ sym (ap (replaced_in other i) (bare-view s (Split x) e)),
          split-whole r x (q ∙ e) (omega (arith, kids.size)) (subst (λ (l : _). l.len ≤ 16) (sym w) g) (subst (λ (l : _). l.len ≤ 16) (sym m) h),
        )

    pub replaced-is : (view_slot r ≡ replaced_in other i (view_slot s)) × (over_slot r ≡ false)
    replaced-is = swapped s.kind refl
