-- A nesting of 64 is enough: a layout of a sound tree that may go deeper makes the same. Assumes nothing.
use Rattle.std.specs.Prelude.{◌≡◌, ◌⊎◌, true, length, Float}
use Rattle.std.proofs.Math.Path.{refl, sym, ap}
use Rattle.std.proofs.Common.{◌∙◌, inl, inr, arith}
use mathlib.Core.List.{List, [], ◌∷◌, ◌++◌}
use Rattle.std.proofs.Math.Option.{some}
use Prim.Native.Nat.{ℕ, zero, suc, ◌≤◌}
use Rattle.std.specs.Float.Ieee.{binary64, add}
use Rattle.rules.specs.Tree.{Node, empty, pane, tabs, split, Arena, node_at}
use Rattle.rules.specs.Repair.{children_of, shares_of, minima_of}
use Rattle.rules.specs.Minima.{compact_constraints}
use Rattle.rules.specs.Sound.{sound}
use Rattle.rules.specs.Frame.{Item, a_child, is_more, along_rect, along_start, handle_by, layout_kids, split_lengths, layout_split, layout_node, layout_tile, layout_items}
use Rattle.rules.specs.declared.model.TileId.{TileId}
use Rattle.rules.specs.declared.model.Axis.{Axis}
use Rattle.rules.specs.declared.frame.Rect.{Rect}
use Rattle.rules.specs.declared.frame.LayoutInput.{LayoutInput}
use Rattle.forest.specs.Codec.{stored}
use Rattle.forest.specs.Forest.{Forest, nil, leaf, node, roots, tiles, Leafy, Holds}
use Rattle.forest.specs.Grow.{Left, nothing, group, branch, kept_of, stem}
use Rattle.forest.specs.Depth.{Within, tiles-within}
use Rattle.forest.specs.Quiet.{plain_nodes}
use Rattle.forest.specs.Settled.{Lone, Settled}
use Rattle.forest.specs.SoundCases.{Plain, sound-cases}
use Rattle.frames.specs.Plain.{layout-plain}

module _ (ns : List Node) (i : LayoutInput) where
  leaf-node : (f g : TileId → Rect → List Item) (n : Node) (ps : List ℕ) (t : TileId) (r : Rect) → Leafy n ps → layout_node f n t r i ≡ layout_node g n t r i
  leaf-node f g empty ps t r l = absurd l
  leaf-node f g (pane p) ps t r l = refl
  leaf-node f g (tabs b a qs) ps t r l = refl
  leaf-node f g (split a cs ss ms) ps t r l = absurd l

  leaf-tile : (m n : ℕ) → 1 ≤ m → 1 ≤ n → (ps : List ℕ) (t : TileId) (r : Rect) → Leafy (node_at ns t) ps → layout_tile m ns i t r ≡ layout_tile n ns i t r
  unfolding layout_tile
  leaf-tile zero n p q ps t r l = absurd (omega arith)
  leaf-tile (suc m) zero p q ps t r l = absurd (omega arith)
  leaf-tile (suc m) (suc n) p q ps t r l = leaf-node (layout_tile m ns i) (layout_tile n ns i) (node_at ns t) ps t r l

  kid-same : (f g : TileId → Rect → List Item) (s : TileId) (a : Axis) (r : Rect) (w : Float) (j : ℕ) (c : TileId) (cs : List TileId) (l : Float) (ls : List Float) (at : Float)
      → ((q : Rect) → f c q ≡ g c q) → ((k : ℕ) (x : Float) → layout_kids f s a r w k cs ls x ≡ layout_kids g s a r w k cs ls x) → layout_kids f s a r w j (c ∷ cs) (l ∷ ls) at ≡ layout_kids g s a r w j (c ∷ cs) (l ∷ ls) at
  unfolding layout_kids
  kid-same f g s a r w j c cs l ls at e h =
      λ z. a_child s c j (along_rect a r at l) ∷ (e (along_rect a r at l) z ++ (handle_by (is_more cs) s a r w j (add binary64 at l) ++ h (suc j) (add binary64 (add binary64 at l) w) z))

  split-tile : (c : Forest)
      → ((m n : ℕ) → Within m c → Within n c → (s : TileId) (a : Axis) (r : Rect) (w : Float) (j : ℕ) (ls : List Float) (at : Float) → layout_kids (layout_tile m ns i) s a r w j (children_of (roots c)) ls at ≡ layout_kids (layout_tile n ns i) s a r w j (children_of (roots c)) ls at)
      → (m n : ℕ) → Within m c → Within n c → (t : TileId) (b : Axis) → node_at ns t ≡ stored b (roots c) → (q : Rect) → layout_tile (suc m) ns i t q ≡ layout_tile (suc n) ns i t q
  unfolding layout_tile layout_split
  split-tile c u m n x y t b e q =
      let cs = children_of (roots c) in
      let ss = shares_of (roots c) in
      let ms = compact_constraints (minima_of (roots c)) in
      ap (λ (k : Node). layout_node (layout_tile m ns i) k t q i) e
      ∙ u m n x y t b q i.split_handle_thickness 0 (split_lengths b (length cs) ss ms q i).lengths (along_start b q)
      ∙ sym (ap (λ (k : Node). layout_node (layout_tile n ns i) k t q i) e)

  kids-same : (t : Forest) → Holds ns t → (m n : ℕ) → Within m t → Within n t → (s : TileId) (a : Axis) (r : Rect) (w : Float) (j : ℕ) (ls : List Float) (at : Float)
      → layout_kids (layout_tile m ns i) s a r w j (children_of (roots t)) ls at ≡ layout_kids (layout_tile n ns i) s a r w j (children_of (roots t)) ls at
  unfolding layout_kids
  kids-same nil H m n x y s a r w j ls at = refl
  kids-same (leaf c _ _ ps t) H m n x y s a r w j [] at = refl
  kids-same (leaf c _ _ ps t) H m n x y s a r w j (l ∷ ls) at =
      kid-same (layout_tile m ns i) (layout_tile n ns i) s a r w j c (children_of (roots t)) l ls at (λ q. leaf-tile m n x.0 y.0 ps c q H.0.leafy) (λ k z. kids-same t H.1 m n x.1 y.1 s a r w k ls z)
  kids-same (node c _ _ b d t) H zero n x y s a r w j ls at = absurd x
  kids-same (node c _ _ b d t) H (suc m) zero x y s a r w j ls at = absurd y
  kids-same (node c _ _ b d t) H (suc m) (suc n) x y s a r w j [] at = refl
  kids-same (node c _ _ b d t) H (suc m) (suc n) x y s a r w j (l ∷ ls) at =
      kid-same (layout_tile (suc m) ns i) (layout_tile (suc n) ns i) s a r w j c (children_of (roots t)) l ls at (split-tile d (λ u v. kids-same d H.1 u v) m n x.0 y.0 c b H.0.is)
      (λ k z. kids-same t H.2 (suc m) (suc n) x.1 y.1 s a r w k ls z)

  tree-same : (l : Left) (t : TileId) → kept_of l ≡ some t → Holds ns (stem l) → (m n : ℕ) → Within m (stem l) → Within n (stem l) → (r : Rect) → layout_tile m ns i t r ≡ layout_tile n ns i t r
  tree-same nothing t e H m n x y r = absurd (let z : ◌≡◌ {A = ℕ} 0 1 = cc in omega arith)
  tree-same (group c ps) t e H m n x y r =
      let q : t ≡ c = cc in
      ap (λ (u : TileId). layout_tile m ns i u r) q ∙ leaf-tile m n x.0 y.0 ps c r H.0.leafy ∙ sym (ap (λ (u : TileId). layout_tile n ns i u r) q)
  tree-same (branch c b d) t e H zero n x y r = absurd x
  tree-same (branch c b d) t e H (suc m) zero x y r = absurd y
  tree-same (branch c b d) t e H (suc m) (suc n) x y r =
      let q : t ≡ c = cc in
      ap (λ (u : TileId). layout_tile (suc m) ns i u r) q ∙ split-tile d (λ u v. kids-same d H.1 u v) m n x.0 y.0 c b H.0.is r ∙ sym (ap (λ (u : TileId). layout_tile (suc n) ns i u r) q)

  lone_same : (r : TileId) → Lone ns r → (m n : ℕ) → 1 ≤ m → 1 ≤ n → (q : Rect) → layout_tile m ns i r q ≡ layout_tile n ns i r q
  unfolding layout_tile
  lone_same r l zero n x y q = absurd (omega arith)
  lone_same r l (suc m) zero x y q = absurd (omega arith)
  lone_same r l (suc m) (suc n) x y q = ap (λ (k : Node). layout_node (layout_tile m ns i) k r q i) l.is ∙ sym (ap (λ (k : Node). layout_node (layout_tile n ns i) k r q i) l.is)

  settled_same : (r : TileId) → Settled ns r → (m : ℕ) → 64 ≤ m → (q : Rect) → layout_tile m ns i r q ≡ layout_tile 64 ns i r q
  settled_same r (inl (l, t)) m h q =
      tree-same l r t.root_is t.held m 64 (tiles-within (stem l) m (let z : length (tiles (stem l)) ≤ m = omega (arith, h, t.room) in z)) (tiles-within (stem l) 64 t.room) q
  settled_same r (inr l) m h q = lone_same r l m 64 (omega (arith, h)) (omega arith) q

pub nesting-enough : (a : Arena) (i : LayoutInput) → length a.nodes ≡ 64 → sound a ≡ true → (m : ℕ) → 64 ≤ m → layout_tile m a.nodes i a.root i.bounds ≡ layout_items a i
nesting-enough a i size e m h = go (sound-cases a size e)
  where
    go : Plain a ⊎ Lone a.nodes a.root → layout_tile m a.nodes i a.root i.bounds ≡ layout_items a i
    go (inl p) =
        sym (layout-plain m a.nodes i a.root i.bounds) ∙ settled_same (plain_nodes a.nodes) i a.root p.settled m h i.bounds
        ∙ layout-plain 64 a.nodes i a.root i.bounds
    go (inr l) = settled_same a.nodes i a.root (inr l) m h i.bounds
