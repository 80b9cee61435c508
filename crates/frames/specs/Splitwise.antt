-- Every split of a sound tree is in its frame: each of its children has an entry among the split children. Assumes nothing.
use Rattle.std.specs.Prelude.{◌≡◌, ◌⊎◌, true, ℕ, zero, suc, ◌+◌, ◌<◌, length}
use Rattle.std.proofs.Math.Path.{refl, subst}
use Rattle.std.proofs.Common.{sym, ap, ◌∙◌, inr, arith}
use Rattle.std.proofs.Math.Logic.{inl}
use mathlib.Core.List.{List, [], ◌∷◌, ◌++◌, append-nil}
use Rattle.std.proofs.Math.Option.{some}
use Rattle.std.proofs.lemmas.List.{length-map}
use Rattle.std.proofs.Math.ListN.{get_or-map}
use Rattle.std.specs.Float.Ieee.{Float, add}
use Rattle.std.specs.Float.{binary64}
use Rattle.rules.specs.Tree.{Node, empty, pane, tabs, split, Arena, node_at, kids_of, reading_from, Member}
use Rattle.rules.specs.Repair.{children_of, shares_of, minima_of}
use Rattle.rules.specs.Minima.{compact_constraints}
use Rattle.rules.specs.Sound.{sound}
use Rattle.rules.specs.Frame.{Item, a_child, is_more, along_rect, along_start, handle_by, layout_kids, split_lengths, layout_split, layout_node, layout_tile, layout_items, child_of, gather}
use Rattle.rules.specs.declared.model.TileId.{TileId}
use Rattle.rules.specs.declared.model.Axis.{Axis}
use Rattle.rules.specs.declared.frame.Rect.{Rect}
use Rattle.rules.specs.declared.frame.LayoutInput.{LayoutInput}
use Rattle.rules.specs.declared.frame.SplitChildFrame.{SplitChildFrame}
use Rattle.forest.specs.Lists.{member-left, member_right, member-cases}
use Rattle.forest.specs.Codec.{stored}
use Rattle.forest.specs.Forest.{Forest, nil, leaf, node, roots, Leafy, Holds}
use Rattle.forest.specs.Grow.{Left, nothing, group, branch, kept_of, stem}
use Rattle.forest.specs.Again.{names, leafy-kids}
use Rattle.forest.specs.Depth.{Within, nested-within}
use Rattle.forest.specs.Quiet.{plain_node, plain_nodes}
use Rattle.forest.specs.Settled.{Lone, Settled, reads}
use Rattle.forest.specs.SoundCases.{Plain, sound-cases}
use Rattle.frames.specs.Plain.{layout-plain}
use Rattle.frames.specs.Counted.{lengths-counted}
use Rattle.frames.specs.Order.{gather-both, reading-plain, lone-reads}

-- the entry of a split's child at an index
abbrev pub Entered : TileId → ℕ → List Item → Type 0
Entered u j xs = (x : SplitChildFrame) × Member x (gather child_of xs) × (x.split ≡ u) × (x.index ≡ j)

left-of : (u : TileId) (j : ℕ) (xs ys : List Item) → Entered u j xs → Entered u j (xs ++ ys)
left-of u j xs ys (x, m, e, f) = (x, subst (Member x) (sym (gather-both child_of xs ys)) (member-left x (gather child_of xs) (gather child_of ys) m), e, f)

right_of : (u : TileId) (j : ℕ) (xs ys : List Item) → Entered u j ys → Entered u j (xs ++ ys)
right_of u j xs ys (x, m, e, f) = (x, subst (Member x) (sym (gather-both child_of xs ys)) (member_right x (gather child_of xs) (gather child_of ys) m), e, f)

-- how many children stand in a node
abbrev pub Children : List Node → TileId → ℕ
Children ns u = length (kids_of (node_at ns u))

module _ (ns : List Node) (i : LayoutInput) where
  -- each child of each split among these tiles has its entry
  abbrev AllEntered : List TileId → List Item → Type 0
  AllEntered us xs = (u : TileId) → Member u us → (j : ℕ) → j < Children ns u → Entered u j xs

  module _ (again : TileId → Rect → List Item) (s : TileId) (a : Axis) (r : Rect) (w : Float) (j : ℕ) (c : TileId) (cs : List TileId) (l : Float) (ls : List Float) (at : Float) where
    abbrev box : Rect
    box = along_rect a r at l

    abbrev hs : List Item
    hs = handle_by (is_more cs) s a r w j (add binary64 at l)

    abbrev rest : List Item
    rest = layout_kids again s a r w (suc j) cs ls (add binary64 (add binary64 at l) w)

    here : Entered s j (layout_kids again s a r w j (c ∷ cs) (l ∷ ls) at)
    unfolding layout_kids gather
    here = (record { split = s; child = c; index = j; rect = box }, inl refl, refl, refl)

    inside : (u : TileId) (k : ℕ) → Entered u k (again c box) → Entered u k (layout_kids again s a r w j (c ∷ cs) (l ∷ ls) at)
    unfolding layout_kids
    inside u k e = right_of u k (a_child s c j box ∷ []) (again c box ++ (hs ++ rest)) (left-of u k (again c box) (hs ++ rest) e)

    after : (u : TileId) (k : ℕ) → Entered u k rest → Entered u k (layout_kids again s a r w j (c ∷ cs) (l ∷ ls) at)
    unfolding layout_kids
    after u k e = right_of u k (a_child s c j box ∷ []) (again c box ++ (hs ++ rest)) (right_of u k (again c box) (hs ++ rest) (right_of u k hs rest e))

  -- the children of one split
  own : (again : TileId → Rect → List Item) (s : TileId) (a : Axis) (r : Rect) (w : Float) (cs : List TileId) (ls : List Float) (j : ℕ) (at : Float) → length ls ≡ length cs → (k : ℕ) → k < length cs → Entered s (j + k) (layout_kids again s a r w j cs ls at)
  own again s a r w [] ls j at e k h = absurd (omega arith)
  own again s a r w (c ∷ cs) [] j at e k h = absurd (omega (arith, e))
  own again s a r w (c ∷ cs) (l ∷ ls) j at e zero h = subst (λ (m : ℕ). Entered s m (layout_kids again s a r w j (c ∷ cs) (l ∷ ls) at)) (let z : j ≡ j + 0 = omega arith in z) (here again s a r w j c cs l ls at)
  own again s a r w (c ∷ cs) (l ∷ ls) j at e (suc k) h =
      subst (λ (m : ℕ). Entered s m (layout_kids again s a r w j (c ∷ cs) (l ∷ ls) at)) (let z : suc j + k ≡ j + suc k = omega arith in z)
      (after again s a r w j c cs l ls at s (suc j + k) (own again s a r w cs ls (suc j) (add binary64 (add binary64 at l) w) (let z : length ls ≡ length cs = omega (arith, e) in z) k (omega arith)))

  no-children : {A : Type 0} (u : TileId) (ps : List ℕ) → Leafy (node_at ns u) ps → (j : ℕ) → j < Children ns u → A
  no-children u ps l j h = absurd (let z = ap length (leafy-kids (node_at ns u) ps l) in omega (arith, h, z))

  -- a split, from the tiles under it
  split-tile : (c : Forest)
      → ((fuel : ℕ) → Within fuel c → (s : TileId) (a : Axis) (r : Rect) (w : Float) (j : ℕ) (ls : List Float) (at : Float) → length ls ≡ length (roots c) → AllEntered (names c) (layout_kids (layout_tile fuel ns i) s a r w j (children_of (roots c)) ls at))
      → (fuel : ℕ) → Within fuel c → (t : TileId) (b : Axis) → node_at ns t ≡ stored b (roots c) → (q : Rect) → AllEntered (t ∷ names c) (layout_tile (suc fuel) ns i t q)
  unfolding layout_tile layout_split
  split-tile c u fuel n t b e q x m j h =
      subst (λ (k : Node). Entered x j (layout_node (layout_tile fuel ns i) k t q i)) (sym e) (go m)
    where
      ls : List Float
      ls = (split_lengths b (length (children_of (roots c))) (shares_of (roots c)) (compact_constraints (minima_of (roots c))) q i).lengths

      long : length ls ≡ length (children_of (roots c))
      long = lengths-counted b (length (children_of (roots c))) (shares_of (roots c)) (compact_constraints (minima_of (roots c))) q i

      go : (x ≡ t) ⊎ Member x (names c) → Entered x j (layout_kids (layout_tile fuel ns i) t b q i.split_handle_thickness 0 (children_of (roots c)) ls (along_start b q))
      go (inl p) =
          subst (λ (y : TileId). Entered y j (layout_kids (layout_tile fuel ns i) t b q i.split_handle_thickness 0 (children_of (roots c)) ls (along_start b q))) (sym p)
          (subst (λ (m : ℕ). Entered t m (layout_kids (layout_tile fuel ns i) t b q i.split_handle_thickness 0 (children_of (roots c)) ls (along_start b q))) (let z : 0 + j ≡ j = omega arith in z)
          (own (layout_tile fuel ns i) t b q i.split_handle_thickness (children_of (roots c)) ls 0 (along_start b q) long j (let z = ap (λ (y : TileId). Children ns y) p ∙ ap (λ (k : Node). length (kids_of k)) e in omega (arith, h, z))))
      go (inr p) = u fuel n t b q i.split_handle_thickness 0 ls (along_start b q) (long ∙ length-map (roots c) (λ y. y.child)) x p j h

  kids-entered : (t : Forest) → Holds ns t → (fuel : ℕ) → Within fuel t → (s : TileId) (a : Axis) (r : Rect) (w : Float) (j : ℕ) (ls : List Float) (at : Float) → length ls ≡ length (roots t)
      → AllEntered (names t) (layout_kids (layout_tile fuel ns i) s a r w j (children_of (roots t)) ls at)
  kids-entered nil H fuel n s a r w j ls at e u m k h = absurd m
  kids-entered (leaf x _ _ ps t) H fuel n s a r w j [] at e u m k h = absurd (omega (arith, e))
  kids-entered (leaf x _ _ ps t) H fuel n s a r w j (l ∷ ls) at e u (inl p) k h = no-children x ps H.0.leafy k (let z = ap (Children ns) p in omega (arith, h, z))
  kids-entered (leaf x _ _ ps t) H fuel n s a r w j (l ∷ ls) at e u (inr p) k h =
      after (layout_tile fuel ns i) s a r w j x (children_of (roots t)) l ls at u k
      (kids-entered t H.1 fuel n.1 s a r w (suc j) ls (add binary64 (add binary64 at l) w) (let z : length ls ≡ length (roots t) = omega (arith, e) in z) u p k h)
  kids-entered (node x _ _ b c t) H zero n s a r w j ls at e u m k h = absurd n
  kids-entered (node x _ _ b c t) H (suc fuel) n s a r w j [] at e u m k h = absurd (omega (arith, e))
  kids-entered (node x _ _ b c t) H (suc fuel) n s a r w j (l ∷ ls) at e u (inl p) k h =
      inside (layout_tile (suc fuel) ns i) s a r w j x (children_of (roots t)) l ls at u k (split-tile c (λ fu. kids-entered c H.1 fu) fuel n.0 x b H.0.is (along_rect a r at l) u (inl p) k h)
  kids-entered (node x _ _ b c t) H (suc fuel) n s a r w j (l ∷ ls) at e u (inr p) k h =
      among (member-cases u (names c) (names t) p)
      (λ o. inside (layout_tile (suc fuel) ns i) s a r w j x (children_of (roots t)) l ls at u k (split-tile c (λ fu. kids-entered c H.1 fu) fuel n.0 x b H.0.is (along_rect a r at l) u (inr o) k h))
      (λ o. after (layout_tile (suc fuel) ns i) s a r w j x (children_of (roots t)) l ls at u k
      (kids-entered t H.2 (suc fuel) n.1 s a r w (suc j) ls (add binary64 (add binary64 at l) w) (let z : length ls ≡ length (roots t) = omega (arith, e) in z) u o k h))
    where
      among : {A B C : Type 0} → A ⊎ B → (A → C) → (B → C) → C
      among (inl y) f g = f y
      among (inr y) f g = g y

  tree-entered : (l : Left) (t : TileId) → kept_of l ≡ some t → Holds ns (stem l) → (fuel : ℕ) → Within fuel (stem l) → (r : Rect) → AllEntered (names (stem l)) (layout_tile fuel ns i t r)
  tree-entered nothing t e H fuel n r u m j h = absurd m
  tree-entered (group x ps) t e H fuel n r u (inl p) j h = no-children x ps H.0.leafy j (let z = ap (Children ns) p in omega (arith, h, z))
  tree-entered (group x ps) t e H fuel n r u (inr p) j h = absurd p
  tree-entered (branch x b c) t e H zero n r u m j h = absurd n
  tree-entered (branch x b c) t e H (suc fuel) n r u m j h =
      let q : x ≡ t = cc in
      subst (λ (y : TileId). Entered u j (layout_tile (suc fuel) ns i y r)) q (split-tile c (λ fu. kids-entered c H.1 fu) fuel n.0 x b H.0.is r u (top m) j h)
    where
      top : (u ≡ x) ⊎ Member u (names c ++ []) → (u ≡ x) ⊎ Member u (names c)
      top (inl p) = inl p
      top (inr p) = inr (subst (Member u) (append-nil (names c)) p)

  lone-entered : (r : TileId) → Lone ns r → (q : Rect) → AllEntered (reading_from ns r) (layout_tile 64 ns i r q)
  lone-entered r l q u m j h = go (subst (Member u) (lone-reads ns r l) m)
    where
      go : (u ≡ r) ⊎ ⊥ → Entered u j (layout_tile 64 ns i r q)
      go (inl p) = absurd (let z = ap (Children ns) p ∙ ap (λ (k : Node). length (kids_of k)) l.is in omega (arith, h, z))
      go (inr p) = absurd p

  settled-entered : (r : TileId) → Settled ns r → (q : Rect) → AllEntered (reading_from ns r) (layout_tile 64 ns i r q)
  settled-entered r (inl (l, t)) q u m j h =
      tree-entered l r t.root_is t.held 64 (nested-within ns r l t) q u (subst (Member u) (reads ns r l t.root_is t.held t.room) m) j h
  settled-entered r (inr l) q u m j h = lone-entered r l q u m j h

kids-plain : (ns : List Node) (u : TileId) → Children (plain_nodes ns) u ≡ Children ns u
kids-plain ns u = ap (λ (k : Node). length (kids_of k)) (get_or-map plain_node ns u.slot empty) ∙ go (node_at ns u)
  where
    go : (n : Node) → length (kids_of (plain_node n)) ≡ length (kids_of n)
    go empty = refl
    go (pane p) = refl
    go (tabs b a ps) = refl
    go (split a cs ss ms) = refl

-- each child of each split that is read from the root has its entry in the frame
pub every-child : (a : Arena) (i : LayoutInput) → length a.nodes ≡ 64 → sound a ≡ true → (u : TileId) → Member u (reading_from a.nodes a.root) → (j : ℕ) → j < Children a.nodes u → Entered u j (layout_items a i)
every-child a i size e u m j h = go (sound-cases a size e)
  where
    go : Plain a ⊎ Lone a.nodes a.root → Entered u j (layout_items a i)
    go (inl p) =
        subst (Entered u j) (layout-plain 64 a.nodes i a.root i.bounds)
        (settled-entered (plain_nodes a.nodes) i a.root p.settled i.bounds u (subst (Member u) (sym (reading-plain 1025 a.nodes (a.root ∷ []))) m) j (let z = kids-plain a.nodes u in omega (arith, h, z)))
    go (inr l) = lone-entered a.nodes i a.root l i.bounds u m j h
