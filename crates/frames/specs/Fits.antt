-- How long the lists of a frame can get: each tile of a sound tree adds what its kind shows, and a child and a handle. Assumes nothing.
use Rattle.std.proofs.Math.Path.{◌≡◌, refl, sym, ap, subst}
use Rattle.std.proofs.Common.{◌∙◌, inl, inr, mul-zero, le_trans, ltb-false}
use Rattle.std.specs.Prelude.{◌⊎◌, Bool, Float}
use Rattle.std.proofs.Math.Bool.{true, false}
use mathlib.Core.List.{List, [], ◌∷◌, ◌++◌}
use Rattle.std.proofs.Math.Option.{some}
use Prim.Native.Nat.{ℕ, zero, suc, ◌+◌, ◌*◌, ◌≤◌, min}
use Rattle.std.proofs.Math.Nat.{mul-add, mul-one, mul-suc, mul-le-mul_left, add_comm}
use native.Mathlib.Omega.{arith}
use Rattle.std.proofs.Math.Dec.{eqb}
use Rattle.std.proofs.Math.ListN.{length, get_or, length-append}
use Rattle.std.specs.Float.Ieee.{binary64, add}
use Rattle.rules.specs.Lists.{any_of}
use Rattle.rules.specs.Tree.{Node, empty, pane, tabs, split, Arena, node_at, wide_node, same_placement}
use Rattle.rules.specs.Repair.{children_of, shares_of, minima_of}
use Rattle.rules.specs.Minima.{compact_constraints}
use Rattle.rules.specs.Sound.{sound}
use Rattle.rules.specs.Tabs.{split_tab_bar, tab_rects}
use Rattle.rules.specs.Frame.{Item, focus_item, pane_item, bar_item, tab_item, child_item, handle_item, a_pane, focus_items, tabs_from, bar_items, layout_tabs_by, layout_tabs, is_more, along_rect, along_start, handle_by, layout_kids, split_lengths, layout_split, layout_node, layout_tile, layout_items, pane_of, bar_of, tab_of, child_of, handle_of, focus_of, paint_of, gather}
use Rattle.rules.specs.declared.model.TileId.{TileId}
use Rattle.rules.specs.declared.model.Axis.{Axis}
use Rattle.rules.specs.declared.model.TabBarPlacement.{TabBarPlacement}
use Rattle.rules.specs.declared.model.TabBarPlacement.TheVariants.{Hidden}
use Rattle.rules.specs.declared.frame.Rect.{Rect}
use Rattle.rules.specs.declared.frame.LayoutInput.{LayoutInput}
use Rattle.rules.specs.declared.frame.PaneFrame.{PaneFrame}
use Rattle.rules.specs.declared.frame.TabBarFrame.{TabBarFrame}
use Rattle.rules.specs.declared.frame.TabFrame.{TabFrame}
use Rattle.rules.specs.declared.frame.SplitChildFrame.{SplitChildFrame}
use Rattle.rules.specs.declared.frame.SplitHandleFrame.{SplitHandleFrame}
use Rattle.forest.specs.Codec.{stored}
use Rattle.forest.specs.Forest.{Forest, nil, leaf, node, roots, tiles, Leafy, Holds}
use Rattle.forest.specs.Grow.{Left, nothing, group, branch, kept_of, stem}
use Rattle.forest.specs.Quiet.{plain_nodes}
use Rattle.forest.specs.Settled.{Lone, Settled}
use Rattle.forest.specs.SoundCases.{Plain, sound-cases}
use Rattle.frames.specs.Plain.{layout-plain}
use Rattle.forest.specs.Bools.{or_left, or_right}

-- ---- lists gathered from two lists

pub gather_append : {A : Type 0} (f : Item → List A) (xs ys : List Item) → length (gather f (xs ++ ys)) ≡ length (gather f xs) + length (gather f ys)
unfolding gather
gather_append f [] ys = omega arith
gather_append f (x ∷ xs) ys =
    length-append (f x) (gather f (xs ++ ys)) ∙ ap (λ (n : ℕ). length (f x) + n) (gather_append f xs ys)
    ∙ (let e : length (f x) + (length (gather f xs) + length (gather f ys)) ≡ length (f x) + length (gather f xs) + length (gather f ys) = omega arith in e)
    ∙ ap (λ (n : ℕ). n + length (gather f ys)) (sym (length-append (f x) (gather f xs)))

-- ---- no node is too wide

pub narrow_at : (ns : List Node) (i : ℕ) → any_of wide_node ns ≡ false → wide_node (get_or ns i empty) ≡ false
unfolding any_of
narrow_at [] i e = refl
narrow_at (n ∷ ns) zero e = or_left (wide_node n) (any_of wide_node ns) e
narrow_at (n ∷ ns) (suc i) e = narrow_at ns i (or_right (wide_node n) (any_of wide_node ns) e)

-- ---- a list takes so many of each kind of item

pub record Takes {A : Type 0} (f : Item → List A) (focus panes bars tabs children handles : ℕ) : Type 0 where
  pub of-focus : (p : ℕ) → length (f (focus_item p)) ≡ focus
  pub of-pane : (x : PaneFrame) → length (f (pane_item x)) ≡ panes
  pub of-bar : (x : TabBarFrame) → length (f (bar_item x)) ≡ bars
  pub of-tab : (x : TabFrame) → length (f (tab_item x)) ≡ tabs
  pub of-child : (x : SplitChildFrame) → length (f (child_item x)) ≡ children
  pub of-handle : (x : SplitHandleFrame) → length (f (handle_item x)) ≡ handles

module _ {A : Type 0} (f : Item → List A) (cf cp cb ct ck ch : ℕ) (C : Takes f cf cp cb ct ck ch) where
  count : List Item → ℕ
  count xs = length (gather f xs)

  -- one item and the rest
  one : (x : Item) (xs : List Item) → length (gather f (x ∷ xs)) ≡ length (f x) + length (gather f xs)
  unfolding gather
  one x xs = length-append (f x) (gather f xs)

  nil-count : length (gather f []) ≡ 0
  unfolding gather
  nil-count = refl

  -- what a tile shows at most, and what it takes at most as a child
  abbrev pub most : ℕ
  most = cf * 16 + cb + ct * 16 + cp

  abbrev pub each : ℕ
  each = most + (ck + ch)

  -- ---- a group

  focus-count : (ps : List ℕ) → length (gather f (focus_items ps)) ≡ cf * length ps
  unfolding gather
  focus-count [] = sym (mul-zero cf)
  focus-count (p ∷ ps) =
      one (focus_item p) (focus_items ps) ∙ (λ z. C.of-focus p z + focus-count ps z) ∙ sym (mul-suc cf (length ps) ∙ add_comm (cf * length ps) cf)

  tab-count : (g : TileId) (active i : ℕ) (ps : List ℕ) (rs : List Rect) → length (gather f (tabs_from g active i ps rs)) ≤ ct * length ps
  unfolding gather tabs_from
  tab-count g active i [] rs = omega arith
  tab-count g active i (p ∷ ps) [] = omega arith
  tab-count g active i (p ∷ ps) (r ∷ rs) =
      let x : TabFrame = record { group = g; pane = p; rect = r; index = i; active = eqb i active } in
      let h = tab-count g active (suc i) ps rs in
      let e = one (tab_item x) (tabs_from g active (suc i) ps rs) in
      omega (arith, h, e, C.of-tab x, mul-suc ct (length ps))

  bar-count : (b : Bool) (g : TileId) (p : TabBarPlacement) (r : Rect) (active : ℕ) (ps : List ℕ) → length (gather f (bar_items b g p r active ps)) ≤ cb + ct * length ps
  unfolding gather
  bar-count true g p r active ps = omega arith
  bar-count false g p r active ps =
      let x : TabBarFrame = record { group = g; rect = r; placement = p; active_pane = get_or ps active 0 } in
      let h = tab-count g active 0 ps (tab_rects r p (length ps)) in
      let e = one (bar_item x) (tabs_from g active 0 ps (tab_rects r p (length ps))) in
      omega (arith, h, e, C.of-bar x)

  pane-count : (p : ℕ) (t : TileId) (r : Rect) → length (gather f (a_pane p t r ∷ [])) ≡ cp
  pane-count p t r =
      let x : PaneFrame = record { pane = p; tile = t; rect = r } in
      let e = one (pane_item x) [] in
      omega (arith, e, nil-count, C.of-pane x)

  shown-count : (g : TileId) (b : TabBarPlacement) (a : ℕ) (ps : List ℕ) (r : Rect) (i : LayoutInput) → length (gather f (layout_tabs_by g b a ps r i)) ≤ cb + ct * length ps + cp
  unfolding gather
  shown-count g b a [] r i = omega arith
  shown-count g b a (p ∷ ps) r i =
      let s = split_tab_bar r b i.tab_bar_thickness in
      let n = min a (length ps) in
      let bar = bar_items (same_placement b Hidden) g b s.bar n (p ∷ ps) in
      let last = a_pane (get_or (p ∷ ps) n 0) g s.pane ∷ [] in
      omega (arith, gather_append f bar last, bar-count (same_placement b Hidden) g b s.bar n (p ∷ ps), pane-count (get_or (p ∷ ps) n 0) g s.pane)

  group-count : (g : TileId) (b : TabBarPlacement) (a : ℕ) (ps : List ℕ) (r : Rect) (i : LayoutInput) → length ps ≤ 16 → length (gather f (layout_tabs g b a ps r i)) ≤ most
  unfolding layout_tabs
  group-count g b a ps r i h =
      omega (arith, gather_append f (focus_items ps) (layout_tabs_by g b a ps r i), focus-count ps, shown-count g b a ps r i, mul-le-mul_left cf h, mul-le-mul_left ct h)

  leaf-count : (p : ℕ) (t : TileId) (r : Rect) → length (gather f (focus_item p ∷ a_pane p t r ∷ [])) ≤ most
  leaf-count p t r =
      omega (arith, one (focus_item p) (a_pane p t r ∷ []), C.of-focus p, pane-count p t r)

  -- ---- a tree

  load : Forest → ℕ
  load nil = 0
  load (leaf i s m ps r) = each + load r
  load (node i s m a c r) = each + (load c + load r)

  load_is : (t : Forest) → load t ≡ each * length (tiles t)
  unfolding load
  load_is nil = sym (mul-zero each)
  load_is (leaf i s m ps r) = omega (arith, load_is r, mul-suc each (length (tiles r)))
  load_is (node i s m a c r) =
      omega (arith, load_is c, load_is r, mul-suc each (length (tiles c ++ tiles r)), ap (λ (n : ℕ). each * n) (length-append (tiles c) (tiles r)), mul-add each (length (tiles c)) (length (tiles r)))

  module _ (ns : List Node) (i : LayoutInput) (narrow : any_of wide_node ns ≡ false) where
    few : (n : Node) → wide_node n ≡ false → (b : TabBarPlacement) (a : ℕ) (ps : List ℕ) → n ≡ tabs b a ps → length ps ≤ 16
    few n w b a ps e = ltb-false 16 (length ps) (sym (ap wide_node e) ∙ w)

    leaf-node : (again : TileId → Rect → List Item) (n : Node) (ps : List ℕ) (t : TileId) (r : Rect) → wide_node n ≡ false → Leafy n ps → length (gather f (layout_node again n t r i)) ≤ most
    leaf-node again empty ps t r w l = absurd l
    leaf-node again (pane p) ps t r w l = leaf-count p t r
    leaf-node again (tabs b a qs) ps t r w l = group-count t b a qs r i (few (tabs b a qs) w b a qs refl)
    leaf-node again (split a cs ss ms) ps t r w l = absurd l

    leaf-tile : (fuel : ℕ) (ps : List ℕ) (t : TileId) (r : Rect) → Leafy (node_at ns t) ps → length (gather f (layout_tile fuel ns i t r)) ≤ most
    unfolding layout_tile gather
    leaf-tile zero ps t r l = omega arith
    leaf-tile (suc fuel) ps t r l = leaf-node (layout_tile fuel ns i) (node_at ns t) ps t r (narrow_at ns t.slot narrow) l

    handle-count : (b : Bool) (s : TileId) (a : Axis) (r : Rect) (h : Float) (j : ℕ) (at : Float) → length (gather f (handle_by b s a r h j at)) ≤ ch
    unfolding gather
    handle-count true s a r h j at = let x : SplitHandleFrame = record { split = s; handle = j; axis = a; rect = along_rect a r at h } in omega (arith, one (handle_item x) [], nil-count, C.of-handle x)
    handle-count false s a r h j at = omega arith

    -- one child with what stands in it, its handle, and the rest
    kid-count : (again : TileId → Rect → List Item) (s : TileId) (a : Axis) (r : Rect) (h : Float) (j : ℕ) (c : TileId) (cs : List TileId) (l : Float) (ls : List Float) (at : Float) (m n : ℕ)
        → ((q : Rect) → length (gather f (again c q)) ≤ m)
        → ((k : ℕ) (xs : List Float) (x : Float) → length (gather f (layout_kids again s a r h k cs xs x)) ≤ n)
        → length (gather f (layout_kids again s a r h j (c ∷ cs) (l ∷ ls) at)) ≤ (ck + ch) + m + n
    unfolding layout_kids
    kid-count again s a r h j c cs l ls at m n u v =
        let q : Rect = along_rect a r at l in
        let x : SplitChildFrame = record { split = s; child = c; index = j; rect = q } in
        let hs = handle_by (is_more cs) s a r h j (add binary64 at l) in
        let rest = layout_kids again s a r h (suc j) cs ls (add binary64 (add binary64 at l) h) in
        omega (arith, one (child_item x) (again c q ++ (hs ++ rest)), C.of-child x, gather_append f (again c q) (hs ++ rest), gather_append f hs rest, u q, handle-count (is_more cs) s a r h j (add binary64 at l), v (suc j) ls (add binary64 (add binary64 at l) h))

    -- a split, from what its children come to
    split-tile : (c : Forest)
        → ((fuel : ℕ) (s : TileId) (a : Axis) (r : Rect) (h : Float) (j : ℕ) (ls : List Float) (at : Float) → length (gather f (layout_kids (layout_tile fuel ns i) s a r h j (children_of (roots c)) ls at)) ≤ load c)
        → (fuel : ℕ) (t : TileId) (b : Axis) → node_at ns t ≡ stored b (roots c) → (q : Rect) → length (gather f (layout_tile fuel ns i t q)) ≤ load c
    unfolding layout_tile layout_split gather
    split-tile c u zero t b e q = omega arith
    split-tile c u (suc fuel) t b e q =
        let n = stored b (roots c) in
        let under = u fuel t b q i.split_handle_thickness 0 (split_lengths b (length (children_of (roots c))) (shares_of (roots c)) (compact_constraints (minima_of (roots c))) q i).lengths (along_start b q) in
        subst (λ (k : Node). length (gather f (layout_node (layout_tile fuel ns i) k t q i)) ≤ load c) (sym e) under

    kids-fit : (t : Forest) (fuel : ℕ) → Holds ns t → (s : TileId) (a : Axis) (r : Rect) (h : Float) (j : ℕ) (ls : List Float) (at : Float)
        → length (gather f (layout_kids (layout_tile fuel ns i) s a r h j (children_of (roots t)) ls at)) ≤ load t
    unfolding layout_kids layout_tile gather load
    kids-fit nil fuel H s a r h j ls at = omega arith
    kids-fit (leaf x _ _ ps t) fuel H s a r h j [] at = omega arith
    kids-fit (leaf x _ _ ps t) fuel H s a r h j (l ∷ ls) at =
        omega (arith, kid-count (layout_tile fuel ns i) s a r h j x (children_of (roots t)) l ls at most (load t) (λ q. leaf-tile fuel ps x q H.0.leafy) (λ k xs y. kids-fit t fuel H.1 s a r h k xs y))
    kids-fit (node x _ _ b c t) fuel H s a r h j [] at = omega arith
    kids-fit (node x _ _ b c t) fuel H s a r h j (l ∷ ls) at =
        omega (
          arith,
          kid-count (layout_tile fuel ns i) s a r h j x (children_of (roots t)) l ls at (load c) (load t)
              (split-tile c (λ fu. kids-fit c fu H.1) fuel x b H.0.is) (λ k xs y. kids-fit t fuel H.2 s a r h k xs y),
        )

    -- the whole tree
    pub tree-fits : (l : Left) (t : TileId) → kept_of l ≡ some t → Holds ns (stem l) → (fuel : ℕ) (r : Rect) → length (gather f (layout_tile fuel ns i t r)) ≤ each * length (tiles (stem l))
    unfolding load
    tree-fits nothing t e H fuel r = absurd (let z : ◌≡◌ {A = ℕ} 0 1 = cc in omega arith)
    tree-fits (group x ps) t e H fuel r =
        let q : x ≡ t = cc in
        omega (arith, leaf-tile fuel ps t r (subst (λ (y : TileId). Leafy (node_at ns y) ps) q H.0.leafy), mul-one each)
    tree-fits (branch x b c) t e H fuel r =
        let q : x ≡ t = cc in
        omega (arith, split-tile c (λ fu. kids-fit c fu H.1) fuel t b (ap (node_at ns) (sym q) ∙ H.0.is) r, load_is (stem (branch x b c)))

-- ---- the whole, of a sound arena

-- a lone empty root shows nothing
pub lone-none : (ns : List Node) (r : TileId) (i : LayoutInput) (q : Rect) → Lone ns r → layout_tile 64 ns i r q ≡ []
unfolding layout_tile layout_tabs
lone-none ns r i q L = ap (λ (n : Node). layout_node (layout_tile 63 ns i) n r q i) L.is

module _ {A : Type 0} (f : Item → List A) (cf cp cb ct ck ch : ℕ) (C : Takes f cf cp cb ct ck ch) (a : Arena) (i : LayoutInput) (size : length a.nodes ≡ 64) where
  abbrev K : ℕ
  K = each f cf cp cb ct ck ch C

  none-fits : (xs : List Item) → xs ≡ [] → length (gather f xs) ≤ K * 64
  unfolding gather
  none-fits xs e = subst (λ (ys : List Item). length (gather f ys) ≤ K * 64) (sym e) (omega arith)

  plain_fits : Plain a → length (gather f (layout_tile 64 (plain_nodes a.nodes) i a.root i.bounds)) ≤ K * 64
  plain_fits P = go P.settled
    where
      go : Settled (plain_nodes a.nodes) a.root → length (gather f (layout_tile 64 (plain_nodes a.nodes) i a.root i.bounds)) ≤ K * 64
      go (inl (l, T)) =
          le_trans (tree-fits f cf cp cb ct ck ch C (plain_nodes a.nodes) i P.narrow l a.root T.root_is T.held 64 i.bounds)
          (mul-le-mul_left K T.room)
      go (inr L) = none-fits (layout_tile 64 (plain_nodes a.nodes) i a.root i.bounds) (lone-none (plain_nodes a.nodes) a.root i i.bounds L)

  pub list-fits : sound a ≡ true → length (gather f (layout_items a i)) ≤ K * 64
  list-fits e = go (sound-cases a size e)
    where
      go : Plain a ⊎ Lone a.nodes a.root → length (gather f (layout_items a i)) ≤ K * 64
      go (inl P) = subst (λ (xs : List Item). length (gather f xs) ≤ K * 64) (layout-plain 64 a.nodes i a.root i.bounds) (plain_fits P)
      go (inr L) = none-fits (layout_items a i) (lone-none a.nodes a.root i i.bounds L)

-- ---- each list of the frame, and the items

abbrev itself : Item → List Item
itself x = x ∷ []

all-items : (xs : List Item) → length (gather itself xs) ≡ length xs
unfolding gather
all-items [] = refl
all-items (x ∷ xs) = ap suc (all-items xs)

module _ (a : Arena) (i : LayoutInput) (size : length a.nodes ≡ 64) (e : sound a ≡ true) where
  pub items-fit : length (layout_items a i) ≤ 2304
  items-fit =
      subst (λ (n : ℕ). n ≤ 2304) (all-items (layout_items a i))
      (list-fits itself 1 1 1 1 1 1 (record { of-focus = λ x. refl; of-pane = λ x. refl; of-bar = λ x. refl; of-tab = λ x. refl; of-child = λ x. refl; of-handle = λ x. refl }) a i size e)

  pub panes-fit : length (gather pane_of (layout_items a i)) ≤ 64
  panes-fit = list-fits pane_of 0 1 0 0 0 0 (record { of-focus = λ x. refl; of-pane = λ x. refl; of-bar = λ x. refl; of-tab = λ x. refl; of-child = λ x. refl; of-handle = λ x. refl }) a i size e

  pub bars-fit : length (gather bar_of (layout_items a i)) ≤ 64
  bars-fit = list-fits bar_of 0 0 1 0 0 0 (record { of-focus = λ x. refl; of-pane = λ x. refl; of-bar = λ x. refl; of-tab = λ x. refl; of-child = λ x. refl; of-handle = λ x. refl }) a i size e

  pub tabs-fit : length (gather tab_of (layout_items a i)) ≤ 1024
  tabs-fit = list-fits tab_of 0 0 0 1 0 0 (record { of-focus = λ x. refl; of-pane = λ x. refl; of-bar = λ x. refl; of-tab = λ x. refl; of-child = λ x. refl; of-handle = λ x. refl }) a i size e

  pub children-fit : length (gather child_of (layout_items a i)) ≤ 64
  children-fit = list-fits child_of 0 0 0 0 1 0 (record { of-focus = λ x. refl; of-pane = λ x. refl; of-bar = λ x. refl; of-tab = λ x. refl; of-child = λ x. refl; of-handle = λ x. refl }) a i size e

  pub handles-fit : length (gather handle_of (layout_items a i)) ≤ 64
  handles-fit = list-fits handle_of 0 0 0 0 0 1 (record { of-focus = λ x. refl; of-pane = λ x. refl; of-bar = λ x. refl; of-tab = λ x. refl; of-child = λ x. refl; of-handle = λ x. refl }) a i size e

  pub focus-fits : length (gather focus_of (layout_items a i)) ≤ 1024
  focus-fits = list-fits focus_of 1 0 0 0 0 0 (record { of-focus = λ x. refl; of-pane = λ x. refl; of-bar = λ x. refl; of-tab = λ x. refl; of-child = λ x. refl; of-handle = λ x. refl }) a i size e

  pub paint-fits : length (gather paint_of (layout_items a i)) ≤ 1216
  paint-fits = list-fits paint_of 0 1 1 1 0 1 (record { of-focus = λ x. refl; of-pane = λ x. refl; of-bar = λ x. refl; of-tab = λ x. refl; of-child = λ x. refl; of-handle = λ x. refl }) a i size e
