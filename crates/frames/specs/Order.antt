-- The lists of a frame that follow the reading order: the focus order is the panes of the tree, each once; the pane list has each plain pane and each
-- group's active pane once. And a nesting of 64 is enough. Assumes nothing.
use Rattle.std.proofs.Math.Path.{◌≡◌, refl, sym, ap}
use Rattle.std.proofs.Common.{subst, ◌∙◌, inl, inr, arith}
use Rattle.std.specs.Prelude.{◌⊎◌, Bool, get_or, Float}
use Rattle.std.proofs.Math.Bool.{true, false}
use mathlib.Core.List.{List, [], ◌∷◌, ◌++◌, map, append_assoc, append-nil}
use Rattle.std.proofs.Math.Option.{some}
use Prim.Native.Nat.{ℕ, zero, suc, ◌≤◌, min}
use Rattle.std.proofs.Math.ListN.{length, length-map, get_or-map}
use Rattle.std.specs.Float.Ieee.{binary64, add}
use Rattle.rules.specs.Tree.{Node, empty, pane, tabs, split, Arena, node_at, panes_of, kids_of, empty_group, same_placement, reading, reading_from}
use Rattle.rules.specs.Target.{panes_in}
use Rattle.rules.specs.Repair.{children_of, shares_of, minima_of}
use Rattle.rules.specs.Minima.{compact_constraints}
use Rattle.rules.specs.Sound.{sound}
use Rattle.rules.specs.Tabs.{split_tab_bar, tab_rects}
use Rattle.rules.specs.Frame.{Item, focus_item, child_item, handle_item, a_pane, focus_items, tabs_from, bar_items, layout_tabs_by, layout_tabs, is_more, along_rect, along_start, handle_by, layout_kids, split_lengths, layout_split, layout_node, layout_tile, layout_items, focus_of, pane_of, gather}
use Rattle.rules.specs.declared.model.TileId.{TileId}
use Rattle.rules.specs.declared.model.Axis.{Axis}
use Rattle.rules.specs.declared.model.TabBarPlacement.{TabBarPlacement}
use Rattle.rules.specs.declared.model.TabBarPlacement.TheVariants.{Hidden}
use Rattle.rules.specs.declared.frame.Rect.{Rect}
use Rattle.rules.specs.declared.frame.LayoutInput.{LayoutInput}
use Rattle.rules.specs.declared.frame.PaneFrame.{PaneFrame}
use Rattle.rules.specs.declared.frame.SplitChildFrame.{SplitChildFrame}
use Rattle.rules.specs.declared.frame.SplitHandleFrame.{SplitHandleFrame}
use Rattle.forest.specs.Codec.{stored}
use Rattle.forest.specs.Forest.{Forest, nil, leaf, node, roots, Leafy, Holds}
use Rattle.forest.specs.Grow.{Left, nothing, group, branch, kept_of, stem}
use Rattle.forest.specs.Again.{names}
use Rattle.forest.specs.Depth.{Within, nested-within}
use Rattle.forest.specs.Lists.{Distinct}
use Rattle.forest.specs.Reach.{panes-once}
use Rattle.forest.specs.Quiet.{plain_node, plain_nodes, kids-plain, panes-plain}
use Rattle.forest.specs.Settled.{Lone, Settled, reads}
use Rattle.forest.specs.SoundCases.{Plain, sound-cases}
use Rattle.forest.specs.Along.{along, panes-along}
use Rattle.frames.specs.Plain.{layout-plain}
use Rattle.frames.specs.Fits.{lone-none}
use Rattle.frames.specs.Counted.{lengths-counted}

-- ---- along the tiles that are read

along-append : {A : Type 0} (h : Node → List A) (ns : List Node) (xs ys : List TileId) → along h ns (xs ++ ys) ≡ along h ns xs ++ along h ns ys
unfolding along
along-append h ns [] ys = refl
along-append h ns (x ∷ xs) ys = ap (λ l. h (node_at ns x) ++ l) (along-append h ns xs ys) ∙ sym (append_assoc (h (node_at ns x)) (along h ns xs) (along h ns ys))

pub gather-both : {A : Type 0} (f : Item → List A) (xs ys : List Item) → gather f (xs ++ ys) ≡ gather f xs ++ gather f ys
unfolding gather
gather-both f [] ys = refl
gather-both f (x ∷ xs) ys = ap (λ l. f x ++ l) (gather-both f xs ys) ∙ sym (append_assoc (f x) (gather f xs) (gather f ys))

-- a list of the frame that takes nothing of children and handles, and of a leaf what h says, wherever it stands
pub record Leafwise {A : Type 0} (g : Item → List A) (h : Node → List A) : Type 0 where
  pub no-child : (x : SplitChildFrame) → g (child_item x) ≡ []
  pub no-handle : (x : SplitHandleFrame) → g (handle_item x) ≡ []
  pub of-pane : (p : ℕ) (t : TileId) (r : Rect) → gather g (focus_item p ∷ a_pane p t r ∷ []) ≡ h (pane p)
  pub of-group : (t : TileId) (b : TabBarPlacement) (a : ℕ) (ps : List ℕ) (r : Rect) (i : LayoutInput) → gather g (layout_tabs t b a ps r i) ≡ h (tabs b a ps)
  pub of-split : (a : Axis) (cs : List TileId) (ss ms : List Float) → h (split a cs ss ms) ≡ []

module _ {A : Type 0} (g : Item → List A) (h : Node → List A) (L : Leafwise g h) (ns : List Node) (i : LayoutInput) where
  leaf-node : (again : TileId → Rect → List Item) (n : Node) (ps : List ℕ) (t : TileId) (r : Rect) → Leafy n ps → gather g (layout_node again n t r i) ≡ h n
  leaf-node again empty ps t r l = absurd l
  leaf-node again (pane p) ps t r l = L.of-pane p t r
  leaf-node again (tabs b a qs) ps t r l = L.of-group t b a qs r i
  leaf-node again (split a cs ss ms) ps t r l = absurd l

  leaf-tile : (fuel : ℕ) → 1 ≤ fuel → (ps : List ℕ) (t : TileId) (r : Rect) → Leafy (node_at ns t) ps → gather g (layout_tile fuel ns i t r) ≡ h (node_at ns t)
  unfolding layout_tile
  leaf-tile zero q ps t r l = absurd (omega arith)
  leaf-tile (suc fuel) q ps t r l = leaf-node (layout_tile fuel ns i) (node_at ns t) ps t r l

  handle-none : (b : Bool) (s : TileId) (a : Axis) (r : Rect) (w : Float) (j : ℕ) (at : Float) → gather g (handle_by b s a r w j at) ≡ []
  unfolding gather
  handle-none true s a r w j at = ap (λ l. l ++ []) (L.no-handle (record { split = s; handle = j; axis = a; rect = along_rect a r at w }))
  handle-none false s a r w j at = refl

  -- one child, and the rest
  kid-along : (again : TileId → Rect → List Item) (s : TileId) (a : Axis) (r : Rect) (w : Float) (j : ℕ) (c : TileId) (cs : List TileId) (l : Float) (ls : List Float) (at : Float) (u v : List A)
      → ((q : Rect) → gather g (again c q) ≡ u) → ((k : ℕ) (x : Float) → gather g (layout_kids again s a r w k cs ls x) ≡ v) → gather g (layout_kids again s a r w j (c ∷ cs) (l ∷ ls) at) ≡ u ++ v
  unfolding layout_kids gather
  kid-along again s a r w j c cs l ls at u v e f =
      let q : Rect = along_rect a r at l in
      let hs = handle_by (is_more cs) s a r w j (add binary64 at l) in
      let rest = layout_kids again s a r w (suc j) cs ls (add binary64 (add binary64 at l) w) in
      (λ z. L.no-child (record { split = s; child = c; index = j; rect = q }) z ++ gather g (again c q ++ (hs ++ rest)))
      ∙ gather-both g (again c q) (hs ++ rest) ∙ (λ z. e q z ++ gather-both g hs rest z)
      ∙ (λ z. u ++ (handle-none (is_more cs) s a r w j (add binary64 at l) z ++ f (suc j) (add binary64 (add binary64 at l) w) z))

  split-tile : (c : Forest)
      → ((fuel : ℕ) → Within fuel c → (s : TileId) (a : Axis) (r : Rect) (w : Float) (j : ℕ) (ls : List Float) (at : Float) → length ls ≡ length (roots c) → gather g (layout_kids (layout_tile fuel ns i) s a r w j (children_of (roots c)) ls at) ≡ along h ns (names c))
      → (fuel : ℕ) → Within fuel c → (t : TileId) (b : Axis) → node_at ns t ≡ stored b (roots c) → (q : Rect) → gather g (layout_tile (suc fuel) ns i t q) ≡ along h ns (names c)
  unfolding layout_tile layout_split
  split-tile c u fuel n t b e q =
      let cs = children_of (roots c) in
      let ss = shares_of (roots c) in
      let ms = compact_constraints (minima_of (roots c)) in
      ap (λ (k : Node). gather g (layout_node (layout_tile fuel ns i) k t q i)) e
      ∙ u fuel n t b q i.split_handle_thickness 0 (split_lengths b (length cs) ss ms q i).lengths (along_start b q) (lengths-counted b (length cs) ss ms q i ∙ length-map (roots c) (λ x. x.child))

  kids-along : (t : Forest) → Holds ns t → (fuel : ℕ) → Within fuel t → (s : TileId) (a : Axis) (r : Rect) (w : Float) (j : ℕ) (ls : List Float) (at : Float) → length ls ≡ length (roots t)
      → gather g (layout_kids (layout_tile fuel ns i) s a r w j (children_of (roots t)) ls at) ≡ along h ns (names t)
  unfolding layout_kids gather along
  kids-along nil H fuel n s a r w j ls at e = refl
  kids-along (leaf x _ _ ps t) H fuel n s a r w j [] at e = absurd (omega (arith, e))
  kids-along (leaf x _ _ ps t) H fuel n s a r w j (l ∷ ls) at e =
      kid-along (layout_tile fuel ns i) s a r w j x (children_of (roots t)) l ls at (h (node_at ns x)) (along h ns (names t)) (λ q. leaf-tile fuel n.0 ps x q H.0.leafy)
      (λ k y. kids-along t H.1 fuel n.1 s a r w k ls y (let z : length ls ≡ length (roots t) = omega (arith, e) in z))
  kids-along (node x _ _ b c t) H zero n s a r w j ls at e = absurd n
  kids-along (node x _ _ b c t) H (suc fuel) n s a r w j [] at e = absurd (omega (arith, e))
  kids-along (node x _ _ b c t) H (suc fuel) n s a r w j (l ∷ ls) at e =
      kid-along (layout_tile (suc fuel) ns i) s a r w j x (children_of (roots t)) l ls at (along h ns (names c)) (along h ns (names t)) (split-tile c (λ fu. kids-along c H.1 fu) fuel n.0 x b H.0.is)
      (λ k y. kids-along t H.2 (suc fuel) n.1 s a r w k ls y (let z : length ls ≡ length (roots t) = omega (arith, e) in z))
      ∙ sym ((λ z. (ap h H.0.is ∙ L.of-split b (children_of (roots c)) (shares_of (roots c)) (compact_constraints (minima_of (roots c)))) z ++ along-append h ns (names c) (names t) z))

  pub tree-along : (l : Left) (t : TileId) → kept_of l ≡ some t → Holds ns (stem l) → (fuel : ℕ) → Within fuel (stem l) → (r : Rect) → gather g (layout_tile fuel ns i t r) ≡ along h ns (names (stem l))
  unfolding along
  tree-along nothing t e H fuel n r = absurd (let z : ◌≡◌ {A = ℕ} 0 1 = cc in omega arith)
  tree-along (group x ps) t e H fuel n r =
      let q : t ≡ x = cc in
      ap (λ (y : TileId). gather g (layout_tile fuel ns i y r)) q ∙ leaf-tile fuel n.0 ps x r H.0.leafy ∙ sym (append-nil (h (node_at ns x)))
  tree-along (branch x b c) t e H zero n r = absurd n
  tree-along (branch x b c) t e H (suc fuel) n r =
      let q : t ≡ x = cc in
      ap (λ (y : TileId). gather g (layout_tile (suc fuel) ns i y r)) q ∙ split-tile c (λ fu. kids-along c H.1 fu) fuel n.0 x b H.0.is r
      ∙ sym ((λ z. (ap h H.0.is ∙ L.of-split b (children_of (roots c)) (shares_of (roots c)) (compact_constraints (minima_of (roots c)))) z ++ along h ns (names c ++ [])) ∙ ap (along h ns) (append-nil (names c)))

-- ---- a sound arena

pub reading-plain : (f : ℕ) (ns : List Node) (xs : List TileId) → reading f (plain_nodes ns) xs ≡ reading f ns xs
unfolding reading
reading-plain zero ns xs = refl
reading-plain (suc f) ns [] = refl
reading-plain (suc f) ns (x ∷ xs) =
    ap (λ (n : Node). x ∷ reading f (plain_nodes ns) (kids_of n ++ xs)) (get_or-map plain_node ns x.slot empty)
    ∙ ap (λ (k : List TileId). x ∷ reading f (plain_nodes ns) (k ++ xs)) (kids-plain (node_at ns x)) ∙ ap (λ l. x ∷ l) (reading-plain f ns (kids_of (node_at ns x) ++ xs))

pub lone-reads : (ns : List Node) (r : TileId) → Lone ns r → reading_from ns r ≡ r ∷ []
unfolding reading
lone-reads ns r l = ap (λ (x : Node). r ∷ reading 1024 ns (kids_of x ++ [])) l.is

module _ {A : Type 0} (g : Item → List A) (h : Node → List A) (L : Leafwise g h) (none-shown : h empty_group ≡ []) (plain : (n : Node) → h (plain_node n) ≡ h n) (a : Arena) (i : LayoutInput) (size : length a.nodes ≡ 64) where
  along-plain : (xs : List TileId) → along h (plain_nodes a.nodes) xs ≡ along h a.nodes xs
  unfolding along
  along-plain [] = refl
  along-plain (x ∷ xs) = λ z. (ap h (get_or-map plain_node a.nodes x.slot empty) ∙ plain (node_at a.nodes x)) z ++ along-plain xs z

  lone-along : (ns : List Node) → Lone ns a.root → gather g (layout_tile 64 ns i a.root i.bounds) ≡ along h ns (reading_from ns a.root)
  unfolding gather along
  lone-along ns l = ap (gather g) (lone-none ns a.root i i.bounds l) ∙ sym (ap (along h ns) (lone-reads ns a.root l) ∙ (λ z. (ap h l.is ∙ none-shown) z ++ []))

  settled-along : (ns : List Node) → Settled ns a.root → gather g (layout_tile 64 ns i a.root i.bounds) ≡ along h ns (reading_from ns a.root)
  settled-along ns (inl (l, t)) =
      tree-along g h L ns i l a.root t.root_is t.held 64 (nested-within ns a.root l t) i.bounds ∙ ap (along h ns) (sym (reads ns a.root l t.root_is t.held t.room))
  settled-along ns (inr l) = lone-along ns l

  pub sound-along : sound a ≡ true → gather g (layout_items a i) ≡ along h a.nodes (reading_from a.nodes a.root)
  sound-along e = go (sound-cases a size e)
    where
      go : Plain a ⊎ Lone a.nodes a.root → gather g (layout_items a i) ≡ along h a.nodes (reading_from a.nodes a.root)
      go (inl p) =
          ap (gather g) (sym (layout-plain 64 a.nodes i a.root i.bounds)) ∙ settled-along (plain_nodes a.nodes) p.settled
          ∙ along-plain (reading_from (plain_nodes a.nodes) a.root) ∙ ap (along h a.nodes) (reading-plain 1025 a.nodes (a.root ∷ []))
      go (inr l) = lone-along a.nodes l

-- ---- the focus order

focus-all : (ps : List ℕ) → gather focus_of (focus_items ps) ≡ ps
unfolding gather
focus-all [] = refl
focus-all (p ∷ ps) = ap (λ l. p ∷ l) (focus-all ps)

focus-tabs : (g : TileId) (active j : ℕ) (ps : List ℕ) (rs : List Rect) → gather focus_of (tabs_from g active j ps rs) ≡ []
unfolding gather tabs_from
focus-tabs g active j [] rs = refl
focus-tabs g active j (p ∷ ps) [] = refl
focus-tabs g active j (p ∷ ps) (r ∷ rs) = focus-tabs g active (suc j) ps rs

focus-bars : (b : Bool) (g : TileId) (p : TabBarPlacement) (r : Rect) (active : ℕ) (ps : List ℕ) → gather focus_of (bar_items b g p r active ps) ≡ []
unfolding gather
focus-bars true g p r active ps = refl
focus-bars false g p r active ps = focus-tabs g active 0 ps (tab_rects r p (length ps))

focus-shown : (g : TileId) (b : TabBarPlacement) (a : ℕ) (ps : List ℕ) (r : Rect) (i : LayoutInput) → gather focus_of (layout_tabs_by g b a ps r i) ≡ []
unfolding gather
focus-shown g b a [] r i = refl
focus-shown g b a (p ∷ ps) r i =
    let s = split_tab_bar r b i.tab_bar_thickness in
    let n = min a (length ps) in
    gather-both focus_of (bar_items (same_placement b Hidden) g b s.bar n (p ∷ ps)) (a_pane (get_or (p ∷ ps) n 0) g s.pane ∷ []) ∙ ap (λ l. l ++ []) (focus-bars (same_placement b Hidden) g b s.bar n (p ∷ ps))

focus-leafwise : Leafwise focus_of panes_of
unfolding gather layout_tabs
focus-leafwise =
    record {
      no-child = λ x. refl;
      no-handle = λ x. refl;
      of-pane = λ p t r. refl;
      of-group = λ t b a ps r i. gather-both focus_of (focus_items ps) (layout_tabs_by t b a ps r i) ∙ (λ z. focus-all ps z ++ focus-shown t b a ps r i z) ∙ append-nil ps;
      of-split = λ a cs ss ms. refl;
    }

-- the focus order is the tree's panes in reading order
pub focus-order : (a : Arena) (i : LayoutInput) → length a.nodes ≡ 64 → sound a ≡ true → gather focus_of (layout_items a i) ≡ panes_in a.root a.nodes
focus-order a i size e = sound-along focus_of panes_of focus-leafwise refl panes-plain a i size e ∙ panes-along a.nodes (reading_from a.nodes a.root)

-- ---- the pane list

abbrev pub pane_id : Item → List ℕ
pane_id x = map (λ (f : PaneFrame). f.pane) (pane_of x)

-- a plain pane shows itself, a group its active pane
abbrev pub shown_by : ℕ → List ℕ → List ℕ
shown_by a [] = []
shown_by a (p ∷ ps) = get_or (p ∷ ps) (min a (length ps)) 0 ∷ []

abbrev pub shown_of : Node → List ℕ
shown_of empty = []
shown_of (pane p) = p ∷ []
shown_of (tabs b a ps) = shown_by a ps
shown_of (split a cs ss ms) = []

pane-focus : (ps : List ℕ) → gather pane_id (focus_items ps) ≡ []
unfolding gather
pane-focus [] = refl
pane-focus (p ∷ ps) = pane-focus ps

pane-tabs : (g : TileId) (active j : ℕ) (ps : List ℕ) (rs : List Rect) → gather pane_id (tabs_from g active j ps rs) ≡ []
unfolding gather tabs_from
pane-tabs g active j [] rs = refl
pane-tabs g active j (p ∷ ps) [] = refl
pane-tabs g active j (p ∷ ps) (r ∷ rs) = pane-tabs g active (suc j) ps rs

pane-bars : (b : Bool) (g : TileId) (p : TabBarPlacement) (r : Rect) (active : ℕ) (ps : List ℕ) → gather pane_id (bar_items b g p r active ps) ≡ []
unfolding gather
pane-bars true g p r active ps = refl
pane-bars false g p r active ps = pane-tabs g active 0 ps (tab_rects r p (length ps))

pane-shown : (g : TileId) (b : TabBarPlacement) (a : ℕ) (ps : List ℕ) (r : Rect) (i : LayoutInput) → gather pane_id (layout_tabs_by g b a ps r i) ≡ shown_by a ps
unfolding gather
pane-shown g b a [] r i = refl
pane-shown g b a (p ∷ ps) r i =
    let s = split_tab_bar r b i.tab_bar_thickness in
    let n = min a (length ps) in
    gather-both pane_id (bar_items (same_placement b Hidden) g b s.bar n (p ∷ ps)) (a_pane (get_or (p ∷ ps) n 0) g s.pane ∷ []) ∙ ap (λ l. l ++ (get_or (p ∷ ps) n 0 ∷ [])) (pane-bars (same_placement b Hidden) g b s.bar n (p ∷ ps))

pane-leafwise : Leafwise pane_id shown_of
unfolding gather layout_tabs
pane-leafwise =
    record {
      no-child = λ x. refl;
      no-handle = λ x. refl;
      of-pane = λ p t r. refl;
      of-group = λ t b a ps r i. gather-both pane_id (focus_items ps) (layout_tabs_by t b a ps r i) ∙ (λ z. pane-focus ps z ++ pane-shown t b a ps r i z);
      of-split = λ a cs ss ms. refl;
    }

shown-plain : (n : Node) → shown_of (plain_node n) ≡ shown_of n
shown-plain empty = refl
shown-plain (pane p) = refl
shown-plain (tabs b a ps) = refl
shown-plain (split a cs ss ms) = refl

-- the pane list has, in reading order, each plain pane and each group's active pane
pub pane-order : (a : Arena) (i : LayoutInput) → length a.nodes ≡ 64 → sound a ≡ true → gather pane_id (layout_items a i) ≡ along shown_of a.nodes (reading_from a.nodes a.root)
pane-order a i size e = sound-along pane_id shown_of pane-leafwise refl shown-plain a i size e

-- and each pane stands in the focus order once
pub focus-once : (a : Arena) (i : LayoutInput) → length a.nodes ≡ 64 → sound a ≡ true → Distinct (gather focus_of (layout_items a i))
unfolding gather
focus-once a i size e = go (sound-cases a size e)
  where
    go : Plain a ⊎ Lone a.nodes a.root → Distinct (gather focus_of (layout_items a i))
    go (inl p) =
        let ns = plain_nodes a.nodes in
        subst Distinct
        (sym (ap (gather focus_of) (sym (layout-plain 64 a.nodes i a.root i.bounds)) ∙ settled-along focus_of panes_of focus-leafwise refl panes-plain a i size ns p.settled ∙ panes-along ns (reading_from ns a.root)))
        (panes-once ns a.root a.revision p.settled)
    go (inr l) = subst (λ (xs : List Item). Distinct (gather focus_of xs)) (sym (lone-none a.nodes a.root i i.bounds l)) tt
