-- Demand 3 over a frame's own split children: each stands in a rectangle that its split's solved length makes, and the split's lengths meet the demand.
-- And every rectangle of the frame has finite edges.
-- Assumes nothing.
use Rattle.std.specs.Prelude.{◌≡◌, Bool, true, false, ◌||◌, T, ltb, get_or, drop, Float}
use Rattle.std.proofs.Math.Path.{refl, sym, ap, subst}
use Rattle.std.proofs.Common.{◌∙◌, le_trans, le_of_eq, mul-le-mul_right, mul-le-mul_left, one-mul, ltb-false, pow-add, pow_mono}
use Rattle.std.proofs.Math.Bool.{or_assoc}
use mathlib.Core.List.{List, [], ◌∷◌, ◌++◌}
use Prim.Native.Nat.{ℕ, zero, suc, ◌+◌, ◌*◌, ◌^◌, ◌≤◌, ◌<◌, min}
use native.Mathlib.Omega.{arith}
use Rattle.std.proofs.Math.ListN.{length}
use Rattle.std.specs.Float.Ieee.{binary64, add, le, fits}
use Rattle.rules.specs.Numbers.{zero-f}
use Rattle.rules.specs.Tree.{Node, empty, pane, tabs, split, tile, node_at, wide_node, same_placement}
use Rattle.rules.specs.Tabs.{split_tab_bar, tab_rects}
use Rattle.rules.specs.Frame.{Item, focus_item, pane_item, bar_item, tab_item, child_item, handle_item, a_pane, focus_items, tabs_from, bar_items, layout_tabs_by, layout_tabs, is_more, along_rect, along_start, handle_by, layout_kids, child_total, child_minima, split_lengths, layout_split, layout_node, layout_tile}
use Rattle.rules.specs.declared.model.TileId.{TileId}
use Rattle.rules.specs.declared.model.Axis.{Axis}
use Rattle.rules.specs.declared.model.Axis.TheVariants.{Horizontal, Vertical}
use Rattle.rules.specs.declared.model.TabBarPlacement.{TabBarPlacement}
use Rattle.rules.specs.declared.model.TabBarPlacement.TheVariants.{Hidden}
use Rattle.rules.specs.declared.frame.Rect.{Rect}
use Rattle.rules.specs.declared.frame.LayoutInput.{LayoutInput}
use Rattle.rules.specs.declared.frame.SplitChildFrame.{SplitChildFrame}
use Rattle.forest.specs.Lists.{All, all_append}
use Rattle.number.specs.Each as Each
use Rattle.number.specs.Order.{nonneg}
use Rattle.solver.specs.Demand.{Meets}
use Rattle.forest.specs.Bools.{or_left}
use Rattle.frames.specs.Sizes.{Small, held, small-more, small-between, add_small}
use Rattle.frames.specs.Finite.{Finite, tabs-finite, bar-bounded}
use Rattle.frames.specs.Splits.{Bounded, Sane, total-small, total-good, split-meets}

-- ---- what is shown of a child's entry in the frame

pub record Fair (ns : List Node) (i : LayoutInput) (x : SplitChildFrame) : Type 0 where
  -- its split, and the rectangle that it was laid out in
  pub axis : Axis
  pub children : List TileId
  pub shares : List Float
  pub minima : List Float
  pub within : Rect
  pub is : node_at ns x.split ≡ split axis children shares minima
  -- which child it is
  pub counted : x.index < length children
  pub child : x.child ≡ get_or children x.index (tile 0)
  -- its rectangle is made of its solved length
  pub start : Float
  pub rect : x.rect ≡ along_rect axis within start (get_or (split_lengths axis (length children) shares minima within i).lengths x.index zero-f)
  -- and the solved lengths meet demand 3
  pub meets : Meets (child_total axis (length children) within i) (child_minima axis (length children) minima i) (split_lengths axis (length children) shares minima within i)

-- an item is finite, and a child's entry is fair
abbrev pub FairItem : List Node → LayoutInput → Item → Type 0
FairItem ns i (focus_item p) = Unit {0}
FairItem ns i (pane_item f) = Finite f.rect
FairItem ns i (bar_item f) = Finite f.rect
FairItem ns i (tab_item f) = Finite f.rect
FairItem ns i (child_item f) = Finite f.rect × Fair ns i f
FairItem ns i (handle_item f) = Finite f.rect

-- a node's numbers are binary64's
abbrev pub Real64 : Node → Type 0
Real64 empty = Unit {0}
Real64 (pane p) = Unit {0}
Real64 (tabs b a ps) = Unit {0}
Real64 (split a cs ss ms) = Each.All (λ x. T (fits binary64 x)) ss × Each.All (λ x. T (fits binary64 x)) ms

-- ---- a place in a list, by what is left of it

drop_head : {A : Type 0} (xs : List A) (j : ℕ) (d c : A) (cs : List A) → drop j xs ≡ c ∷ cs → (get_or xs j d ≡ c) × (drop (suc j) xs ≡ cs) × (j < length xs)
drop_head [] zero d c cs e = absurd (let z : ◌≡◌ {A = ℕ} 0 (suc (length cs)) = ap length e in omega arith)
drop_head [] (suc j) d c cs e = absurd (let z : ◌≡◌ {A = ℕ} 0 (suc (length cs)) = ap length e in omega arith)
drop_head (x ∷ xs) zero d c cs e = (ap (λ l. get_or l 0 d) e, ap (drop 1) e, omega arith)
drop_head (x ∷ xs) (suc j) d c cs e = let (p, q, r) = drop_head xs j d c cs e in (p, q, omega (arith, r))

module _ (ns : List Node) (i : LayoutInput) where
  -- ---- a group

  tabs-fair : (g : TileId) (active j : ℕ) (ps : List ℕ) (rs : List Rect) → All Finite rs → All (FairItem ns i) (tabs_from g active j ps rs)
  unfolding tabs_from
  tabs-fair g active j [] rs f = tt
  tabs-fair g active j (p ∷ ps) [] f = tt
  tabs-fair g active j (p ∷ ps) (r ∷ rs) f = (f.0, tabs-fair g active (suc j) ps rs f.1)

  bars-fair : (b : Bool) (g : TileId) (p : TabBarPlacement) (r : Rect) (active : ℕ) (ps : List ℕ) → Finite r → All Finite (tab_rects r p (length ps)) → All (FairItem ns i) (bar_items b g p r active ps)
  bars-fair true g p r active ps f t = tt
  bars-fair false g p r active ps f t = (f, tabs-fair g active 0 ps (tab_rects r p (length ps)) t)

  focus-fair : (ps : List ℕ) → All (FairItem ns i) (focus_items ps)
  focus-fair [] = tt
  focus-fair (p ∷ ps) = (tt, focus-fair ps)

  shown-fair : (k : ℕ) → k ≤ 880 → (g : TileId) (b : TabBarPlacement) (a : ℕ) (ps : List ℕ) (r : Rect) → length ps ≤ 16 → Bounded (1 * 2 ^ k) r → Small (1 * 2 ^ k) i.tab_bar_thickness → All (FairItem ns i) (layout_tabs_by g b a ps r i)
  shown-fair k near g b a [] r few q t = tt
  shown-fair k near g b a (p ∷ ps) r few q t =
      let s = split_tab_bar r b i.tab_bar_thickness in
      let n = min a (length ps) in
      let (u, v) = bar-bounded k near r b i.tab_bar_thickness q t in
      all_append (FairItem ns i) (bar_items (same_placement b Hidden) g b s.bar n (p ∷ ps)) (a_pane (get_or (p ∷ ps) n 0) g s.pane ∷ [])
      (bars-fair (same_placement b Hidden) g b s.bar n (p ∷ ps) (3 * 2 ^ k, u) (tabs-finite k near b s.bar (length (p ∷ ps)) (omega arith) few u)) ((3 * 2 ^ k, v), tt)

  group-fair : (k : ℕ) → k ≤ 880 → (g : TileId) (b : TabBarPlacement) (a : ℕ) (ps : List ℕ) (r : Rect) → length ps ≤ 16 → Bounded (1 * 2 ^ k) r → Small (1 * 2 ^ k) i.tab_bar_thickness → All (FairItem ns i) (layout_tabs g b a ps r i)
  unfolding layout_tabs
  group-fair k near g b a ps r few q t = all_append (FairItem ns i) (focus_items ps) (layout_tabs_by g b a ps r i) (focus-fair ps) (shown-fair k near g b a ps r few q t)

  handle-fair : (b : Bool) (s : TileId) (a : Axis) (r : Rect) (h : Float) (j : ℕ) (at : Float) → Finite (along_rect a r at h) → All (FairItem ns i) (handle_by b s a r h j at)
  handle-fair true s a r h j at f = (f, tt)
  handle-fair false s a r h j at f = tt

  -- ---- a split's children

  -- the bound of a level, and that of the next
  scale : (c k : ℕ) → c ≤ 64 → c * 2 ^ (k + 2) ≤ 1 * 2 ^ (k + 8)
  scale c k h =
      le_trans (mul-le-mul_right (2 ^ (k + 2)) h)
      (le_of_eq (sym (pow-add 2 6 (k + 2)) ∙ ap (λ (n : ℕ). 2 ^ n) (let q : 6 + (k + 2) ≡ k + 8 = omega arith in q) ∙ sym (one-mul (2 ^ (k + 8)))))

  grow : (k m : ℕ) → 1 * 2 ^ k ≤ 1 * 2 ^ (k + m)
  grow k m = mul-le-mul_left 1 (pow_mono (let q : k ≤ k + m = omega arith in q))

  along-bounded : (k : ℕ) (a : Axis) (r : Rect) (at l : Float) (c : ℕ) → c < 64 → k ≤ 890 → Bounded (1 * 2 ^ k) r → Small (c * 2 ^ (k + 2)) at → Small (1 * 2 ^ (k + 2)) l → Bounded (1 * 2 ^ (k + 8)) (along_rect a r at l)
  along-bounded k a r at l c h near b p q = go a
    where
      edge : (x : Float) → Small (1 * 2 ^ k) x → Small (1 * 2 ^ (k + 8)) x
      edge x = small-more (1 * 2 ^ k) (1 * 2 ^ (k + 8)) x (grow k 8)

      near-end : Small (1 * 2 ^ (k + 8)) at
      near-end = small-more (c * 2 ^ (k + 2)) (1 * 2 ^ (k + 8)) at (scale c k (omega (arith, h))) p

      far-end : Small (1 * 2 ^ (k + 8)) (add binary64 at l)
      far-end =
          small-more ((c + 1) * 2 ^ (k + 2)) (1 * 2 ^ (k + 8)) (add binary64 at l) (scale (c + 1) k (omega (arith, h)))
          (add_small (k + 2) c 1 (held (c + 1) (k + 2) (omega (arith, h)) (omega (arith, near))) at l p q)

      go : (x : Axis) → Bounded (1 * 2 ^ (k + 8)) (along_rect x r at l)
      go Horizontal = record { left = near-end; top = edge r.y0 b.top; right = far-end; bottom = edge r.y1 b.bottom }
      go Vertical = record { left = edge r.x0 b.left; top = near-end; right = edge r.x1 b.right; bottom = far-end }

  module _ (k : ℕ) (near : k ≤ 880) (s : TileId) (a : Axis) (children : List TileId) (ss ms : List Float) (is : node_at ns s ≡ split a children ss ms) (few : length children ≤ 16)
      (r : Rect) (inside : Bounded (1 * 2 ^ k) r) (h : Float) (thin : Small (1 * 2 ^ (k + 2)) h)
      (M : Meets (child_total a (length children) r i) (child_minima a (length children) ms i) (split_lengths a (length children) ss ms r i))
      (again : TileId → Rect → List Item) (under : (c : TileId) (q : Rect) → Bounded (1 * 2 ^ (k + 8)) q → All (FairItem ns i) (again c q)) where
    abbrev solved : List Float
    solved = (split_lengths a (length children) ss ms r i).lengths

    pub kids-fair : (j : ℕ) (cs : List TileId) (ls : List Float) (at : Float) → drop j children ≡ cs → drop j solved ≡ ls → Each.All (Small (1 * 2 ^ (k + 2))) ls → Small ((1 + j + j) * 2 ^ (k + 2)) at
        → All (FairItem ns i) (layout_kids again s a r h j cs ls at)
    unfolding layout_kids
    kids-fair j [] ls at e g b p = tt
    kids-fair j (c ∷ cs) [] at e g b p = tt
    kids-fair j (c ∷ cs) (l ∷ ls) at e g (Each.more b bs) p =
        let (ce, cr, lt) = drop_head children j (tile 0) c cs e in
        let (le, lr, _) = drop_head solved j zero-f l ls g in
        let q : Rect = along_rect a r at l in
        let x : SplitChildFrame = record { split = s; child = c; index = j; rect = q } in
        let end = add_small (k + 2) (1 + j + j) 1 (held (1 + j + j + 1) (k + 2) (omega (arith, lt, few)) (omega (arith, near))) at l p b in
        let next = add_small (k + 2) (1 + j + j + 1) 1 (held (1 + j + j + 1 + 1) (k + 2) (omega (arith, lt, few)) (omega (arith, near))) (add binary64 at l) h end thin in
        let at' = add binary64 (add binary64 at l) h in (
          ((1 * 2 ^ (k + 8), along-bounded k a r at l (1 + j + j) (omega (arith, lt, few)) (omega (arith, near)) inside p b), record { axis = a; children = children; shares = ss; minima = ms; within = r; is = is; counted = lt; child = sym ce; start = at; rect = ap (along_rect a r at) (sym le); meets = M }),
          all_append (FairItem ns i) (again c q) (handle_by (is_more cs) s a r h j (add binary64 at l) ++ layout_kids again s a r h (suc j) cs ls at')
              (under c q (along-bounded k a r at l (1 + j + j) (omega (arith, lt, few)) (omega (arith, near)) inside p b))
              (all_append (FairItem ns i) (handle_by (is_more cs) s a r h j (add binary64 at l)) (layout_kids again s a r h (suc j) cs ls at')
              (handle-fair (is_more cs) s a r h j (add binary64 at l) (1 * 2 ^ (k + 8), along-bounded k a r (add binary64 at l) h (1 + j + j + 1) (omega (arith, lt, few)) (omega (arith, near)) inside end thin))
              (kids-fair (suc j) cs ls at' cr lr bs
              (small-more ((1 + j + j + 1 + 1) * 2 ^ (k + 2)) ((1 + suc j + suc j) * 2 ^ (k + 2)) at' (mul-le-mul_right (2 ^ (k + 2)) (let z : 1 + j + j + 1 + 1 ≤ 1 + suc j + suc j = omega arith in z)) next))),
        )

  -- ---- a tile, and what stands under it

  module _ (sane : Sane i) (real : (t : ℕ) → Real64 (get_or ns t empty)) (narrow : (t : ℕ) → wide_node (get_or ns t empty) ≡ false) where
    few-children : (a : Axis) (cs : List TileId) (ss ms : List Float) → wide_node (split a cs ss ms) ≡ false → length cs ≤ 16
    few-children a cs ss ms w = ltb-false 16 (length cs) (or_left (ltb 16 (length cs)) (ltb 16 (length ss) || ltb 16 (length ms)) (sym (or_assoc (ltb 16 (length cs)) (ltb 16 (length ss)) (ltb 16 (length ms))) ∙ w))

    -- a length that is solved, from the bound of the total
    lengths-small : (k : ℕ) (total : Float) (ls : List Float) → T (nonneg total) → Small ((1 + 1 + 1) * 2 ^ k) total → Each.All (λ x. T (le zero-f x) × T (le x total)) ls → Each.All (Small (1 * 2 ^ (k + 2))) ls
    lengths-small k total ls p s Each.none = Each.none
    lengths-small k total (l ∷ ls) p s (Each.more h hs) =
        Each.more
        (small-more ((1 + 1 + 1) * 2 ^ k) (1 * 2 ^ (k + 2)) l
        (le_trans (mul-le-mul_right (2 ^ k) (let q : 1 + 1 + 1 ≤ 4 = omega arith in q)) (le_of_eq (sym (pow-add 2 2 k) ∙ ap (λ (n : ℕ). 2 ^ n) (let q : 2 + k ≡ k + 2 = omega arith in q) ∙ sym (one-mul (2 ^ (k + 2))))))
        (small-between ((1 + 1 + 1) * 2 ^ k) l total h.0 h.1 p s))
        (lengths-small k total ls p s hs)

    start_small : (k : ℕ) (a : Axis) (r : Rect) → Bounded (1 * 2 ^ k) r → Small (1 * 2 ^ (k + 2)) (along_start a r)
    start_small k Horizontal r b = small-more (1 * 2 ^ k) (1 * 2 ^ (k + 2)) r.x0 (grow k 2) b.left
    start_small k Vertical r b = small-more (1 * 2 ^ k) (1 * 2 ^ (k + 2)) r.y0 (grow k 2) b.top

    pub tile-fair : (f k : ℕ) → 24 ≤ k → k + 8 * f ≤ 880 → (t : TileId) (r : Rect) → Bounded (1 * 2 ^ k) r → All (FairItem ns i) (layout_tile f ns i t r)
    unfolding layout_tile layout_split
    tile-fair zero k far near t r b = tt
    tile-fair (suc f) k far near t r b = go (λ c q u. tile-fair f (k + 8) (omega (arith, far)) (omega (arith, near)) c q u) (node_at ns t) refl
      where
        go : ((c : TileId) (q : Rect) → Bounded (1 * 2 ^ (k + 8)) q → All (FairItem ns i) (layout_tile f ns i c q)) → (n : Node) → node_at ns t ≡ n → All (FairItem ns i) (layout_node (layout_tile f ns i) n t r i)
        go under empty e = tt
        go under (pane p) e = (tt, ((1 * 2 ^ k, b), tt))
        go under (tabs x a ps) e =
            group-fair k (omega (arith, near)) t x a ps r (ltb-false 16 (length ps) (ap wide_node (sym e) ∙ narrow t.slot)) b
            (small-more (2 ^ 20) (1 * 2 ^ k) i.tab_bar_thickness (le_trans (pow_mono (let q : 20 ≤ k = omega (arith, far) in q)) (le_of_eq (sym (one-mul (2 ^ k))))) sane.bar)
        go under (split a cs ss ms) e =
            let few : length cs ≤ 16 = few-children a cs ss ms (ap wide_node (sym e) ∙ narrow t.slot) in
            let (fs, fm) = subst Real64 e (real t.slot) in
            let M = split-meets k far (omega (arith, near)) a (length cs) few r i b sane ss ms fs fm in
            kids-fair k (omega (arith, near)) t a cs ss ms e few r b i.split_handle_thickness
            (small-more (2 ^ 20) (1 * 2 ^ (k + 2)) i.split_handle_thickness (le_trans (pow_mono (let q : 20 ≤ k + 2 = omega (arith, far) in q)) (le_of_eq (sym (one-mul (2 ^ (k + 2)))))) sane.handle) M
            (layout_tile f ns i) under 0 cs (split_lengths a (length cs) ss ms r i).lengths (along_start a r) refl refl
            (lengths-small k (child_total a (length cs) r i) (split_lengths a (length cs) ss ms r i).lengths (total-good k far (omega (arith, near)) a (length cs) few r i b sane).sign
            (total-small k far (omega (arith, near)) a (length cs) few r i b sane) M.inside)
            (start_small k a r b)
