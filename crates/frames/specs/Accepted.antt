-- Demand 3 of every accepted layout, and that each split of a sound tree is in its frame. Assumes nothing.
use Rattle.std.specs.Prelude.{◌≡◌, refl, ◌⊎◌, Bool, true, false, ◌&&◌, ◌||◌, cond, List, [], ◌∷◌, ℕ, zero, ◌*◌, ◌^◌, ◌≤◌, ◌<◌, suc, eqb, ltb, length, get_or, Float}
use Rattle.std.proofs.Common.{sym, ap, subst, ◌∙◌, inl, inr, arith, ltb-true, eqb→eq}
use Rattle.std.proofs.Math.Decide.{ℕ_discrete}
use Rattle.std.proofs.Math.Dec.{T}
use Rattle.std.proofs.Math.ListN.{get_or-map}
use Rattle.std.specs.Float.{nan, inf, fin}
use Rattle.std.specs.Float.Ieee.{binary64, up, down, lt, le, eq, fits}
use Rattle.std.specs.Float.Ieee.Fits.{and_i, and_l, and_r, cond-fits}
use Rattle.std.specs.Float.Ieee.Scale.{finite}
use Rattle.rules.specs.Numbers.{zero-f, plus, minimum_ok}
use Rattle.rules.specs.Tree.{Node, empty, Arena, wide_node, reading_from, Member}
use Rattle.rules.specs.Sound.{sound}
use Rattle.rules.specs.Tabs.{major_size}
use Rattle.rules.specs.Frame.{Item, focus_item, pane_item, bar_item, tab_item, child_item, handle_item, limit, minus-limit, coordinate_ok, thickness_ok, bounds_ok, size_ok, input_ok, plus_input, child_total, child_minima, split_lengths, child_of, gather, layout_items, layout_by, layout_input_by, layout, Frame, frame_of, pane_of, bar_of, tab_of, handle_of}
use Rattle.rules.specs.declared.model.TileId.{TileId}
use Rattle.rules.specs.Refusals.{Accepted}
use Rattle.rules.specs.declared.model.Axis.{Axis}
use Rattle.rules.specs.declared.model.Axis.TheVariants.{Horizontal, Vertical}
use Rattle.rules.specs.declared.frame.LayoutInput.{LayoutInput}
use Rattle.rules.specs.declared.frame.PaneFrame.{PaneFrame}
use Rattle.rules.specs.declared.frame.TabBarFrame.{TabBarFrame}
use Rattle.rules.specs.declared.frame.TabFrame.{TabFrame}
use Rattle.rules.specs.declared.frame.SplitChildFrame.{SplitChildFrame}
use Rattle.rules.specs.declared.frame.SplitHandleFrame.{SplitHandleFrame}
use Rattle.rules.specs.Solver.{sum_of}
use Rattle.forest.specs.Answers.{refused-not}
use Rattle.forest.specs.Lists.{member-all, All, all_append}
use Rattle.forest.specs.Quiet.{plain_node, plain_nodes, wide-plain}
use Rattle.forest.specs.Settled.{Lone}
use Rattle.forest.specs.SoundCases.{Plain, sound-cases}
use Rattle.number.specs.Arithmetic.{zero-fits}
use Rattle.frames.specs.Fits.{narrow_at}
use Rattle.frames.specs.Sizes.{Small, small-more, small-finite, small-zero}
use Rattle.frames.specs.Finite.{Finite}
use Rattle.frames.specs.Splits.{Bounded, Sane}
use Rattle.solver.specs.Demand.{Over, no_pairs, pair}
use Rattle.number.specs.Each.{all-at}
use Rattle.frames.specs.Counted.{lengths-counted}
use Rattle.frames.specs.Splitwise.{Children, every-child}
use Rattle.frames.specs.Demand.{Fair, FairItem, Real64, tile-fair}

-- ---- good input is not huge

below-or-at : (a b : ℕ) (c d : Bool) → T (ltb a b || (eqb a b && (c || d))) → a ≤ b
below-or-at a b c d t = go (ltb a b) refl t
  where
    go : (x : Bool) → ltb a b ≡ x → T (x || (eqb a b && (c || d))) → a ≤ b
    go true e t' = let h = ltb-true a b e in omega (arith, h)
    go false e t' = let h = eqb→eq a b (and_l (eqb a b) (c || d) t') in omega (arith, h)

below-or-level : (a b : ℕ) (c : Bool) → T (ltb a b || (eqb b a && c)) → a ≤ b
below-or-level a b c t = go (ltb a b) refl t
  where
    go : (x : Bool) → ltb a b ≡ x → T (x || (eqb b a && c)) → a ≤ b
    go true e t' = let h = ltb-true a b e in omega (arith, h)
    go false e t' = let h = eqb→eq b a (and_l (eqb b a) c t') in omega (arith, h)

-- from minus 2 ^ 20 to 2 ^ 20
coordinate-small : (x : Float) → T (coordinate_ok x) → Small (2 ^ 20) x
unfolding le lt eq
coordinate-small nan t = absurd t
coordinate-small (inf true) t = absurd t
coordinate-small (inf false) t = absurd (and_r (le minus-limit (inf false)) (le (inf false) limit) t)
coordinate-small (fin false m e) t =
    let h = below-or-at (m * up e * 1) (1 * 2 ^ 20 * down e) true (eqb (m * up e * 1) 0) (and_r (le minus-limit (fin false m e)) (le (fin false m e) limit) t) in
    omega (arith, h)
coordinate-small (fin true m e) t =
    let h = below-or-level (m * up e * 1) (1 * 2 ^ 20 * down e) (true || eqb (1 * 2 ^ 20 * down e) 0) (and_l (le minus-limit (fin true m e)) (le (fin true m e) limit) t) in
    omega (arith, h)

-- from zero to 2 ^ 20
thickness-small : (x : Float) → T (thickness_ok x) → Small (2 ^ 20) x
unfolding le lt eq
thickness-small nan t = absurd t
thickness-small (inf true) t = absurd t
thickness-small (inf false) t = absurd t
thickness-small (fin false m e) t =
    let h = below-or-at (m * up e * 1) (1 * 2 ^ 20 * down e) true (eqb (m * up e * 1) 0) (and_r (le zero-f (fin false m e)) (le (fin false m e) limit) t) in
    omega (arith, h)
thickness-small (fin true m e) t =
    let z : 0 * 1 * down e ≡ m * up e * 1 = eqb→eq (0 * 1 * down e) (m * up e * 1) (and_l (eqb (0 * 1 * down e) (m * up e * 1)) (eqb (0 * 1 * down e) 0) (and_l (le zero-f (fin true m e)) (le (fin true m e) limit) t)) in
    omega (arith, z)

plus-small : (b : ℕ) (x : Float) → Small b x → Small b (plus x)
plus-small b x s = go (eq x zero-f)
  where
    go : (c : Bool) → Small b (cond c zero-f x)
    go true = small-zero b
    go false = s

thickness-ok : (x : Float) → T (thickness_ok x) → T (minimum_ok (plus x))
unfolding le lt eq
thickness-ok x t = go (eq x zero-f)
  where
    go : (c : Bool) → T (minimum_ok (cond c zero-f x))
    go true = tt
    go false = and_i (finite x) (le zero-f x) (small-finite (2 ^ 20) x (thickness-small x t)) (and_l (le zero-f x) (le x limit) t)

-- the numbers of an input are binary64's
pub record InputReal (i : LayoutInput) : Type 0 where
  pub wide : T (fits binary64 i.min_pane_size.width)
  pub high : T (fits binary64 i.min_pane_size.height)

module _ (i : LayoutInput) (ok : T (input_ok i)) where
  parts : T (bounds_ok i.bounds) × T (thickness_ok i.tab_bar_thickness) × T (thickness_ok i.split_handle_thickness) × T (size_ok i.min_pane_size)
  unfolding input_ok
  parts =
      let b = bounds_ok i.bounds in
      let t = thickness_ok i.tab_bar_thickness in
      let h = thickness_ok i.split_handle_thickness in
      let m = size_ok i.min_pane_size in
      let x = and_l (b && t && h) m ok in
      let y = and_l (b && t) h x in
      (and_l b t y, and_r b t y, and_r (b && t) h x, and_r (b && t && h) m ok)

  edge : (x : Float) → T (coordinate_ok x) → Small (1 * 2 ^ 24) (plus x)
  edge x t = small-more (2 ^ 20) (1 * 2 ^ 24) (plus x) (omega arith) (plus-small (2 ^ 20) x (coordinate-small x t))

  pub input-bounded : Bounded (1 * 2 ^ 24) (plus_input i).bounds
  unfolding plus_input
  input-bounded =
      let r = i.bounds in
      let a = coordinate_ok r.x0 in
      let b = coordinate_ok r.y0 in
      let c = coordinate_ok r.x1 in
      let d = coordinate_ok r.y1 in
      let t = and_l (a && b && c && d) (le r.x0 r.x1) (and_l (a && b && c && d && le r.x0 r.x1) (le r.y0 r.y1) parts.0) in
      let u = and_l (a && b && c) d t in
      let v = and_l (a && b) c u in
      record { left = edge r.x0 (and_l a b v); top = edge r.y0 (and_r a b v); right = edge r.x1 (and_r (a && b) c u); bottom = edge r.y1 (and_r (a && b && c) d t) }

  plus-fits : (x : Float) → T (fits binary64 x) → T (fits binary64 (plus x))
  plus-fits x f = cond-fits binary64 (eq x zero-f) zero-f x (zero-fits binary64) f

  pub input-sane : InputReal i → Sane (plus_input i)
  unfolding plus_input
  input-sane R =
      let s = i.min_pane_size in
      record { minima = go; handle = plus-small (2 ^ 20) i.split_handle_thickness (thickness-small i.split_handle_thickness parts.2); bar = plus-small (2 ^ 20) i.tab_bar_thickness (thickness-small i.tab_bar_thickness parts.1) }
    where
      go : (a : Axis) → T (fits binary64 (major_size (plus_input i).min_pane_size a)) × T (minimum_ok (major_size (plus_input i).min_pane_size a))
      go Horizontal = (plus-fits i.min_pane_size.width R.wide, thickness-ok i.min_pane_size.width (and_l (thickness_ok i.min_pane_size.width) (thickness_ok i.min_pane_size.height) parts.3))
      go Vertical = (plus-fits i.min_pane_size.height R.high, thickness-ok i.min_pane_size.height (and_r (thickness_ok i.min_pane_size.width) (thickness_ok i.min_pane_size.height) parts.3))

-- ---- no list of a sound arena is too wide

lone-narrow : (ns : List Node) (r : TileId) → Lone ns r → (t : ℕ) → Dec (t ≡ r.slot) → wide_node (get_or ns t empty) ≡ false
lone-narrow ns r L t (yes e) = ap (λ (k : ℕ). wide_node (get_or ns k empty)) e ∙ ap wide_node L.is
lone-narrow ns r L t (no n) = ap wide_node (L.rest t n)

pub sound-narrow : (a : Arena) → length a.nodes ≡ 64 → sound a ≡ true → (t : ℕ) → wide_node (get_or a.nodes t empty) ≡ false
sound-narrow a size e t = go (sound-cases a size e)
  where
    go : Plain a ⊎ Lone a.nodes a.root → wide_node (get_or a.nodes t empty) ≡ false
    go (inl P) = sym (wide-plain (get_or a.nodes t empty)) ∙ ap wide_node (sym (get_or-map plain_node a.nodes t empty)) ∙ narrow_at (plain_nodes a.nodes) t P.narrow
    go (inr L) = lone-narrow a.nodes a.root L t (ℕ_discrete t a.root.slot)

-- ---- the whole

children-fair : (ns : List Node) (i : LayoutInput) (xs : List Item) → All (FairItem ns i) xs → All (Fair ns i) (gather child_of xs)
unfolding gather
children-fair ns i [] f = tt
children-fair ns i (focus_item p ∷ xs) f = children-fair ns i xs f.1
children-fair ns i (pane_item x ∷ xs) f = children-fair ns i xs f.1
children-fair ns i (bar_item x ∷ xs) f = children-fair ns i xs f.1
children-fair ns i (tab_item x ∷ xs) f = children-fair ns i xs f.1
children-fair ns i (child_item x ∷ xs) f = (f.0.1, children-fair ns i xs f.1)
children-fair ns i (handle_item x ∷ xs) f = children-fair ns i xs f.1

-- the numbers of an arena are binary64's
abbrev pub Reals64 : Arena → Type 0
Reals64 a = (t : ℕ) → Real64 (get_or a.nodes t empty)

pub laid-is : (a : Arena) (i : LayoutInput) → (layout a i).answer ≡ Accepted → (sound a ≡ true) × T (input_ok i) × ((layout a i).frame ≡ frame_of (layout_items a (plus_input i)))
unfolding layout
laid-is a i e = go (sound a) (input_ok i) refl refl e
  where
    go : (s t : Bool) → sound a ≡ s → input_ok i ≡ t → (layout_by s a i).answer ≡ Accepted → (sound a ≡ true) × T (input_ok i) × ((layout_by s a i).frame ≡ frame_of (layout_items a (plus_input i)))
    go true true p q u = (p, subst T (sym q) tt, ap (λ (b : Bool). (layout_input_by b a i).frame) q)
    go true false p q u = refused-not (let z : (layout_input_by false a i).answer ≡ Accepted = ap (λ (b : Bool). (layout_input_by b a i).answer) (sym q) ∙ u in z)
    go false t p q u = refused-not u

-- every item of an accepted layout is finite, and a child's entry is fair
pub items-fair : (a : Arena) (i : LayoutInput) → length a.nodes ≡ 64 → Reals64 a → InputReal i → sound a ≡ true → T (input_ok i) → All (FairItem a.nodes (plus_input i)) (layout_items a (plus_input i))
items-fair a i size R N s ok =
    tile-fair a.nodes (plus_input i) (input-sane i ok N) R (sound-narrow a size s) 64 24 (omega arith) (omega arith) a.root (plus_input i).bounds (input-bounded i ok)

-- DEMAND 3 of an accepted layout: each entry of the split children is a child of its split, in a rectangle made of its solved length, and the split's
-- solved lengths lie between zero and what its handles leave, hold the minima where their sum is below it, and took no more passes than it has children
pub frame-fair : (a : Arena) (i : LayoutInput) → length a.nodes ≡ 64 → Reals64 a → InputReal i → (layout a i).answer ≡ Accepted
    → All (Fair a.nodes (plus_input i)) (layout a i).frame.split_children
frame-fair a i size R N e =
    let (s, ok, f) = laid-is a i e in
    subst (λ (x : Frame). All (Fair a.nodes (plus_input i)) x.split_children) (sym f)
    (children-fair a.nodes (plus_input i) (layout_items a (plus_input i)) (items-fair a i size R N s ok))

-- ---- the same in the order's words

module _ {ns : List Node} {i : LayoutInput} {x : SplitChildFrame} (f : Fair ns i x) where
  -- the length left after the split's handles; the child's minimum and its solved length
  abbrev pub room : Float
  room = child_total f.axis (length f.children) f.within i

  abbrev pub least : Float
  least = get_or (child_minima f.axis (length f.children) f.minima i) x.index zero-f

  abbrev pub solved : Float
  solved = get_or (split_lengths f.axis (length f.children) f.shares f.minima f.within i).lengths x.index zero-f

  inside-many : x.index < length (split_lengths f.axis (length f.children) f.shares f.minima f.within i).lengths
  inside-many = let z = lengths-counted f.axis (length f.children) f.shares f.minima f.within i in omega (arith, f.counted, z)

  -- every child's solved length lies between zero and that length
  pub child-within : T (le zero-f solved) × T (le solved room)
  child-within = all-at x.index zero-f f.meets.inside inside-many

  -- if the left-to-right sum of the minima is below it, the solved length is at least the child's own minimum
  pub child-held : T (lt (sum_of (child_minima f.axis (length f.children) f.minima i)) room) → T (le least solved)
  child-held t = over-at x.index (f.meets.held t) (let z = lengths-counted f.axis (length f.children) f.shares f.minima f.within i in let y = f.meets.many in omega (arith, f.counted, z, y))
    where
      over-at : {ms xs : List Float} (k : ℕ) → Over ms xs → k < length ms → T (le (get_or ms k zero-f) (get_or xs k zero-f))
      over-at k no_pairs h = absurd (omega arith)
      over-at zero (pair p ps) h = p
      over-at (suc k) (pair p ps) h = over-at k ps (omega arith)

  -- the solver's passes number at most the children
  pub split-passes : (split_lengths f.axis (length f.children) f.shares f.minima f.within i).passes ≤ length f.children
  split-passes =
      let z = lengths-counted f.axis (length f.children) f.shares f.minima f.within i in
      let y = f.meets.many in
      let w = f.meets.few in
      omega (arith, z, y, w)

-- take any split that is read from the root, and any of its children: it has an entry in the frame, and the entry is fair
pub demand-3 : (a : Arena) (i : LayoutInput) → length a.nodes ≡ 64 → Reals64 a → InputReal i → (layout a i).answer ≡ Accepted
    → (u : TileId) → Member u (reading_from a.nodes a.root) → (j : ℕ) → j < Children a.nodes u
    → (x : SplitChildFrame) × Member x (layout a i).frame.split_children × (x.split ≡ u) × (x.index ≡ j) × Fair a.nodes (plus_input i) x
demand-3 a i size R N e u m j h =
    let (s, ok, f) = laid-is a i e in
    let (x, p, q, r) = every-child a (plus_input i) size s u m j h in
    let p' = subst (λ (y : Frame). Member x y.split_children) (sym f) p in
    (x, p', q, r, member-all (Fair a.nodes (plus_input i)) x (layout a i).frame.split_children p' (frame-fair a i size R N e))

-- ---- every rectangle of an accepted layout has finite edges

pub record AllFinite (f : Frame) : Type 0 where
  pub panes : All (λ (x : PaneFrame). Finite x.rect) f.panes
  pub tab-bars : All (λ (x : TabBarFrame). Finite x.rect) f.tab_bars
  pub tabs : All (λ (x : TabFrame). Finite x.rect) f.tabs
  pub split-children : All (λ (x : SplitChildFrame). Finite x.rect) f.split_children
  pub split-handles : All (λ (x : SplitHandleFrame). Finite x.rect) f.split_handles

-- what each item gives to a list is finite
gathered : {A : Type 0} (P : A → Type 0) (g : Item → List A) (Q : Item → Type 0) → ((x : Item) → Q x → All P (g x)) → (xs : List Item) → All Q xs → All P (gather g xs)
unfolding gather
gathered P g Q h [] f = tt
gathered P g Q h (x ∷ xs) f = all_append P (g x) (gather g xs) (h x f.0) (gathered P g Q h xs f.1)

module _ (ns : List Node) (i : LayoutInput) where
  of-pane : (x : Item) → FairItem ns i x → All (λ (y : PaneFrame). Finite y.rect) (pane_of x)
  of-pane (focus_item p) f = tt
  of-pane (pane_item y) f = (f, tt)
  of-pane (bar_item y) f = tt
  of-pane (tab_item y) f = tt
  of-pane (child_item y) f = tt
  of-pane (handle_item y) f = tt

  of-bar : (x : Item) → FairItem ns i x → All (λ (y : TabBarFrame). Finite y.rect) (bar_of x)
  of-bar (focus_item p) f = tt
  of-bar (pane_item y) f = tt
  of-bar (bar_item y) f = (f, tt)
  of-bar (tab_item y) f = tt
  of-bar (child_item y) f = tt
  of-bar (handle_item y) f = tt

  of-tab : (x : Item) → FairItem ns i x → All (λ (y : TabFrame). Finite y.rect) (tab_of x)
  of-tab (focus_item p) f = tt
  of-tab (pane_item y) f = tt
  of-tab (bar_item y) f = tt
  of-tab (tab_item y) f = (f, tt)
  of-tab (child_item y) f = tt
  of-tab (handle_item y) f = tt

  of-child : (x : Item) → FairItem ns i x → All (λ (y : SplitChildFrame). Finite y.rect) (child_of x)
  of-child (focus_item p) f = tt
  of-child (pane_item y) f = tt
  of-child (bar_item y) f = tt
  of-child (tab_item y) f = tt
  of-child (child_item y) f = (f.0, tt)
  of-child (handle_item y) f = tt

  of-handle : (x : Item) → FairItem ns i x → All (λ (y : SplitHandleFrame). Finite y.rect) (handle_of x)
  of-handle (focus_item p) f = tt
  of-handle (pane_item y) f = tt
  of-handle (bar_item y) f = tt
  of-handle (tab_item y) f = tt
  of-handle (child_item y) f = tt
  of-handle (handle_item y) f = (f, tt)

pub frame-finite : (a : Arena) (i : LayoutInput) → length a.nodes ≡ 64 → Reals64 a → InputReal i → (layout a i).answer ≡ Accepted → AllFinite (layout a i).frame
frame-finite a i size R N e =
    let (s, ok, f) = laid-is a i e in
    let F = items-fair a i size R N s ok in
    let ns = a.nodes in
    let j = plus_input i in
    let xs = layout_items a j in
    subst AllFinite (sym f)
    (record {
      panes = gathered (λ (x : PaneFrame). Finite x.rect) pane_of (FairItem ns j) (of-pane ns j) xs F;
      tab-bars = gathered (λ (x : TabBarFrame). Finite x.rect) bar_of (FairItem ns j) (of-bar ns j) xs F;
      tabs = gathered (λ (x : TabFrame). Finite x.rect) tab_of (FairItem ns j) (of-tab ns j) xs F;
      split-children = gathered (λ (x : SplitChildFrame). Finite x.rect) child_of (FairItem ns j) (of-child ns j) xs F;
      split-handles = gathered (λ (x : SplitHandleFrame). Finite x.rect) handle_of (FairItem ns j) (of-handle ns j) xs F;
    })
