-- The frame. From tree.rs, 315 to 344 and 935 to 1124 (`layout`, `layout_tile`, `layout_tabs`, `layout_split`), frame.rs, 12 to 37 (LayoutFrame),
-- and document 01, 'Solver and frame': the input's limits, and the seven lists.
-- `layout_tile` makes one list of items here. Each list of the frame is the items of its kind, in their order; the paint order names each pane, bar,
-- tab and handle as it is made.
-- The layout is for sound trees: there the Rust's `visiting` and its filter of children that exist pass over nothing, and a split has two children or more.
-- Definitions only.
use Rattle.std.specs.Prelude.{Bool, true, false, ◌&&◌, List, [], ◌∷◌, ◌++◌, map, ℕ, zero, suc, ◌-◌, min, pos, eqb, length, get_or, Float}
use Rattle.std.specs.Float.{fin, binary64}
use Rattle.std.specs.Float.Ieee.{add, sub, mul, le}
use Rattle.rules.specs.Numbers.{zero-f, whole, larger, plus}
use Rattle.rules.specs.Tree.{Node, empty, pane, tabs, split, Arena, node_at, same_placement}
use Rattle.rules.specs.Shares.{repaired_shares}
use Rattle.rules.specs.Minima.{split_min_major}
use Rattle.rules.specs.Solver.{Lengths, solve_lengths_with_min}
use Rattle.rules.specs.Tabs.{rect, major_size, major_length, Barred, split_tab_bar, tab_rects}
use Rattle.rules.specs.Sound.{sound}
use Rattle.rules.specs.declared.model.TileId.{TileId}
use Rattle.rules.specs.declared.model.Axis.{Axis}
use Rattle.rules.specs.declared.model.Axis.TheVariants.{Horizontal, Vertical}
use Rattle.rules.specs.declared.model.TabBarPlacement.{TabBarPlacement}
use Rattle.rules.specs.declared.model.TabBarPlacement.TheVariants.{Hidden}
use Rattle.rules.specs.declared.frame.Rect.{Rect}
use Rattle.rules.specs.declared.frame.Size.{Size}
use Rattle.rules.specs.declared.frame.LayoutInput.{LayoutInput}
use Rattle.rules.specs.declared.frame.PaneFrame.{PaneFrame}
use Rattle.rules.specs.declared.frame.TabBarFrame.{TabBarFrame}
use Rattle.rules.specs.declared.frame.TabFrame.{TabFrame}
use Rattle.rules.specs.declared.frame.SplitChildFrame.{SplitChildFrame}
use Rattle.rules.specs.declared.frame.SplitHandleFrame.{SplitHandleFrame}
use Rattle.rules.specs.declared.frame.FrameItemId.{FrameItemId}
use Rattle.rules.specs.declared.frame.FrameItemId.TheVariants.{Pane, TabBar, Tab, SplitHandle}
use Rattle.rules.specs.Refusals.{Answer}
use Rattle.rules.specs.Refusals.{Accepted, Refused}
use Rattle.rules.specs.declared.refusal.Refusal.{Refusal}
use Rattle.rules.specs.declared.refusal.Refusal.TheVariants.{NotSound, BadInput}

-- ---- the input: coordinates from -2^20 to 2^20, edges not crossed; thicknesses and minima from 0 to 2^20; minus zero is read as zero

abbrev pub limit : Float
limit = fin false 1 (pos 20)

abbrev pub minus-limit : Float
minus-limit = fin true 1 (pos 20)

abbrev pub coordinate_ok : Float → Bool
coordinate_ok x = le minus-limit x && le x limit

abbrev pub thickness_ok : Float → Bool
thickness_ok x = le zero-f x && le x limit

abbrev pub bounds_ok : Rect → Bool
bounds_ok r = coordinate_ok r.x0 && coordinate_ok r.y0 && coordinate_ok r.x1 && coordinate_ok r.y1 && le r.x0 r.x1 && le r.y0 r.y1

abbrev pub size_ok : Size → Bool
size_ok s = thickness_ok s.width && thickness_ok s.height

unfoldable pub input_ok : LayoutInput → Bool
input_ok i = bounds_ok i.bounds && thickness_ok i.tab_bar_thickness && thickness_ok i.split_handle_thickness && size_ok i.min_pane_size

abbrev pub plus_rect : Rect → Rect
plus_rect r = rect (plus r.x0) (plus r.y0) (plus r.x1) (plus r.y1)

abbrev pub plus_size : Size → Size
plus_size s = record { width = plus s.width; height = plus s.height }

unfoldable pub plus_input : LayoutInput → LayoutInput
plus_input i =
    record { bounds = plus_rect i.bounds; tab_bar_thickness = plus i.tab_bar_thickness; split_handle_thickness = plus i.split_handle_thickness; min_pane_size = plus_size i.min_pane_size }

-- ---- items

pub data Item : Type 0 where
  focus_item : ℕ → Item
  pane_item : PaneFrame → Item
  bar_item : TabBarFrame → Item
  tab_item : TabFrame → Item
  child_item : SplitChildFrame → Item
  handle_item : SplitHandleFrame → Item

abbrev pub a_pane : ℕ → TileId → Rect → Item
a_pane p t r = pane_item (record { pane = p; tile = t; rect = r })

abbrev pub a_bar : TileId → Rect → TabBarPlacement → ℕ → Item
a_bar g r b p = bar_item (record { group = g; rect = r; placement = b; active_pane = p })

abbrev pub a_tab : TileId → ℕ → Rect → ℕ → Bool → Item
a_tab g p r i on = tab_item (record { group = g; pane = p; rect = r; index = i; active = on })

abbrev pub a_child : TileId → TileId → ℕ → Rect → Item
a_child s c i r = child_item (record { split = s; child = c; index = i; rect = r })

abbrev pub a_handle : TileId → ℕ → Axis → Rect → Item
a_handle s i a r = handle_item (record { split = s; handle = i; axis = a; rect = r })

-- ---- a group: its panes to the focus order, its bar and tabs unless it is Hidden, then its active pane

abbrev pub focus_items : List ℕ → List Item
focus_items ps = map focus_item ps

unfoldable pub tabs_from : TileId → ℕ → ℕ → List ℕ → List Rect → List Item
tabs_from g active i [] rs = []
tabs_from g active i (p ∷ ps) [] = []
tabs_from g active i (p ∷ ps) (r ∷ rs) = a_tab g p r i (eqb i active) ∷ tabs_from g active (suc i) ps rs

abbrev pub bar_items : Bool → TileId → TabBarPlacement → Rect → ℕ → List ℕ → List Item
bar_items true g b r active ps = []
bar_items false g b r active ps = a_bar g r b (get_or ps active 0) ∷ tabs_from g active 0 ps (tab_rects r b (length ps))

abbrev pub group_items : TileId → TabBarPlacement → ℕ → List ℕ → Barred → List Item
group_items g b active ps s = bar_items (same_placement b Hidden) g b s.bar active ps ++ a_pane (get_or ps active 0) g s.pane ∷ []

abbrev pub layout_tabs_by : TileId → TabBarPlacement → ℕ → List ℕ → Rect → LayoutInput → List Item
layout_tabs_by g b a [] r i = []
layout_tabs_by g b a (p ∷ ps) r i = group_items g b (min a (length ps)) (p ∷ ps) (split_tab_bar r b i.tab_bar_thickness)

unfoldable pub layout_tabs : TileId → TabBarPlacement → ℕ → List ℕ → Rect → LayoutInput → List Item
layout_tabs g b a ps r i = focus_items ps ++ layout_tabs_by g b a ps r i

-- ---- a split: each child's rectangle, what stands in it, and a handle after each but the last

-- from `at` on along the axis, `size` long, across the whole of r
abbrev pub along_rect : Axis → Rect → Float → Float → Rect
along_rect Horizontal r at size = rect at r.y0 (add binary64 at size) r.y1
along_rect Vertical r at size = rect r.x0 at r.x1 (add binary64 at size)

abbrev pub along_start : Axis → Rect → Float
along_start Horizontal r = r.x0
along_start Vertical r = r.y0

abbrev pub is_more : List TileId → Bool
is_more [] = false
is_more (c ∷ cs) = true

abbrev pub handle_by : Bool → TileId → Axis → Rect → Float → ℕ → Float → List Item
handle_by true s a r handle i at = a_handle s i a (along_rect a r at handle) ∷ []
handle_by false s a r handle i at = []

-- `again` lays a child out; `at` is the Rust's cursor
unfoldable pub layout_kids : (TileId → Rect → List Item) → TileId → Axis → Rect → Float → ℕ → List TileId → List Float → Float → List Item
layout_kids again s a r handle i [] ls at = []
layout_kids again s a r handle i (c ∷ cs) [] at = []
layout_kids again s a r handle i (c ∷ cs) (l ∷ ls) at =
    a_child s c i (along_rect a r at l) ∷
    (again c (along_rect a r at l) ++
    (handle_by (is_more cs) s a r handle i (add binary64 at l) ++
    layout_kids again s a r handle (suc i) cs ls (add binary64 (add binary64 at l) handle)))

-- the length left after the handles, zero if they take more
abbrev pub child_total : Axis → ℕ → Rect → LayoutInput → Float
child_total a n r i = larger (sub binary64 (major_length r a) (mul binary64 i.split_handle_thickness (whole (n - 1)))) zero-f

-- a child's minimum: the larger of the default for the axis and its own
abbrev pub child_minima : Axis → ℕ → List Float → LayoutInput → List Float
child_minima a n ms i = split_min_major n ms (major_size i.min_pane_size a)

-- the solved lengths of a split's children in a rectangle, with the solver's passes
abbrev pub split_lengths : Axis → ℕ → List Float → List Float → Rect → LayoutInput → Lengths
split_lengths a n ss ms r i = solve_lengths_with_min (child_total a n r i) (repaired_shares n ss) (child_minima a n ms i)

unfoldable pub layout_split : (TileId → Rect → List Item) → TileId → Axis → List TileId → List Float → List Float → Rect → LayoutInput → List Item
layout_split again s a cs ss ms r i =
    layout_kids again s a r i.split_handle_thickness 0 cs (split_lengths a (length cs) ss ms r i).lengths (along_start a r)

-- ---- a tile

abbrev pub layout_node : (TileId → Rect → List Item) → Node → TileId → Rect → LayoutInput → List Item
layout_node again empty t r i = []
layout_node again (pane p) t r i = focus_item p ∷ a_pane p t r ∷ []
layout_node again (tabs b a ps) t r i = layout_tabs t b a ps r i
layout_node again (split a cs ss ms) t r i = layout_split again t a cs ss ms r i

-- nesting stays within 64 on a sound tree (document 01, 'Port order and changed shapes')
unfoldable pub layout_tile : ℕ → List Node → LayoutInput → TileId → Rect → List Item
layout_tile zero ns i t r = []
layout_tile (suc f) ns i t r = layout_node (layout_tile f ns i) (node_at ns t) t r i

-- ---- the lists, as the items of a kind

pub record Frame : Type 0 where
  pub panes : List PaneFrame
  pub tab_bars : List TabBarFrame
  pub tabs : List TabFrame
  pub split_children : List SplitChildFrame
  pub split_handles : List SplitHandleFrame
  pub focus_order : List ℕ
  pub paint_order : List FrameItemId

abbrev pub pane_of : Item → List PaneFrame
pane_of (focus_item p) = []
pane_of (pane_item f) = f ∷ []
pane_of (bar_item f) = []
pane_of (tab_item f) = []
pane_of (child_item f) = []
pane_of (handle_item f) = []

abbrev pub bar_of : Item → List TabBarFrame
bar_of (focus_item p) = []
bar_of (pane_item f) = []
bar_of (bar_item f) = f ∷ []
bar_of (tab_item f) = []
bar_of (child_item f) = []
bar_of (handle_item f) = []

abbrev pub tab_of : Item → List TabFrame
tab_of (focus_item p) = []
tab_of (pane_item f) = []
tab_of (bar_item f) = []
tab_of (tab_item f) = f ∷ []
tab_of (child_item f) = []
tab_of (handle_item f) = []

abbrev pub child_of : Item → List SplitChildFrame
child_of (focus_item p) = []
child_of (pane_item f) = []
child_of (bar_item f) = []
child_of (tab_item f) = []
child_of (child_item f) = f ∷ []
child_of (handle_item f) = []

abbrev pub handle_of : Item → List SplitHandleFrame
handle_of (focus_item p) = []
handle_of (pane_item f) = []
handle_of (bar_item f) = []
handle_of (tab_item f) = []
handle_of (child_item f) = []
handle_of (handle_item f) = f ∷ []

abbrev pub focus_of : Item → List ℕ
focus_of (focus_item p) = p ∷ []
focus_of (pane_item f) = []
focus_of (bar_item f) = []
focus_of (tab_item f) = []
focus_of (child_item f) = []
focus_of (handle_item f) = []

abbrev pub paint_of : Item → List FrameItemId
paint_of (focus_item p) = []
paint_of (pane_item f) = Pane f.pane ∷ []
paint_of (bar_item f) = TabBar f.group ∷ []
paint_of (tab_item f) = Tab f.group f.pane ∷ []
paint_of (child_item f) = []
paint_of (handle_item f) = SplitHandle f.split f.handle ∷ []

unfoldable pub gather : {A : Type 0} → (Item → List A) → List Item → List A
gather f [] = []
gather f (x ∷ xs) = f x ++ gather f xs

abbrev pub frame_of : List Item → Frame
frame_of xs =
    record { panes = gather pane_of xs; tab_bars = gather bar_of xs; tabs = gather tab_of xs; split_children = gather child_of xs; split_handles = gather handle_of xs; focus_order = gather focus_of xs; paint_order = gather paint_of xs }

-- ---- the public call: 4, then 5; a refused layout has empty lists. The frame's revision is the tree's

pub record Laid : Type 0 where
  pub answer : Answer
  pub revision : ℕ
  pub frame : Frame

abbrev pub refused_layout : Refusal → Arena → Laid
refused_layout e a = record { answer = Refused e; revision = a.revision; frame = frame_of [] }

abbrev pub layout_items : Arena → LayoutInput → List Item
layout_items a i = layout_tile 64 a.nodes i a.root i.bounds

abbrev pub layout_input_by : Bool → Arena → LayoutInput → Laid
layout_input_by true a i = record { answer = Accepted; revision = a.revision; frame = frame_of (layout_items a (plus_input i)) }
layout_input_by false a i = refused_layout BadInput a

abbrev pub layout_by : Bool → Arena → LayoutInput → Laid
layout_by true a i = layout_input_by (input_ok i) a i
layout_by false a i = refused_layout NotSound a

unfoldable pub layout : Arena → LayoutInput → Laid
layout a i = layout_by (sound a) a i
