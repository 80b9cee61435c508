-- The stream that the layout writes: for each item five numbers and a rectangle, in two arrays of 2,304 places. Definitions only.
use Rattle.std.specs.Prelude.{Bool, true, false, List, [], ◌∷◌, ℕ, zero, suc, ◌+◌, ltb, get_or, set, take, Float}
use Rattle.std.specs.Float.{nan}
use Rattle.rules.specs.Numbers.{zero-f}
use Rattle.rules.specs.Tabs.{rect}
use Rattle.rules.specs.Tree.{tile, bar_code, axis_code}
use Rattle.rules.specs.Frame.{Item, focus_item, pane_item, bar_item, tab_item, child_item, handle_item, a_pane, a_bar, a_tab, a_child, a_handle}
use Rattle.rules.specs.declared.model.TileId.{TileId}
use Rattle.rules.specs.declared.model.Axis.{Axis}
use Rattle.rules.specs.declared.frame.Rect.{Rect}
use Rattle.columns.specs.Columns.{bar_from, axis_from}
use Rattle.streaming.specs.declared.stream.Entry.{Entry}
use Rattle.streaming.specs.declared.stream.Entry.TheVariants.{Focus, Pane, TabBar, Tab, SplitChild, SplitHandle}

-- ---- an entry as the rule's item

abbrev pub item_of : Entry → Item
item_of (Focus p) = focus_item p
item_of (Pane f) = pane_item f
item_of (TabBar f) = bar_item f
item_of (Tab f) = tab_item f
item_of (SplitChild f) = child_item f
item_of (SplitHandle f) = handle_item f

-- ---- an item as numbers: its kind, its tile, the pane (or a split's child), the index, and the mode (a bar's placement, a tab's being active, a handle's axis)

abbrev pub row : ℕ → ℕ → ℕ → ℕ → ℕ → List ℕ
row k t p i m = k ∷ t ∷ p ∷ i ∷ m ∷ []

abbrev pub sides : Rect → List Float
sides r = r.x0 ∷ r.y0 ∷ r.x1 ∷ r.y1 ∷ []

abbrev pub no_rect : Rect
no_rect = rect zero-f zero-f zero-f zero-f

abbrev pub flag_code : Bool → ℕ
flag_code true = 1
flag_code false = 0

abbrev pub code_of : Item → List ℕ
code_of (focus_item p) = row 0 0 p 0 0
code_of (pane_item f) = row 1 f.tile.slot f.pane 0 0
code_of (bar_item f) = row 2 f.group.slot f.active_pane 0 (bar_code f.placement)
code_of (tab_item f) = row 3 f.group.slot f.pane f.index (flag_code f.active)
code_of (child_item f) = row 4 f.split.slot f.child.slot f.index 0
code_of (handle_item f) = row 5 f.split.slot 0 f.handle (axis_code f.axis)

-- a pane in the focus order has no rectangle: zeros stand for it
abbrev pub rect_of : Item → Rect
rect_of (focus_item p) = no_rect
rect_of (pane_item f) = f.rect
rect_of (bar_item f) = f.rect
rect_of (tab_item f) = f.rect
rect_of (child_item f) = f.rect
rect_of (handle_item f) = f.rect

abbrev pub sides_of : Item → List Float
sides_of x = sides (rect_of x)

-- ---- and back

abbrev pub flag_from : ℕ → Bool
flag_from zero = false
flag_from (suc n) = true

-- of a row of four; a NaN would stand for a missing number
abbrev pub rect_from : List Float → Rect
rect_from q = rect (get_or q 0 nan) (get_or q 1 nan) (get_or q 2 nan) (get_or q 3 nan)

-- a kind past the last is a handle
abbrev pub item_by : ℕ → List ℕ → Rect → Item
item_by zero c r = focus_item (get_or c 2 0)
item_by (suc zero) c r = a_pane (get_or c 2 0) (tile (get_or c 1 0)) r
item_by (suc (suc zero)) c r = a_bar (tile (get_or c 1 0)) r (bar_from (get_or c 4 0)) (get_or c 2 0)
item_by (suc (suc (suc zero))) c r = a_tab (tile (get_or c 1 0)) (get_or c 2 0) r (get_or c 3 0) (flag_from (get_or c 4 0))
item_by (suc (suc (suc (suc zero)))) c r = a_child (tile (get_or c 1 0)) (tile (get_or c 2 0)) (get_or c 3 0) r
item_by (suc (suc (suc (suc (suc n))))) c r = a_handle (tile (get_or c 1 0)) (get_or c 3 0) (axis_from (get_or c 4 0)) r

abbrev pub item_from : List ℕ → List Float → Item
item_from c q = item_by (get_or c 0 0) c (rect_from q)

unfoldable pub items_from : List (List ℕ) → List (List Float) → List Item
items_from [] qs = []
items_from (c ∷ cs) [] = []
items_from (c ∷ cs) (q ∷ qs) = item_from c q ∷ items_from cs qs

-- ---- the arrays, and how far they are in use

pub record Stream : Type 0 where
  pub items : List (List ℕ)
  pub rects : List (List Float)
  pub len : ℕ

abbrev pub stream : List (List ℕ) → List (List Float) → ℕ → Stream
stream cs qs n = record { items = cs; rects = qs; len = n }

-- what stands in the part in use
abbrev pub items_in : Stream → List Item
items_in s = items_from (take s.len s.items) (take s.len s.rects)

-- one entry more, where there is room
abbrev pub push_by : Bool → List ℕ → List Float → Stream → Stream
push_by true c q s = stream (set s.items s.len c) (set s.rects s.len q) (s.len + 1)
push_by false c q s = s

abbrev pub push_row : List ℕ → List Float → Stream → Stream
push_row c q s = push_by (ltb s.len 2304) c q s

abbrev pub push_item : Item → Stream → Stream
push_item x s = push_row (code_of x) (sides_of x) s

-- one after another
unfoldable pub push_all : List Item → Stream → Stream
push_all [] s = s
push_all (x ∷ xs) s = push_all xs (push_item x s)

-- the handle after a child, where more children follow: the rule's handle_by, with the handle's rectangle made
abbrev pub handle_if : Bool → TileId → ℕ → Axis → Rect → List Item
handle_if true s i a r = a_handle s i a r ∷ []
handle_if false s i a r = []
