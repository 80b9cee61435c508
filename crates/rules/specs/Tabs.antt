-- Rectangles, the tab bar and the tabs. From kurbo's Rect (`width`, `height`), util.rs, 9 to 93 (`split_tab_bar`, `tab_rects`) and 190 to 202
-- (`major_size`, `major_length`); document 01, 'Solver and frame'.
-- Definitions only.
use Rattle.std.specs.Prelude.{cond, List, ℕ, suc, eqb, Float}
use Rattle.std.specs.Float.{binary64}
use Rattle.std.specs.Float.Ieee.{add, sub, mul, div}
use Rattle.rules.specs.Numbers.{zero-f, whole, smaller}
use Rattle.rules.specs.Lists.{tabulate}
use Rattle.rules.specs.declared.frame.Rect.{Rect}
use Rattle.rules.specs.declared.frame.Size.{Size}
use Rattle.rules.specs.declared.model.Axis.{Axis}
use Rattle.rules.specs.declared.model.Axis.TheVariants.{Horizontal, Vertical}
use Rattle.rules.specs.declared.model.TabBarPlacement.{TabBarPlacement}
use Rattle.rules.specs.declared.model.TabBarPlacement.TheVariants.{Hidden, Top, Bottom, Left, Right}

abbrev pub rect : Float → Float → Float → Float → Rect
rect a b c d = record { x0 = a; y0 = b; x1 = c; y1 = d }

abbrev pub width : Rect → Float
width r = sub binary64 r.x1 r.x0

abbrev pub height : Rect → Float
height r = sub binary64 r.y1 r.y0

abbrev pub major_size : Size → Axis → Float
major_size s Horizontal = s.width
major_size s Vertical = s.height

abbrev pub major_length : Rect → Axis → Float
major_length r Horizontal = width r
major_length r Vertical = height r

-- ---- the bar and what it leaves to the pane

pub record Barred : Type 0 where
  pub bar : Rect
  pub pane : Rect

abbrev pub barred : Rect → Rect → Barred
barred b p = record { bar = b; pane = p }

abbrev pub top_bar : Rect → Float → Barred
top_bar r t = barred (rect r.x0 r.y0 r.x1 (add binary64 r.y0 t)) (rect r.x0 (add binary64 r.y0 t) r.x1 r.y1)

abbrev pub bottom_bar : Rect → Float → Barred
bottom_bar r t = barred (rect r.x0 (sub binary64 r.y1 t) r.x1 r.y1) (rect r.x0 r.y0 r.x1 (sub binary64 r.y1 t))

abbrev pub left_bar : Rect → Float → Barred
left_bar r t = barred (rect r.x0 r.y0 (add binary64 r.x0 t) r.y1) (rect (add binary64 r.x0 t) r.y0 r.x1 r.y1)

abbrev pub right_bar : Rect → Float → Barred
right_bar r t = barred (rect (sub binary64 r.x1 t) r.y0 r.x1 r.y1) (rect r.x0 r.y0 (sub binary64 r.x1 t) r.y1)

-- a bar takes at most the rectangle
unfoldable pub split_tab_bar : Rect → TabBarPlacement → Float → Barred
split_tab_bar r Hidden t = barred (rect zero-f zero-f zero-f zero-f) r
split_tab_bar r Top t = top_bar r (smaller t (height r))
split_tab_bar r Bottom t = bottom_bar r (smaller t (height r))
split_tab_bar r Left t = left_bar r (smaller t (width r))
split_tab_bar r Right t = right_bar r (smaller t (width r))

-- ---- the tabs divide the bar evenly, and the last ends where the bar does

-- from `lo` on, tabs of size `each`, the last up to `hi`: the start and the end of the tab at an index
abbrev pub tab_start : Float → Float → ℕ → Float
tab_start lo each i = add binary64 lo (mul binary64 each (whole i))

abbrev pub tab_end : Float → Float → Float → ℕ → ℕ → Float
tab_end lo hi each count i = cond (eqb (suc i) count) hi (add binary64 (tab_start lo each i) each)

abbrev pub tab_across : Rect → ℕ → ℕ → Rect
tab_across r n i = rect (tab_start r.x0 (div binary64 (width r) (whole n)) i) r.y0 (tab_end r.x0 r.x1 (div binary64 (width r) (whole n)) n i) r.y1

abbrev pub tab_down : Rect → ℕ → ℕ → Rect
tab_down r n i = rect r.x0 (tab_start r.y0 (div binary64 (height r) (whole n)) i) r.x1 (tab_end r.y0 r.y1 (div binary64 (height r) (whole n)) n i)

abbrev pub tab_rect : TabBarPlacement → Rect → ℕ → ℕ → Rect
tab_rect Hidden r n i = tab_across r n i
tab_rect Top r n i = tab_across r n i
tab_rect Bottom r n i = tab_across r n i
tab_rect Left r n i = tab_down r n i
tab_rect Right r n i = tab_down r n i

unfoldable pub tab_rects : Rect → TabBarPlacement → ℕ → List Rect
tab_rects r placement n = tabulate (tab_rect placement r n) n
