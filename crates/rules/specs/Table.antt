-- The spec table: bytes to rows, panes, shares and minima. From document 01, 'Spec bytes' (the Rust's TileSpec is recursive; this is its flat form).
-- Definitions only.
use Rattle.std.specs.Prelude.{Bool, true, false, ◌&&◌, List, [], ◌∷◌, map, ℕ, zero, suc, ◌+◌, ◌*◌, leb, eqb, length, take, drop, Float}
use Rattle.std.proofs.Math.Option.{Option, none, some}
use Rattle.std.specs.Float.{binary64}
use Rattle.std.specs.Float.Ieee.{of_bits}
use Rattle.rules.specs.declared.model.Axis.{Axis}
use Rattle.rules.specs.declared.model.Axis.TheVariants.{Horizontal, Vertical}
use Rattle.rules.specs.declared.model.TabBarPlacement.{TabBarPlacement}
use Rattle.rules.specs.declared.model.TabBarPlacement.TheVariants.{Hidden, Top, Bottom, Left, Right}

-- ---- numbers of little-endian bytes

unfoldable pub little_endian : List ℕ → ℕ
little_endian [] = 0
little_endian (b ∷ bs) = b + 256 * little_endian bs

-- the number of w bytes that begins at a place
abbrev pub number_at : ℕ → ℕ → List ℕ → ℕ
number_at w i bs = little_endian (take w (drop i bs))

-- ---- a section: a 32-bit count, then that many entries of w bytes; and what comes after it

pub record Section : Type 0 where
  pub entries : List (List ℕ)
  pub rest : List ℕ

unfoldable pub chunks : ℕ → ℕ → List ℕ → List (List ℕ)
chunks w zero bs = []
chunks w (suc n) bs = take w bs ∷ chunks w n (drop w bs)

abbrev pub section_of : Bool → ℕ → ℕ → List ℕ → Option Section
section_of true w n bs = some (record { entries = chunks w n bs; rest = drop (w * n) bs })
section_of false w n bs = none

abbrev pub section_by : Bool → ℕ → List ℕ → Option Section
section_by true w bs = section_of (leb (w * number_at 4 0 bs) (length (drop 4 bs))) w (number_at 4 0 bs) (drop 4 bs)
section_by false w bs = none

unfoldable pub section : ℕ → List ℕ → Option Section
section w bs = section_by (leb 4 (length bs)) w bs

-- ---- a row

pub data Row : Type 0 where
  pane_row : Row
  -- placement, panes, active
  tabs_row : TabBarPlacement → ℕ → ℕ → Row
  -- axis, children, shares, minima
  split_row : Axis → ℕ → ℕ → ℕ → Row

abbrev pub bar_of : ℕ → Option TabBarPlacement
bar_of zero = some Hidden
bar_of (suc zero) = some Top
bar_of (suc (suc zero)) = some Bottom
bar_of (suc (suc (suc zero))) = some Left
bar_of (suc (suc (suc (suc zero)))) = some Right
bar_of (suc (suc (suc (suc (suc n))))) = none

abbrev pub axis_of : ℕ → Option Axis
axis_of zero = some Horizontal
axis_of (suc zero) = some Vertical
axis_of (suc (suc n)) = none

abbrev pub pane_if : Bool → Option Row
pane_if true = some pane_row
pane_if false = none

abbrev pub tabs_if : Bool → Option TabBarPlacement → ℕ → ℕ → Option Row
tabs_if true (some b) n a = some (tabs_row b n a)
tabs_if true none n a = none
tabs_if false b n a = none

abbrev pub split_if : Option Axis → ℕ → ℕ → ℕ → Option Row
split_if (some a) n s m = some (split_row a n s m)
split_if none n s m = none

-- by the kind: mode, count, extra and minima of each
abbrev pub row_by : ℕ → ℕ → ℕ → ℕ → ℕ → Option Row
row_by zero mode count extra minima = pane_if (eqb mode 0 && eqb count 1 && eqb extra 0 && eqb minima 0)
row_by (suc zero) mode count extra minima = tabs_if (eqb minima 0) (bar_of mode) count extra
row_by (suc (suc zero)) mode count extra minima = split_if (axis_of mode) count extra minima
row_by (suc (suc (suc k))) mode count extra minima = none

-- eight bytes: kind, mode, then 16 bits each for count, extra and minima
unfoldable pub row_of : List ℕ → Option Row
row_of bs = row_by (number_at 1 0 bs) (number_at 1 1 bs) (number_at 2 2 bs) (number_at 2 4 bs) (number_at 2 6 bs)

abbrev pub cons_row : Option Row → Option (List Row) → Option (List Row)
cons_row (some r) (some rs) = some (r ∷ rs)
cons_row (some r) none = none
cons_row none rs = none

unfoldable pub rows_of : List (List ℕ) → Option (List Row)
rows_of [] = some []
rows_of (e ∷ es) = cons_row (row_of e) (rows_of es)

-- ---- what a row uses of each other section, and its children

abbrev pub panes_used : Row → ℕ
panes_used pane_row = 1
panes_used (tabs_row b n a) = n
panes_used (split_row a n s m) = 0

abbrev pub shares_used : Row → ℕ
shares_used pane_row = 0
shares_used (tabs_row b n a) = 0
shares_used (split_row a n s m) = s

abbrev pub minima_used : Row → ℕ
minima_used pane_row = 0
minima_used (tabs_row b n a) = 0
minima_used (split_row a n s m) = m

abbrev pub children_used : Row → ℕ
children_used pane_row = 0
children_used (tabs_row b n a) = 0
children_used (split_row a n s m) = n

unfoldable pub sum_rows : (Row → ℕ) → List Row → ℕ
sum_rows f [] = 0
sum_rows f (r ∷ rs) = f r + sum_rows f rs

-- preorder: `open` tiles are still to come, at first the root, at the end none
unfoldable pub preorder : ℕ → List Row → Bool
preorder n [] = eqb n 0
preorder zero (r ∷ rs) = false
preorder (suc n) (r ∷ rs) = preorder (n + children_used r) rs

-- ---- the table: the sections in order, nothing after them, the rows in preorder, and each other section used up exactly

pub record Table : Type 0 where
  pub rows : List Row
  pub panes : List ℕ
  pub shares : List Float
  pub minima : List Float

abbrev pub number : List ℕ → ℕ
number bs = little_endian bs

abbrev pub real : List ℕ → Float
real bs = of_bits binary64 (little_endian bs)

abbrev pub rows_fit : Table → Bool
rows_fit t =
    preorder 1 t.rows && eqb (sum_rows panes_used t.rows) (length t.panes) && eqb (sum_rows shares_used t.rows) (length t.shares) && eqb (sum_rows minima_used t.rows) (length t.minima)

abbrev pub fitting : Bool → Table → Option Table
fitting true t = some t
fitting false t = none

abbrev pub with_rows : Option (List Row) → List (List ℕ) → List (List ℕ) → List (List ℕ) → Option Table
with_rows none ps ss ms = none
with_rows (some rs) ps ss ms = let t : Table = record { rows = rs; panes = map number ps; shares = map real ss; minima = map real ms } in fitting (rows_fit t) t

-- nothing may come after the last section
abbrev pub at_end : List (List ℕ) → List (List ℕ) → List (List ℕ) → List (List ℕ) → List ℕ → Option Table
at_end rs ps ss ms [] = with_rows (rows_of rs) ps ss ms
at_end rs ps ss ms (b ∷ bs) = none

abbrev pub with_minima : List (List ℕ) → List (List ℕ) → List (List ℕ) → Option Section → Option Table
with_minima rs ps ss none = none
with_minima rs ps ss (some s) = at_end rs ps ss s.entries s.rest

abbrev pub with_shares : List (List ℕ) → List (List ℕ) → Option Section → Option Table
with_shares rs ps none = none
with_shares rs ps (some s) = with_minima rs ps s.entries (section 8 s.rest)

abbrev pub with_panes : List (List ℕ) → Option Section → Option Table
with_panes rs none = none
with_panes rs (some s) = with_shares rs s.entries (section 8 s.rest)

abbrev pub after_rows : Option Section → Option Table
after_rows none = none
after_rows (some s) = with_panes s.entries (section 8 s.rest)

-- none: BadTable
unfoldable pub read_table : List ℕ → Option Table
read_table bs = after_rows (section 8 bs)
