-- What the lent numbers mean: an arena, an operation, a layout's input, an answer, an action. Definitions only.
-- Numbers that name no kind, mode, axis, placement or operation are shut out by `codes_ok` and `op_ok`; what the readings make of them is never used.
use Rattle.std.specs.Prelude.{Bool, true, false, ◌&&◌, List, [], ◌∷◌, ℕ, zero, suc, ltb, get_or, Float}
use Rattle.std.specs.Float.{nan}
use Rattle.rules.specs.Lists.{any_of, all_of}
use Rattle.rules.specs.Tabs.{rect}
use Rattle.rules.specs.Tree.{Arena, tile}
use Rattle.rules.specs.Refusals.{Told}
use Rattle.rules.specs.Tree.{Reals}
use Rattle.rules.specs.declared.model.Placement.{Placement}
use Rattle.rules.specs.declared.model.Placement.TheVariants.{Before, After}
use Rattle.rules.specs.Operations.{TabIndex}
use Rattle.std.specs.Prelude.{Some, None}
use Rattle.rules.specs.declared.operation.DockTarget.{DockTarget}
use Rattle.rules.specs.declared.operation.DockTarget.TheVariants as Targets
use Rattle.rules.specs.declared.operation.TileOp.{TileOp}
use Rattle.rules.specs.declared.operation.TileOp.TheVariants.{ActivatePane, ClosePane, SplitPane, MovePane, ReorderTab}
use Rattle.rules.specs.declared.frame.LayoutInput.{LayoutInput}
use Rattle.columns.specs.Columns.{axis_from, nodes_from}
use Rattle.columns.specs.Pack.{over_of}

-- ---- an arena: root and revision, and the four columns

pub record Lot : Type 0 where
  pub top : List ℕ
  pub heads : List (List ℕ)
  pub ids : List (List ℕ)
  pub shares : List (List Float)
  pub minima : List (List Float)

abbrev pub lot : List ℕ → List (List ℕ) → List (List ℕ) → List (List Float) → List (List Float) → Lot
lot t hs xs ss ms = record { top = t; heads = hs; ids = xs; shares = ss; minima = ms }

abbrev pub lent : Lot → Arena
lent l = record { root = tile (get_or l.top 0 0); revision = get_or l.top 1 0; nodes = nodes_from l.heads l.ids l.shares l.minima; over = any_of over_of l.heads }

-- a head with 0 in what its kind doesn't use
abbrev pub tidied_by : ℕ → List ℕ → List ℕ
tidied_by zero h = 0 ∷ 0 ∷ 0 ∷ 0 ∷ 0 ∷ 0 ∷ 0 ∷ 0 ∷ []
tidied_by (suc zero) h = 1 ∷ 0 ∷ get_or h 2 0 ∷ 0 ∷ 0 ∷ 0 ∷ 0 ∷ 0 ∷ []
tidied_by (suc (suc zero)) h = 2 ∷ get_or h 1 0 ∷ 0 ∷ get_or h 3 0 ∷ get_or h 4 0 ∷ 0 ∷ 0 ∷ 0 ∷ []
tidied_by (suc (suc (suc n))) h = h

abbrev pub tidied : List ℕ → List ℕ
tidied h = tidied_by (get_or h 0 0) h

-- kinds are 0 to 3; a group's mode is 0 to 4, a split's 0 or 1
abbrev pub mode_ok : ℕ → ℕ → Bool
mode_ok zero m = true
mode_ok (suc zero) m = true
mode_ok (suc (suc zero)) m = ltb m 5
mode_ok (suc (suc (suc zero))) m = ltb m 2
mode_ok (suc (suc (suc (suc n)))) m = false

abbrev pub code_ok : List ℕ → Bool
code_ok h = mode_ok (get_or h 0 0) (get_or h 1 0)

abbrev pub codes_ok : List (List ℕ) → Bool
codes_ok hs = all_of code_ok hs

abbrev pub lot_ok : Lot → Bool
lot_ok l = codes_ok l.heads

-- ---- an operation: what, pane, axis, placement, the new pane or the tile named, which target, whether an index is given, the index

abbrev pub sides_ok : List ℕ → Bool
sides_ok w = ltb (get_or w 2 0) 2 && ltb (get_or w 3 0) 2

abbrev pub target_ok : ℕ → List ℕ → Bool
target_ok zero w = true
target_ok (suc zero) w = sides_ok w
target_ok (suc (suc zero)) w = ltb (get_or w 6 0) 2
target_ok (suc (suc (suc n))) w = false

abbrev pub what_ok : ℕ → List ℕ → Bool
what_ok zero w = true
what_ok (suc zero) w = true
what_ok (suc (suc zero)) w = sides_ok w
what_ok (suc (suc (suc zero))) w = target_ok (get_or w 5 0) w
what_ok (suc (suc (suc (suc zero)))) w = true
what_ok (suc (suc (suc (suc (suc n))))) w = false

abbrev pub op_ok : List ℕ → Bool
op_ok w = what_ok (get_or w 0 0) w

abbrev pub placement_from : ℕ → Placement
placement_from zero = Before
placement_from (suc n) = After

abbrev pub index_from : ℕ → ℕ → TabIndex
index_from zero i = None
index_from (suc n) i = Some i

abbrev pub target_by : ℕ → List ℕ → Float → DockTarget
target_by zero w f = Targets.Root
target_by (suc zero) w f = Targets.Split (tile (get_or w 4 0)) (axis_from (get_or w 2 0)) (placement_from (get_or w 3 0)) f
target_by (suc (suc n)) w f = Targets.TabInto (tile (get_or w 4 0)) (index_from (get_or w 6 0) (get_or w 7 0))

abbrev pub op_by : ℕ → List ℕ → Float → TileOp
op_by zero w f = ActivatePane (get_or w 1 0)
op_by (suc zero) w f = ClosePane (get_or w 1 0)
op_by (suc (suc zero)) w f = SplitPane (get_or w 1 0) (axis_from (get_or w 2 0)) (get_or w 4 0) (placement_from (get_or w 3 0)) f
op_by (suc (suc (suc zero))) w f = MovePane (get_or w 1 0) (target_by (get_or w 5 0) w f)
op_by (suc (suc (suc (suc n)))) w f = ReorderTab (tile (get_or w 4 0)) (get_or w 1 0) (get_or w 7 0)

abbrev pub op_from : List ℕ → Float → TileOp
op_from w f = op_by (get_or w 0 0) w f

-- ---- a layout's input: x0, y0, x1, y1, tab bar, split handle, minimum width, minimum height. A NaN would stand for a missing number

abbrev pub input_from : List Float → LayoutInput
input_from q =
    record { bounds = rect (get_or q 0 nan) (get_or q 1 nan) (get_or q 2 nan) (get_or q 3 nan); tab_bar_thickness = get_or q 4 nan; split_handle_thickness = get_or q 5 nan; min_pane_size = record { width = get_or q 6 nan; height = get_or q 7 nan } }

-- ---- a list of 16 with its length

abbrev pub reals_of : List Float → ℕ → Reals
reals_of xs n = record { at = xs; len = n }

-- ---- what is told of an answer: its two details and two more numbers

abbrev pub out_of : Told → ℕ → ℕ → List ℕ
out_of t c d = t.first ∷ t.second ∷ c ∷ d ∷ []
