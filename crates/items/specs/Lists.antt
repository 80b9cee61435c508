-- The lists of a frame by value: an entry of the stream as an entry of a list, and a list that fills its places. Definitions only.
use Rattle.std.specs.Prelude.{◌≡◌, Bool, true, false, Option, Some, None, List, [], ◌∷◌, ℕ, zero, suc, ◌+◌, ◌≤◌, ltb, length, get_or, set, take, Float}
use Rattle.rules.specs.Tree.{tile}
use Rattle.rules.specs.declared.frame.PaneFrame.{PaneFrame}
use Rattle.rules.specs.declared.frame.TabBarFrame.{TabBarFrame}
use Rattle.rules.specs.declared.frame.TabFrame.{TabFrame}
use Rattle.rules.specs.declared.frame.SplitChildFrame.{SplitChildFrame}
use Rattle.rules.specs.declared.frame.SplitHandleFrame.{SplitHandleFrame}
use Rattle.rules.specs.declared.frame.FrameItemId.{FrameItemId}
use Rattle.rules.specs.declared.frame.FrameItemId.TheVariants.{Pane, TabBar, Tab, SplitHandle}
use Rattle.columns.specs.Columns.{bar_from, axis_from}
use Rattle.streaming.specs.Stream.{rect_from, flag_from}

-- ---- entries

abbrev pub pane_from : List ℕ → List Float → PaneFrame
pane_from c q = record { pane = get_or c 2 0; tile = tile (get_or c 1 0); rect = rect_from q }

abbrev pub bar_frame_from : List ℕ → List Float → TabBarFrame
bar_frame_from c q = record { group = tile (get_or c 1 0); rect = rect_from q; placement = bar_from (get_or c 4 0); active_pane = get_or c 2 0 }

abbrev pub tab_from : List ℕ → List Float → TabFrame
tab_from c q = record { group = tile (get_or c 1 0); pane = get_or c 2 0; rect = rect_from q; index = get_or c 3 0; active = flag_from (get_or c 4 0) }

abbrev pub child_from : List ℕ → List Float → SplitChildFrame
child_from c q = record { split = tile (get_or c 1 0); child = tile (get_or c 2 0); index = get_or c 3 0; rect = rect_from q }

abbrev pub handle_from : List ℕ → List Float → SplitHandleFrame
handle_from c q = record { split = tile (get_or c 1 0); handle = get_or c 3 0; axis = axis_from (get_or c 4 0); rect = rect_from q }

-- neither a pane of the focus order (0) nor a split's child (4) is painted
abbrev pub painted : ℕ → Bool
painted zero = false
painted (suc zero) = true
painted (suc (suc zero)) = true
painted (suc (suc (suc zero))) = true
painted (suc (suc (suc (suc zero)))) = false
painted (suc (suc (suc (suc (suc n))))) = true

abbrev pub painted_by : ℕ → List ℕ → FrameItemId
painted_by zero c = SplitHandle (tile (get_or c 1 0)) (get_or c 3 0)
painted_by (suc zero) c = Pane (get_or c 2 0)
painted_by (suc (suc zero)) c = TabBar (tile (get_or c 1 0))
painted_by (suc (suc (suc zero))) c = Tab (tile (get_or c 1 0)) (get_or c 2 0)
painted_by (suc (suc (suc (suc n)))) c = SplitHandle (tile (get_or c 1 0)) (get_or c 3 0)

abbrev pub painted_from : List ℕ → FrameItemId
painted_from c = painted_by (get_or c 0 0) c

-- ---- what a list takes of an entry: one element or none

abbrev pub taken : {A : Type 0} → Option A → List A
taken (Some x) = x ∷ []
taken None = []

-- ---- a list with a length, in which there is room for `most`

pub record Bin (A : Type 0) : Type 0 where
  pub at : List A
  pub len : ℕ

abbrev pub bin : {A : Type 0} → List A → ℕ → Bin A
bin at n = record { at = at; len = n }

abbrev pub put_by : {A : Type 0} → Bool → A → Bin A → Bin A
put_by true x b = bin (set b.at b.len x) (b.len + 1)
put_by false x b = b

abbrev pub put : {A : Type 0} → ℕ → A → Bin A → Bin A
put most x b = put_by (ltb b.len most) x b

unfoldable pub put_all : {A : Type 0} → ℕ → List A → Bin A → Bin A
put_all most [] b = b
put_all most (x ∷ xs) b = put_all most xs (put most x b)

-- the first `len` places hold xs, if they fit
pub record Sorted {A : Type 0} (most : ℕ) (xs at : List A) (len : ℕ) : Type 0 where
  pub list : length xs ≤ most → take len at ≡ xs
  pub few : len ≤ most
