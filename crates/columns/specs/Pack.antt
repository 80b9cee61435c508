-- A tree's slots as columns and back, the sweep, the lowest empty slot and the report of actions: what each promises. Definitions only.
use Rattle.std.specs.Prelude.{◌≡◌, Bool, true, false, ◌||◌, ltb, List, [], ◌∷◌, map, ℕ, zero, suc, ◌+◌, ◌≤◌, length, get_or, take, set, Float}
use Rattle.rules.specs.Lists.{any_of}
use Rattle.rules.specs.Tree.{tile, bar_code, axis_code}
use Rattle.rules.specs.declared.model.TileId.{TileId}
use Rattle.rules.specs.declared.model.Kind.{Kind}
use Rattle.rules.specs.declared.model.Kind.TheVariants.{Empty, Pane, Tabs, Split}
use Rattle.rules.specs.declared.model.Slot.{Slot}
use Rattle.rules.specs.declared.model.RepairAction.{RepairAction}
use Rattle.rules.specs.declared.model.RepairAction.TheVariants.{RemovedInvalidNode, RepairedActiveTab, RepairedShares, RepairedConstraints, CollapsedSplit, RemovedDuplicatePane}
use Rattle.forest.specs.Sweep.{swept_by, actions_by}
use Rattle.forest.specs.Still.{none_lost}
use Rattle.columns.specs.Columns.{nodes_from, Lists, Slim}
use Rattle.columns.specs.declared.Report.{Report}

-- ---- a slot's row in each column

abbrev pub head_by : Kind → Slot → List ℕ
head_by Empty s = 0 ∷ 0 ∷ 0 ∷ 0 ∷ 0 ∷ 0 ∷ 0 ∷ 0 ∷ []
head_by (Pane p) s = 1 ∷ 0 ∷ p ∷ 0 ∷ 0 ∷ 0 ∷ 0 ∷ 0 ∷ []
head_by (Tabs b) s = 2 ∷ bar_code b ∷ 0 ∷ s.active ∷ s.panes.len ∷ 0 ∷ 0 ∷ 0 ∷ []
head_by (Split a) s = 3 ∷ axis_code a ∷ 0 ∷ 0 ∷ s.children.len ∷ s.shares.len ∷ s.minima.len ∷ 0 ∷ []

abbrev pub head_of : Slot → List ℕ
head_of s = head_by s.kind s

abbrev pub slot_of : TileId → ℕ
slot_of t = t.slot

-- a split's children as their slot numbers; for any other the panes, which only a group reads
abbrev pub ids_by : Kind → Slot → List ℕ
ids_by Empty s = s.panes.at
ids_by (Pane p) s = s.panes.at
ids_by (Tabs b) s = s.panes.at
ids_by (Split a) s = map slot_of s.children.at

abbrev pub ids_of : Slot → List ℕ
ids_of s = ids_by s.kind s

abbrev pub shares_of : Slot → List Float
shares_of s = s.shares.at

abbrev pub minima_of : Slot → List Float
minima_of s = s.minima.at

-- the four columns of these slots
pub record Unpacks (s : List Slot) (hs xs : List (List ℕ)) (ss ms : List (List Float)) : Type 0 where
  pub heads : hs ≡ map head_of s
  pub ids : xs ≡ map ids_of s
  pub shares : ss ≡ map shares_of s
  pub minima : ms ≡ map minima_of s

-- one slot written into its row of each column
pub record Puts (i : ℕ) (s : Slot) (hs xs : List (List ℕ)) (ss ms : List (List Float)) (hs' xs' : List (List ℕ)) (ss' ms' : List (List Float)) : Type 0 where
  pub heads : hs' ≡ set hs i (head_of s)
  pub ids : xs' ≡ set xs i (ids_of s)
  pub shares : ss' ≡ set ss i (shares_of s)
  pub minima : ms' ≡ set ms i (minima_of s)

-- a length of over 16
abbrev pub over_head : List ℕ → Bool
over_head h = ltb 16 (get_or h 4 0) || ltb 16 (get_or h 5 0) || ltb 16 (get_or h 6 0)

-- the same of the lists that the head's kind uses
abbrev pub over_kind : ℕ → List ℕ → Bool
over_kind zero h = false
over_kind (suc zero) h = false
over_kind (suc (suc zero)) h = ltb 16 (get_or h 4 0)
over_kind (suc (suc (suc n))) h = over_head h

abbrev pub over_of : List ℕ → Bool
over_of h = over_kind (get_or h 0 0) h

-- columns of 64 rows, whose lists are of 16 at most
pub record Even (hs xs : List (List ℕ)) (ss ms : List (List Float)) : Type 0 where
  pub heads : length hs ≡ 64
  pub ids : length xs ≡ 64
  pub shares : length ss ≡ 64
  pub minima : length ms ≡ 64
  pub whole : any_of over_head hs ≡ false

-- ---- the sweep

-- a head that is not claimed becomes that of an empty slot
abbrev pub swept_head : Bool → List ℕ → List ℕ
swept_head true h = h
swept_head false h = 0 ∷ 0 ∷ 0 ∷ 0 ∷ 0 ∷ 0 ∷ 0 ∷ 0 ∷ []

pub record Sweeps (hs : List (List ℕ)) (cs : List Bool) (acts : List (List ℕ)) (n : ℕ) (hs' acts' : List (List ℕ)) (r : ℕ) : Type 0 where
  pub nodes : (xs : List (List ℕ)) (ss ms : List (List Float)) → length xs ≡ 64 → length ss ≡ 64 → length ms ≡ 64
      → nodes_from hs' xs ss ms ≡ swept_by cs (nodes_from hs xs ss ms)
  pub most : r ≤ n + 64
  pub lists : (xs : List (List ℕ)) (ss ms : List (List Float)) → length xs ≡ 64 → length ss ≡ 64 → length ms ≡ 64
      → (l : List RepairAction) → Lists acts n l → Lists acts' r (actions_by 0 cs (nodes_from hs xs ss ms) l)
  pub slim : ((i : ℕ) → Slim (get_or hs i [])) → (i : ℕ) → Slim (get_or hs' i [])
  pub long : length hs' ≡ 64

-- whether a sweep of these nodes by these claims would list nothing
pub record NoneLost (hs : List (List ℕ)) (cs : List Bool) (r : Bool) : Type 0 where
  pub right : (xs : List (List ℕ)) (ss ms : List (List Float)) → length xs ≡ 64 → length ss ≡ 64 → length ms ≡ 64 → r ≡ none_lost cs (nodes_from hs xs ss ms)

-- ---- the lowest of the empty slots, and 64 where there is none

abbrev pub first_of : List ℕ → ℕ
first_of [] = 64
first_of (i ∷ is) = i

-- ---- the report

abbrev pub action_by : ℕ → TileId → ℕ → RepairAction
action_by zero t p = RemovedInvalidNode t
action_by (suc zero) t p = RepairedActiveTab t
action_by (suc (suc zero)) t p = RepairedShares t
action_by (suc (suc (suc zero))) t p = RepairedConstraints t
action_by (suc (suc (suc (suc zero)))) t p = CollapsedSplit t
action_by (suc (suc (suc (suc (suc n))))) t p = RemovedDuplicatePane p t

-- the action whose numbers these are
abbrev pub action_from : List ℕ → RepairAction
action_from a = action_by (get_or a 0 0) (tile (get_or a 1 0)) (get_or a 2 0)

abbrev pub reported : Report → List RepairAction
reported r = take r.len r.at
