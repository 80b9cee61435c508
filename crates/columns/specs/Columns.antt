-- What the columns hold: an arena's slots as arrays of numbers, and the list of actions. Definitions only.
use Rattle.std.specs.Prelude.{◌≡◌, Bool, ◌&&◌, List, [], ◌∷◌, map, ℕ, zero, suc, ◌+◌, ◌≤◌, eqb, length, get_or, take, Float}
use Rattle.rules.specs.Lists.{any_of}
use Rattle.rules.specs.Tree.{Node, empty, pane, tabs, split, tile}
use Rattle.rules.specs.Repair.{action_code, action_tile, action_pane, added_if}
use Rattle.rules.specs.declared.model.Axis.{Axis}
use Rattle.rules.specs.declared.model.Axis.TheVariants.{Horizontal, Vertical}
use Rattle.rules.specs.declared.model.TabBarPlacement.{TabBarPlacement}
use Rattle.rules.specs.declared.model.TabBarPlacement.TheVariants.{Hidden, Top, Bottom, Left, Right}
use Rattle.rules.specs.declared.model.RepairAction.{RepairAction}

-- ---- a slot: its head is kind, mode, pane, active, and the lengths of its ids, shares and minima

abbrev pub bar_from : ℕ → TabBarPlacement
bar_from zero = Hidden
bar_from (suc zero) = Top
bar_from (suc (suc zero)) = Bottom
bar_from (suc (suc (suc zero))) = Left
bar_from (suc (suc (suc (suc n)))) = Right

abbrev pub axis_from : ℕ → Axis
axis_from zero = Horizontal
axis_from (suc n) = Vertical

-- kind 0 is an empty slot, 1 a pane, 2 a group, any other a split
abbrev pub node_by : ℕ → List ℕ → List ℕ → List Float → List Float → Node
node_by zero h xs ss ms = empty
node_by (suc zero) h xs ss ms = pane (get_or h 2 0)
node_by (suc (suc zero)) h xs ss ms = tabs (bar_from (get_or h 1 0)) (get_or h 3 0) (take (get_or h 4 0) xs)
node_by (suc (suc (suc n))) h xs ss ms = split (axis_from (get_or h 1 0)) (map tile (take (get_or h 4 0) xs)) (take (get_or h 5 0) ss) (take (get_or h 6 0) ms)

abbrev pub node_from : List ℕ → List ℕ → List Float → List Float → Node
node_from h xs ss ms = node_by (get_or h 0 0) h xs ss ms

-- the slots, row by row
unfoldable pub nodes_from : List (List ℕ) → List (List ℕ) → List (List Float) → List (List Float) → List Node
nodes_from [] xs ss ms = []
nodes_from (h ∷ hs) [] ss ms = []
nodes_from (h ∷ hs) (x ∷ xs) [] ms = []
nodes_from (h ∷ hs) (x ∷ xs) (s ∷ ss) [] = []
nodes_from (h ∷ hs) (x ∷ xs) (s ∷ ss) (m ∷ ms) = node_from h x s m ∷ nodes_from hs xs ss ms

-- a slot's lists are of 16 at most
abbrev pub Slim : List ℕ → Type 0
Slim h = (get_or h 4 0 ≤ 16) × (get_or h 5 0 ≤ 16) × (get_or h 6 0 ≤ 16)

-- ---- an action: three numbers

abbrev pub code_of : RepairAction → List ℕ
code_of a = action_code a ∷ (action_tile a).slot ∷ action_pane a ∷ []

abbrev pub is_code : ℕ → ℕ → ℕ → List ℕ → Bool
is_code what t p a = eqb what (get_or a 0 0) && eqb t (get_or a 1 0) && eqb p (get_or a 2 0)

abbrev pub listed : ℕ → ℕ → ℕ → List (List ℕ) → Bool
listed what t p acts = any_of (is_code what t p) acts

-- the first n of the list are these actions, where it has its 1,300 places: a list of any other length is silent, so that any actions will do
abbrev pub Lists : List (List ℕ) → ℕ → List RepairAction → Type 0
Lists acts n l = length acts ≡ 1300 → take n acts ≡ map code_of l

-- an action was noted, by a flag: the rule's `added_if`
pub record Noted (b : Bool) (a : RepairAction) (acts : List (List ℕ)) (n : ℕ) (acts' : List (List ℕ)) (n' : ℕ) : Type 0 where
  pub most : n' ≤ n + 1
  pub lists : (l : List RepairAction) → Lists acts n l → Lists acts' n' (added_if b a l)
