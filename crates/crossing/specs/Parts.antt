-- What the parts of a call promise: heads made tidy, an answer told, an arena stored, actions written. Definitions only.
use Rattle.std.specs.Prelude.{◌≡◌, Bool, true, false, List, ◌++◌, map, ℕ, length, drop}
use Rattle.rules.specs.Lists.{any_of}
use Rattle.rules.specs.Tree.{Arena}
use Rattle.rules.specs.Refusals.{answer_of}
use Rattle.rules.specs.declared.model.RepairAction.{RepairAction}
use Rattle.rules.specs.Refusals.{Answer}
use Rattle.columns.specs.Columns.{code_of}
use Rattle.columns.specs.Pack.{over_head}
use Rattle.coding.specs.Lent.{Lot, lent, tidied, lot_ok, out_of}

-- heads as the calls on columns read them: where a length over 16 stands in one of them, used or not, each has 0 in what its kind doesn't use
abbrev pub tidy_by : Bool → List (List ℕ) → List (List ℕ)
tidy_by true hs = map tidied hs
tidy_by false hs = hs

abbrev pub tidy_heads : List (List ℕ) → List (List ℕ)
tidy_heads hs = tidy_by (any_of over_head hs) hs

-- an answer told: the number returned, and all of `out`
pub record Tells (a : Answer) (c d : ℕ) (out : List ℕ) (r : ℕ) : Type 0 where
  pub number : r ≡ (answer_of a).number
  pub words : out ≡ out_of (answer_of a) c d

-- the arrays now hold this arena, in codes that every call takes
pub record Holds (a : Arena) (l : Lot) : Type 0 where
  pub arena : lent l ≡ a
  pub codes : lot_ok l ≡ true

-- an arena is stored where the answer's number is 0, and else nothing is
pub record Keeps (n : ℕ) (a : Arena) (l l' : Lot) : Type 0 where
  pub stored : n ≡ 0 → Holds a l'
  pub left : (n ≡ 0 → ⊥) → l' ≡ l

-- actions written from the front of an array; past them it is as it was
pub record Writes (l : List RepairAction) (acts acts' : List (List ℕ)) (n : ℕ) : Type 0 where
  pub count : n ≡ length l
  pub list : acts' ≡ map code_of l ++ drop (length l) acts
