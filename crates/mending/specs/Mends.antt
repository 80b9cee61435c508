-- What a repair leaves in the lent arrays: l is the arena's lot as given, l' as it is left, and so for the other arrays. Definitions only.
use Rattle.std.specs.Prelude.{◌≡◌, List, ◌++◌, map, ℕ, length, drop}
use Rattle.rules.specs.Repair.{Repaired}
use Rattle.rules.specs.Refusals.{Accepted, Refused}
use Rattle.rules.specs.declared.refusal.Refusal.{Refusal}
use Rattle.columns.specs.Columns.{code_of}
use Rattle.coding.specs.Lent.{Lot}
use Rattle.crossing.specs.Parts.{Tells, Holds}

pub record Mends (x : Repaired) (l : Lot) (acts : List (List ℕ)) (l' : Lot) (acts' : List (List ℕ)) (out' : List ℕ) (r : ℕ) : Type 0 where
  pub told : Tells x.answer (length x.actions) 0 out' r
  pub accepted : x.answer ≡ Accepted → Holds x.tree l'
  pub refused : (e : Refusal) → x.answer ≡ Refused e → l' ≡ l
  pub actions : acts' ≡ map code_of x.actions ++ drop (length x.actions) acts
