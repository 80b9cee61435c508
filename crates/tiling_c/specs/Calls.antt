-- What each call promises of the lent arrays: l is the arena's lot as given, l' as it is left, and so for the other arrays. Definitions only.
use Rattle.std.specs.Prelude.{◌≡◌, Bool, true, false, ◌&&◌, List, ◌++◌, map, ℕ, ◌-◌, length, drop, replicate, Float}
use Rattle.rules.specs.Numbers.{zero-f}
use Rattle.rules.specs.Tree.{Arena}
use Rattle.rules.specs.Spec.{from_spec}
use Rattle.rules.specs.Repair.{Repaired, repair}
use Rattle.rules.specs.Operations.{Applied, apply}
use Rattle.rules.specs.Frame.{layout}
use Rattle.rules.specs.Solver.{Solved}
use Rattle.rules.specs.declared.frame.LayoutInput.{LayoutInput}
use Rattle.rules.specs.Refusals.{Accepted, Refused}
use Rattle.rules.specs.declared.refusal.Refusal.{Refusal}
use Rattle.columns.specs.Columns.{code_of}
use Rattle.layout.specs.Whole.{LaysOut}
use Rattle.coding.specs.Lent.{Lot, lent, lot_ok, op_ok, op_from, input_from}
use Rattle.crossing.specs.Parts.{Tells, Holds}

-- ---- from_spec

pub record Builds (bs : List ℕ) (l' : Lot) (out' : List ℕ) (r : ℕ) : Type 0 where
  pub tree : Holds (from_spec bs).tree l'
  pub told : Tells (from_spec bs).answer 0 0 out' r

-- ---- repair

pub record Mends (x : Repaired) (l : Lot) (acts : List (List ℕ)) (l' : Lot) (acts' : List (List ℕ)) (out' : List ℕ) (r : ℕ) : Type 0 where
  pub told : Tells x.answer (length x.actions) 0 out' r
  pub accepted : x.answer ≡ Accepted → Holds x.tree l'
  pub refused : (e : Refusal) → x.answer ≡ Refused e → l' ≡ l
  pub actions : acts' ≡ map code_of x.actions ++ drop (length x.actions) acts

pub record Repairs (l : Lot) (acts : List (List ℕ)) (out : List ℕ) (l' : Lot) (acts' : List (List ℕ)) (out' : List ℕ) (r : ℕ) : Type 0 where
  pub bad : lot_ok l ≡ false → (r ≡ 5) × (l' ≡ l) × (acts' ≡ acts) × (out' ≡ out)
  pub good : lot_ok l ≡ true → Mends (repair (lent l)) l acts l' acts' out' r

-- ---- is_sound: whether the codes are good, and whether the arena is sound

abbrev pub sound_code : Bool → Bool → ℕ
sound_code false s = 5
sound_code true true = 0
sound_code true false = 4

-- ---- apply

pub record Changes (x : Applied) (l l' : Lot) (out' : List ℕ) (r : ℕ) : Type 0 where
  pub told : Tells x.answer 0 0 out' r
  pub accepted : x.answer ≡ Accepted → Holds x.tree l'
  pub refused : (e : Refusal) → x.answer ≡ Refused e → l' ≡ l

pub record Applies (l : Lot) (w : List ℕ) (f : Float) (out : List ℕ) (l' : Lot) (out' : List ℕ) (r : ℕ) : Type 0 where
  pub bad : (lot_ok l && op_ok w) ≡ false → (r ≡ 5) × (l' ≡ l) × (out' ≡ out)
  pub good : (lot_ok l && op_ok w) ≡ true → Changes (apply (lent l) (op_from w f)) l l' out' r

-- ---- layout_into: the stream, its number of items, and the revision

pub record Lays (a : Arena) (i : LayoutInput) (cs : List (List ℕ)) (qs : List (List Float)) (cs' : List (List ℕ)) (qs' : List (List Float)) (out' : List ℕ) (r : ℕ) : Type 0 where
  pub len : ℕ
  pub frame : LaysOut a i cs qs cs' qs' (record { answer = (layout a i).answer; revision = (layout a i).revision; len = len })
  pub told : Tells (layout a i).answer len (layout a i).revision out' r

pub record LaysInto (l : Lot) (q : List Float) (cs : List (List ℕ)) (qs : List (List Float)) (out : List ℕ) (cs' : List (List ℕ)) (qs' : List (List Float)) (out' : List ℕ) (r : ℕ) : Type 0 where
  pub bad : lot_ok l ≡ false → (r ≡ 5) × (cs' ≡ cs) × (qs' ≡ qs) × (out' ≡ out)
  pub good : lot_ok l ≡ true → Lays (lent l) (input_from q) cs qs cs' qs' out' r

-- ---- solve

pub record Solves (x : Solved) (lengths lengths' : List Float) (out' : List ℕ) (r : ℕ) : Type 0 where
  pub told : Tells x.answer (length x.lengths) x.passes out' r
  pub accepted : x.answer ≡ Accepted → lengths' ≡ x.lengths ++ replicate (16 - length x.lengths) zero-f
  pub refused : (e : Refusal) → x.answer ≡ Refused e → lengths' ≡ lengths
