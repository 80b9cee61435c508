-- Document 01's table of refusals: the number and the two detail numbers of every case, zero unless named. An accepted answer has number 0.
-- Definitions only.
use Rattle.std.specs.Prelude.{ℕ, Result, Ok, Err, ⊤}
use Rattle.rules.specs.declared.refusal.Refusal.{Refusal}
use Rattle.rules.specs.declared.refusal.Refusal.TheVariants.{BadTable, ArenaFull, TooWide, NotSound, BadInput, InvalidTileId, InvalidPaneId, InvalidTarget, InvalidOperation, DuplicatePane, RevisionExhausted, EmptyTabs, TooFewSplitChildren, ShareCountMismatch, InvalidShare, TooManySplitConstraints, InvalidSplitConstraint, InvalidActiveTab}

-- a number and its two details
pub record Told : Type 0 where
  pub number : ℕ
  pub first : ℕ
  pub second : ℕ

abbrev pub told : ℕ → ℕ → ℕ → Told
told n a b = record { number = n; first = a; second = b }

abbrev pub refusal_of : Refusal → Told
refusal_of BadTable = told 1 0 0
refusal_of ArenaFull = told 2 0 0
refusal_of TooWide = told 3 0 0
refusal_of NotSound = told 4 0 0
refusal_of BadInput = told 5 0 0
refusal_of InvalidTileId = told 6 0 0
refusal_of InvalidPaneId = told 7 0 0
refusal_of InvalidTarget = told 8 0 0
refusal_of InvalidOperation = told 9 0 0
refusal_of (DuplicatePane p) = told 10 p 0
refusal_of RevisionExhausted = told 11 0 0
refusal_of EmptyTabs = told 12 0 0
refusal_of (TooFewSplitChildren n) = told 13 n 0
refusal_of (ShareCountMismatch n s) = told 14 n s
refusal_of (InvalidShare i) = told 15 i 0
refusal_of (TooManySplitConstraints n m) = told 16 n m
refusal_of (InvalidSplitConstraint i) = told 17 i 0
refusal_of (InvalidActiveTab a n) = told 18 a n

-- an answer, and its two cases by their names here
abbrev pub Answer : Type 0
Answer = Result ⊤ Refusal

abbrev pub Accepted : Answer
Accepted = Ok tt

abbrev pub Refused : Refusal → Answer
Refused e = Err e

abbrev pub answer_of : Answer → Told
answer_of (Ok _) = told 0 0 0
answer_of (Err e) = refusal_of e
