-- What a repair of columns in place promises, and what stands of it once the walk has ended. Definitions only.
use Rattle.std.specs.Prelude.{◌≡◌, Bool, true, false, List, [], ◌∷◌, ℕ, ◌≤◌, ◌<◌, set, Float, Result, Ok, Err}
use Rattle.rules.specs.Lists.{any_of}
use Rattle.rules.specs.Tree.{Arena}
use Rattle.rules.specs.Repair.{Repaired, repair}
use Rattle.rules.specs.Refusals.{Answer, Accepted, Refused}
use Rattle.rules.specs.declared.refusal.Refusal.{Refusal}
use Rattle.rules.specs.declared.refusal.Refusal.TheVariants.{ArenaFull}
use Rattle.forest.specs.Lists.{All}
use Rattle.forest.specs.Finish.{normalized}
use Rattle.columns.specs.Columns.{Lists}
use Rattle.columns.specs.Pack.{over_head, first_of, Sweeps}
use Rattle.columns.specs.Shown.{arena_from, Plain}
use Rattle.settling.specs.declared.Settled.{Settled}

-- what a repair of columns answers; and the root after it and how many actions are listed, both 0 where it is refused
abbrev pub answer_in : Result Settled Refusal → Answer
answer_in (Ok _) = Accepted
answer_in (Err e) = Refused e

abbrev pub root_in : Result Settled Refusal → ℕ
root_in (Ok s) = s.root
root_in (Err e) = 0

abbrev pub count_in : Result Settled Refusal → ℕ
count_in (Ok s) = s.count
count_in (Err e) = 0

-- the columns after an accepted repair have 64 rows and no list over 16, and the list of actions has room for what was noted
pub record Left (hs xs : List (List ℕ)) (ss ms : List (List Float)) (r : Result Settled Refusal) : Type 0 where
  pub count : count_in r ≤ 1300
  pub plain : answer_in r ≡ Accepted → Plain hs xs ss ms
  pub whole : answer_in r ≡ Accepted → any_of over_head hs ≡ false

-- columns and actions show x, the rule's answer for the arena a. A refused one says nothing of the columns, and lists nothing
pub record Comes (a : Arena) (x : Repaired) (hs xs : List (List ℕ)) (ss ms : List (List Float)) (acts : List (List ℕ)) (r : Result Settled Refusal) : Type 0 where
  pub answer : answer_in r ≡ x.answer
  pub tree : answer_in r ≡ Accepted → x.tree ≡ arena_from (root_in r) a.revision hs xs ss ms
  pub actions : Lists acts (count_in r) x.actions
  pub given : (e : Refusal) → answer_in r ≡ Refused e → (x.tree ≡ a) × (x.actions ≡ [])

-- normalize_with_report: the same with any list of free slots whose first is the spare one
pub record Settles (root spare : ℕ) (hs xs : List (List ℕ)) (ss ms : List (List Float)) (hs' xs' : List (List ℕ)) (ss' ms' : List (List Float)) (acts' : List (List ℕ)) (r : Result Settled Refusal) : Type 0 where
  pub left : Left hs' xs' ss' ms' r
  pub right : (v : ℕ) (free : List ℕ) → All (λ i. i < 64) free → spare ≡ first_of free
      → Comes (arena_from root v hs xs ss ms) (normalized (arena_from root v hs xs ss ms) free) hs' xs' ss' ms' acts' r

-- repair
pub record Mends (root : ℕ) (hs xs : List (List ℕ)) (ss ms : List (List Float)) (hs' xs' : List (List ℕ)) (ss' ms' : List (List Float)) (acts' : List (List ℕ)) (r : Result Settled Refusal) : Type 0 where
  pub left : Left hs' xs' ss' ms' r
  pub right : (v : ℕ) → Comes (arena_from root v hs xs ss ms) (repair (arena_from root v hs xs ss ms)) hs' xs' ss' ms' acts' r

-- ---- the ends of the walk

pub record Refuses (e : Refusal) (r : Result Settled Refusal) : Type 0 where
  pub answer : answer_in r ≡ Refused e
  pub count : count_in r ≡ 0

-- the heads were swept by the claims under a root
pub record Finishes (hs : List (List ℕ)) (cs : List Bool) (acts : List (List ℕ)) (n root : ℕ) (hs' acts' : List (List ℕ)) (r : Result Settled Refusal) : Type 0 where
  pub answer : answer_in r ≡ Accepted
  pub under : root_in r ≡ root
  pub swept : Sweeps hs cs acts n hs' acts' (count_in r)

-- the head of an empty Hidden group with active 0
abbrev pub blank_head : List ℕ
blank_head = 2 ∷ 0 ∷ 0 ∷ 0 ∷ 0 ∷ 0 ∷ 0 ∷ 0 ∷ []

-- nothing was kept: a fresh root goes into the spare slot, where there is one
pub record Plants (hs : List (List ℕ)) (cs : List Bool) (acts : List (List ℕ)) (n spare : ℕ) (hs' acts' : List (List ℕ)) (r : Result Settled Refusal) : Type 0 where
  pub full : 64 ≤ spare → Refuses ArenaFull r
  pub fresh : spare < 64 → Finishes (set hs spare blank_head) (set cs spare true) acts n spare hs' acts' r
