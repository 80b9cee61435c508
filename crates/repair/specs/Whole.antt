-- What a whole repair of a tree promises. Definitions only.
use Rattle.std.specs.Prelude.{◌≡◌, List, [], ℕ, Float, Result}
use Rattle.rules.specs.Tree.{view}
use Rattle.rules.specs.Repair.{Repaired, repair}
use Rattle.rules.specs.declared.model.TileTree.{TileTree}
use Rattle.rules.specs.declared.model.RepairAction.{RepairAction}
use Rattle.rules.specs.Refusals.{Accepted, Refused}
use Rattle.rules.specs.declared.refusal.Refusal.{Refusal}
use Rattle.columns.specs.Columns.{Lists}
use Rattle.columns.specs.Pack.{reported}
use Rattle.columns.specs.Shown.{arena_from}
use Rattle.settling.specs.Settle.{answer_in, root_in, count_in}
use Rattle.settling.specs.declared.Settled.{Settled}
use Rattle.repair.specs.declared.Repairing.{Repairing}

-- what a repair answered, as the rule has it
abbrev pub repaired : Repairing → Repaired
repaired r = record { answer = r.answer; tree = view r.tree; actions = reported r.actions }

-- the rule's answer; and a refused tree is the tree given, to the last place of its lists
abbrev pub Repairs : TileTree → Repairing → Type 0
Repairs t r = (repaired r ≡ repair (view t)) × ((e : Refusal) → r.answer ≡ Refused e → r.tree ≡ t)

-- refused, with the tree as it was given
pub record Returns (t : TileTree) (e : Refusal) (r : Repairing) : Type 0 where
  pub answer : r.answer ≡ Refused e
  pub tree : r.tree ≡ t
  pub actions : reported r.actions ≡ []

-- what a repair of a tree's columns came to, as a tree and a report
pub record Packs (t : TileTree) (s : Result Settled Refusal) (hs xs : List (List ℕ)) (ss ms : List (List Float)) (acts : List (List ℕ)) (r : Repairing) : Type 0 where
  pub answer : r.answer ≡ answer_in s
  pub tree : answer_in s ≡ Accepted → view r.tree ≡ arena_from (root_in s) t.revision hs xs ss ms
  pub actions : answer_in s ≡ Accepted → (l : List RepairAction) → Lists acts (count_in s) l → reported r.actions ≡ l
  pub given : (e : Refusal) → answer_in s ≡ Refused e → (r.tree ≡ t) × (reported r.actions ≡ [])
