-- Uniqueness of what a call hands back: two answers that meet its contract agree. One law, since each contract equates what is read off the answer with the call's rule;
-- then the calls whose own crates do not say it. Places past a list's length are no part of what is read. Assumes nothing.
use Rattle.std.specs.Prelude.{◌≡◌, Bool, true}
use Rattle.std.proofs.Common.{sym, ap, ◌∙◌}
use Rattle.rules.specs.Tree.{view}
use Rattle.rules.specs.Repair.{Repaired, repair}
use Rattle.rules.specs.Sound.{sound}
use Rattle.rules.specs.Operations.{Applied, apply, apply_inner, unchanged}
use Rattle.rules.specs.declared.model.TileTree.{TileTree}
use Rattle.rules.specs.declared.operation.TileOp.{TileOp}
use Rattle.rules.specs.Refusals.{Refused}
use Rattle.rules.specs.declared.refusal.Refusal.{Refusal}
use Rattle.columns.specs.Pack.{reported}
use Rattle.repair.specs.Whole.{repaired, Repairs}
use Rattle.repair.specs.declared.Repairing.{Repairing}
use Rattle.docking.specs.Steps.{applied}
use Rattle.docking.specs.declared.Applying.{Applying}

-- what is read off two answers is the rule's value, so it is the same
pub one_value : {A B : Type 0} (read : A → B) (rule : B) (r s : A) → read r ≡ rule → read s ≡ rule → read r ≡ read s
one_value read rule r s x y = x ∙ sym y

-- ---- repair: answer, tree and actions; and a refused tree to the last place

module _ (t : TileTree) (r s : Repairing) (R : Repairs t r) (S : Repairs t s) where
  same : repaired r ≡ repaired s
  same = one_value repaired (repair (view t)) r s R.0 S.0

  pub repair-unique : (r.answer ≡ s.answer) × (view r.tree ≡ view s.tree) × (reported r.actions ≡ reported s.actions)
  repair-unique = (ap (λ (x : Repaired). x.answer) same, ap (λ (x : Repaired). x.tree) same, ap (λ (x : Repaired). x.actions) same)

  pub repair-same-tree : (e : Refusal) → r.answer ≡ Refused e → r.tree ≡ s.tree
  repair-same-tree e q = R.1 e q ∙ sym (S.1 e (sym repair-unique.0 ∙ q))

-- ---- is_sound

pub sound-unique : (t : TileTree) (b c : Bool) → b ≡ sound (view t) → c ≡ sound (view t) → b ≡ c
sound-unique t b c x y = one_value (λ (d : Bool). d) (sound (view t)) b c x y

-- ---- apply: what is read is in `one_answer` (fates/Theorems); a refused tree, and an unchanged one, to the last place

-- the contract of the call
abbrev pub Applies : TileTree → TileOp → Applying → Type 0
Applies t op r = (applied r ≡ apply (view t) op) × ((e : Refusal) → r.answer ≡ Refused e → r.tree ≡ t) × (sound (view t) ≡ true → apply_inner (view t) op ≡ unchanged → r.tree ≡ t)

module _ (t : TileTree) (op : TileOp) (r s : Applying) (R : Applies t op r) (S : Applies t op s) where
  pub apply-unique : applied r ≡ applied s
  apply-unique = one_value applied (apply (view t) op) r s R.0 S.0

  pub apply-same-tree : (e : Refusal) → r.answer ≡ Refused e → r.tree ≡ s.tree
  apply-same-tree e q = R.1 e q ∙ sym (S.1 e (sym (ap (λ (x : Applied). x.answer) apply-unique) ∙ q))

  pub idle-same-tree : sound (view t) ≡ true → apply_inner (view t) op ≡ unchanged → r.tree ≡ s.tree
  idle-same-tree e q = R.2 e q ∙ sym (S.2 e q)
