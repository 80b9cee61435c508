-- How a refusal is said: a number with its two details, as document 01's table has them. And the few laws of "exactly when". Assumes nothing.
use Rattle.std.specs.Prelude.{◌≡◌, refl, ◌↔◌, Bool, true, false, ◌&&◌, List, [], ◌∷◌, ℕ}
use Rattle.std.proofs.Common.{sym, ap, ◌∙◌}
use Rattle.rules.specs.Lists.{all_of}
use Rattle.rules.specs.Refusals.{Told, told, answer_of}
use Rattle.rules.specs.Refusals.{Answer}
use Rattle.forest.specs.Lists.{All, never}

-- the answer has this number and these details
abbrev pub Tells : Answer → ℕ → ℕ → ℕ → Type 0
Tells x n a b = answer_of x ≡ told n a b

abbrev pub number_of : Answer → ℕ
number_of x = (answer_of x).number

-- one answer has one number
pub one_number : {A : Type 0} (x : Answer) (n a b m : ℕ) → number_of x ≡ m → (m ≡ n → ⊥) → Tells x n a b → A
one_number x n a b m e d t = absurd (d (sym e ∙ ap (λ (y : Told). y.number) t))

-- ---- exactly when

pub both_ways : {A B C : Type 0} → (A ↔ B) → (B ↔ C) → (A ↔ C)
both_ways f g = (λ a. g.0 (f.0 a), λ c. f.1 (g.1 c))

pub and-iff : (a b : Bool) → ((a && b) ≡ true) ↔ ((a ≡ true) × (b ≡ true))
and-iff true b = (λ e. (refl, e), λ e. e.1)
and-iff false b = (λ e. never (sym e), λ e. never (sym e.0))

pub pair-iff : {A B C D : Type 0} → (A ↔ B) → (C ↔ D) → ((A × C) ↔ (B × D))
pair-iff f g = (λ p. (f.0 p.0, g.0 p.1), λ q. (f.1 q.0, g.1 q.1))

-- two tests, each with its meaning
pub and-means : {P Q : Type 0} (a b : Bool) → (a ≡ true) ↔ P → (b ≡ true) ↔ Q → ((a && b) ≡ true) ↔ (P × Q)
and-means a b f g = both_ways (and-iff a b) (pair-iff f g)

pub all-means : {A : Type 0} {P : A → Type 0} (p : A → Bool) → ((x : A) → (p x ≡ true) ↔ P x) → (xs : List A) → (all_of p xs ≡ true) ↔ All P xs
unfolding all_of
all-means p f [] = (λ e. tt, λ e. refl)
all-means p f (x ∷ xs) = and-means (p x) (all_of p xs) (f x) (all-means p f xs)

-- a test that fails says that its meaning does not hold
pub not-means : {P : Type 0} (b : Bool) → (b ≡ true) ↔ P → (b ≡ false) ↔ (P → ⊥)
not-means true f = (λ e. never e, λ n. absurd (n (f.0 refl)))
not-means false f = (λ e p. never (sym (f.1 p)), λ n. refl)
