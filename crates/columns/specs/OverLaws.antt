-- Laws of lists given longer than 16, as the heads tell them. Assumes nothing.
use Rattle.std.specs.Prelude.{◌≡◌, refl, Bool, false, ◌||◌, List, [], ◌∷◌, map, ℕ, zero, suc, get_or}
use Rattle.std.proofs.Common.{sym, ap, ◌∙◌, le-ltb}
use Rattle.std.specs.List.{list_any}
use Rattle.rules.specs.Lists.{any_of}
use Rattle.columns.specs.Columns.{Slim}
use Rattle.columns.specs.Pack.{over_head, over_kind, over_of}

-- any kind past a group's is a split's
pub over-split : (k : ℕ) (h : List ℕ) → (k ≡ 0 → ⊥) → (k ≡ 1 → ⊥) → (k ≡ 2 → ⊥) → over_kind k h ≡ over_head h
over-split zero h z o t = absurd (z refl)
over-split (suc zero) h z o t = absurd (o refl)
over-split (suc (suc zero)) h z o t = absurd (t refl)
over-split (suc (suc (suc n))) h z o t = refl

-- lists of 16 at most are all there
over-slim : (k : ℕ) (h : List ℕ) → Slim h → over_kind k h ≡ false
over-slim zero h s = refl
over-slim (suc zero) h s = refl
over-slim (suc (suc zero)) h (a, b, c) = le-ltb 16 (get_or h 4 0) a
over-slim (suc (suc (suc n))) h (a, b, c) = λ z. le-ltb 16 (get_or h 4 0) a z || le-ltb 16 (get_or h 5 0) b z || le-ltb 16 (get_or h 6 0) c z

pub none_over : (hs : List (List ℕ)) → ((i : ℕ) → Slim (get_or hs i [])) → any_of over_of hs ≡ false
unfolding any_of
none_over [] s = refl
none_over (h ∷ hs) s = λ z. over-slim (get_or h 0 0) h (s 0) z || none_over hs (λ i. s (suc i)) z

-- a test of a list asks only what its entries answer
any-map : {A : Type 0} (f : A → Bool) (xs : List A) → any_of f xs ≡ any_of (λ (b : Bool). b) (map f xs)
unfolding any_of
any-map f [] = refl
any-map f (x ∷ xs) = λ z. f x || any-map f xs z

pub any-alike : {A B : Type 0} (f : A → Bool) (g : B → Bool) (xs : List A) (ys : List B) → map f xs ≡ map g ys → any_of f xs ≡ any_of g ys
any-alike f g xs ys e = any-map f xs ∙ ap (any_of (λ (b : Bool). b)) e ∙ sym (any-map g ys)

-- std's `list_any` is the rules' `any_of`
pub any-listed : {A : Type 0} (t : A → Bool) (xs : List A) → list_any t xs ≡ any_of t xs
unfolding any_of
any-listed t [] = refl
any-listed t (x ∷ xs) = λ z. t x || any-listed t xs z
