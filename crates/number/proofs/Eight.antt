-- A number of eight bytes, as std reads it: what the bytes spell, and zeros at the end spell nothing. Assumes nothing.
use Rattle.std.proofs.Common.{◌≡◌, refl, ap, List, [], ◌∷◌, ◌++◌, ℕ, zero, suc, ◌+◌, ◌*◌, length, drop, replicate, arith}
use Rattle.std.specs.Int.{w64, from_le_bytes}
use Rattle.number.specs.Bytes.{le_number}

pub number-zeros : (n m : ℕ) → le_number (drop n (replicate m 0)) ≡ 0
unfolding le_number
number-zeros zero zero = refl
number-zeros zero (suc m) = ap (λ (k : ℕ). 0 + 256 * k) (number-zeros zero m)
number-zeros (suc n) zero = refl
number-zeros (suc n) (suc m) = number-zeros n m

pub number-before : (xs zs : List ℕ) → le_number zs ≡ 0 → le_number (xs ++ zs) ≡ le_number xs
unfolding le_number
number-before [] zs e = e
number-before (x ∷ xs) zs e = ap (λ (k : ℕ). x + 256 * k) (number-before xs zs e)

pub word-spells : (bs : List ℕ) → length bs ≡ 8 → from_le_bytes w64 bs ≡ le_number bs
unfolding le_number
word-spells [] l = absurd (omega arith)
word-spells (a ∷ []) l = absurd (omega arith)
word-spells (a ∷ b ∷ []) l = absurd (omega arith)
word-spells (a ∷ b ∷ c ∷ []) l = absurd (omega arith)
word-spells (a ∷ b ∷ c ∷ d ∷ []) l = absurd (omega arith)
word-spells (a ∷ b ∷ c ∷ d ∷ e ∷ []) l = absurd (omega arith)
word-spells (a ∷ b ∷ c ∷ d ∷ e ∷ f ∷ []) l = absurd (omega arith)
word-spells (a ∷ b ∷ c ∷ d ∷ e ∷ f ∷ g ∷ []) l = absurd (omega arith)
word-spells (a ∷ b ∷ c ∷ d ∷ e ∷ f ∷ g ∷ h ∷ []) l = omega arith
word-spells (a ∷ b ∷ c ∷ d ∷ e ∷ f ∷ g ∷ h ∷ i ∷ bs) l = absurd (omega arith)
