-- The number that bytes spell, the least of them first. A definition, and how a place further on is read.
use Rattle.std.specs.Prelude.{◌≡◌, refl, List, [], ◌∷◌, ℕ, suc, ◌+◌, ◌*◌, ◌<◌, length, get_or, take, drop}
use Rattle.std.proofs.Common.{ap, drop-cons}

unfoldable pub le_number : List ℕ → ℕ
le_number [] = 0
le_number (b ∷ bs) = b + 256 * le_number bs

pub number-none : (s : List ℕ) → le_number (take 0 s) ≡ 0
unfolding le_number
number-none s = refl

pub number-next : (s : List ℕ) (i n : ℕ) → i < length s → le_number (take (suc n) (drop i s)) ≡ get_or s i 0 + 256 * le_number (take n (drop (suc i) s))
unfolding le_number
number-next s i n h = ap (λ (l : List ℕ). le_number (take (suc n) l)) (drop-cons s i 0 h)
