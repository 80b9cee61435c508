-- Numbers of little-endian bytes at a place, and chunks of eight. Assumes nothing.
use Rattle.std.specs.Prelude.{◌≡◌, refl, List, [], ◌∷◌, ℕ, zero, suc, ◌+◌, ◌*◌, ◌≤◌, ◌<◌, length, get_or, take, drop}
use Rattle.std.proofs.Common.{sym, ap, ◌∙◌, add-one, arith, drop-cons, drop-drop, take-take}
use Rattle.rules.specs.Table.{little_endian, number_at}

-- the first byte, and the rest
pub number-next : (s : List ℕ) (i n : ℕ) → i < length s → number_at (suc n) i s ≡ get_or s i 0 + 256 * number_at n (suc i) s
unfolding little_endian
number-next s i n h = ap (λ (l : List ℕ). little_endian (take (suc n) l)) (drop-cons s i 0 h)

pub number-one : (s : List ℕ) (i x : ℕ) → i + 1 ≤ length s → x ≡ get_or s i 0 → x ≡ number_at 1 i s
unfolding little_endian
number-one s i x h e = e ∙ omega (arith, number-next s i 0 (omega arith))

pub number-two : (s : List ℕ) (i x y : ℕ) → i + 2 ≤ length s → x ≡ get_or s i 0 → y ≡ get_or s (i + 1) 0 → x + 256 * y ≡ number_at 2 i s
unfolding little_endian
number-two s i x y h e f =
    let a = number-next s i 1 (omega arith) in
    let b = number-next s (i + 1) 0 (omega arith) in
    let p : number_at 1 (suc i) s ≡ number_at 1 (i + 1) s = ap (λ (k : ℕ). number_at 1 k s) (sym (add-one i)) in
    omega (arith, a, b, p)

pub number-four : (s : List ℕ) (i x y : ℕ) → i + 4 ≤ length s → x ≡ number_at 2 i s → y ≡ number_at 2 (i + 2) s → x + 65536 * y ≡ number_at 4 i s
unfolding little_endian
number-four s i x y h e f =
    let a = number-next s i 3 (omega arith) in
    let b = number-next s (suc i) 2 (omega arith) in
    let c = number-next s i 1 (omega arith) in
    let d = number-next s (suc i) 0 (omega arith) in
    let p : number_at 2 (suc (suc i)) s ≡ number_at 2 (i + 2) s = ap (λ (k : ℕ). number_at 2 k s) (let q : suc (suc i) ≡ i + 2 = omega arith in q) in
    omega (arith, a, b, c, d, p)

-- the same as std's from_le_bytes spells them
pub pair-read : (s : List ℕ) (i : ℕ) → i + 2 ≤ length s → get_or s i 0 + get_or s (i + 1) 0 * 256 ≡ number_at 2 i s
pair-read s i h = omega (arith, number-two s i _ _ h refl refl)

pub count-read : (s : List ℕ) (i : ℕ) → i + 4 ≤ length s
    → get_or s i 0 + get_or s (i + 1) 0 * 256 + get_or s (i + 2) 0 * 65536 + get_or s (i + 3) 0 * 16777216 ≡ number_at 4 i s
count-read s i h =
    let j : i + 2 + 1 ≡ i + 3 = omega arith in
    omega (arith, number-four s i _ _ h (pair-read s i (omega arith)) (pair-read s (i + 2) (omega arith)), ap (λ (k : ℕ). get_or s k 0) j)

pub inner : {A : Type 0} (i w n : ℕ) (l : List A) → i + w ≤ n → take w (drop i (take n l)) ≡ take w (drop i l)
inner zero w n l h = take-take w n l (omega arith)
inner (suc i) w zero l h = absurd (omega arith)
inner (suc i) w (suc n) [] h = refl
inner (suc i) w (suc n) (x ∷ l) h = inner i w n l (omega arith)

-- a number within the n bytes at a place
pub within : (i w n at : ℕ) (bs : List ℕ) → i + w ≤ n → number_at w i (take n (drop at bs)) ≡ number_at w (at + i) bs
within i w n at bs h = ap little_endian (inner i w n (drop at bs) h ∙ ap (take w) (drop-drop i at bs))
