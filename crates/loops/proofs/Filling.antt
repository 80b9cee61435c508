-- Loops that fill an array from its start, one law for all of them: the first i are p's first i, and the rest are as they were. Assumes nothing.
use mathlib.Core.Path.{◌≡◌, refl, sym, ap, ◌∙◌, subst}
use mathlib.Core.List.{List, [], ◌∷◌, ◌++◌, map}
use Prim.Native.Nat.{ℕ, zero, suc, ◌+◌, ◌-◌, ◌≤◌, ◌<◌}
use native.Mathlib.Nat.{sub-zero}
use native.Mathlib.Numerals.{add-one}
use native.Mathlib.Omega.{arith}
use lib.ListN.{length, get_or, take, drop, set, length-set, replicate}
use lib.Seq.{take-suc, take-suc-set, drop-set-lt, drop-drop}
use lib.Ieee.{Float}
use Rattle.rules.specs.Numbers.{zero-f}
use Rattle.loops.specs.Padded.{Padded}

pub record Filled {B : Type 0} (p : ℕ → List B) (out₀ out : List B) (i : ℕ) : Type 0 where
  pub long : length out ≡ length out₀
  pub done : take i out ≡ p i
  pub rest : drop i out ≡ drop i out₀

pub filled-start : {B : Type 0} (p : ℕ → List B) (out : List B) → p 0 ≡ [] → Filled p out out 0
filled-start p out e = record { long = refl; done = sym e; rest = refl }

pub filled-step : {B : Type 0} (p : ℕ → List B) (out₀ out : List B) (i : ℕ) (v : B) → i < length out₀ → p (i + 1) ≡ p i ++ (v ∷ []) → Filled p out₀ out i → Filled p out₀ (set out i v) (i + 1)
filled-step {B} p out₀ out i v h e f =
    let k : i < length out = omega (arith, f.long) in
    record {
      long = length-set out i v ∙ f.long;
      done = ap (λ (j : ℕ). take j (set out i v)) (add-one i) ∙ take-suc-set out i v k ∙ ap (λ (l : List B). l ++ (v ∷ [])) f.done ∙ sym e;
      rest = drop-set-lt (i + 1) out i v (omega arith) ∙ sym (drop-drop 1 i out) ∙ ap (drop 1) f.rest ∙ drop-drop 1 i out₀;
    }

pub filled-end : {B : Type 0} (p : ℕ → List B) (out₀ out : List B) (n i : ℕ) → n ≤ i → i ≤ n → Filled p out₀ out i → take n out ≡ p n
filled-end p out₀ out n i h k f =
    let e : i ≡ n = omega arith in
    subst (λ (j : ℕ). take j out ≡ p j) e f.done

drop-replicate : {B : Type 0} (n m : ℕ) (b : B) → drop n (replicate m b) ≡ replicate (m - n) b
drop-replicate zero m b = ap (λ (k : ℕ). replicate k b) (sym (sub-zero m))
drop-replicate (suc n) zero b = ap (λ (k : ℕ). replicate k b) (none n)
  where
    none : (n : ℕ) → 0 ≡ 0 - suc n
    none n = omega arith
drop-replicate (suc n) (suc m) b = drop-replicate n m b ∙ ap (λ (k : ℕ). replicate k b) (down m n)
  where
    down : (m n : ℕ) → m - n ≡ suc m - suc n
    down m n = omega arith

abbrev pub zeros : List Float
zeros = replicate 16 zero-f

pub zeros-long : length zeros ≡ 16
zeros-long = refl

-- an array of zeros that was filled
pub padded-end : (p : ℕ → List Float) (out : List Float) (n i : ℕ) → n ≤ i → i ≤ n → Filled p zeros out i → Padded n (p n) out
padded-end p out n i h k f =
    let e : i ≡ n = omega arith in
    record { front = filled-end p zeros out n i h k f; back = subst (λ (j : ℕ). drop j out ≡ drop j zeros) e f.rest ∙ drop-replicate n 16 zero-f; long = f.long ∙ zeros-long }

pub padded-none : Padded 0 [] zeros
padded-none = record { front = refl; back = refl; long = zeros-long }

pub take-replicate : {B : Type 0} (n m : ℕ) (b : B) → n ≤ m → take n (replicate m b) ≡ replicate n b
take-replicate zero m b h = refl
take-replicate (suc n) zero b h = absurd (no n h)
  where
    no : (n : ℕ) → suc n ≤ 0 → ⊥
    no n h = omega arith
take-replicate {B} (suc n) (suc m) b h = ap (λ (l : List B). b ∷ l) (take-replicate n m b (omega arith))

pub padded-zeros : (n : ℕ) → n ≤ 16 → Padded n (replicate n zero-f) zeros
padded-zeros n h = record { front = take-replicate n 16 zero-f h; back = drop-replicate n 16 zero-f; long = zeros-long }

-- ---- what is filled in: the first i of it, and one more
pub take_more : {A : Type 0} (l : List A) (i : ℕ) (d : A) → i < length l → take (i + 1) l ≡ take i l ++ (get_or l i d ∷ [])
take_more l i d h = ap (λ (j : ℕ). take j l) (add-one i) ∙ take-suc l i d h

map-append-one : {A B : Type 0} (g : A → B) (xs : List A) (x : A) → map g (xs ++ (x ∷ [])) ≡ map g xs ++ (g x ∷ [])
map-append-one g [] x = refl
map-append-one {A} {B} g (y ∷ xs) x = ap (λ (l : List B). g y ∷ l) (map-append-one g xs x)

pub map_more : {A B : Type 0} (g : A → B) (l : List A) (i : ℕ) (d : A) → i < length l → map g (take (i + 1) l) ≡ map g (take i l) ++ (g (get_or l i d) ∷ [])
map_more g l i d h = ap (map g) (take_more l i d h) ∙ map-append-one g (take i l) (get_or l i d)
