-- A slot by its lists. Assumes nothing.
use Rattle.std.specs.Prelude.{◌≡◌, refl, false, ◌||◌, List, [], ◌∷◌, ◌++◌, map, ℕ, zero, suc, ◌+◌, ◌*◌, ◌≤◌, ◌<◌, ltb, length, get_or, take, drop}
use Rattle.std.proofs.Common.{sym, ap, ◌∙◌, arith, le-ltb, get_or-take, get_or-drop, length-drop, take-suc}
use Rattle.std.proofs.lemmas.List.{map-append, map-id}
use Rattle.rules.specs.Lists.{tabulate}
use Rattle.std.proofs.lemmas.List.{length-map}
use Rattle.rules.specs.Tree.{tile}
use Rattle.lists.specs.Places.{get_d_map}
use Rattle.build.specs.Push.{children_at}
use Rattle.checks.specs.CheckLaws.{part_length}

pub not-over : (n : ℕ) → n ≤ 16 → ltb 16 n ≡ false
not-over n h = le-ltb 16 n h

pub none_over : (a b c : ℕ) → a ≤ 16 → b ≤ 16 → c ≤ 16 → (ltb 16 a || ltb 16 b || ltb 16 c) ≡ false
none_over a b c x y z = λ j. not-over a x j || not-over b y j || not-over c z j

pub children-length : (kids : List ℕ) (i n : ℕ) → length kids ≡ 1024 → i < 64 → n ≤ 16 → length (children_at kids i n) ≡ n
children-length kids i n s h k = length-map (take n (drop (16 * i) kids)) tile ∙ part_length kids (16 * i) n (omega arith)

pub child-at : (kids : List ℕ) (i n j x : ℕ) → length kids ≡ 1024 → i < 64 → n ≤ 16 → j < n → x ≡ get_or kids (16 * i + j) 0 → tile x ≡ get_or (children_at kids i n) j (tile 0)
child-at kids i n j x s h k g e =
    ap tile (e ∙ sym (get_or-take n (drop (16 * i) kids) j 0 g ∙ get_or-drop (16 * i) kids j 0))
    ∙ sym (get_d_map tile (take n (drop (16 * i) kids)) j 0 (tile 0) (omega (arith, part_length kids (16 * i) n (let q : 16 * i + n ≤ length kids = omega arith in q))))

-- a part of a list, made of its entries one after another
pub part-made : {A B : Type 0} (f : A → B) (xs : List A) (p n : ℕ) (d : A) → p + n ≤ length xs → tabulate (λ j. f (get_or xs (p + j) d)) n ≡ map f (take n (drop p xs))
unfolding tabulate
part-made f xs p zero d h = refl
part-made f xs p (suc n) d h =
    (λ j. part-made f xs p n d (omega arith) j ++ f (sym (get_or-drop p xs n d) j) ∷ [])
    ∙ sym (map-append f (take n (drop p xs)) (get_or (drop p xs) n d ∷ []))
    ∙ ap (map f) (sym (take-suc (drop p xs) n d (omega (arith, length-drop p xs))))

pub part-taken : {A : Type 0} (xs : List A) (p n : ℕ) (d : A) → p + n ≤ length xs → tabulate (λ j. get_or xs (p + j) d) n ≡ take n (drop p xs)
part-taken xs p n d h = part-made (λ x. x) xs p n d h ∙ map-id (take n (drop p xs))

-- the first of what is left
pub first-of : (xs : List ℕ) (p : ℕ) → get_or xs p 0 ≡ get_or (drop p xs) 0 0
first-of xs p = ap (λ (k : ℕ). get_or xs k 0) (let z : p ≡ p + 0 = omega arith in z) ∙ sym (get_or-drop p xs 0 0)

pub first-room : {n : ℕ} (p : ℕ) → p + 1 ≤ n → p < n
first-room p h = omega arith
