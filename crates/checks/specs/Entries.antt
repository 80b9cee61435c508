-- Entries by their number. Assumes nothing.
use Rattle.std.specs.Prelude.{◌≡◌, refl, Bool, true, false, ◌||◌, List, [], ◌∷◌, map, ℕ, suc, ◌+◌, ◌*◌, ◌≤◌, ◌<◌, length, get_or, take, drop, Float}
use Rattle.std.proofs.Math.Path.{sym, ap}
use Rattle.std.proofs.Common.{◌∙◌, add-one, arith, drop_of_length-le, drop-cons}
use Rattle.std.proofs.Math.Option.{Option}
use Rattle.std.proofs.lemmas.List.{length-map}
use Rattle.std.specs.Float.{binary64}
use Rattle.std.specs.Float.Ieee.{of_bits}
use Rattle.rules.specs.Numbers.{zero-f}
use Rattle.rules.specs.Lists.{any_of}
use Rattle.rules.specs.Table.{Row, pane_row, little_endian, number, real, row_of}
use Rattle.number.specs.Bytes.{le_number}
use Rattle.lists.specs.Places.{get_d_map}
use Rattle.table.specs.Row.{row_or}
use Rattle.reader.specs.Section.{chunks_at}
use Rattle.reader.specs.declared.cursor.Section.{Section}
use Rattle.table.specs.Rows.{row_from, reals_at}
use Rattle.table.specs.RowsLaws.{length-chunks, chunk-at}

same_number : (l : List ℕ) → le_number l ≡ little_endian l
unfolding le_number little_endian
same_number [] = refl
same_number (b ∷ l) = ap (λ (n : ℕ). b + 256 * n) (same_number l)

module _ (bs : List ℕ) (s : Section) where
  entry : {B : Type 0} (f : List ℕ → B) (i : ℕ) (d : B) → i < s.count → get_or (map f (chunks_at bs s)) i d ≡ f (take 8 (drop (s.start + 8 * i) bs))
  entry f i d h = get_d_map f (chunks_at bs s) i [] d (omega (arith, length-chunks 8 s.count (drop s.start bs))) ∙ ap f (chunk-at bs s i [] h)

  pub length-entries : {B : Type 0} (f : List ℕ → B) → length (map f (chunks_at bs s)) ≡ s.count
  length-entries f = length-map (chunks_at bs s) f ∙ length-chunks 8 s.count (drop s.start bs)

  -- a part of a section of reals
  pub reals-part : (p n : ℕ) → p + n ≤ s.count → p + n ≤ length (reals_at bs s)
  reals-part p n h = omega (arith, length-entries real)

  pub real-entry : (i : ℕ) → i < s.count → (x : ℕ) (y : Float) → x ≡ le_number (take 8 (drop (s.start + 8 * i) bs)) → y ≡ of_bits binary64 x → y ≡ get_or (reals_at bs s) i zero-f
  real-entry i h x y e f = f ∙ ap (of_bits binary64) (e ∙ same_number (take 8 (drop (s.start + 8 * i) bs))) ∙ sym (entry real i zero-f h)

  pub number-entry : (i : ℕ) → i < s.count → (x : ℕ) → x ≡ le_number (take 8 (drop (s.start + 8 * i) bs)) → x ≡ get_or (map number (chunks_at bs s)) i 0
  number-entry i h x e = e ∙ same_number (take 8 (drop (s.start + 8 * i) bs)) ∙ sym (entry number i 0 h)

  pub row-entry : (i : ℕ) → i < s.count → (o : Option Row) → o ≡ row_of (take 8 (drop (s.start + 8 * i) bs)) → row_or o ≡ get_or (map row_from (chunks_at bs s)) i pane_row
  row-entry i h o e = ap row_or e ∙ sym (entry row_from i pane_row h)

-- ---- a search for a wide row, or for any other

module _ {A : Type 0} (f : A → Bool) (xs : List A) where
  pub record Searching (n i : ℕ) : Type 0 where
    pub within : i ≤ n
    pub size : length xs ≡ n
    pub rest : any_of f (drop i xs) ≡ any_of f xs

  pub search-start : (n : ℕ) → length xs ≡ n → Searching n 0
  search-start n e = record { within = omega arith; size = e; rest = refl }

  here : (i : ℕ) (d : A) → i < length xs → any_of f (drop i xs) ≡ (f (get_or xs i d) || any_of f (drop (suc i) xs))
  unfolding any_of
  here i d h = ap (any_of f) (drop-cons xs i d h)

  pub search-found : (n i : ℕ) (d : A) → Searching n i → i < n → true ≡ f (get_or xs i d) → true ≡ any_of f xs
  search-found n i d w h e = ap (λ (b : Bool). b || any_of f (drop (suc i) xs)) e ∙ sym (here i d (omega (arith, w.size))) ∙ w.rest

  pub search-more : (n i : ℕ) (d : A) → Searching n i → i < n → false ≡ f (get_or xs i d) → Searching n (i + 1)
  search-more n i d w h e =
      record {
        within = omega arith;
        size = w.size;
        rest = ap (λ (k : ℕ). any_of f (drop k xs)) (add-one i) ∙ ap (λ (b : Bool). b || any_of f (drop (suc i) xs)) e ∙ sym (here i d (omega (arith, w.size))) ∙ w.rest;
      }

  pub search-end : (n i : ℕ) → Searching n i → n ≤ i → false ≡ any_of f xs
  unfolding any_of
  search-end n i w h = sym (ap (any_of f) (drop_of_length-le xs {i = i} (omega (arith, w.size)))) ∙ w.rest
