-- Laws of insert_at, remove_at, take and tabulate: lengths, the entry at each place, membership. Assumes nothing.
use Rattle.std.specs.Prelude.{◌≡◌, length, take}
use Rattle.std.proofs.Math.Path.{refl, ap}
use Rattle.std.proofs.Common.{sym, ◌∙◌, le_of_suc-le-suc, eq-or-lt_of_le, length-take, get_or-take, length-take-le}
use mathlib.Core.List.{List, [], ◌∷◌, ◌++◌, map}
use Rattle.std.proofs.Math.Logic.{⊎_elim}
use Prim.Native.Nat.{ℕ, zero, suc, ◌+◌, ◌-◌, ◌≤◌, ◌<◌}
use native.Mathlib.Omega.{arith}
use Rattle.std.proofs.Math.ListN.{get_or, get_or-eq_default, get_or-append, length-append}
use Rattle.std.proofs.lemmas.List.{length-map}
use Rattle.std.proofs.Math.Seq.{get_or_at}
use Rattle.rules.specs.Lists.{insert_at, remove_at, tabulate}

-- an array of structs has its length as that of a list made from it
pub length-mapped : (X Y : Type 0) (f : X → Y) (l : List X) (n : ℕ) → length (map f l) ≡ n → length l ≡ n
length-mapped X Y f l n e = sym (length-map l f) ∙ e

pub get_d_map : {A B : Type 0} (f : A → B) (xs : List A) (i : ℕ) (d : A) (e : B) → i < length xs → get_or (map f xs) i e ≡ f (get_or xs i d)
get_d_map f [] i d e h = absurd (omega arith)
get_d_map f (x ∷ xs) zero d e h = refl
get_d_map f (x ∷ xs) (suc i) d e h = get_d_map f xs i d e (le_of_suc-le-suc h)

module _ {A : Type 0} where
  -- a place that is there reads the same whatever is read past the end
  pub get_d_any : (xs : List A) (i : ℕ) (d e : A) → i < length xs → get_or xs i d ≡ get_or xs i e
  get_d_any [] i d e h = absurd (omega arith)
  get_d_any (x ∷ xs) zero d e h = refl
  get_d_any (x ∷ xs) (suc i) d e h = get_d_any xs i d e (le_of_suc-le-suc h)

  -- the entries in use, read at any place
  pub get_d-used : (len : ℕ) (at : List A) (i : ℕ) (d e : A) → i < len → i < length at → get_or at i e ≡ get_or (take len at) i d
  get_d-used len at i d e h g = get_d_any at i e d g ∙ sym (get_or-take len at i d h)

  pub get_d-unused : (len : ℕ) (at : List A) (i : ℕ) (d : A) → len ≤ i → d ≡ get_or (take len at) i d
  get_d-unused len at i d h = sym (get_or-eq_default (take len at) d (omega (arith, length-take len at)))

  pub get_d_past : (len : ℕ) (at : List A) (i : ℕ) (d : A) → length at ≤ i → d ≡ get_or (take len at) i d
  get_d_past len at i d h = sym (get_or-eq_default (take len at) d (omega (arith, length-take len at)))

  -- ---- insert_at

  pub length-insert_at : (p : ℕ) (x : A) (xs : List A) → length (insert_at p x xs) ≡ length xs + 1
  unfolding insert_at
  length-insert_at zero x xs = omega arith
  length-insert_at (suc p) x [] = refl
  length-insert_at (suc p) x (y ∷ xs) = omega (arith, length-insert_at p x xs)

  pub insert_at-before : (p : ℕ) (x : A) (xs : List A) (j : ℕ) (d : A) → p ≤ length xs → j < p → get_or (insert_at p x xs) j d ≡ get_or xs j d
  unfolding insert_at
  insert_at-before zero x xs j d h g = absurd (omega arith)
  insert_at-before (suc p) x [] j d h g = absurd (omega arith)
  insert_at-before (suc p) x (y ∷ xs) zero d h g = refl
  insert_at-before (suc p) x (y ∷ xs) (suc j) d h g = insert_at-before p x xs j d (le_of_suc-le-suc h) (le_of_suc-le-suc g)

  pub insert_at-here : (p : ℕ) (x : A) (xs : List A) (d : A) → p ≤ length xs → get_or (insert_at p x xs) p d ≡ x
  unfolding insert_at
  insert_at-here zero x xs d h = refl
  insert_at-here (suc p) x [] d h = absurd (omega arith)
  insert_at-here (suc p) x (y ∷ xs) d h = insert_at-here p x xs d (le_of_suc-le-suc h)

  pub insert_at-after : (p : ℕ) (x : A) (xs : List A) (j : ℕ) (d : A) → p ≤ length xs → p ≤ j → get_or (insert_at p x xs) (suc j) d ≡ get_or xs j d
  unfolding insert_at
  insert_at-after zero x xs j d h g = refl
  insert_at-after (suc p) x [] j d h g = absurd (omega arith)
  insert_at-after (suc p) x (y ∷ xs) zero d h g = absurd (omega arith)
  insert_at-after (suc p) x (y ∷ xs) (suc j) d h g = insert_at-after p x xs j d (le_of_suc-le-suc h) (le_of_suc-le-suc g)

  pub insert_at-past : (p : ℕ) (x : A) (xs : List A) (j : ℕ) (d : A) → p ≤ length xs → p < j → get_or (insert_at p x xs) j d ≡ get_or xs (j - 1) d
  insert_at-past p x xs j d h g =
      let e : j ≡ suc (j - 1) = omega arith in
      ap (λ (k : ℕ). get_or (insert_at p x xs) k d) e ∙ insert_at-after p x xs (j - 1) d h (omega arith)

  -- ---- remove_at

  pub length-remove_at : (p : ℕ) (xs : List A) → p < length xs → length (remove_at p xs) + 1 ≡ length xs
  unfolding remove_at
  length-remove_at p [] h = absurd (omega arith)
  length-remove_at zero (y ∷ xs) h = omega arith
  length-remove_at (suc p) (y ∷ xs) h = omega (arith, length-remove_at p xs (le_of_suc-le-suc h))

  pub remove_at-before : (p : ℕ) (xs : List A) (j : ℕ) (d : A) → j < p → get_or (remove_at p xs) j d ≡ get_or xs j d
  unfolding remove_at
  remove_at-before p [] j d h = refl
  remove_at-before zero (y ∷ xs) j d h = absurd (omega arith)
  remove_at-before (suc p) (y ∷ xs) zero d h = refl
  remove_at-before (suc p) (y ∷ xs) (suc j) d h = remove_at-before p xs j d (le_of_suc-le-suc h)

  pub remove_at-after : (p : ℕ) (xs : List A) (j : ℕ) (d : A) → p ≤ j → get_or (remove_at p xs) j d ≡ get_or xs (suc j) d
  unfolding remove_at
  remove_at-after p [] j d h = refl
  remove_at-after zero (y ∷ xs) j d h = refl
  remove_at-after (suc p) (y ∷ xs) zero d h = absurd (omega arith)
  remove_at-after (suc p) (y ∷ xs) (suc j) d h = remove_at-after p xs j d (le_of_suc-le-suc h)

  -- ---- the lengths of what is made of the entries in use

  module _ (len : ℕ) (at : List A) (h : len ≤ length at) where
    pub used-length : length (take len at) ≡ len
    used-length = length-take-le len at h

    pub size-insert_at : (p : ℕ) (x : A) → len + 1 ≡ length (insert_at p x (take len at))
    size-insert_at p x = omega (arith, used-length, length-insert_at p x (take len at))

    pub size-remove_at : (p : ℕ) → p < len → len - 1 ≡ length (remove_at p (take len at))
    size-remove_at p g = omega (arith, used-length, length-remove_at p (take len at) (omega (arith, used-length)))

    pub size-take : (n : ℕ) → n ≤ len → n ≡ length (take n (take len at))
    size-take n g = omega (arith, used-length, length-take n (take len at))

  -- ---- tests of the entries

  -- ---- a table

  pub length-tabulate : (g : ℕ → A) (n : ℕ) → length (tabulate g n) ≡ n
  unfolding tabulate
  length-tabulate g zero = refl
  length-tabulate g (suc n) = omega (arith, length-append (tabulate g n) (g n ∷ []), length-tabulate g n)

  pub tabulate-at : (g : ℕ → A) (n j : ℕ) (d : A) → j < n → get_or (tabulate g n) j d ≡ g j
  unfolding tabulate
  tabulate-at g zero j d h = absurd (omega arith)
  tabulate-at g (suc n) j d h =
      ⊎_elim
      (λ e. ap (λ (k : ℕ). get_or (tabulate g n ++ g n ∷ []) k d) e ∙ get_or_at (tabulate g n) (g n) [] d n (length-tabulate g n) ∙ ap g (sym e))
      (λ l. get_or-append (tabulate g n) (g n ∷ []) d j (omega (arith, length-tabulate g n)) ∙ tabulate-at g n j d l)
      (eq-or-lt_of_le (le_of_suc-le-suc h))
