-- Laws of lists, with no word of trees: all of a list, members, distinct lists, flags. Assumes nothing.
use Rattle.std.specs.Prelude.{◌≡◌, refl, ◌≢◌, ◌⊎◌, Bool, true, false, ◌||◌, List, [], ◌∷◌, ◌++◌, ℕ, zero, suc, ◌<◌, eqb, length, get_or, set, replicate, drop}
use Rattle.std.proofs.Common.{sym, ap, subst, ◌∙◌, inl, inr, arith, not-suc-le-zero, le_of_suc-le-suc, ne_eqb, get_or-set_other}
use Rattle.std.proofs.Math.Decide.{ℕ_discrete}
use Rattle.std.proofs.lemmas.Bool.{eqb-false}
use Rattle.rules.specs.Lists.{any_of, contains}
use Rattle.rules.specs.Tree.{Member}

pub never : {A : Type 0} → true ≡ false → A
never e = absurd (let z : ◌≡◌ {A = ℕ} 0 1 = cc in omega arith)

-- ---- all of a list

abbrev pub All : {A : Type 0} → (A → Type 0) → List A → Type 0
All P [] = Unit {0}
All P (x ∷ xs) = P x × All P xs

pub all_map : {A : Type 0} {P Q : A → Type 0} → ((x : A) → P x → Q x) → (xs : List A) → All P xs → All Q xs
all_map f [] a = tt
all_map f (x ∷ xs) a = (f x a.0, all_map f xs a.1)

pub all_both : {A : Type 0} {P Q R : A → Type 0} → ((x : A) → P x → Q x → R x) → (xs : List A) → All P xs → All Q xs → All R xs
all_both f [] a b = tt
all_both f (x ∷ xs) a b = (f x a.0 b.0, all_both f xs a.1 b.1)

pub all_of : {A : Type 0} {P : A → Type 0} → ((x : A) → P x) → (xs : List A) → All P xs
all_of f [] = tt
all_of f (x ∷ xs) = (f x, all_of f xs)

module _ {A : Type 0} (P : A → Type 0) where
  pub all_append : (xs ys : List A) → All P xs → All P ys → All P (xs ++ ys)
  all_append [] ys a b = b
  all_append (x ∷ xs) ys a b = (a.0, all_append xs ys a.1 b)

  pub all_left : (xs ys : List A) → All P (xs ++ ys) → All P xs
  all_left [] ys a = tt
  all_left (x ∷ xs) ys a = (a.0, all_left xs ys a.1)

  pub all_right : (xs ys : List A) → All P (xs ++ ys) → All P ys
  all_right [] ys a = a
  all_right (x ∷ xs) ys a = all_right xs ys a.1

  pub all_get_d : (xs : List A) (d : A) (n : ℕ) → n < length xs → All P xs → P (get_or xs n d)
  all_get_d [] d n h p = absurd (not-suc-le-zero h)
  all_get_d (x ∷ xs) d zero h p = p.0
  all_get_d (x ∷ xs) d (suc n) h p = all_get_d xs d n (le_of_suc-le-suc h) p.1

-- ---- members

module _ {A : Type 0} where
  pub member-all : (P : A → Type 0) (x : A) (xs : List A) → Member x xs → All P xs → P x
  member-all P x [] m a = absurd m
  member-all P x (y ∷ ys) (inl e) a = subst P (sym e) a.0
  member-all P x (y ∷ ys) (inr m) a = member-all P x ys m a.1

  pub all-member : (xs : List A) → All (λ x. Member x xs) xs
  all-member [] = tt
  all-member (x ∷ xs) = (inl refl, all_map (λ y m. inr m) xs (all-member xs))

  pub member-left : (x : A) (xs ys : List A) → Member x xs → Member x (xs ++ ys)
  member-left x [] ys m = absurd m
  member-left x (y ∷ xs) ys (inl e) = inl e
  member-left x (y ∷ xs) ys (inr m) = inr (member-left x xs ys m)

  pub member_right : (x : A) (xs ys : List A) → Member x ys → Member x (xs ++ ys)
  member_right x [] ys m = m
  member_right x (y ∷ xs) ys m = inr (member_right x xs ys m)

  pub member-cases : (x : A) (xs ys : List A) → Member x (xs ++ ys) → Member x xs ⊎ Member x ys
  member-cases x [] ys m = inr m
  member-cases x (y ∷ xs) ys (inl e) = inl (inl e)
  member-cases x (y ∷ xs) ys (inr m) = go (member-cases x xs ys m)
    where
      go : Member x xs ⊎ Member x ys → Member x (y ∷ xs) ⊎ Member x ys
      go (inl k) = inl (inr k)
      go (inr k) = inr k

-- in the list, or apart from each of it
pub find : (x : ℕ) (xs : List ℕ) → Member x xs ⊎ All (λ y. x ≢ y) xs
find x [] = inr tt
find x (y ∷ ys) = go (ℕ_discrete x y) (find x ys)
  where
    go : Dec (x ≡ y) → Member x ys ⊎ All (λ z. x ≢ z) ys → Member x (y ∷ ys) ⊎ All (λ z. x ≢ z) (y ∷ ys)
    go (yes e) r = inl (inl e)
    go (no n) (inl m) = inl (inr m)
    go (no n) (inr a) = inr (n, a)

pub contains-false : (x : ℕ) (xs : List ℕ) → contains x xs ≡ false → All (λ y. x ≢ y) xs
unfolding any_of
contains-false x [] e = tt
contains-false x (y ∷ ys) e = go (eqb x y) refl (λ k. contains-false x ys k) e
  where
    go : (b : Bool) → eqb x y ≡ b → (contains x ys ≡ false → All (λ z. x ≢ z) ys) → (b || contains x ys) ≡ false → All (λ z. x ≢ z) (y ∷ ys)
    go true q r e' = never e'
    go false q r e' = (eqb-false x y q, r e')

pub false-contains : (x : ℕ) (xs : List ℕ) → All (λ y. x ≢ y) xs → contains x xs ≡ false
unfolding any_of
false-contains x [] a = refl
false-contains x (y ∷ ys) a = rw (ne_eqb x y a.0) (false-contains x ys a.1)

-- ---- distinct

abbrev pub Distinct : List ℕ → Type 0
Distinct [] = Unit {0}
Distinct (x ∷ xs) = All (λ y. y ≢ x) xs × Distinct xs

abbrev pub Apart : List ℕ → List ℕ → Type 0
Apart xs ys = All (λ y. All (λ x. y ≢ x) xs) ys

pub distinct_append : (xs ys : List ℕ) → Distinct xs → Distinct ys → Apart xs ys → Distinct (xs ++ ys)
distinct_append [] ys d e a = e
distinct_append (x ∷ xs) ys d e a =
    (all_append (λ y. y ≢ x) xs ys d.0 (all_map (λ y k. k.0) ys a), distinct_append xs ys d.1 e (all_map (λ y k. k.1) ys a))

pub all_drop : {A : Type 0} (P : A → Type 0) (xs : List A) → All P xs → (k : ℕ) → All P (drop k xs)
all_drop P xs h zero = h
all_drop P [] h (suc k) = tt
all_drop P (x ∷ xs) h (suc k) = all_drop P xs h.1 k

pub distinct-left : (xs ys : List ℕ) → Distinct (xs ++ ys) → Distinct xs
distinct-left [] ys d = tt
distinct-left (x ∷ xs) ys d = (all_left (λ y. y ≢ x) xs ys d.0, distinct-left xs ys d.1)

pub distinct-right : (xs ys : List ℕ) → Distinct (xs ++ ys) → Distinct ys
distinct-right [] ys d = d
distinct-right (x ∷ xs) ys d = distinct-right xs ys d.1

pub distinct_apart : (xs ys : List ℕ) → Distinct (xs ++ ys) → Apart xs ys
distinct_apart [] ys d = all_of (λ y. tt) ys
distinct_apart (x ∷ xs) ys d = all_both (λ y p q. (p, q)) ys (all_right (λ y. y ≢ x) xs ys d.0) (distinct_apart xs ys d.1)

-- two lists apart share no member
pub clash : {A : Type 0} (x : ℕ) (xs ys : List ℕ) → Distinct (xs ++ ys) → Member x xs → Member x ys → A
clash x xs ys d m n = absurd (member-all (λ z. x ≢ z) x xs m (member-all (λ y. All (λ z. y ≢ z) xs) x ys n (distinct_apart xs ys d)) refl)

-- ---- flags: which are set, and how many are not

abbrev pub free : List Bool → ℕ
free [] = 0
free (true ∷ cs) = free cs
free (false ∷ cs) = suc (free cs)

-- those of a list set, one after the other
abbrev pub marked : List Bool → List ℕ → List Bool
marked cs [] = cs
marked cs (x ∷ xs) = marked (set cs x true) xs

pub set-mono : (cs : List Bool) (i j : ℕ) → get_or cs j false ≡ true → get_or (set cs i true) j false ≡ true
set-mono [] i j e = e
set-mono (c ∷ cs) zero zero e = refl
set-mono (c ∷ cs) zero (suc j) e = e
set-mono (c ∷ cs) (suc i) zero e = e
set-mono (c ∷ cs) (suc i) (suc j) e = set-mono cs i j e

-- unset after, so unset before
pub set_back : (cs : List Bool) (i j : ℕ) → get_or (set cs i true) j false ≡ false → get_or cs j false ≡ false
set_back [] i j e = e
set_back (c ∷ cs) zero zero e = never e
set_back (c ∷ cs) zero (suc j) e = e
set_back (c ∷ cs) (suc i) zero e = e
set_back (c ∷ cs) (suc i) (suc j) e = set_back cs i j e

pub free-set : (cs : List Bool) (i : ℕ) → i < length cs → get_or cs i false ≡ false → free cs ≡ suc (free (set cs i true))
free-set [] i h e = absurd (not-suc-le-zero h)
free-set (false ∷ cs) zero h e = refl
free-set (true ∷ cs) zero h e = never e
free-set (false ∷ cs) (suc i) h e = ap suc (free-set cs i (le_of_suc-le-suc h) e)
free-set (true ∷ cs) (suc i) h e = free-set cs i (le_of_suc-le-suc h) e

pub marked_append : (cs : List Bool) (xs ys : List ℕ) → marked (marked cs xs) ys ≡ marked cs (xs ++ ys)
marked_append cs [] ys = refl
marked_append cs (x ∷ xs) ys = marked_append (set cs x true) xs ys

pub marked_other : (cs : List Bool) (xs : List ℕ) (j : ℕ) → All (λ x. j ≢ x) xs → get_or (marked cs xs) j false ≡ get_or cs j false
marked_other cs [] j a = refl
marked_other cs (x ∷ xs) j a = marked_other (set cs x true) xs j a.1 ∙ get_or-set_other cs x j true false a.0

pub none-at : (n i : ℕ) → get_or (replicate n false) i false ≡ false
none-at zero i = refl
none-at (suc n) zero = refl
none-at (suc n) (suc i) = none-at n i
