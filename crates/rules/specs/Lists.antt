-- Exact lists, for the Rust's Vec: `insert`, `remove`, `position`, `contains`, `last`, iterators over indices.
-- Definitions only.
use Rattle.std.specs.Prelude.{Bool, true, false, ◌&&◌, ◌||◌, List, [], ◌∷◌, ◌++◌, ℕ, zero, suc, eqb, ltb, length}
use Rattle.std.proofs.Math.Option.{Option, none, some}

-- `insert(p, x)`; past the end it is the end
unfoldable pub insert_at : {A : Type 0} → ℕ → A → List A → List A
insert_at zero x ys = x ∷ ys
insert_at (suc p) x [] = x ∷ []
insert_at (suc p) x (y ∷ ys) = y ∷ insert_at p x ys

-- `remove(p)`; past the end it removes nothing
unfoldable pub remove_at : {A : Type 0} → ℕ → List A → List A
remove_at p [] = []
remove_at zero (y ∷ ys) = ys
remove_at (suc p) (y ∷ ys) = y ∷ remove_at p ys

unfoldable pub any_of : {A : Type 0} → (A → Bool) → List A → Bool
any_of p [] = false
any_of p (x ∷ xs) = p x || any_of p xs

unfoldable pub all_of : {A : Type 0} → (A → Bool) → List A → Bool
all_of p [] = true
all_of p (x ∷ xs) = p x && all_of p xs

-- `contains`, of numbers
abbrev pub contains : ℕ → List ℕ → Bool
contains x ys = any_of (eqb x) ys

-- `position`: the first place whose entry passes the test, counted from n
abbrev pub first_by : Bool → ℕ → Option ℕ → Option ℕ
first_by true n rest = some n
first_by false n rest = rest

unfoldable pub position_from : {A : Type 0} → ℕ → (A → Bool) → List A → Option ℕ
position_from n p [] = none
position_from n p (x ∷ xs) = first_by (p x) n (position_from (suc n) p xs)

abbrev pub position : {A : Type 0} → (A → Bool) → List A → Option ℕ
position p xs = position_from 0 p xs

-- g 0, g 1, .., n of them: a `for` over 0..n that pushes
unfoldable pub tabulate : {A : Type 0} → (ℕ → A) → ℕ → List A
tabulate g zero = []
tabulate g (suc n) = tabulate g n ++ g n ∷ []

-- a list of over 16 is too wide (document 01, 'The arena')
abbrev pub wide_list : {A : Type 0} → List A → Bool
wide_list xs = ltb 16 (length xs)

abbrev pub is_some : {A : Type 0} → Option A → Bool
is_some none = false
is_some (some a) = true

-- equal lists, by a test of their entries
unfoldable pub same_list : {A : Type 0} → (A → A → Bool) → List A → List A → Bool
same_list same [] [] = true
same_list same [] (y ∷ ys) = false
same_list same (x ∷ xs) [] = false
same_list same (x ∷ xs) (y ∷ ys) = same x y && same_list same xs ys
