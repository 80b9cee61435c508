-- Laws of the lists that are sorted out of the stream, over plain values: one list filled with what `f` finds in each item. Assumes nothing.
use mathlib.Core.Path.{◌≡◌, refl, sym, ap, ◌∙◌}
use mathlib.Core.Bool.{Bool}
use mathlib.Core.List.{List, [], ◌∷◌, ◌++◌, append_assoc, append-nil}
use Prim.Native.Nat.{ℕ, zero, suc, ◌+◌, ◌≤◌, ◌<◌}
use native.Mathlib.Numerals.{add-one}
use native.Mathlib.Omega.{arith}
use borrow.Author.Tests.{lt-ltb, le-ltb}
use lib.ListN.{length, take, drop, get_or, set, length-set, drop_of_length-le}
use lib.Seq.{take-suc-set}
use lib.Ieee.{Float}
use Rattle.rules.specs.Frame.{Item, gather}
use Rattle.streaming.specs.Stream.{item_from, items_from}
use Rattle.items.specs.Lists.{Bin, bin, put_by, put_all, Sorted}

-- ---- a list filled

module _ {A : Type 0} (most : ℕ) where
  put-more : (y : A) (ys : List A) (b : Bin A) → b.len < most → put_all most (y ∷ ys) b ≡ put_all most ys (bin (set b.at b.len y) (b.len + 1))
  unfolding put_all
  put-more y ys b h = ap (λ (t : Bool). put_all most ys (put_by t y b)) (lt-ltb b.len most h)

  put_full : (ys : List A) (b : Bin A) → most ≤ b.len → put_all most ys b ≡ b
  unfolding put_all
  put_full [] b h = refl
  put_full (y ∷ ys) b h = ap (λ (t : Bool). put_all most ys (put_by t y b)) (le-ltb b.len most h) ∙ put_full ys b h

  put-none : (b : Bin A) → put_all most [] b ≡ b
  unfolding put_all
  put-none b = refl

  reads : (ys : List A) (b : Bin A) → length b.at ≡ most → b.len + length ys ≤ most → take (put_all most ys b).len (put_all most ys b).at ≡ take b.len b.at ++ ys
  reads [] b l h = (λ z. take (put-none b z).len (put-none b z).at) ∙ sym (append-nil (take b.len b.at))
  reads (y ∷ ys) b l h =
      let o : Bin A = bin (set b.at b.len y) (b.len + 1) in
      let e = put-more y ys b (omega arith) in
      (λ z. take (e z).len (e z).at) ∙ reads ys o (length-set b.at b.len y ∙ l) (omega arith)
      ∙ ap (λ (x : List A). x ++ ys) (ap (λ (k : ℕ). take k (set b.at b.len y)) (add-one b.len) ∙ take-suc-set b.at b.len y (omega arith))
      ∙ append_assoc (take b.len b.at) (y ∷ []) ys

-- ---- the items, one by one

items_left : (its : List (List ℕ)) (rs : List (List Float)) (n i : ℕ) → n ≤ length its → n ≤ length rs → i < n
    → drop i (items_from (take n its) (take n rs)) ≡ item_from (get_or its i []) (get_or rs i []) ∷ drop (suc i) (items_from (take n its) (take n rs))
unfolding items_from
items_left its rs zero i p q h = absurd (omega arith)
items_left [] rs (suc n) i p q h = absurd (omega arith)
items_left (c ∷ its) [] (suc n) i p q h = absurd (omega arith)
items_left (c ∷ its) (u ∷ rs) (suc n) zero p q h = refl
items_left (c ∷ its) (u ∷ rs) (suc n) (suc i) p q h = items_left its rs n i (omega arith) (omega arith) (omega arith)

items-long : (its : List (List ℕ)) (rs : List (List Float)) (n : ℕ) → length (items_from (take n its) (take n rs)) ≤ n
unfolding items_from
items-long its rs zero = omega arith
items-long [] rs (suc n) = omega arith
items-long (c ∷ its) [] (suc n) = omega arith
items-long (c ∷ its) (u ∷ rs) (suc n) = omega (arith, items-long its rs n)

module _ {A : Type 0} (f : Item → List A) (most : ℕ) (its : List (List ℕ)) (rs : List (List Float)) (n : ℕ) where
  abbrev found : List Item
  found = items_from (take n its) (take n rs)

  -- i items are passed, and what they had stands in `at`
  pub record Going (at₀ at : List A) (len i : ℕ) : Type 0 where
    pub within : i ≤ n
    pub few : len ≤ most
    pub left : put_all most (gather f (drop i found)) (bin at len) ≡ put_all most (gather f found) (bin at₀ 0)

  pub going-none : (at₀ : List A) → Going at₀ at₀ 0 0
  going-none at₀ = record { within = omega arith; few = omega arith; left = refl }

  gather-cons : (x : Item) (xs : List Item) → gather f (x ∷ xs) ≡ f x ++ gather f xs
  unfolding gather
  gather-cons x xs = refl

  module _ (li : n ≤ length its) (lr : n ≤ length rs) (at₀ at : List A) (len i : ℕ) (h : i < n) (G : Going at₀ at len i) where
    abbrev rest : List A
    rest = gather f (drop (suc i) found)

    abbrev item : Item
    item = item_from (get_or its i []) (get_or rs i [])

    here : (ys : List A) → f item ≡ ys → gather f (drop i found) ≡ ys ++ rest
    here ys e = ap (gather f) (items_left its rs n i li lr h) ∙ gather-cons item (drop (suc i) found) ∙ ap (λ (l : List A). l ++ rest) e

    next : (at' : List A) (len' : ℕ) → len' ≤ most → put_all most rest (bin at' len') ≡ put_all most (gather f (drop i found)) (bin at len) → Going at₀ at' len' (i + 1)
    next at' len' k p = record { within = omega arith; few = k; left = ap (λ (j : ℕ). put_all most (gather f (drop j found)) (bin at' len')) (add-one i) ∙ p ∙ G.left }

    -- nothing is found
    pub going-pass : f item ≡ [] → Going at₀ at len (i + 1)
    going-pass e = next at len G.few (ap (λ (l : List A). put_all most l (bin at len)) (sym (here [] e)))

    -- there is no room
    pub going-full : most ≤ len → Going at₀ at len (i + 1)
    going-full m = next at len G.few (put_full most rest (bin at len) m ∙ sym (put_full most (gather f (drop i found)) (bin at len) m))

    pub going-put : (y : A) → f item ≡ y ∷ [] → len < most → Going at₀ (set at len y) (len + 1) (i + 1)
    going-put y e room =
        next (set at len y) (len + 1) (omega arith) (sym (put-more most y rest (bin at len) room) ∙ ap (λ (l : List A). put_all most l (bin at len)) (sym (here (y ∷ []) e)))

  pub going_done : (at₀ at : List A) (len i : ℕ) → length at₀ ≡ most → n ≤ i → Going at₀ at len i → Sorted most (gather f found) at len
  unfolding gather
  going_done at₀ at len i l h G =
      let past : length found ≤ i = omega (arith, items-long its rs n) in
      let e : bin at len ≡ put_all most (gather f found) (bin at₀ 0) = sym (put-none most (bin at len)) ∙ ap (λ (xs : List Item). put_all most (gather f xs) (bin at len)) (sym (drop_of_length-le found past)) ∙ G.left in
      record { list = λ k. (λ z. take (e z).len (e z).at) ∙ reads most (gather f found) (bin at₀ 0) l (omega arith); few = G.few }
