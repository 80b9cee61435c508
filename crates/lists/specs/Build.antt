-- The one law of every fill: a fresh array of 16 d's that a loop fills from its front with the entries of xs ends as exactly xs.
-- It holds for any type of entry. Assumes nothing.
use Rattle.std.specs.Prelude.{◌≡◌, length, take, drop, get_or, set}
use Rattle.std.proofs.Math.Path.{refl, ap}
use Rattle.std.proofs.Common.{sym, ◌∙◌, subst, le_of_suc-le-suc, add-one, arith, length-append, take-suc, take_all, length-take-le, take-suc-set}
use mathlib.Core.List.{List, [], ◌∷◌, ◌++◌}
use Prim.Native.Nat.{ℕ, zero, suc, ◌+◌, ◌≤◌, ◌<◌}
use Rattle.std.proofs.Math.Seq.{take-set-lt}
use Rattle.lists.specs.Exact.{pad_to, Exactly, Pushed, Replaced}

module _ {A : Type 0} where
  pub take-pad_to : (n : ℕ) (d : A) (xs : List A) → length xs ≤ n → take (length xs) (pad_to n d xs) ≡ xs
  unfolding pad_to
  take-pad_to n d [] h = refl
  take-pad_to zero d (x ∷ xs) h = absurd (omega arith)
  take-pad_to (suc n) d (x ∷ xs) h = ap (λ (l : List A). x ∷ l) (take-pad_to n d xs (le_of_suc-le-suc h))

  -- blanks past entries that were copied over the front
  pub padded-drop : (n : ℕ) (d : A) (xs : List A) → length xs ≤ n → xs ++ drop (length xs) (pad_to n d []) ≡ pad_to n d xs
  unfolding pad_to
  padded-drop zero d [] h = refl
  padded-drop zero d (x ∷ xs) h = absurd (omega arith)
  padded-drop (suc n) d [] h = refl
  padded-drop (suc n) d (x ∷ xs) h = ap (λ (l : List A). x ∷ l) (padded-drop n d xs (le_of_suc-le-suc h))

  pub exactly-none : (d b : A) → b ≡ d → Exactly d (pad_to 16 b []) 0 []
  exactly-none d b e = record { list = refl; size = refl; few = omega arith; padded = ap (λ (y : A). pad_to 16 y []) e }

  -- entries copied over the front of 16 blanks
  pub front-filled : (d b : A) (ys xs : List A) (n : ℕ) → b ≡ d → ys ≡ xs → n ≡ length xs → n ≤ 16 → Exactly d (ys ++ drop n (pad_to 16 b [])) n xs
  front-filled d b ys xs n e f s h =
      let p : ys ++ drop n (pad_to 16 b []) ≡ pad_to 16 d xs = (λ j. f j ++ drop (s j) (pad_to 16 (e j) [])) ∙ padded-drop 16 d xs (omega (arith, s)) in
      record { list = (λ j. take (s j) (p j)) ∙ take-pad_to 16 d xs (omega (arith, s)); size = s; few = h; padded = p }

  -- a store just past the entries is one entry more
  pub set-pad_to : (n : ℕ) (d : A) (xs : List A) (x : A) → length xs < n → set (pad_to n d xs) (length xs) x ≡ pad_to n d (xs ++ x ∷ [])
  unfolding pad_to
  set-pad_to zero d xs x h = absurd (omega arith)
  set-pad_to (suc n) d [] x h = refl
  set-pad_to (suc n) d (y ∷ xs) x h = ap (λ (l : List A). y ∷ l) (set-pad_to n d xs x (le_of_suc-le-suc h))

  -- where such a loop stands: of the n entries xs, i are there
  pub record Building (d : A) (xs : List A) (n i : ℕ) (at : List A) : Type 0 where
    pub within : i ≤ n
    pub size : n ≡ length xs
    pub few : n ≤ 16
    pub done : at ≡ pad_to 16 d (take i xs)

  pub building-start : (d : A) (xs at : List A) (n : ℕ) → n ≡ length xs → n ≤ 16 → at ≡ pad_to 16 d [] → Building d xs n 0 at
  building-start d xs at n e h p = record { within = omega arith; size = e; few = h; done = p }

  pub building-more : (d : A) (xs at : List A) (n i : ℕ) (y : A) → Building d xs n i at → i < n → y ≡ get_or xs i d → Building d xs n (i + 1) (set at i y)
  building-more d xs at n i y b h e =
      let s : n ≡ length xs = b.size in
      let t : length (take i xs) ≡ i = length-take-le i xs (omega arith) in
      record {
        within = omega arith;
        size = b.size;
        few = b.few;
        done = (λ j. set (b.done j) (sym t j) (e j))
            ∙ set-pad_to 16 d (take i xs) (get_or xs i d) (omega (arith, b.few))
            ∙ ap (pad_to 16 d) (sym (take-suc xs i d (omega arith)))
            ∙ ap (λ (k : ℕ). pad_to 16 d (take k xs)) (sym (add-one i));
      }

  pub building-done : (d : A) (xs at : List A) (n i : ℕ) → Building d xs n i at → n ≤ i → Exactly d at n xs
  building-done d xs at n i b h =
      let e : at ≡ pad_to 16 d xs = b.done ∙ ap (pad_to 16 d) (take_all i xs (omega (arith, b.size))) in
      record {
        list = (λ j. take (b.size j) (e j)) ∙ take-pad_to 16 d xs (omega (arith, b.size, b.few));
        size = b.size;
        few = b.few;
        padded = e;
      }

  -- the same of an equal list
  pub exactly-is : {d : A} {at : List A} {len : ℕ} {xs ys : List A} → xs ≡ ys → Exactly d at len xs → Exactly d at len ys
  exactly-is {d} {at} {len} e x = subst (λ (l : List A). Exactly d at len l) e x

  -- a push in place keeps an exact list exact
  pub exactly-push : (d x : A) (at at' : List A) (len len' : ℕ) (xs : List A) → Exactly d at len xs → len < 16 → Pushed x at len at' len' → Exactly d at' len' (xs ++ x ∷ [])
  exactly-push d x at at' len len' xs e h p =
      record {
        list = p.list ∙ ap (λ (l : List A). l ++ x ∷ []) e.list;
        size = p.size ∙ omega (arith, e.size, length-append xs (x ∷ []));
        few = omega (arith, p.size);
        padded = p.entries ∙ (λ j. set (e.padded j) (e.size j) x) ∙ set-pad_to 16 d xs x (omega (arith, e.size));
      }

  pub pushed : (x : A) (at : List A) (len : ℕ) → len < length at → Pushed x at len (set at len x) (len + 1)
  pushed x at len h =
      record { list = ap (λ (k : ℕ). take k (set at len x)) (add-one len) ∙ take-suc-set at len x h; size = refl; entries = refl }

  pub replaced : (i : ℕ) (x : A) (at : List A) (len : ℕ) → i < len → Replaced i x at len (set at i x) len
  replaced i x at len h = record { list = take-set-lt len at i x h; size = refl; entries = refl }

  put-pad_to : (n : ℕ) (d : A) (xs : List A) (i : ℕ) (x : A) → i < length xs → set (pad_to n d xs) i x ≡ pad_to n d (set xs i x)
  unfolding pad_to
  put-pad_to n d [] i x h = absurd (omega arith)
  put-pad_to zero d (y ∷ xs) i x h = refl
  put-pad_to (suc n) d (y ∷ xs) zero x h = refl
  put-pad_to (suc n) d (y ∷ xs) (suc i) x h = ap (λ (l : List A). y ∷ l) (put-pad_to n d xs i x (le_of_suc-le-suc h))
