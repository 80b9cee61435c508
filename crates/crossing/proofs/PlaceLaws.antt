-- What an array holds once each of its entries is mapped, and laws of a loop that maps one in place. Assumes nothing.
use mathlib.Core.Path.{◌≡◌, refl, sym, ap, ◌∙◌}
use mathlib.Core.List.{List, [], ◌∷◌, ◌++◌, map, append_assoc, append-nil}
use Prim.Native.Nat.{ℕ, suc, ◌+◌, ◌≤◌, ◌<◌}
use native.Mathlib.Omega.{arith}
use native.Mathlib.Numerals.{add-one}
use lib.ListN.{length, take, drop, get_or, set, length-map, length-set, drop_of_length-le}
use lib.Seq.{take-suc-set, take_all, drop-cons, drop-set-lt}
use Rattle.std.proofs.lemmas.List.{same_lists, get_or-map}

pub mapped : {A : Type 0} (f : A → A) (xs ys : List A) → length ys ≡ length xs → ((i : ℕ) (d : A) → i < length xs → get_or ys i d ≡ f (get_or xs i d)) → ys ≡ map f xs
mapped f xs ys l h =
    same_lists ys (map f xs) (l ∙ sym (length-map xs f))
    (λ i d b. let e : i < length xs = omega arith in h i d e ∙ sym (get_or-map f xs i d d e))

module _ {A : Type 0} (f : A → A) (s : List A) where
  -- the first i of s are mapped, and the others are as they were
  pub record Mapping (i : ℕ) (l : List A) : Type 0 where
    pub long : length l ≡ length s
    pub rest : take i l ++ map f (drop i l) ≡ map f s

  pub mapping-none : Mapping 0 s
  mapping-none = record { long = refl; rest = refl }

  pub mapping-more : (i : ℕ) (l : List A) (d x : A) → Mapping i l → i < length l → x ≡ f (get_or l i d) → Mapping (i + 1) (set l i x)
  mapping-more i l d x M h e =
      let l' = set l i x in
      let left : drop (suc i) l' ≡ drop (suc i) l = drop-set-lt (suc i) l i x (omega arith) in
      record {
        long = length-set l i x ∙ M.long;
        rest =
            ap (λ (k : ℕ). take k l' ++ map f (drop k l')) (add-one i)
            ∙ (λ z. take-suc-set l i x h z ++ map f (left z))
            ∙ append_assoc (take i l) (x ∷ []) (map f (drop (suc i) l))
            ∙ ap (λ (y : A). take i l ++ y ∷ map f (drop (suc i) l)) e
            ∙ ap (λ (m : List A). take i l ++ map f m) (sym (drop-cons l i d h))
            ∙ M.rest;
      }

  pub mapping-all : (i : ℕ) (l : List A) → Mapping i l → length l ≤ i → l ≡ map f s
  mapping-all i l M h =
      sym (append-nil l)
      ∙ (λ z. sym (take_all i l h) z ++ map f (sym (drop_of_length-le l h) z))
      ∙ M.rest
