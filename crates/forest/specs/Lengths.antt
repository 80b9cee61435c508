-- Mended lists of a split are as long as it has children. Assumes nothing.
use Rattle.std.specs.Prelude.{◌≡◌, refl, Bool, true, false, List, [], ◌∷◌, ℕ, zero, suc, eqb, length, Float}
use Rattle.std.proofs.Common.{ap, ◌∙◌, eqb-true}
use Rattle.std.proofs.lemmas.List.{length-map, length-replicate}
use Rattle.rules.specs.Numbers.{zero-f, one-f, share_ok, minimum_ok}
use Rattle.rules.specs.Lists.{any_of}
use Rattle.rules.specs.Shares.{fix_share, mended_by, repaired_by, repaired_shares}
use Rattle.rules.specs.Minima.{aligned_constraints, min_major, min_major_by, split_min_major}

pub repaired-length : (n : ℕ) (xs : List Float) → length (repaired_shares n xs) ≡ n
unfolding repaired_shares
repaired-length n xs = by (eqb (length xs) n) refl
  where
    good : (b : Bool) → length xs ≡ n → length (mended_by b n xs) ≡ n
    good true e = length-map xs fix_share ∙ e
    good false e = length-replicate n one-f

    by : (b : Bool) → eqb (length xs) n ≡ b → length (repaired_by b n xs) ≡ n
    by true e = good (any_of share_ok xs) (eqb-true (length xs) n e)
    by false e = length-replicate n one-f

pub aligned-length : (n : ℕ) (ms : List Float) → length (aligned_constraints n ms) ≡ n
unfolding aligned_constraints
aligned-length zero ms = refl
aligned-length (suc n) [] = ap suc (aligned-length n [])
aligned-length (suc n) (m ∷ ms) = ap suc (aligned-length n ms)

pub major-length : (n : ℕ) (ms : List Float) (d : Float) → length (min_major n ms d) ≡ n
unfolding min_major
major-length zero ms d = refl
major-length (suc n) [] d = ap suc (major-length n [] d)
major-length (suc n) (m ∷ ms) d = ap suc (major-length n ms d)

pub minima-length : (n : ℕ) (ms : List Float) (d : Float) → length (split_min_major n ms d) ≡ n
unfolding split_min_major
minima-length n ms d = go (minimum_ok d)
  where
    go : (b : Bool) → length (min_major_by b n ms d) ≡ n
    go true = major-length n ms d
    go false = length-replicate n zero-f
