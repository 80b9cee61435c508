-- Minima of a split's children. From tree.rs, 1183 to 1197 (`aligned_constraints`, `compact_constraints`), util.rs, 174 to 188
-- (`split_min_major`), and document 01: minus zero is read as zero ('The arena'), and the alignment ('Repair').
-- Definitions only.
use Rattle.std.specs.Prelude.{Bool, true, false, cond, List, [], ◌∷◌, ℕ, zero, suc, replicate, Float}
use Rattle.std.specs.Float.Ieee.{eq}
use Rattle.rules.specs.Numbers.{zero-f, larger, plus, minimum_ok}

-- not finite or negative is 0.0, and minus zero is plus zero
unfoldable pub fix_minimum : Float → Float
fix_minimum x = cond (minimum_ok x) (plus x) zero-f

-- one for each of n children: missing is 0.0, extras are dropped
unfoldable pub aligned_constraints : ℕ → List Float → List Float
aligned_constraints zero ms = []
aligned_constraints (suc n) [] = zero-f ∷ aligned_constraints n []
aligned_constraints (suc n) (m ∷ ms) = fix_minimum m ∷ aligned_constraints n ms

-- trailing zeros are cut
abbrev pub compact_by : Bool → Float → List Float
compact_by true x = []
compact_by false x = x ∷ []

abbrev pub compact_cons : Float → List Float → List Float
compact_cons x [] = compact_by (eq x zero-f) x
compact_cons x (y ∷ ys) = x ∷ y ∷ ys

unfoldable pub compact_constraints : List Float → List Float
compact_constraints [] = []
compact_constraints (x ∷ xs) = compact_cons x (compact_constraints xs)

-- the larger of the default for the axis and the child's own, where it has a good one
abbrev pub least_of : Float → Float → Float
least_of fallback m = cond (minimum_ok m) (larger (plus fallback) (plus m)) (plus fallback)

unfoldable pub min_major : ℕ → List Float → Float → List Float
min_major zero ms fallback = []
min_major (suc n) [] fallback = plus fallback ∷ min_major n [] fallback
min_major (suc n) (m ∷ ms) fallback = least_of fallback m ∷ min_major n ms fallback

abbrev pub min_major_by : Bool → ℕ → List Float → Float → List Float
min_major_by true n ms fallback = min_major n ms fallback
min_major_by false n ms fallback = replicate n zero-f

unfoldable pub split_min_major : ℕ → List Float → Float → List Float
split_min_major n ms fallback = min_major_by (minimum_ok fallback) n ms fallback
