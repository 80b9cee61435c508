-- Heads as they are written back: kind and mode in their range, and 0 in what the kind doesn't use. Definitions only.
use Rattle.std.specs.Prelude.{Bool, true, false, List, [], ◌∷◌, map, ℕ, zero, suc, get_or}
use Rattle.rules.specs.Tree.{bar_code, axis_code}
use Rattle.columns.specs.Columns.{bar_from, axis_from}
use Rattle.coding.specs.Lent.{codes_ok}

abbrev pub fitted_by : ℕ → List ℕ → List ℕ
fitted_by zero h = 0 ∷ 0 ∷ 0 ∷ 0 ∷ 0 ∷ 0 ∷ 0 ∷ 0 ∷ []
fitted_by (suc zero) h = 1 ∷ 0 ∷ get_or h 2 0 ∷ 0 ∷ 0 ∷ 0 ∷ 0 ∷ 0 ∷ []
fitted_by (suc (suc zero)) h = 2 ∷ bar_code (bar_from (get_or h 1 0)) ∷ 0 ∷ get_or h 3 0 ∷ get_or h 4 0 ∷ 0 ∷ 0 ∷ 0 ∷ []
fitted_by (suc (suc (suc n))) h = 3 ∷ axis_code (axis_from (get_or h 1 0)) ∷ 0 ∷ 0 ∷ get_or h 4 0 ∷ get_or h 5 0 ∷ get_or h 6 0 ∷ 0 ∷ []

abbrev pub fitted : List ℕ → List ℕ
fitted h = fitted_by (get_or h 0 0) h

-- all heads, where a code of one is out of its range; else they stay as they are
abbrev pub fit_by : Bool → List (List ℕ) → List (List ℕ)
fit_by true hs = hs
fit_by false hs = map fitted hs

abbrev pub fit_heads : List (List ℕ) → List (List ℕ)
fit_heads hs = fit_by (codes_ok hs) hs
