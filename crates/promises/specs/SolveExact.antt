-- The words for an input of `solve`, as document 01 has it ('Solver and frame'). When it refuses is proved in proofs/SolveExact. Definitions only.
use Rattle.std.specs.Prelude.{◌≡◌, List, ℕ, ◌≤◌, Float}
use Rattle.std.proofs.Math.Bool.{true}
use Rattle.std.specs.Float.Ieee.{lt, le}
use Rattle.std.specs.Float.Ieee.Scale.{finite}
use Rattle.rules.specs.Numbers.{zero-f}
use Rattle.rules.specs.Tree.{reals}
use Rattle.rules.specs.Tree.{Reals}
use Rattle.forest.specs.Lists.{All}

-- ---- the input's words

-- finite and not negative
abbrev pub Least : Float → Type 0
Least x = (finite x ≡ true) × (le zero-f x ≡ true)

-- finite and positive
abbrev pub Positive : Float → Type 0
Positive x = (finite x ≡ true) × (lt zero-f x ≡ true)

-- 0 to 16 shares, as many minima; total, shares and minima in range
abbrev pub SolverInput : ℕ → ℕ → Float → List Float → List Float → Type 0
SolverInput n m total shares minima = ((((n ≤ 16) × (m ≡ n)) × Least total) × All Positive shares) × All Least minima

-- ---- the call

module _ (total : Float) (shares minima : Reals) where
  abbrev pub Given : Type 0
  Given = SolverInput shares.len minima.len total (reals shares) (reals minima)
