-- When `solve` refuses: with 5, exactly when its input is not as document 01 has it ('Solver and frame'); and with no other number. Assumes nothing.
use Rattle.std.specs.Prelude.{◌≡◌, ◌↔◌, Bool, ◌&&◌, List, [], ◌∷◌, ℕ, eqb, leb, Float}
use Rattle.std.proofs.Math.Path.{refl}
use Rattle.std.proofs.Common.{sym, arith, leb-true, le-leb, eqb-true, eq-eqb}
use Rattle.std.proofs.Math.Logic.{inl, inr}
use Rattle.std.proofs.Math.Bool.{true, false}
use Rattle.std.specs.Float.Ieee.{lt, le}
use Rattle.std.specs.Float.Ieee.Scale.{finite}
use Rattle.rules.specs.Numbers.{zero-f, minimum_ok, share_ok}
use Rattle.rules.specs.Lists.{all_of}
use Rattle.rules.specs.Tree.{reals, Member}
use Rattle.rules.specs.Solver.{solver_ok, solve_by, solve}
use Rattle.rules.specs.Tree.{Reals}
use Rattle.forest.specs.Lists.{never}
use Rattle.promises.specs.Words.{Tells, number_of, one_number, both_ways, and-iff, and-means, all-means, not-means}
use Rattle.promises.specs.SolveExact.{SolverInput, Given}

pub solver-means : (n m : ℕ) (total : Float) (ss ms : List Float) → (solver_ok n m total ss ms ≡ true) ↔ SolverInput n m total ss ms
solver-means n m total ss ms =
    and-means (leb n 16 && eqb m n && minimum_ok total && all_of share_ok ss) (all_of minimum_ok ms)
    (and-means (leb n 16 && eqb m n && minimum_ok total) (all_of share_ok ss)
    (and-means (leb n 16 && eqb m n) (minimum_ok total)
    (and-means (leb n 16) (eqb m n) (leb-true n 16, le-leb n 16) (eqb-true m n, eq-eqb m n))
    (and-iff (finite total) (le zero-f total)))
    (all-means share_ok (λ x. and-iff (finite x) (lt zero-f x)) ss))
    (all-means minimum_ok (λ x. and-iff (finite x) (le zero-f x)) ms)

-- ---- the call

module _ (total : Float) (shares minima : Reals) where
  abbrev ok : Bool
  ok = solver_ok shares.len minima.len total (reals shares) (reals minima)

  -- 5 exactly when the input is out of range
  pub solve-refuses : Tells (solve total shares minima).answer 5 0 0 ↔ (Given total shares minima → ⊥)
  unfolding solve
  solve-refuses = both_ways (go ok) (not-means ok (solver-means shares.len minima.len total (reals shares) (reals minima)))
    where
      go : (b : Bool) → Tells (solve_by b total (reals shares) (reals minima)).answer 5 0 0 ↔ (b ≡ false)
      go true = (λ t. one_number (solve_by true total (reals shares) (reals minima)).answer 5 0 0 0 refl (λ z. omega (arith, z)) t, λ e. never e)
      go false = (λ t. refl, λ e. refl)

  pub solve-accepts : Tells (solve total shares minima).answer 0 0 0 ↔ Given total shares minima
  unfolding solve
  solve-accepts = both_ways (go ok) (solver-means shares.len minima.len total (reals shares) (reals minima))
    where
      go : (b : Bool) → Tells (solve_by b total (reals shares) (reals minima)).answer 0 0 0 ↔ (b ≡ true)
      go true = (λ t. refl, λ e. refl)
      go false = (λ t. one_number (solve_by false total (reals shares) (reals minima)).answer 0 0 0 5 refl (λ z. omega (arith, z)) t, λ e. never (sym e))

  -- no other number
  pub solve-numbers : Member (number_of (solve total shares minima).answer) (0 ∷ 5 ∷ [])
  unfolding solve
  solve-numbers = go ok
    where
      go : (b : Bool) → Member (number_of (solve_by b total (reals shares) (reals minima)).answer) (0 ∷ 5 ∷ [])
      go true = inl refl
      go false = inr (inl refl)
