-- What the reading of a solver's input comes to. Definitions only.
use Rattle.std.specs.Prelude.{◌≡◌, ◌&&◌, List, map, ℕ, length, take, Float, Result, Ok, Err, is_ok}
use Rattle.rules.specs.Numbers.{plus, minimum_ok, share_ok}
use Rattle.rules.specs.Lists.{all_of}
use Rattle.rules.specs.Solver.{sum_of}
use Rattle.loops.specs.declared.given.Sums.{Sums}

-- the sums of n shares and of n minima
pub record SumsOf (n : ℕ) (ss ms : List Float) (s : Sums) : Type 0 where
  pub shares : s.shares ≡ sum_of (take n ss)
  pub minima : s.minima ≡ sum_of (take n ms)

-- the sums that are told, of a good input and of a bad one
abbrev pub sums_of : Result Sums Sums → Sums
sums_of (Ok s) = s
sums_of (Err s) = s

-- the first n shares and minima: their tests, their sums, and the minima with minus zero as zero in a list of 16
pub record Reads (n : ℕ) (ss ms ls' : List Float) (r : Result Sums Sums) : Type 0 where
  pub fine : is_ok r ≡ all_of share_ok (take n ss) && all_of minimum_ok (take n ms)
  pub sums : SumsOf n ss ls' (sums_of r)
  pub plain : take n ls' ≡ map plus (take n ms)
  pub long : length ls' ≡ 16
