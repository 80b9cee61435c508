-- What the solver leaves in the lengths that it is lent. Definitions only.
use Rattle.std.specs.Prelude.{◌≡◌, List, ℕ, ◌-◌, length, take, drop, replicate, Float}
use Rattle.rules.specs.Numbers.{zero-f}
use Rattle.rules.specs.Solver.{Lengths, sized, run}
use Rattle.loops.specs.Columns.{kids_shown, unfixed}

-- the first n are the lengths of the rule's loop, which p runs made, and nothing past them changed
pub record Ran (total : Float) (n : ℕ) (ss ms xs xs' : List Float) (p : ℕ) : Type 0 where
  pub lengths : ◌≡◌ {A = Lengths} (record { lengths = take n xs'; passes = p }) (sized (run n total 0 (take n (kids_shown ss ms xs unfixed))))
  pub past : drop n xs' ≡ drop n xs
  pub long : length xs' ≡ 16

-- the first n are the rule's lengths, after p passes, and zeros stand past them
pub record Shows (l : Lengths) (n : ℕ) (xs' : List Float) (p : ℕ) : Type 0 where
  pub lengths : record { lengths = take n xs'; passes = p } ≡ l
  pub past : drop n xs' ≡ replicate (16 - n) zero-f
  pub long : length xs' ≡ 16
