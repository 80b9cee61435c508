-- What a list of 16 that was filled holds: zeros past the length. Definitions only.
use Rattle.std.specs.Prelude.{◌≡◌, List, ℕ, ◌-◌, length, take, drop, replicate, Float}
use Rattle.rules.specs.Numbers.{zero-f}

-- an array of 16 whose first n are xs, and the rest zeros
pub record Padded (n : ℕ) (xs out : List Float) : Type 0 where
  pub front : take n out ≡ xs
  pub back : drop n out ≡ replicate (16 - n) zero-f
  pub long : length out ≡ 16
