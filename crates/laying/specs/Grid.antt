-- The columns that the walk reads: a row for each slot, and no list too long. Definitions only.
use Rattle.std.specs.Prelude.{◌≡◌, List, [], ℕ, length, get_or, Float}
use Rattle.columns.specs.Columns.{Slim}

pub record Grid (hs xs : List (List ℕ)) (ss ms : List (List Float)) : Type 0 where
  pub heads : length hs ≡ 64
  pub ids : length xs ≡ 64
  pub shares : length ss ≡ 64
  pub minima : length ms ≡ 64
  pub slim : (i : ℕ) → Slim (get_or hs i [])
