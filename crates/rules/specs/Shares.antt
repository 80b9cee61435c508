-- Shares of a split. From util.rs, 204 to 222 (`repaired_shares`), with its flag and its second list; document 01, 'Repair'.
-- Definitions only.
use Rattle.std.specs.Prelude.{Bool, true, false, cond, List, map, ℕ, eqb, length, replicate, Float}
use Rattle.std.specs.Float.Ieee.{eq}
use Rattle.rules.specs.Numbers.{one-f, share_ok}
use Rattle.rules.specs.Lists.{any_of, same_list}

-- a share that is not finite or not positive becomes 1.0
unfoldable pub fix_share : Float → Float
fix_share x = cond (share_ok x) x one-f

abbrev pub ones : ℕ → List Float
ones n = replicate n one-f

-- as many shares as children: each mended, unless none is good (`valid` of the Rust), then all 1.0
abbrev pub mended_by : Bool → ℕ → List Float → List Float
mended_by true n xs = map fix_share xs
mended_by false n xs = ones n

-- shares of the wrong number become all 1.0
abbrev pub repaired_by : Bool → ℕ → List Float → List Float
repaired_by true n xs = mended_by (any_of share_ok xs) n xs
repaired_by false n xs = ones n

unfoldable pub repaired_shares : ℕ → List Float → List Float
repaired_shares n xs = repaired_by (eqb (length xs) n) n xs

-- the Rust's `==` on lists of f64
abbrev pub eq_reals : List Float → List Float → Bool
eq_reals xs ys = same_list eq xs ys
