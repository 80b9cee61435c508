-- Numbers: IEEE 754 binary64 as lib.Ieee has it, and the few words that the rules say of it.
-- From the Rust's uses of f64 (`max`, `min`, `is_finite`, casts of counts) and document 01: minus zero is read as zero ('The arena').
-- Definitions only.
use Rattle.std.specs.Prelude.{Bool, false, ◌&&◌, ◌||◌, cond, ℕ, pos, negsuc, Float}
use Rattle.std.specs.Float.{fin, binary64}
use Rattle.std.specs.Float.Ieee.{div, lt, le, eq, is_nan, of_int}
use Rattle.std.specs.Float.Ieee.Scale.{finite}

abbrev pub zero-f : Float
zero-f = fin false 0 (pos 0)

abbrev pub one-f : Float
one-f = fin false 1 (pos 0)

abbrev pub half-f : Float
half-f = fin false 1 (negsuc 0)

-- a count, as the Rust's `count as f64`
abbrev pub whole : ℕ → Float
whole n = of_int binary64 (pos n)

-- 0.01: the value of binary64 that is nearest to it, which is what the division rounds to
unfoldable pub hundredth : Float
unfolding div of_int
hundredth = div binary64 one-f (whole 100)

-- the Rust's `x.max(y)` and `x.min(y)`, where neither is a NaN
abbrev pub larger : Float → Float → Float
larger x y = cond (lt y x) x y

abbrev pub smaller : Float → Float → Float
smaller x y = cond (lt y x) y x

-- minus zero read as zero
abbrev pub plus : Float → Float
plus x = cond (eq x zero-f) zero-f x

-- a total or a minimum: finite and not negative
abbrev pub minimum_ok : Float → Bool
minimum_ok x = finite x && le zero-f x

-- a share: finite and positive
abbrev pub share_ok : Float → Bool
share_ok x = finite x && lt zero-f x

-- `is_valid_split_fraction` (util.rs, 224 to 226): the one place that says which fractions are good
abbrev pub is_valid_split_fraction : Float → Bool
is_valid_split_fraction x = finite x && lt zero-f x && lt x one-f

-- the same number: a zero's sign is passed over, and NaN is itself
abbrev pub same_real : Float → Float → Bool
same_real x y = eq x y || (is_nan x && is_nan y)
