-- Whether a real has the bits of a stored answer: of a NaN only that it is one, written as the files write it. Definitions only.
use Rattle.std.specs.Prelude.{Bool, cond, ℕ, eqb, Float}
use Rattle.std.specs.Float.{binary64}
use Rattle.std.specs.Float.Ieee.{to_bits, eq}

abbrev pub bits_are : Float → ℕ → Bool
bits_are x n = cond (eq x x) (eqb (to_bits binary64 x) n) (eqb n 0x7ff8_0000_0000_0000)
