-- What reading does to the bytes that a reader has left, where those are known. Definitions only.
use Rattle.std.specs.Prelude.{ℕ, List, ◌++◌, take}
use Rattle.std.specs.Io.KnownBytes.{Consumes}
use Rattle.std.specs.declared.option.Option.{Option}

-- some bytes are gone from the front, and the rest are as they were
abbrev pub Passes : Option (List ℕ) → Option (List ℕ) → Type 0
Passes old new = (bs : List ℕ) × Consumes old new bs

-- the last n bytes that are gone are the first n of the buffer
abbrev pub EndsWithBuffer : Option (List ℕ) → Option (List ℕ) → List ℕ → ℕ → Type 0
EndsWithBuffer old new buf n = (bs : List ℕ) × Consumes old new (bs ++ take n buf)
