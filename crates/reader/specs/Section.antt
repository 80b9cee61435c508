-- A section as the code has it, a place in the bytes and a count, read as one of the rules. Definitions only.
use Rattle.std.specs.Prelude.{◌≡◌, Option, Some, None, List, ℕ, ◌+◌, ◌*◌, ◌≤◌, ◌<◌, length, drop}
use Rattle.std.proofs.Math.Option as O
use Rattle.rules.specs.Table as Rule
use Rattle.rules.specs.Table.{section, chunks}
use Rattle.reader.specs.declared.cursor.Section.{Section}

-- a section's entries, of eight bytes each
abbrev pub chunks_at : List ℕ → Section → List (List ℕ)
chunks_at bs s = chunks 8 s.count (drop s.start bs)

abbrev pub held : List ℕ → Section → O.Option Rule.Section
held bs s = O.some (record { entries = chunks_at bs s; rest = drop (s.start + 8 * s.count) bs })

abbrev pub found_as : List ℕ → Option Section → O.Option Rule.Section
found_as bs (Some s) = held bs s
found_as bs None = O.none

-- a section's entries are all there, and no more than its count can say
pub record Held (bs : List ℕ) (s : Section) : Type 0 where
  pub inside : s.start + 8 * s.count ≤ length bs
  pub few : s.count < 4294967296

abbrev pub FoundIn : List ℕ → Option Section → Type 0
FoundIn bs (Some s) = Held bs s
FoundIn bs None = Unit

pub record SectionAt (bs : List ℕ) (p : ℕ) (r : Option Section) : Type 0 where
  pub is : section 8 (drop p bs) ≡ found_as bs r
  pub here : FoundIn bs r
