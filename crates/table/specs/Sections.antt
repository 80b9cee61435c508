-- The sections as the code has them, places in the bytes, read as those of the rules. Definitions only.
use Rattle.std.specs.Prelude.{◌≡◌, Option, Some, None, List, ℕ}
use Rattle.std.proofs.Math.Option as O
use Rattle.rules.specs.Table.{rows_of, Table, with_rows, read_table}
use Rattle.reader.specs.Section.{chunks_at, Held}
use Rattle.table.specs.declared.sections.Places.{Places}

-- the sections found, and the rows not yet looked at
abbrev pub sections_as : List ℕ → Option Places → O.Option Table
sections_as bs (Some t) = with_rows (rows_of (chunks_at bs t.rows)) (chunks_at bs t.panes) (chunks_at bs t.shares) (chunks_at bs t.minima)
sections_as bs None = O.none

pub record Placed (bs : List ℕ) (t : Places) : Type 0 where
  pub rows : Held bs t.rows
  pub panes : Held bs t.panes
  pub shares : Held bs t.shares
  pub minima : Held bs t.minima

abbrev pub PlacedIn : List ℕ → Option Places → Type 0
PlacedIn bs (Some t) = Placed bs t
PlacedIn bs None = Unit

pub record SectionsAre (bs : List ℕ) (r : Option Places) : Type 0 where
  pub is : read_table bs ≡ sections_as bs r
  pub here : PlacedIn bs r
