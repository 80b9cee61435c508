-- A table by its places in the bytes, and the row rules as one test along the rows. Definitions only.
use Rattle.std.specs.Prelude.{◌≡◌, Some, None, Bool, false, ◌&&◌, List, [], ◌∷◌, map, ℕ, zero, suc, ◌+◌, eqb, length, Float}
use Rattle.std.proofs.Math.Option.{Option, none, some}
use Rattle.rules.specs.Table.{Row, row_of, panes_used, shares_used, minima_used, children_used, sum_rows, Table, number, real, read_table}
use Rattle.table.specs.Row.{row_or}
use Rattle.reader.specs.Section.{chunks_at}
use Rattle.table.specs.Sections.{Placed}
use Rattle.table.specs.declared.sections.Places.{Places}
use Rattle.std.specs.Prelude as Std
use Rattle.reader.specs.declared.cursor.Section.{Section}

abbrev pub row_from : List ℕ → Row
row_from e = row_or (row_of e)

abbrev pub rows_at : List ℕ → Places → List Row
rows_at bs t = map row_from (chunks_at bs t.rows)

abbrev pub panes_at : List ℕ → Places → List ℕ
panes_at bs t = map number (chunks_at bs t.panes)

abbrev pub reals_at : List ℕ → Section → List Float
reals_at bs s = map real (chunks_at bs s)

abbrev pub table_of : List ℕ → Places → Table
table_of bs t =
    record {
      rows = rows_at bs t;
      panes = panes_at bs t;
      shares = reals_at bs t.shares;
      minima = reals_at bs t.minima;
    }

-- each section is used up exactly
pub record Used (t : Table) : Type 0 where
  pub panes : sum_rows panes_used t.rows ≡ length t.panes
  pub shares : sum_rows shares_used t.rows ≡ length t.shares
  pub minima : sum_rows minima_used t.rows ≡ length t.minima

pub record Tabled (bs : List ℕ) (t : Places) : Type 0 where
  pub read : read_table bs ≡ some (table_of bs t)
  pub placed : Placed bs t
  pub used : Used (table_of bs t)

abbrev pub TableIs : List ℕ → Std.Option Places → Type 0
TableIs bs (Some t) = Tabled bs t
TableIs bs None = read_table bs ≡ none

-- ---- the row rules as a walk: tiles still to come, and what is taken so far of each section

abbrev pub ok_by : Option Row → ℕ → (ℕ → Row → Bool) → Bool
ok_by none n more = false
ok_by (some r) zero more = false
ok_by (some r) (suc n) more = more n r

unfoldable pub ok_from : ℕ → ℕ → ℕ → List (List ℕ) → ℕ → ℕ → ℕ → ℕ → Bool
ok_from np ns nm [] n a b c = eqb n 0 && eqb a np && eqb b ns && eqb c nm
ok_from np ns nm (e ∷ es) n a b c =
    ok_by (row_of e) n (λ k r. ok_from np ns nm es (k + children_used r) (a + panes_used r) (b + shares_used r) (c + minima_used r))

abbrev pub ok_rows : List ℕ → Places → Bool
ok_rows bs t = ok_from t.panes.count t.shares.count t.minima.count (chunks_at bs t.rows) 1 0 0 0
