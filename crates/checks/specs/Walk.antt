-- A walk along the rows of a table, with what is taken so far of each section. Assumes nothing.
use Rattle.std.specs.Prelude.{◌≡◌, List, ℕ, ◌+◌, ◌^◌, ◌≤◌, ◌<◌, length, get_or, drop}
use Rattle.std.proofs.Common.{sym, ap, ◌∙◌, add-one, arith, drop-cons, drop-drop}
use Rattle.rules.specs.Table.{Row, pane_row, panes_used, shares_used, minima_used, sum_rows, Table, number, real}
use Rattle.rules.specs.Spec.{after}
use Rattle.table.specs.Sections.{Placed}
use Rattle.table.specs.Rows.{row_from, table_of, Used}
use Rattle.checks.specs.Checks.{left_at, Room}
use Rattle.checks.specs.Entries.{length-entries}
use Rattle.table.specs.Taken.{taken_none, taken_with}
use Rattle.table.specs.declared.row.Taken.{Taken}
use Rattle.table.specs.declared.sections.Places.{Places}

sum-next : (f : Row → ℕ) (rs : List Row) (i : ℕ) → i < length rs → sum_rows f (drop i rs) ≡ f (get_or rs i pane_row) + sum_rows f (drop (i + 1) rs)
unfolding sum_rows
sum-next f rs i h = ap (sum_rows f) (drop-cons rs i pane_row h) ∙ ap (λ (k : ℕ). f (get_or rs i pane_row) + sum_rows f (drop k rs)) (sym (add-one i))

-- past i rows of t, so much is taken
pub record Along (t : Table) (i : ℕ) (k : Taken) : Type 0 where
  pub within : i ≤ length t.rows
  pub panes : k.panes + sum_rows panes_used (drop i t.rows) ≡ length t.panes
  pub shares : k.shares + sum_rows shares_used (drop i t.rows) ≡ length t.shares
  pub minima : k.minima + sum_rows minima_used (drop i t.rows) ≡ length t.minima

pub along-start : (t : Table) → Used t → Along t 0 taken_none
along-start t u = record { within = omega arith; panes = omega (arith, u.panes); shares = omega (arith, u.shares); minima = omega (arith, u.minima) }

pub along-more : (t : Table) (i : ℕ) (k : Taken) (r : Row) → Along t i k → i < length t.rows → r ≡ get_or t.rows i pane_row → Along t (i + 1) (taken_with k r)
along-more t i k r w h e =
    record {
      within = omega arith;
      panes = omega (arith, w.panes, sum-next panes_used t.rows i h, ap panes_used e);
      shares = omega (arith, w.shares, sum-next shares_used t.rows i h, ap shares_used e);
      minima = omega (arith, w.minima, sum-next minima_used t.rows i h, ap minima_used e);
    }

-- what the next row takes is there
pub along-room : (bs : List ℕ) (t : Places) (i : ℕ) (k : Taken) (r : Row) → Along (table_of bs t) i k → i < t.rows.count → r ≡ get_or (table_of bs t).rows i pane_row → Room t r k
along-room bs t i k r w h e =
    let h : i < length (table_of bs t).rows = omega (arith, length-entries bs t.rows row_from) in
    record {
      panes = omega (arith, w.panes, sum-next panes_used (table_of bs t).rows i h, ap panes_used e, length-entries bs t.panes number);
      shares = omega (arith, w.shares, sum-next shares_used (table_of bs t).rows i h, ap shares_used e, length-entries bs t.shares real);
      minima = omega (arith, w.minima, sum-next minima_used (table_of bs t).rows i h, ap minima_used e, length-entries bs t.minima real);
    }

-- and what is taken then is a number of 64 bits
pub along-fits : (bs : List ℕ) (t : Places) (i : ℕ) (k : Taken) (r : Row) → Placed bs t → Along (table_of bs t) i k → i < t.rows.count → r ≡ get_or (table_of bs t).rows i pane_row
    → (k.panes + panes_used r < 2 ^ 64) × (k.shares + shares_used r < 2 ^ 64) × (k.minima + minima_used r < 2 ^ 64)
along-fits bs t i k r p w h e =
    let room = along-room bs t i k r w h e in
    (omega (arith, room.panes, p.panes.few), omega (arith, room.shares, p.shares.few), omega (arith, room.minima, p.minima.few))

-- what is left after the row
pub left_after : (t : Table) (k : Taken) (r : Row) → after r (left_at t k) ≡ left_at t (taken_with k r)
left_after t k r =
    λ j. record {
      panes = drop-drop (panes_used r) k.panes t.panes j;
      shares = drop-drop (shares_used r) k.shares t.shares j;
      minima = drop-drop (minima_used r) k.minima t.minima j;
    }
