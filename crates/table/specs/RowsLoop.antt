-- The loop along all rows, turn by turn. Assumes nothing.
use Rattle.std.specs.Prelude.{◌≡◌, refl, Some, None, Bool, false, ◌&&◌, ℕ, suc, ◌+◌, ◌-◌, ◌*◌, ◌≤◌, ◌<◌, eqb, take, drop}
use Rattle.std.proofs.Math.Path.{sym, ap}
use Rattle.std.proofs.Common.{◌∙◌, pos_of_ne-zero, add-one, arith, drop_of_length-le, drop-cons}
use mathlib.Core.List.{List, []}
use Rattle.std.proofs.Math.Option.{Option, none, some}
use Rattle.rules.specs.Table.{Row, row_of, children_used}
use Rattle.table.specs.Row.{ReadAt, row_is}
use Rattle.table.specs.Taken.{taken_none, taken_with}
use Rattle.reader.specs.Section.{chunks_at}
use Rattle.table.specs.Rows.{ok_by, ok_from, ok_rows}
use Rattle.table.specs.RowsLaws.{length-chunks, chunk-at}
use Rattle.table.specs.declared.row.TableRow.{TableRow}
use Rattle.table.specs.declared.row.Taken.{Taken}
use Rattle.table.specs.declared.sections.Places.{Places}

-- the walk along some of the rows, from what is taken so far
abbrev walk : Places → List (List ℕ) → ℕ → Taken → Bool
walk t es due k = ok_from t.panes.count t.shares.count t.minima.count es due k.panes k.shares k.minima

-- i rows are passed: the walk from there on answers for the whole, and the sums are small
pub record Going (bs : List ℕ) (t : Places) (i due : ℕ) (k : Taken) : Type 0 where
  pub within : i ≤ t.rows.count
  pub rest : walk t (drop i (chunks_at bs t.rows)) due k ≡ ok_rows bs t
  pub due-few : due ≤ 65536 * i + 1
  pub panes-few : k.panes ≤ 65536 * i
  pub shares-few : k.shares ≤ 65536 * i
  pub minima-few : k.minima ≤ 65536 * i

pub going_start : (bs : List ℕ) (t : Places) → Going bs t 0 1 taken_none
going_start bs t = record { within = omega arith; rest = refl; due-few = omega arith; panes-few = omega arith; shares-few = omega arith; minima-few = omega arith }

none-due : (o : Option Row) (more : ℕ → Row → Bool) → ok_by o 0 more ≡ false
none-due none more = refl
none-due (some r) more = refl

module _ (bs : List ℕ) (t : Places) (i due : ℕ) (k : Taken) (w : Going bs t i due k) (h : i < t.rows.count) where
  abbrev es : List (List ℕ)
  es = chunks_at bs t.rows

  abbrev more : ℕ → Row → Bool
  more n r = walk t (drop (suc i) es) (n + children_used r) (taken_with k r)

  abbrev row : Option Row
  row = row_of (take 8 (drop (t.rows.start + 8 * i) bs))

  here : ok_by row due more ≡ ok_rows bs t
  unfolding ok_from
  here =
      ap (λ (e : List ℕ). ok_by (row_of e) due more) (sym (chunk-at bs t.rows i [] h))
      ∙ sym (ap (λ (l : List (List ℕ)). walk t l due k) (drop-cons es i [] (omega (arith, length-chunks 8 t.rows.count (drop t.rows.start bs)))))
      ∙ w.rest

  pub going-closed : due ≡ 0 → false ≡ ok_rows bs t
  going-closed e = sym (none-due row more) ∙ ap (λ (d : ℕ). ok_by row d more) (sym e) ∙ here

  pub going-bad : ReadAt bs (t.rows.start + 8 * i) None → false ≡ ok_rows bs t
  going-bad r = ap (λ (o : Option Row). ok_by o due more) r.is ∙ here

  pub going_more : (x : TableRow) → ReadAt bs (t.rows.start + 8 * i) (Some x) → (due ≡ 0 → ⊥) → Going bs t (i + 1) (due - 1 + children_used (row_is x)) (taken_with k (row_is x))
  going_more x r ne =
      let pos : 0 < due = pos_of_ne-zero ne in
      let d : due ≡ suc (due - 1) = omega arith in
      record {
        within = omega arith;
        rest = ap (λ (j : ℕ). walk t (drop j es) (due - 1 + children_used (row_is x)) (taken_with k (row_is x))) (add-one i) ∙ (λ j. ok_by (r.is j) (sym d j) more) ∙ here;
        due-few = omega (arith, w.due-few, r.small.children);
        panes-few = omega (arith, w.panes-few, r.small.panes);
        shares-few = omega (arith, w.shares-few, r.small.shares);
        minima-few = omega (arith, w.minima-few, r.small.minima);
      }

-- with no row left the walk answers by what is due and what is taken, however far past the last row it stands
pub going_past : (bs : List ℕ) (t : Places) (i due : ℕ) (k : Taken) → walk t (drop i (chunks_at bs t.rows)) due k ≡ ok_rows bs t → t.rows.count ≤ i
    → (eqb due 0 && eqb k.panes t.panes.count && eqb k.shares t.shares.count && eqb k.minima t.minima.count) ≡ ok_rows bs t
unfolding ok_from
going_past bs t i due k w h =
    sym (ap (λ (l : List (List ℕ)). walk t l due k) (drop_of_length-le (chunks_at bs t.rows) {i = i} (omega (arith, length-chunks 8 t.rows.count (drop t.rows.start bs))))) ∙ w

pub going_end : (bs : List ℕ) (t : Places) (i due : ℕ) (k : Taken) → Going bs t i due k → t.rows.count ≤ i
    → (eqb due 0 && eqb k.panes t.panes.count && eqb k.shares t.shares.count && eqb k.minima t.minima.count) ≡ ok_rows bs t
going_end bs t i due k w = going_past bs t i due k w.rest
