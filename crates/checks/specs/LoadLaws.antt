-- The panes section loaded into an array, and that it fits there. Assumes nothing.
use Rattle.std.specs.Prelude.{◌≡◌, refl, false, List, [], ◌∷◌, ◌++◌, ℕ, ◌+◌, ◌*◌, ◌≤◌, ◌<◌, length, get_or, take, drop, set}
use Rattle.std.proofs.Common.{sym, ap, ◌∙◌, add-one, arith, ltb-false, length-set, take-take, take_all, take-suc, take-suc-set}
use Rattle.rules.specs.Lists.{any_of}
use Rattle.rules.specs.Spec.{wide_row}
use Rattle.rules.specs.Table.{Row, pane_row, tabs_row, split_row, panes_used, sum_rows, number}
use Rattle.reader.specs.Bytes.{inner}
use Rattle.table.specs.Rows.{row_from, panes_at, table_of, Used}
use Rattle.checks.specs.Entries.{length-entries}
use Rattle.checks.specs.Checks.{Loaded}
use Rattle.forest.specs.Bools.{or_left, or_right}
use Rattle.table.specs.declared.sections.Places.{Places}

-- j of the panes are loaded
pub record Loading (bs : List ℕ) (t : Places) (panes : List ℕ) (j : ℕ) : Type 0 where
  pub within : j ≤ t.panes.count
  pub size : length panes ≡ 1024
  pub is : take j panes ≡ take j (panes_at bs t)

module _ (bs : List ℕ) (t : Places) (few : t.panes.count ≤ 1024) (panes : List ℕ) where
  pub load-start : length panes ≡ 1024 → Loading bs t panes 0
  load-start e = record { within = omega arith; size = e; is = refl }

  pub load-more : (j x : ℕ) → Loading bs t panes j → j < t.panes.count → x ≡ get_or (panes_at bs t) j 0 → Loading bs t (set panes j x) (j + 1)
  load-more j x w h e =
      let s : length panes ≡ 1024 = w.size in
      record {
        within = omega arith;
        size = length-set panes j x ∙ w.size;
        is = ap (λ (k : ℕ). take k (set panes j x)) (add-one j) ∙ take-suc-set panes j x (omega arith) ∙ (λ i. w.is i ++ e i ∷ [])
            ∙ sym (ap (λ (k : ℕ). take k (panes_at bs t)) (add-one j) ∙ take-suc (panes_at bs t) j 0 (omega (arith, length-entries bs t.panes number)));
      }

  pub load-end : (j : ℕ) → Loading bs t panes j → t.panes.count ≤ j → Loaded bs t panes
  load-end j w h =
      let k : j ≤ t.panes.count = w.within in
      let e : t.panes.count ≡ j = omega arith in
      record {
        size = w.size;
        few = few;
        is = ap (λ (i : ℕ). take i panes) e ∙ w.is ∙ take_all j (panes_at bs t) (omega (arith, length-entries bs t.panes number));
      }

-- parts of the array are parts of the section
module _ (bs : List ℕ) (t : Places) (panes : List ℕ) (w : Loaded bs t panes) (p n : ℕ) (h : p + n ≤ t.panes.count) where
  pub loaded-front : take p panes ≡ take p (panes_at bs t)
  loaded-front = sym (take-take p t.panes.count panes (omega arith)) ∙ ap (take p) w.is

  pub loaded-part : take n (drop p panes) ≡ take n (drop p (panes_at bs t))
  loaded-part = sym (inner p n t.panes.count panes h) ∙ ap (λ (l : List ℕ). take n (drop p l)) w.is

-- ---- narrow rows have at most 16 panes each

few-panes : (r : Row) → wide_row r ≡ false → panes_used r ≤ 16
few-panes pane_row e = omega arith
few-panes (tabs_row b n a) e = ltb-false 16 n e
few-panes (split_row x n s m) e = omega arith

sum-panes : (rs : List Row) → any_of wide_row rs ≡ false → sum_rows panes_used rs ≤ 16 * length rs
unfolding any_of sum_rows
sum-panes [] e = omega arith
sum-panes (r ∷ rs) e =
    omega (arith, few-panes r (or_left (wide_row r) (any_of wide_row rs) e), sum-panes rs (or_right (wide_row r) (any_of wide_row rs) e))

pub panes-few : (bs : List ℕ) (t : Places) → Used (table_of bs t) → t.rows.count ≤ 64 → any_of wide_row (table_of bs t).rows ≡ false → t.panes.count ≤ 1024
panes-few bs t u h e =
    omega (arith, u.panes, sum-panes (table_of bs t).rows e, length-entries bs t.rows row_from, length-entries bs t.panes number)
