-- A table that passes every check has a pane, which repair keeps: so `from_spec` refuses with 2 exactly when a table has over 64 rows. Assumes nothing.
use Rattle.std.specs.Prelude.{◌≡◌, refl, ◌↔◌, ◌⊎◌, Bool, true, false, ◌&&◌, List, [], ◌∷◌, ◌++◌, ℕ, zero, suc, ◌+◌, ◌≤◌, ltb, eqb, length, take}
use Rattle.std.proofs.Common.{sym, ap, subst, ◌∙◌, inl, inr, arith, ltb-true, ltb-false, eqb-true}
use Rattle.std.proofs.Math.Option.{none}
use Rattle.rules.specs.Tree.{tile, empty_slots}
use Rattle.rules.specs.Table.{Row, pane_row, tabs_row, split_row, panes_used, shares_used, minima_used, sum_rows, preorder, Table}
use Rattle.rules.specs.Spec.{Left, after, row_panes, row_shares, row_minima, left_of, row_refusal, validate, built_nodes}
use Rattle.rules.specs.Refusals.{told}
use Rattle.build.specs.SlotsLoop.{first-none}
use Rattle.forest.specs.Kept.{keeps-panes}
use Rattle.accepted.specs.Standing.{read_fits, held}
use Rattle.promises.specs.Words.{and-iff}
use Rattle.promises.specs.RepairExact.{no_room}
use Rattle.promises.specs.OpsExact.{told-apart}
use Rattle.promises.specs.RowExact.{row_told, row-few, row-empty}
use Rattle.promises.specs.SpecEnds.{Ended, Slim, first, made}
use Rattle.promises.specs.SpecExact.{Many, Rootless, spec-full}
use Rattle.promises.specs.RootKept.{bare-normal}

-- ---- rows that use no pane are splits of two or more, and such rows never end

some-two : (n : ℕ) (l : Left) (x : _) (s m : ℕ) (seen : List ℕ) → row_refusal (split_row x n s m) l seen ≡ none → (j : ℕ) × (n ≡ suc j)
some-two n l x s m seen q = go n (by (ltb n 2) refl)
  where
    by : (b : Bool) → ltb n 2 ≡ b → 2 ≤ n
    by true w = told-apart (sym (ap row_told q) ∙ (row-few n (row_shares (split_row x n s m) l) (row_minima (split_row x n s m) l)).1 (ltb-true n 2 w)) (λ z. omega (arith, z))
    by false w = ltb-false n 2 w

    go : (k : ℕ) → 2 ≤ k → (j : ℕ) × (k ≡ suc j)
    go zero h = absurd (omega (arith, h))
    go (suc j) h = (j, refl)

no-tabs : (b : _) (n k : ℕ) (l : Left) (seen : List ℕ) → n ≡ 0 → row_refusal (tabs_row b n k) l seen ≡ none → ⊥
no-tabs b n k l seen e q =
    told-apart (sym (ap row_told q) ∙ (row-empty k (row_panes (tabs_row b n k) l) seen).1 (ap (λ (j : ℕ). length (take j l.panes)) e)) (λ z. omega (arith, z))

open-ended : (rs : List Row) (l : Left) (seen : List ℕ) (k : ℕ) → sum_rows panes_used rs ≡ 0 → validate rs l seen ≡ none → preorder (suc k) rs ≡ true → ⊥
unfolding sum_rows validate preorder
open-ended [] l seen k u v e = let z = eqb-true (suc k) 0 e in omega (arith, z)
open-ended (pane_row ∷ rs) l seen k u v e = omega (arith, u)
open-ended (tabs_row b n j ∷ rs) l seen k u v e =
    let (o, _) = first-none (row_refusal (tabs_row b n j) l seen) (validate rs (after (tabs_row b n j) l) (seen ++ row_panes (tabs_row b n j) l)) v in
    no-tabs b n j l seen (omega (arith, u)) o
open-ended (split_row x n s m ∷ rs) l seen k u v e =
    let (o, r) = first-none (row_refusal (split_row x n s m) l seen) (validate rs (after (split_row x n s m) l) (seen ++ row_panes (split_row x n s m) l)) v in
    let (j, q) = some-two n l x s m seen o in
    open-ended rs (after (split_row x n s m) l) (seen ++ row_panes (split_row x n s m) l) (k + j) (omega (arith, u)) r
    (subst (λ (i : ℕ). preorder i rs ≡ true) (let z : k + n ≡ suc (k + j) = omega (arith, q) in z) e)

-- ---- so a table that passes is kept

pub spec-root : (bs : List ℕ) (t : Table) → Slim bs t → first bs t ≡ none → made bs t ≡ none → ⊥
spec-root bs t (r, few, _) v e =
    let fits = read_fits t bs r in
    let (f, H, p) = held t fits few v in
    let (n, q, b) = bare-normal (tile 0) (built_nodes t) H.size ((no_room (empty_slots (built_nodes t)) (tile 0) (built_nodes t)).0 e).0 in
    let bare : length t.panes ≡ 0 = ap length (sym (keeps-panes (built_nodes t) (tile 0) f H (0 ∷ []) (omega arith, tt) n q ∙ p) ∙ b) in
    let P = preorder 1 t.rows in
    let A = eqb (sum_rows panes_used t.rows) (length t.panes) in
    let S = eqb (sum_rows shares_used t.rows) (length t.shares) in
    let M = eqb (sum_rows minima_used t.rows) (length t.minima) in
    let (pre, used) = (and-iff P A).0 ((and-iff (P && A) S).0 ((and-iff (P && A && S) M).0 fits).0).0 in
    open-ended t.rows (left_of t) [] 0 (eqb-true (sum_rows panes_used t.rows) (length t.panes) used ∙ bare) v pre

-- 2 exactly when the table has over 64 rows
pub spec-many : (bs : List ℕ) → Ended bs (told 2 0 0) ↔ Many bs
spec-many bs = (λ t. go ((spec-full bs).0 t), λ m. (spec-full bs).1 (inl m))
  where
    go : Many bs ⊎ Rootless bs → Many bs
    go (inl m) = m
    go (inr (t, h, f, o)) = absurd (spec-root bs t h f o)
