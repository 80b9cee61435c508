-- Panes that passed validation are distinct. Assumes nothing.
use Rattle.std.specs.Prelude.{◌≡◌, List, [], ◌∷◌, ◌++◌, ℕ, leb, eqb, length, drop}
use Rattle.std.proofs.Common.{ap, subst, ◌∙◌, append_assoc, append-nil, arith, length-drop, take-append-drop}
use Rattle.std.proofs.Math.Option.{none}
use Rattle.rules.specs.Lists.{contains}
use Rattle.rules.specs.Table.{Row, pane_row, tabs_row, split_row, panes_used, sum_rows}
use Rattle.rules.specs.Spec.{Left, after, row_panes, refuse_if, duplicate, row_refusal, validate}
use Rattle.rules.specs.declared.refusal.Refusal.TheVariants.{DuplicatePane, EmptyTabs, InvalidActiveTab}
use Rattle.forest.specs.Lists.{Distinct, distinct_append, contains-false}
use Rattle.build.specs.SlotsLoop.{refuse-not, first-none}

pub none_left : {A : Type 0} (xs : List A) → 0 ≡ length xs → xs ≡ []
none_left [] e = λ i. []
none_left (x ∷ xs) e = absurd (omega arith)

fresh-all : (ps seen : List ℕ) → Distinct seen → duplicate seen ps ≡ none → Distinct (seen ++ ps)
unfolding duplicate
fresh-all [] seen d e = rw (append-nil seen) d
fresh-all (p ∷ ps) seen d e =
    let (new, rest) = refuse-not (contains p seen) (DuplicatePane p) (duplicate (seen ++ p ∷ []) ps) e in
    rw (append_assoc seen (p ∷ []) ps) at (fresh-all ps (seen ++ p ∷ []) (distinct_append seen (p ∷ []) d (tt, tt) (contains-false p seen new, tt)) rest)

row_fresh : (r : Row) (l : Left) (seen : List ℕ) → Distinct seen → row_refusal r l seen ≡ none → Distinct (seen ++ row_panes r l)
row_fresh pane_row l seen d e = fresh-all (row_panes pane_row l) seen d e
row_fresh (tabs_row b n a) l seen d e =
    let ps = row_panes (tabs_row b n a) l in
    let x = refuse-not (eqb (length ps) 0) EmptyTabs (refuse_if (leb (length ps) a) (InvalidActiveTab a (length ps)) (duplicate seen ps)) e in
    let y = refuse-not (leb (length ps) a) (InvalidActiveTab a (length ps)) (duplicate seen ps) x.1 in
    fresh-all ps seen d y.1
row_fresh (split_row x n s m) l seen d e = rw (append-nil seen) d

-- rows that use up the panes and are not refused
pub panes-fresh : (rs : List Row) (l : Left) (seen : List ℕ) → Distinct seen → sum_rows panes_used rs ≡ length l.panes → validate rs l seen ≡ none → Distinct (seen ++ l.panes)
unfolding validate sum_rows
panes-fresh [] l seen d u e = rw (none_left l.panes u, append-nil seen) d
panes-fresh (r ∷ rs) l seen d u e =
    let (one, rest) = first-none (row_refusal r l seen) (validate rs (after r l) (seen ++ row_panes r l)) e in
    let k = length-drop (panes_used r) l.panes in
    let D = panes-fresh rs (after r l) (seen ++ row_panes r l) (row_fresh r l seen d one) (omega (arith, u, k)) rest in
    subst Distinct (append_assoc seen (row_panes r l) (drop (panes_used r) l.panes) ∙ ap (λ (ps : List ℕ). seen ++ ps) (take-append-drop (panes_used r) l.panes)) D
