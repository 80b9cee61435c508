-- The ends that `from_spec` can come to, each with its number, in document 01's order ('Refusals'): 1 for bytes that are no table, 2 for over 64 rows, 3 for a row over 16, then the first refusal of the Rust's checks
-- in preorder (`validate`), then 3 after repair. Assumes nothing.
use Rattle.std.specs.Prelude.{◌≡◌, Bool, true, false, not, List, [], ◌∷◌, ◌++◌, ℕ, ◌≤◌, ◌<◌, ltb, leb, eqb, length, Float}
use Rattle.std.proofs.Math.Path.{refl}
use Rattle.std.proofs.Common.{sym, ap, subst, ◌∙◌, inl, inr, ltb-true, ltb-false}
use Rattle.std.proofs.Math.Option.{Option, none, some}
use Rattle.rules.specs.Numbers.{share_ok, minimum_ok}
use Rattle.rules.specs.Lists.{any_of, contains, position}
use Rattle.rules.specs.Tree.{tile, empty_slots, wide_node, Member}
use Rattle.rules.specs.Repair.{Normal, normalize}
use Rattle.rules.specs.Table.{Row, pane_row, tabs_row, split_row, Table, read_table}
use Rattle.rules.specs.Spec.{Left, after, row_panes, row_shares, row_minima, left_of, refuse_if, refuse_at, duplicate, split_refusal, tabs_refusal, row_refusal, first_refusal, validate, built_nodes, Built, wide_row, built_by, built_as, validated, narrow, within, tabled, from_spec}
use Rattle.rules.specs.Refusals.{Told, told, refusal_of, answer_of}
use Rattle.rules.specs.declared.refusal.Refusal.{Refusal}
use Rattle.rules.specs.declared.refusal.Refusal.TheVariants.{DuplicatePane, EmptyTabs, TooFewSplitChildren, ShareCountMismatch, InvalidShare, TooManySplitConstraints, InvalidSplitConstraint, InvalidActiveTab}
use Rattle.forest.specs.Lists.{never}
use Rattle.promises.specs.Words.{not-means}
use Rattle.promises.specs.RepairExact.{Some, any-means}

-- ---- the numbers of the Rust's checks

abbrev pub checks : List ℕ
checks = 10 ∷ 12 ∷ 13 ∷ 14 ∷ 15 ∷ 16 ∷ 17 ∷ 18 ∷ []

-- none, or one of these numbers
abbrev pub Check : Option Refusal → Type 0
Check none = Unit {0}
Check (some e) = Member (refusal_of e).number checks

check-if : (b : Bool) (e : Refusal) (o : Option Refusal) → Member (refusal_of e).number checks → Check o → Check (refuse_if b e o)
check-if true e o m c = m
check-if false e o m c = c

check-at : (p : Option ℕ) (e : ℕ → Refusal) (o : Option Refusal) → ((i : ℕ) → Member (refusal_of (e i)).number checks) → Check o → Check (refuse_at p e o)
check-at (some i) e o m c = m i
check-at none e o m c = c

check-first : (o r : Option Refusal) → Check o → Check r → Check (first_refusal o r)
check-first (some e) r c d = c
check-first none r c d = d

check-twice : (seen ps : List ℕ) → Check (duplicate seen ps)
unfolding duplicate
check-twice seen [] = tt
check-twice seen (p ∷ ps) = check-if (contains p seen) (DuplicatePane p) (duplicate (seen ++ p ∷ []) ps) (inl refl) (check-twice (seen ++ p ∷ []) ps)

check-tabs : (n : ℕ) (ps seen : List ℕ) → Check (tabs_refusal n ps seen)
check-tabs n ps seen =
    check-if (eqb (length ps) 0) EmptyTabs (refuse_if (leb (length ps) n) (InvalidActiveTab n (length ps)) (duplicate seen ps)) (inr (inl refl))
    (check-if (leb (length ps) n) (InvalidActiveTab n (length ps)) (duplicate seen ps) (inr (inr (inr (inr (inr (inr (inr (inl refl)))))))) (check-twice seen ps))

check-split : (n : ℕ) (ss ms : List Float) → Check (split_refusal n ss ms)
check-split n ss ms =
    let five = refuse_at (position (λ x. not (minimum_ok x)) ms) InvalidSplitConstraint none in
    let four = refuse_if (ltb n (length ms)) (TooManySplitConstraints n (length ms)) five in
    let three = refuse_at (position (λ x. not (share_ok x)) ss) InvalidShare four in
    let two = refuse_if (not (eqb n (length ss))) (ShareCountMismatch n (length ss)) three in
    check-if (ltb n 2) (TooFewSplitChildren n) two (inr (inr (inl refl)))
    (check-if (not (eqb n (length ss))) (ShareCountMismatch n (length ss)) three (inr (inr (inr (inl refl))))
    (check-at (position (λ x. not (share_ok x)) ss) InvalidShare four (λ i. inr (inr (inr (inr (inl refl)))))
    (check-if (ltb n (length ms)) (TooManySplitConstraints n (length ms)) five (inr (inr (inr (inr (inr (inl refl))))))
    (check-at (position (λ x. not (minimum_ok x)) ms) InvalidSplitConstraint none (λ i. inr (inr (inr (inr (inr (inr (inl refl))))))) tt))))

check-row : (r : Row) (l : Left) (seen : List ℕ) → Check (row_refusal r l seen)
check-row pane_row l seen = check-twice seen (row_panes pane_row l)
check-row (tabs_row b n k) l seen = check-tabs k (row_panes (tabs_row b n k) l) seen
check-row (split_row x n s m) l seen = check-split n (row_shares (split_row x n s m) l) (row_minima (split_row x n s m) l)

pub check-rows : (rs : List Row) (l : Left) (seen : List ℕ) → Check (validate rs l seen)
unfolding validate
check-rows [] l seen = tt
check-rows (r ∷ rs) l seen = check-first (row_refusal r l seen) (validate rs (after r l) (seen ++ row_panes r l)) (check-row r l seen) (check-rows rs (after r l) (seen ++ row_panes r l))

-- ---- the ends of the call, in its order

module _ (bs : List ℕ) where
  abbrev pub Ended : Told → Type 0
  Ended t = answer_of (from_spec bs).answer ≡ t

  -- the bytes are this table, of at most 64 rows, no row over 16
  abbrev pub Slim : Table → Type 0
  Slim t = (read_table bs ≡ some t) × (length t.rows ≤ 64) × (Some wide_row t.rows → ⊥)

  -- the first refusal in preorder
  abbrev pub first : Table → Option Refusal
  first t = validate t.rows (left_of t) []

  abbrev pub made : Table → Option Normal
  made t = normalize (empty_slots (built_nodes t)) (tile 0) (built_nodes t)

  abbrev pub Swells : Option Normal → Type 0
  Swells o = (n : Normal) × (o ≡ some n) × Some wide_node n.nodes

  pub data Ends : Type 0 where
    unread : read_table bs ≡ none → Ended (told 1 0 0) → Ends
    many : (t : Table) → read_table bs ≡ some t → 64 < length t.rows → Ended (told 2 0 0) → Ends
    broad : (t : Table) → read_table bs ≡ some t → length t.rows ≤ 64 → Some wide_row t.rows → Ended (told 3 0 0) → Ends
    checked : (t : Table) → Slim t → (e : Refusal) → first t ≡ some e → Ended (refusal_of e) → Ends
    rootless : (t : Table) → Slim t → first t ≡ none → made t ≡ none → Ended (told 2 0 0) → Ends
    swollen : (t : Table) → Slim t → first t ≡ none → Swells (made t) → Ended (told 3 0 0) → Ends
    done : (t : Table) → Slim t → first t ≡ none → (n : Normal) → made t ≡ some n → (Swells (made t) → ⊥) → Ended (told 0 0 0) → Ends

  pub numbered : {b : Built} → from_spec bs ≡ b → Ended (answer_of b.answer)
  numbered e = ap (λ (b : Built). answer_of b.answer) e

  module _ (t : Table) where
    by_width : Slim t → first t ≡ none → (n : Normal) → made t ≡ some n → (b : Bool) → any_of wide_node n.nodes ≡ b → from_spec bs ≡ built_by b n → Ends
    by_width h f n q true e s = swollen t h f (n, q, (any-means wide_node n.nodes).0 e) (numbered s)
    by_width h f n q false e s = done t h f n q small (numbered s)
      where
        small : Swells (made t) → ⊥
        small (m, g, k) = let w : some n ≡ some m = sym q ∙ g in let same : n ≡ m = cc in never (sym ((any-means wide_node n.nodes).1 (subst (λ (x : Normal). Some wide_node x.nodes) (sym same) k)) ∙ e)

    by-normal : Slim t → first t ≡ none → (o : Option Normal) → made t ≡ o → from_spec bs ≡ built_as o → Ends
    by-normal h f none q s = rootless t h f q (numbered s)
    by-normal h f (some n) q s = by_width h f n q (any_of wide_node n.nodes) refl s

    by-checks : Slim t → (o : Option Refusal) → first t ≡ o → from_spec bs ≡ validated o t → Ends
    by-checks h (some e) q s = checked t h e q (numbered s)
    by-checks h none q s = by-normal h q (made t) refl s

    by_rows : read_table bs ≡ some t → length t.rows ≤ 64 → (b : Bool) → any_of wide_row t.rows ≡ b → from_spec bs ≡ narrow b t → Ends
    by_rows r h true e s = broad t r h ((any-means wide_row t.rows).0 e) (numbered s)
    by_rows r h false e s = by-checks (r, h, (not-means (any_of wide_row t.rows) (any-means wide_row t.rows)).0 e) (first t) refl s

    by_count : read_table bs ≡ some t → (b : Bool) → ltb 64 (length t.rows) ≡ b → from_spec bs ≡ within b t → Ends
    by_count r true e s = many t r (ltb-true 64 (length t.rows) e) (numbered s)
    by_count r false e s = by_rows r (ltb-false 64 (length t.rows) e) (any_of wide_row t.rows) refl s

  by-table : (o : Option Table) → read_table bs ≡ o → from_spec bs ≡ tabled o → Ends
  by-table none e s = unread e (numbered s)
  by-table (some t) e s = by_count t e (ltb 64 (length t.rows)) refl s

  pub ends : Ends
  unfolding from_spec
  ends = by-table (read_table bs) refl refl
