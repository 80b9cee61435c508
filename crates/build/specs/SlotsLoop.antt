-- The slots made one after another, and that every row of a table that was checked fits one. Assumes nothing.
use Rattle.std.specs.Prelude.{◌≡◌, refl, Bool, true, false, not, ◌||◌, ℕ, zero, suc, ◌+◌, ◌-◌, ◌≤◌, ◌<◌, eqb, ltb, Float, replicate}
use Rattle.std.proofs.Math.Path.{sym, ap}
use Rattle.std.proofs.Common.{◌∙◌, le_of_suc-le-suc, add-one, eqb-true, ltb-false, length-drop, take_all, drop-drop, get_or-drop}
use mathlib.Core.List.{List, [], ◌∷◌, ◌++◌}
use Rattle.std.proofs.Math.Option.{Option, none, some}
use native.Mathlib.Omega.{arith}
use Rattle.std.proofs.Math.ListN.{length, get_or, take, drop, set}
use Rattle.std.proofs.Math.Seq.{slice, slice-cons, length-take-le, take-suc}
use Rattle.rules.specs.Lists.{any_of, position}
use Rattle.rules.specs.Numbers.{share_ok, minimum_ok}
use Rattle.rules.specs.Tree.{Node, empty, view_slot}
use Rattle.rules.specs.Table.{Row, pane_row, tabs_row, split_row, shares_used, minima_used, sum_rows, Table}
use Rattle.rules.specs.Spec.{Left, after, left_of, wide_row, row_panes, row_refusal, first_refusal, validate, refuse_if, refuse_at}
use Rattle.rules.specs.declared.model.Slot.{Slot}
use Rattle.rules.specs.declared.refusal.Refusal.{Refusal}
use Rattle.rules.specs.declared.refusal.Refusal.TheVariants.{TooFewSplitChildren, ShareCountMismatch, InvalidShare, TooManySplitConstraints, InvalidSplitConstraint}
use Rattle.lists.specs.Exact.{pad_to}
use Rattle.lists.specs.Build.{set-pad_to}
use Rattle.columns.specs.Columns as C
use Rattle.columns.specs.Pack.{Puts, Even}
use Rattle.columns.specs.RowLaws.{put-nodes, put-even}
use Rattle.table.specs.Rows.{row_from, table_of}
use Rattle.checks.specs.Entries.{length-entries}
use Rattle.checks.specs.Checks.{left_at}
use Rattle.checks.specs.Walk.{Along, along-start, along-more, left_after}
use Rattle.build.specs.Push.{row_node, nodes_from}
use Rattle.build.specs.PushLaws.{length-nodes}
use Rattle.forest.specs.Bools.{or_left, or_right}
use Rattle.build.specs.Slots.{SlotIs, Fit, Slotted, Bare, ColumnsAre}
use Rattle.table.specs.Taken.{taken_none, taken_with}
use Rattle.table.specs.declared.row.Taken.{Taken}
use Rattle.table.specs.declared.sections.Places.{Places}

pub any-replicate : {A : Type 0} (f : A → Bool) (n : ℕ) (x : A) → f x ≡ false → any_of f (replicate n x) ≡ false
unfolding any_of
any-replicate f zero x e = refl
any-replicate f (suc n) x e = ap (λ (b : Bool). b || any_of f (replicate n x)) e ∙ any-replicate f n x e

pad-none : {A : Type 0} (n : ℕ) (d : A) → pad_to n d [] ≡ replicate n d
unfolding pad_to
pad-none zero d = refl
pad-none (suc n) d = ap (λ (l : List _). d ∷ l) (pad-none n d)

pad-as : {A : Type 0} (n : ℕ) (d : A) (xs : List A) → length xs ≤ n → pad_to n d xs ≡ xs ++ replicate (n - length xs) d
unfolding pad_to
pad-as n d [] h = pad-none n d ∙ ap (λ (k : ℕ). replicate k d) (let z : n ≡ n - 0 = omega arith in z)
pad-as zero d (x ∷ xs) h = absurd (omega arith)
pad-as (suc n) d (x ∷ xs) h =
    ap (λ (l : List _). x ∷ l) (pad-as n d xs (le_of_suc-le-suc h) ∙ ap (λ (k : ℕ). xs ++ replicate k d) (let z : n - length xs ≡ suc n - suc (length xs) = omega arith in z))

-- ---- the loop

abbrev all : List ℕ → Places → List ℕ → ℕ → List Node
all bs t kids end = nodes_from kids 0 (take end (table_of bs t).rows) (left_of (table_of bs t))

pub record Slotting (bs : List ℕ) (t : Places) (kids : List ℕ) (end i : ℕ) (k : Taken) (hs xs : List (List ℕ)) (ss ms : List (List Float)) : Type 0 where
  pub within : i ≤ end
  pub along : Along (table_of bs t) i k
  pub view : C.nodes_from hs xs ss ms ≡ pad_to 64 empty (take i (all bs t kids end))
  pub rest : drop i (all bs t kids end) ≡ nodes_from kids i (slice i end (table_of bs t).rows) (left_at (table_of bs t) k)
  pub even : Even hs xs ss ms

module _ (bs : List ℕ) (t : Places) (kids : List ℕ) (end : ℕ) (z : Slotted bs t kids end) where
  abbrev T : Table
  T = table_of bs t

  rows-size : length T.rows ≡ t.rows.count
  rows-size = length-entries bs t.rows row_from

  all-size : length (all bs t kids end) ≡ end
  all-size =
      let w : end ≤ t.rows.count = z.within in
      length-nodes kids 0 (take end T.rows) (left_of T) ∙ length-take-le end T.rows (omega (arith, rows-size))

  pub slotting-start : (hs xs : List (List ℕ)) (ss ms : List (List Float)) → Bare hs xs ss ms → Slotting bs t kids end 0 taken_none hs xs ss ms
  slotting-start hs xs ss ms e = record { within = omega arith; along = along-start T z.used; view = e.none; rest = refl; even = e.even }

  module _ (i : ℕ) (k : Taken) (hs xs : List (List ℕ)) (ss ms : List (List Float)) (w : Slotting bs t kids end i k hs xs ss ms) where
    pub slotting-more : i < end → (r : Row) (x : Slot) (hs' xs' : List (List ℕ)) (ss' ms' : List (List Float)) → r ≡ get_or T.rows i pane_row
        → SlotIs x (row_node kids i r (left_at T k)) → Puts i x hs xs ss ms hs' xs' ss' ms' → Slotting bs t kids end (i + 1) (taken_with k r) hs' xs' ss' ms'
    unfolding nodes_from
    slotting-more h r x hs' xs' ss' ms' e n P =
        let y1 : end ≤ t.rows.count = z.within in
        let y2 : t.rows.count ≤ 64 = z.few in
        let y3 : length T.rows ≡ t.rows.count = rows-size in
        let y4 : length (all bs t kids end) ≡ end = all-size in
        let here : drop i (all bs t kids end) ≡ view_slot x ∷ nodes_from kids (suc i) (slice (suc i) end T.rows) (after r (left_at T k)) =
        w.rest ∙ ap (λ (rs : List Row). nodes_from kids i rs (left_at T k)) (slice-cons i end T.rows pane_row h (omega arith) ∙ ap (λ (q : Row). q ∷ slice (suc i) end T.rows) (sym e))
        ∙ ap (λ (q : Node). q ∷ nodes_from kids (suc i) (slice (suc i) end T.rows) (after r (left_at T k))) (sym n.view) in
        let at : get_or (all bs t kids end) i empty ≡ view_slot x =
        ap (λ (k : ℕ). get_or (all bs t kids end) k empty) (let q : i ≡ i + 0 = omega arith in q) ∙ sym (get_or-drop i (all bs t kids end) 0 empty) ∙ ap (λ (l : List Node). get_or l 0 empty) here in
        let size : length (take i (all bs t kids end)) ≡ i = length-take-le i (all bs t kids end) (omega arith) in
        record {
          within = omega arith;
          along = along-more T i k r w.along (omega arith) e;
          view = put-nodes hs xs ss ms w.even i x hs' xs' ss' ms' P ∙ (λ j. set (w.view j) (sym size j) (view_slot x)) ∙ set-pad_to 64 empty (take i (all bs t kids end)) (view_slot x) (omega arith)
              ∙ ap (pad_to 64 empty) (sym (ap (λ (k : ℕ). take k (all bs t kids end)) (add-one i) ∙ take-suc (all bs t kids end) i empty (omega arith) ∙ ap (λ (q : Node). take i (all bs t kids end) ++ q ∷ []) at));
          rest = sym (drop-drop 1 i (all bs t kids end)) ∙ ap (drop 1) here
              ∙ (λ j. nodes_from kids (sym (add-one i) j) (slice (sym (add-one i) j) end T.rows) (left_after T k r j));
          even = put-even hs xs ss ms w.even i x hs' xs' ss' ms' P n.fits;
        }

    pub slotting-end : end ≤ i → ColumnsAre bs t kids end hs xs ss ms
    slotting-end h =
        let y1 : end ≤ t.rows.count = z.within in
        let y2 : t.rows.count ≤ 64 = z.few in
        let y4 : length (all bs t kids end) ≡ end = all-size in
        record { view = w.view ∙ ap (pad_to 64 empty) (take_all i (all bs t kids end) (omega arith)) ∙ pad-as 64 empty (all bs t kids end) (omega arith); even = w.even }

-- ---- a row that was checked fits a slot

pub refuse-not : (b : Bool) (e : Refusal) (o : Option Refusal) → refuse_if b e o ≡ none → (b ≡ false) × (o ≡ none)
refuse-not true e o q = absurd (let z : ◌≡◌ {A = ℕ} 0 1 = cc in omega arith)
refuse-not false e o q = (refl, q)

refuse-none : (i : Option ℕ) (e : ℕ → Refusal) (o : Option Refusal) → refuse_at i e o ≡ none → o ≡ none
refuse-none none e o q = q
refuse-none (some i) e o q = absurd (let z : ◌≡◌ {A = ℕ} 0 1 = cc in omega arith)

pub first-none : (a b : Option Refusal) → first_refusal a b ≡ none → (a ≡ none) × (b ≡ none)
first-none none b q = (refl, q)
first-none (some x) b q = absurd (let z : ◌≡◌ {A = ℕ} 0 1 = cc in omega arith)

not-false : (b : Bool) → not b ≡ false → b ≡ true
not-false true e = refl
not-false false e = absurd (let z : ◌≡◌ {A = ℕ} 0 1 = cc in omega arith)

fit_row : (r : Row) (l : Left) (seen : List ℕ) → row_refusal r l seen ≡ none → wide_row r ≡ false → shares_used r ≤ length l.shares → minima_used r ≤ length l.minima → Fit r
fit_row pane_row l seen q w a b = record { panes = omega arith; shares = omega arith; minima = omega arith; children = omega arith }
fit_row (tabs_row p n v) l seen q w a b = record { panes = ltb-false 16 n w; shares = omega arith; minima = omega arith; children = omega arith }
fit_row (split_row x n s m) l seen q w a b =
    let few : n ≤ 16 = ltb-false 16 n w in
    let ss = take s l.shares in
    let ms = take m l.minima in
    let sl : length ss ≡ s = length-take-le s l.shares a in
    let ml : length ms ≡ m = length-take-le m l.minima b in
    let last = refuse_at (position (λ x. not (minimum_ok x)) ms) InvalidSplitConstraint none in
    let fourth = refuse_if (ltb n (length ms)) (TooManySplitConstraints n (length ms)) last in
    let third = refuse_at (position (λ x. not (share_ok x)) ss) InvalidShare fourth in
    let second = refuse_if (not (eqb n (length ss))) (ShareCountMismatch n (length ss)) third in
    let q1 = refuse-not (ltb n 2) (TooFewSplitChildren n) second q in
    let q2 = refuse-not (not (eqb n (length ss))) (ShareCountMismatch n (length ss)) third q1.1 in
    let q3 = refuse-none (position (λ x. not (share_ok x)) ss) InvalidShare fourth q2.1 in
    let q4 = refuse-not (ltb n (length ms)) (TooManySplitConstraints n (length ms)) last q3 in
    let e : n ≡ length ss = eqb-true n (length ss) (not-false (eqb n (length ss)) q2.0) in
    let k : length ms ≤ n = ltb-false n (length ms) q4.0 in
    record { panes = omega arith; shares = omega arith; minima = omega arith; children = few }

pub fit-rows : (rs : List Row) (l : Left) (seen : List ℕ) → validate rs l seen ≡ none → any_of wide_row rs ≡ false → sum_rows shares_used rs ≤ length l.shares → sum_rows minima_used rs ≤ length l.minima
    → (i : ℕ) → i < length rs → Fit (get_or rs i pane_row)
unfolding validate any_of sum_rows
fit-rows [] l seen q w a b i h = absurd (omega arith)
fit-rows (r ∷ rs) l seen q w a b zero h =
    fit_row r l seen (first-none (row_refusal r l seen) (validate rs (after r l) (seen ++ row_panes r l)) q).0 (or_left (wide_row r) (any_of wide_row rs) w) (omega arith) (omega arith)
fit-rows (r ∷ rs) l seen q w a b (suc i) h =
    fit-rows rs (after r l) (seen ++ row_panes r l) (first-none (row_refusal r l seen) (validate rs (after r l) (seen ++ row_panes r l)) q).1 (or_right (wide_row r) (any_of wide_row rs) w)
    (omega (arith, length-drop (shares_used r) l.shares)) (omega (arith, length-drop (minima_used r) l.minima)) i (le_of_suc-le-suc h)
