-- A split's checks, and the walk of validation. Assumes nothing.
use Rattle.std.specs.Prelude.{◌≡◌, Bool, not, ℕ, suc, ◌+◌, ◌≤◌, ◌<◌, eqb, ltb, length, get_or, Float}
use Rattle.std.proofs.Common.{sym, ◌∙◌, add-one, arith, eq-eqb, ne_eqb, lt-ltb, le-ltb, drop_of_length-le, drop-cons}
use Rattle.std.proofs.Math.Path.{ap}
use mathlib.Core.List.{List, [], ◌∷◌, ◌++◌}
use Rattle.std.proofs.Math.Option.{Option, none, some}
use Rattle.std.proofs.Math.ListN.{take, drop}
use Rattle.std.proofs.Math.Seq.{take-add}
use Rattle.rules.specs.Numbers.{share_ok, minimum_ok}
use Rattle.rules.specs.Lists.{position}
use Rattle.rules.specs.Table.{Row, pane_row, panes_used, Table}
use Rattle.rules.specs.Spec.{after, left_of, row_panes, refuse_if, refuse_at, split_refusal, row_refusal, first_refusal, validate}
use Rattle.rules.specs.declared.refusal.Refusal.{Refusal}
use Rattle.rules.specs.declared.refusal.Refusal.TheVariants.{TooFewSplitChildren, ShareCountMismatch, InvalidShare, TooManySplitConstraints, InvalidSplitConstraint}
use Rattle.checks.specs.Checks.{left_at}
use Rattle.checks.specs.Walk.{left_after}
use Rattle.table.specs.Taken.{taken_with}
use Rattle.table.specs.declared.row.Taken.{Taken}

module _ (n ns nm : ℕ) (ss ms : List Float) (a : length ss ≡ ns) (b : length ms ≡ nm) where
  abbrev last : Option Refusal
  last = refuse_at (position (λ x. not (minimum_ok x)) ms) InvalidSplitConstraint none

  abbrev fourth : Option Refusal
  fourth = refuse_if (ltb n (length ms)) (TooManySplitConstraints n (length ms)) last

  abbrev third : Option Refusal
  third = refuse_at (position (λ x. not (share_ok x)) ss) InvalidShare fourth

  abbrev second : Option Refusal
  second = refuse_if (not (eqb n (length ss))) (ShareCountMismatch n (length ss)) third

  pub split-few : n < 2 → some (TooFewSplitChildren n) ≡ split_refusal n ss ms
  split-few h = sym (ap (λ (t : Bool). refuse_if t (TooFewSplitChildren n) second) (lt-ltb n 2 h))

  module _ (h : 2 ≤ n) where
    one : split_refusal n ss ms ≡ second
    one = ap (λ (t : Bool). refuse_if t (TooFewSplitChildren n) second) (le-ltb n 2 h)

    pub split-shares : (n ≡ ns → ⊥) → some (ShareCountMismatch n ns) ≡ split_refusal n ss ms
    split-shares ne =
        ap (λ (k : ℕ). some (ShareCountMismatch n k)) (sym a)
        ∙ sym (one ∙ ap (λ (t : Bool). refuse_if (not t) (ShareCountMismatch n (length ss)) third) (ne_eqb n (length ss) (λ e. ne (e ∙ a))))

    module _ (e : n ≡ ns) where
      two : split_refusal n ss ms ≡ third
      two = one ∙ ap (λ (t : Bool). refuse_if (not t) (ShareCountMismatch n (length ss)) third) (eq-eqb n (length ss) (e ∙ sym a))

      pub split-share : (i : ℕ) → some i ≡ position (λ x. not (share_ok x)) ss → some (InvalidShare i) ≡ split_refusal n ss ms
      split-share i f = ap (λ (o : Option ℕ). refuse_at o InvalidShare fourth) f ∙ sym two

      module _ (f : none ≡ position (λ x. not (share_ok x)) ss) where
        three : split_refusal n ss ms ≡ fourth
        three = two ∙ sym (ap (λ (o : Option ℕ). refuse_at o InvalidShare fourth) f)

        pub split-many : n < nm → some (TooManySplitConstraints n nm) ≡ split_refusal n ss ms
        split-many q =
            ap (λ (k : ℕ). some (TooManySplitConstraints n k)) (sym b)
            ∙ sym (three ∙ ap (λ (t : Bool). refuse_if t (TooManySplitConstraints n (length ms)) last) (lt-ltb n (length ms) (omega (arith, b))))

        module _ (g : nm ≤ n) where
          four : split_refusal n ss ms ≡ last
          four = three ∙ ap (λ (t : Bool). refuse_if t (TooManySplitConstraints n (length ms)) last) (le-ltb n (length ms) (omega (arith, b)))

          pub split-minimum : (i : ℕ) → some i ≡ position (λ x. not (minimum_ok x)) ms → some (InvalidSplitConstraint i) ≡ split_refusal n ss ms
          split-minimum i q = ap (λ (o : Option ℕ). refuse_at o InvalidSplitConstraint none) q ∙ sym four

          pub split_good : none ≡ position (λ x. not (minimum_ok x)) ms → none ≡ split_refusal n ss ms
          split_good q = ap (λ (o : Option ℕ). refuse_at o InvalidSplitConstraint none) q ∙ sym four

-- ---- the walk

-- past i rows, what validation still says is what it says of all
abbrev pub Checking : Table → ℕ → Taken → Type 0
Checking t i k = validate (drop i t.rows) (left_at t k) (take k.panes t.panes) ≡ validate t.rows (left_of t) []

module _ (t : Table) (i : ℕ) (k : Taken) (w : Checking t i k) (h : i < length t.rows) (r : Row) (e : r ≡ get_or t.rows i pane_row) where
  rest : Option Refusal
  rest = validate (drop (suc i) t.rows) (after r (left_at t k)) (take k.panes t.panes ++ row_panes r (left_at t k))

  here : first_refusal (row_refusal r (left_at t k) (take k.panes t.panes)) rest ≡ validate t.rows (left_of t) []
  unfolding validate rest
  here =
      ap (λ (l : List Row). validate l (left_at t k) (take k.panes t.panes)) (sym (drop-cons t.rows i pane_row h ∙ ap (λ (x : Row). x ∷ drop (suc i) t.rows) (sym e)))
      ∙ w

  pub checking-bad : (x : Refusal) → some x ≡ row_refusal r (left_at t k) (take k.panes t.panes) → some x ≡ validate t.rows (left_of t) []
  checking-bad x f = ap (λ (o : Option Refusal). first_refusal o rest) f ∙ here

  pub checking-more : none ≡ row_refusal r (left_at t k) (take k.panes t.panes) → Checking t (i + 1) (taken_with k r)
  unfolding rest
  checking-more f =
      (λ j. validate (drop (add-one i j) t.rows) (sym (left_after t k r) j) (take-add k.panes (panes_used r) t.panes j))
      ∙ ap (λ (o : Option Refusal). first_refusal o rest) f ∙ here

pub checking-end : (t : Table) (i : ℕ) (k : Taken) → Checking t i k → length t.rows ≤ i → none ≡ validate t.rows (left_of t) []
unfolding validate
checking-end t i k w h = sym (ap (λ (l : List Row). validate l (left_at t k) (take k.panes t.panes)) (drop_of_length-le t.rows {i = i} h)) ∙ w
