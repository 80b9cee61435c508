-- The rules of a row by each test of the code. Assumes nothing.
use Rattle.std.specs.Prelude.{◌≡◌, refl, Bool, true, false, ◌&&◌, List, ℕ, zero, suc, ◌+◌, ◌≤◌, ◌<◌, eqb, length, get_or, take, drop}
use Rattle.std.proofs.Common.{sym, ap, subst, ◌∙◌, arith, eq-eqb, ne_eqb}
use Rattle.std.proofs.Math.Option.{Option, none, some}
use Rattle.rules.specs.Table.{Row, pane_row, tabs_row, split_row, number_at, bar_of, axis_of, pane_if, tabs_if, split_if, row_by, row_of}
use Rattle.rules.specs.declared.model.Axis.{Axis}
use Rattle.rules.specs.declared.model.TabBarPlacement.{TabBarPlacement}
use Rattle.table.specs.Row.{read_is, row_or, Small, ReadAt}
use Rattle.std.specs.Prelude as Std
use Rattle.table.specs.declared.row.TableRow.{TableRow}
use Rattle.reader.specs.Bytes.{within, number-one}

pub axis-rest : (m : ℕ) → (m ≡ 0 → ⊥) → (m ≡ 1 → ⊥) → none ≡ axis_of m
axis-rest zero a b = absurd (a refl)
axis-rest (suc zero) a b = absurd (b refl)
axis-rest (suc (suc m)) a b = refl

pub bar-rest : (m : ℕ) → (m ≡ 0 → ⊥) → (m ≡ 1 → ⊥) → (m ≡ 2 → ⊥) → (m ≡ 3 → ⊥) → (m ≡ 4 → ⊥) → none ≡ bar_of m
bar-rest zero a b c d e = absurd (a refl)
bar-rest (suc zero) a b c d e = absurd (b refl)
bar-rest (suc (suc zero)) a b c d e = absurd (c refl)
bar-rest (suc (suc (suc zero))) a b c d e = absurd (d refl)
bar-rest (suc (suc (suc (suc zero)))) a b c d e = absurd (e refl)
bar-rest (suc (suc (suc (suc (suc m))))) a b c d e = refl

pub kind-rest : (k mode count extra minima : ℕ) → (k ≡ 0 → ⊥) → (k ≡ 1 → ⊥) → (k ≡ 2 → ⊥) → none ≡ row_by k mode count extra minima
kind-rest zero mode count extra minima a b c = absurd (a refl)
kind-rest (suc zero) mode count extra minima a b c = absurd (b refl)
kind-rest (suc (suc zero)) mode count extra minima a b c = absurd (c refl)
kind-rest (suc (suc (suc k))) mode count extra minima a b c = refl

small-pane : (b : Bool) → Small (row_or (pane_if b))
small-pane true = record { panes = omega arith; shares = omega arith; minima = omega arith; children = omega arith }
small-pane false = record { panes = omega arith; shares = omega arith; minima = omega arith; children = omega arith }

small-tabs : (b : Bool) (o : Option TabBarPlacement) (n a : ℕ) → n < 65536 → Small (row_or (tabs_if b o n a))
small-tabs true (some p) n a h = record { panes = h; shares = omega arith; minima = omega arith; children = omega arith }
small-tabs true none n a h = record { panes = omega arith; shares = omega arith; minima = omega arith; children = omega arith }
small-tabs false o n a h = record { panes = omega arith; shares = omega arith; minima = omega arith; children = omega arith }

small-split : (o : Option Axis) (n s m : ℕ) → n < 65536 → s < 65536 → m < 65536 → Small (row_or (split_if o n s m))
small-split (some x) n s m h i j = record { panes = omega arith; shares = i; minima = j; children = h }
small-split none n s m h i j = record { panes = omega arith; shares = omega arith; minima = omega arith; children = omega arith }

-- numbers of 16 bits make a small row
pub small_by : (k mode n s m : ℕ) → n < 65536 → s < 65536 → m < 65536 → Small (row_or (row_by k mode n s m))
small_by zero mode n s m h i j = small-pane (eqb mode 0 && eqb n 1 && eqb s 0 && eqb m 0)
small_by (suc zero) mode n s m h i j = small-tabs (eqb m 0) (bar_of mode) n s h
small_by (suc (suc zero)) mode n s m h i j = small-split (axis_of mode) n s m h i j
small_by (suc (suc (suc k))) mode n s m h i j = record { panes = omega arith; shares = omega arith; minima = omega arith; children = omega arith }

-- the numbers of the eight bytes at a place
pub row-of : (bs : List ℕ) (at k mode n s m : ℕ) → k ≡ number_at 1 at bs → mode ≡ number_at 1 (at + 1) bs → n ≡ number_at 2 (at + 2) bs
    → s ≡ number_at 2 (at + 4) bs → m ≡ number_at 2 (at + 6) bs → row_by k mode n s m ≡ row_of (take 8 (drop at bs))
unfolding row_of
row-of bs at k mode n s m a b c d e =
    λ j. row_by
    ((a ∙ sym (within 0 1 8 at bs (omega arith) ∙ ap (λ (i : ℕ). number_at 1 i bs) (let z : at + 0 ≡ at = omega arith in z))) j)
    ((b ∙ sym (within 1 1 8 at bs (omega arith))) j)
    ((c ∙ sym (within 2 2 8 at bs (omega arith))) j)
    ((d ∙ sym (within 4 2 8 at bs (omega arith))) j)
    ((e ∙ sym (within 6 2 8 at bs (omega arith))) j)

-- ---- a pane's row, test by test

pub pane-mode : (a b c d : ℕ) → (a ≡ 0 → ⊥) → none ≡ row_by 0 a b c d
pane-mode a b c d h = ap (λ (x : Bool). pane_if (x && eqb b 1 && eqb c 0 && eqb d 0)) (sym (ne_eqb a 0 h))

pub pane-count : (a b c d : ℕ) → a ≡ 0 → (b ≡ 1 → ⊥) → none ≡ row_by 0 a b c d
pane-count a b c d e h = λ j. pane_if (sym (eq-eqb a 0 e) j && sym (ne_eqb b 1 h) j && eqb c 0 && eqb d 0)

pub pane-extra : (a b c d : ℕ) → a ≡ 0 → b ≡ 1 → (c ≡ 0 → ⊥) → none ≡ row_by 0 a b c d
pane-extra a b c d e f h = λ j. pane_if (sym (eq-eqb a 0 e) j && sym (eq-eqb b 1 f) j && sym (ne_eqb c 0 h) j && eqb d 0)

pub pane-minima : (a b c d : ℕ) → a ≡ 0 → b ≡ 1 → c ≡ 0 → (d ≡ 0 → ⊥) → none ≡ row_by 0 a b c d
pane-minima a b c d e f g h = λ j. pane_if (sym (eq-eqb a 0 e) j && sym (eq-eqb b 1 f) j && sym (eq-eqb c 0 g) j && sym (ne_eqb d 0 h) j)

pub pane-good : (a b c d : ℕ) → a ≡ 0 → b ≡ 1 → c ≡ 0 → d ≡ 0 → some pane_row ≡ row_by 0 a b c d
pane-good a b c d e f g h = λ j. pane_if (sym (eq-eqb a 0 e) j && sym (eq-eqb b 1 f) j && sym (eq-eqb c 0 g) j && sym (eq-eqb d 0 h) j)

-- ---- a group's and a split's

pub tabs-minima : (a n x m : ℕ) → (m ≡ 0 → ⊥) → none ≡ row_by 1 a n x m
tabs-minima a n x m h = ap (λ (t : Bool). tabs_if t (bar_of a) n x) (sym (ne_eqb m 0 h))

pub tabs-good : (b : TabBarPlacement) (a n x m : ℕ) → m ≡ 0 → some b ≡ bar_of a → some (tabs_row b n x) ≡ row_by 1 a n x m
tabs-good b a n x m e f = λ j. tabs_if (sym (eq-eqb m 0 e) j) (f j) n x

pub tabs-bad : (a n x m : ℕ) → m ≡ 0 → none ≡ bar_of a → none ≡ row_by 1 a n x m
tabs-bad a n x m e f = λ j. tabs_if (sym (eq-eqb m 0 e) j) (f j) n x

pub split_good : (y : Axis) (a n x m : ℕ) → some y ≡ axis_of a → some (split_row y n x m) ≡ row_by 2 a n x m
split_good y a n x m f = ap (λ (o : Option Axis). split_if o n x m) f

pub split-bad : (a n x m : ℕ) → none ≡ axis_of a → none ≡ row_by 2 a n x m
split-bad a n x m f = ap (λ (o : Option Axis). split_if o n x m) f

-- the whole of a row that is read
pub row_read : (bs : List ℕ) (at k mode n s m : ℕ) (r : Std.Option TableRow) → at + 8 ≤ length bs → k ≡ get_or bs at 0 → mode ≡ get_or bs (at + 1) 0 → n ≡ number_at 2 (at + 2) bs
    → s ≡ number_at 2 (at + 4) bs → m ≡ number_at 2 (at + 6) bs → n < 65536 → s < 65536 → m < 65536 → read_is r ≡ row_by k mode n s m → ReadAt bs at r
row_read bs at k mode n s m r h a b c d e p q t w =
    record {
      is = w ∙ row-of bs at k mode n s m (number-one bs at k (omega arith) a) (number-one bs (at + 1) mode (omega arith) b) c d e;
      small = subst (λ (o : Option Row). Small (row_or o)) (sym w) (small_by k mode n s m p q t);
    }
