-- A table that is written is read back: any table whose numbers fit their bytes, and whose rows fit. Assumes nothing.
use Rattle.std.specs.Prelude.{◌≡◌, refl, Bool, true, List, [], ◌∷◌, ◌++◌, map, ℕ, zero, suc, ◌+◌, ◌*◌, ◌/◌, ◌%◌, ◌<◌, T, leb, length, take, drop, Float}
use Rattle.std.proofs.Common.{sym, ap, subst, ◌∙◌, append_assoc, div-lt_iff_lt-mul, arith, le-leb, lit<, length-append}
use Rattle.std.proofs.Math.Option.{Option, some}
use Rattle.std.proofs.Math.Nat.{mod-add-div}
use Rattle.std.proofs.lemmas.List.{length-map}
use Rattle.std.specs.Float.{binary64}
use Rattle.std.specs.Float.Ieee.{fits, to_bits, of_bits}
use Rattle.std.specs.Float.Ieee.Bits.{of_bits-to_bits, to_bits-lt}
use Rattle.rules.specs.Tree.{bar_code, axis_code}
use Rattle.rules.specs.Table.{little_endian, chunks, section_of, section_by, section, Row, pane_row, tabs_row, split_row, row_of, cons_row, rows_of, Table, number, real, rows_fit, fitting, with_rows, with_minima, with_shares, with_panes, after_rows, read_table}
use Rattle.rules.specs.declared.model.Axis.{Axis}
use Rattle.rules.specs.declared.model.Axis.TheVariants.{Horizontal, Vertical}
use Rattle.rules.specs.declared.model.TabBarPlacement.{TabBarPlacement}
use Rattle.rules.specs.declared.model.TabBarPlacement.TheVariants.{Hidden, Top, Bottom, Left, Right}
use Rattle.forest.specs.Lists.{All}
use Rattle.roundtrip.specs.Write.{bytes_of, real_bytes, row_as, row_bytes, joined, section_then, table_bytes}

-- ---- numbers

-- n is of w bytes
abbrev pub Bytes : ℕ → ℕ → Type 0
Bytes zero n = n ≡ 0
Bytes (suc w) n = Bytes w (n / 256)

pub number-back : (w n : ℕ) → Bytes w n → little_endian (bytes_of w n) ≡ n
unfolding little_endian
number-back zero n b = sym b
number-back (suc w) n b = ap (λ (k : ℕ). n % 256 + 256 * k) (number-back w (n / 256) b) ∙ mod-add-div n 256

pub bytes-length : (w n : ℕ) → length (bytes_of w n) ≡ w
bytes-length zero n = refl
bytes-length (suc w) n = ap suc (bytes-length w (n / 256))

-- ---- rows

abbrev pub RowFits : Row → Type 0
RowFits pane_row = Unit {0}
RowFits (tabs_row b n a) = Bytes 2 n × Bytes 2 a
RowFits (split_row x n s m) = Bytes 2 n × (Bytes 2 s × Bytes 2 m)

tabs-back : (b : TabBarPlacement) (n a : ℕ) → row_of (row_as 1 (bar_code b) n a 0) ≡ some (tabs_row b (little_endian (bytes_of 2 n)) (little_endian (bytes_of 2 a)))
unfolding row_of little_endian
tabs-back Hidden n a = refl
tabs-back Top n a = refl
tabs-back Bottom n a = refl
tabs-back Left n a = refl
tabs-back Right n a = refl

split-back : (x : Axis) (n s m : ℕ) → row_of (row_as 2 (axis_code x) n s m) ≡ some (split_row x (little_endian (bytes_of 2 n)) (little_endian (bytes_of 2 s)) (little_endian (bytes_of 2 m)))
unfolding row_of little_endian
split-back Horizontal n s m = refl
split-back Vertical n s m = refl

pub row_back : (r : Row) → RowFits r → row_of (row_bytes r) ≡ some r
unfolding row_of little_endian
row_back pane_row f = refl
row_back (tabs_row b n a) f = tabs-back b n a ∙ (λ i. some (tabs_row b (number-back 2 n f.0 i) (number-back 2 a f.1 i)))
row_back (split_row x n s m) f = split-back x n s m ∙ (λ i. some (split_row x (number-back 2 n f.0 i) (number-back 2 s f.1.0 i) (number-back 2 m f.1.1 i)))

pub rows_back : (rs : List Row) → All RowFits rs → rows_of (map row_bytes rs) ≡ some rs
unfolding rows_of
rows_back [] f = refl
rows_back (r ∷ rs) f = λ i. cons_row (row_back r f.0 i) (rows_back rs f.1 i)

-- ---- sections

pub front : {A : Type 0} (xs ys : List A) (n : ℕ) → length xs ≡ n → (take n (xs ++ ys) ≡ xs) × (drop n (xs ++ ys) ≡ ys)
front [] ys zero e = (refl, refl)
front [] ys (suc n) e = absurd (omega arith)
front (x ∷ xs) ys zero e = absurd (omega arith)
front (x ∷ xs) ys (suc n) e = let (a, b) = front xs ys n (omega arith) in (ap (λ (l : List _). x ∷ l) a, b)

abbrev Eights : List (List ℕ) → Type 0
Eights es = All (λ e. length e ≡ 8) es

joined_length : (es : List (List ℕ)) → Eights es → length (joined es) ≡ 8 * length es
joined_length [] f = refl
joined_length (e ∷ es) f = let a = length-append e (joined es) in let b = joined_length es f.1 in let c = f.0 in omega (arith, a, b, c)

chunks-back : (es : List (List ℕ)) (rest : List ℕ) → Eights es → chunks 8 (length es) (joined es ++ rest) ≡ es
unfolding chunks
chunks-back [] rest f = refl
chunks-back (e ∷ es) rest f =
    let (a, b) = front e (joined es ++ rest) 8 f.0 in
    ap (λ (l : List ℕ). take 8 l ∷ chunks 8 (length es) (drop 8 l)) (append_assoc e (joined es) rest) ∙ (λ i. a i ∷ chunks 8 (length es) (b i)) ∙ ap (λ (l : List (List ℕ)). e ∷ l) (chunks-back es rest f.1)

pub section-back : (es : List (List ℕ)) (rest : List ℕ) → Eights es → Bytes 4 (length es) → section 8 (section_then es rest) ≡ some (record { entries = es; rest = rest })
unfolding section
section-back es rest f b =
    let bs = section_then es rest in
    let body = joined es ++ rest in
    let n = length es in
    let long = joined_length es f in
    let whole = length-append (joined es) rest in
    ap (λ (x : Bool). section_by x 8 bs) (le-leb 4 (length bs) (omega arith))
    ∙ ap (λ (k : ℕ). section_of (leb (8 * k) (length body)) 8 k body) (number-back 4 n b)
    ∙ ap (λ (x : Bool). section_of x 8 n body) (le-leb (8 * n) (length body) (omega (arith, long, whole)))
    ∙ (λ i. some (record { entries = chunks-back es rest f i; rest = (front (joined es) rest (8 * n) long).1 i }))

-- ---- the entries

eights : {A : Type 0} (g : A → List ℕ) → ((x : A) → length (g x) ≡ 8) → (xs : List A) → Eights (map g xs)
eights g h [] = tt
eights g h (x ∷ xs) = (h x, eights g h xs)

row-eight : (r : Row) → length (row_bytes r) ≡ 8
row-eight pane_row = refl
row-eight (tabs_row b n a) = refl
row-eight (split_row x n s m) = refl

back-all : {A : Type 0} {P : A → Type 0} (g : A → List ℕ) (h : List ℕ → A) → ((x : A) → P x → h (g x) ≡ x) → (xs : List A) → All P xs → map h (map g xs) ≡ xs
back-all g h e [] f = refl
back-all g h e (x ∷ xs) f = λ i. e x f.0 i ∷ back-all g h e xs f.1 i

-- 256 to the w
abbrev places : ℕ → ℕ
places zero = 1
places (suc w) = places w * 256

pub bytes_fit : (w n : ℕ) → n < places w → Bytes w n
bytes_fit zero n h = omega arith
bytes_fit (suc w) n h = bytes_fit w (n / 256) ((div-lt_iff_lt-mul (lit< tt)).1 h)

abbrev pub Real : Float → Type 0
Real x = T (fits binary64 x)

real-back : (x : Float) → Real x → real (real_bytes x) ≡ x
real-back x f = ap (of_bits binary64) (number-back 8 (to_bits binary64 x) (bytes_fit 8 (to_bits binary64 x) (to_bits-lt binary64 x f))) ∙ of_bits-to_bits binary64 x f

-- ---- the table

pub record Writable (t : Table) : Type 0 where
  pub fit : rows_fit t ≡ true
  pub rows : All RowFits t.rows
  pub panes : All (Bytes 8) t.panes
  pub shares : All Real t.shares
  pub minima : All Real t.minima
  pub few-rows : Bytes 4 (length t.rows)
  pub few-panes : Bytes 4 (length t.panes)
  pub few-shares : Bytes 4 (length t.shares)
  pub few-minima : Bytes 4 (length t.minima)

counted : {A : Type 0} (g : A → List ℕ) (xs : List A) → Bytes 4 (length xs) → Bytes 4 (length (map g xs))
counted g xs b = subst (Bytes 4) (sym (length-map xs g)) b

-- THE TABLE IS READ BACK
pub read_back : (t : Table) → Writable t → read_table (table_bytes t) ≡ some t
unfolding read_table
read_back t w =
    let rs = map row_bytes t.rows in
    let ps = map (bytes_of 8) t.panes in
    let ss = map real_bytes t.shares in
    let ms = map real_bytes t.minima in
    let after = section_then ms [] in
    let later = section_then ss after in
    ap after_rows (section-back rs (section_then ps later) (eights row_bytes row-eight t.rows) (counted row_bytes t.rows w.few-rows))
    ∙ ap (with_panes rs) (section-back ps later (eights (bytes_of 8) (bytes-length 8) t.panes) (counted (bytes_of 8) t.panes w.few-panes))
    ∙ ap (with_shares rs ps) (section-back ss after (eights real_bytes (λ x. bytes-length 8 (to_bits binary64 x)) t.shares) (counted real_bytes t.shares w.few-shares))
    ∙ ap (with_minima rs ps ss) (section-back ms [] (eights real_bytes (λ x. bytes-length 8 (to_bits binary64 x)) t.minima) (counted real_bytes t.minima w.few-minima))
    ∙ ap (λ (o : Option (List Row)). with_rows o ps ss ms) (rows_back t.rows w.rows)
    ∙ ap (λ (u : Table). fitting (rows_fit u) u) same
    ∙ ap (λ (b : Bool). fitting b t) w.fit
  where
    same : ◌≡◌ {A = Table} (record { rows = t.rows; panes = map number (map (bytes_of 8) t.panes); shares = map real (map real_bytes t.shares); minima = map real (map real_bytes t.minima) }) t
    same =
        λ i. record {
          rows = t.rows;
          panes = back-all (bytes_of 8) number (number-back 8) t.panes w.panes i;
          shares = back-all real_bytes real real-back t.shares w.shares i;
          minima = back-all real_bytes real real-back t.minima w.minima i;
        }
