-- The walk along the rows is the rules' own test of a table, and the code's loop is that walk. Assumes nothing.
use Rattle.std.specs.Prelude.{◌≡◌, refl, Some, None, Bool, true, false, ◌&&◌, ℕ, zero, suc, ◌+◌, ◌*◌, ◌<◌, length, get_or, take, drop}
use Rattle.std.proofs.Common.{sym, ap, subst, ◌∙◌, le_of_suc-le-suc, mul-suc, add_comm, eqb-true, drop-drop}
use mathlib.Core.List.{List, [], ◌∷◌, map}
use Rattle.std.proofs.Math.Option.{Option, none, some}
use native.Mathlib.Omega.{arith}
use Rattle.std.proofs.Math.Dec.{eqb}
use Rattle.std.proofs.lemmas.List.{length-map}
use Rattle.rules.specs.Table.{Row, chunks, row_of, rows_of, cons_row, panes_used, shares_used, minima_used, children_used, sum_rows, preorder, Table, number, real, rows_fit, fitting, with_rows}
use Rattle.table.specs.Row.{row_or}
use Rattle.reader.specs.Section.{chunks_at}
use Rattle.table.specs.Sections.{SectionsAre}
use Rattle.table.specs.Rows.{row_from, table_of, Used, TableIs, ok_by, ok_from, ok_rows}
use Rattle.table.specs.declared.sections.Places.{Places}
use Rattle.reader.specs.declared.cursor.Section.{Section}

-- ---- chunks

pub length-chunks : (w n : ℕ) (l : List ℕ) → length (chunks w n l) ≡ n
unfolding chunks
length-chunks w zero l = refl
length-chunks w (suc n) l = ap suc (length-chunks w n (drop w l))

pub chunk : (w n i : ℕ) (l : List ℕ) (d : List ℕ) → i < n → get_or (chunks w n l) i d ≡ take w (drop (w * i) l)
unfolding chunks
chunk w zero i l d h = absurd (omega arith)
chunk w (suc n) zero l d h = ap (λ (k : ℕ). take w (drop k l)) (let z : 0 ≡ w * 0 = omega arith in z)
chunk w (suc n) (suc i) l d h =
    chunk w n i (drop w l) d (le_of_suc-le-suc h)
    ∙ ap (take w) (drop-drop (w * i) w l ∙ ap (λ (k : ℕ). drop k l) (next w i))
  where
    next : (w i : ℕ) → w + w * i ≡ w * suc i
    next w i = sym (mul-suc w i ∙ add_comm (w * i) w)

-- the i-th entry of a section
pub chunk-at : (bs : List ℕ) (s : Section) (i : ℕ) (d : List ℕ) → i < s.count → get_or (chunks_at bs s) i d ≡ take 8 (drop (s.start + 8 * i) bs)
chunk-at bs s i d h = chunk 8 s.count i (drop s.start bs) d h ∙ ap (take 8) (drop-drop (8 * i) s.start bs)

-- ---- the walk is the rules' test

module _ (np ns nm : ℕ) where
  abbrev fits_in : Option (List Row) → ℕ → ℕ → ℕ → ℕ → Bool
  fits_in none n a b c = false
  fits_in (some rs) n a b c = preorder n rs && eqb (a + sum_rows panes_used rs) np && eqb (b + sum_rows shares_used rs) ns && eqb (c + sum_rows minima_used rs) nm

  ok-fits : (es : List (List ℕ)) (n a b c : ℕ) → ok_from np ns nm es n a b c ≡ fits_in (rows_of es) n a b c
  unfolding ok_from rows_of preorder sum_rows
  ok-fits [] n a b c = λ j. eqb n 0 && eqb (none_more a j) np && eqb (none_more b j) ns && eqb (none_more c j) nm
    where
      none_more : (x : ℕ) → x ≡ x + 0
      none_more x = omega arith
  ok-fits (e ∷ es) n a b c = by (row_of e) (rows_of es) n (ok-fits es)
    where
      shift : (x y z : ℕ) → x + y + z ≡ x + (y + z)
      shift x y z = omega arith

      by : (o : Option Row) (q : Option (List Row)) (n : ℕ)
          → ((n a b c : ℕ) → ok_from np ns nm es n a b c ≡ fits_in q n a b c)
          → ok_by o n (λ k r. ok_from np ns nm es (k + children_used r) (a + panes_used r) (b + shares_used r) (c + minima_used r)) ≡ fits_in (cons_row o q) n a b c
      by none q n ih = refl
      by (some r) none zero ih = refl
      by (some r) none (suc k) ih = ih (k + children_used r) (a + panes_used r) (b + shares_used r) (c + minima_used r)
      by (some r) (some rs) zero ih = refl
      by (some r) (some rs) (suc k) ih =
          ih (k + children_used r) (a + panes_used r) (b + shares_used r) (c + minima_used r)
          ∙ (λ j. preorder (k + children_used r) rs && eqb (shift a (panes_used r) (sum_rows panes_used rs) j) np && eqb (shift b (shares_used r) (sum_rows shares_used rs) j) ns && eqb (shift c (minima_used r) (sum_rows minima_used rs) j) nm)

-- rows that are read are those that stand there
rows-known : (es : List (List ℕ)) (rs : List Row) → rows_of es ≡ some rs → map row_from es ≡ rs
unfolding rows_of
rows-known [] rs e = cc
rows-known (x ∷ es) rs e = by (row_of x) (rows_of es) (rows-known es) rs e
  where
    same : {xs ys : List Row} → some xs ≡ some ys → xs ≡ ys
    same e = cc

    by : (o : Option Row) (q : Option (List Row)) → ((rs : List Row) → q ≡ some rs → map row_from es ≡ rs) → (rs : List Row) → cons_row o q ≡ some rs → row_or o ∷ map row_from es ≡ rs
    by none q ih rs e = absurd (let z : ◌≡◌ {A = ℕ} 0 1 = cc in omega arith)
    by (some r) none ih rs e = absurd (let z : ◌≡◌ {A = ℕ} 0 1 = cc in omega arith)
    by (some r) (some qs) ih rs e = ap (λ (l : List Row). r ∷ l) (ih qs refl) ∙ same e

and_left : (a b : Bool) → (a && b) ≡ true → a ≡ true
and_left true b e = refl
and_left false b e = e

and_right : (a b : Bool) → (a && b) ≡ true → b ≡ true
and_right true b e = e
and_right false b e = absurd (let z : ◌≡◌ {A = ℕ} 0 1 = cc in omega arith)

-- what the walk's answer tells of the table
pub record Told (es ps ss ms : List (List ℕ)) (t : Table) (ok : Bool) : Type 0 where
  pub good : ok ≡ true → (with_rows (rows_of es) ps ss ms ≡ some t) × Used t
  pub bad : ok ≡ false → with_rows (rows_of es) ps ss ms ≡ none

abbrev tabled : List (List ℕ) → List (List ℕ) → List (List ℕ) → List Row → Table
tabled ps ss ms rs = record { rows = rs; panes = map number ps; shares = map real ss; minima = map real ms }

module _ (ps ss ms : List (List ℕ)) (np ns nm : ℕ) (p : length ps ≡ np) (s : length ss ≡ ns) (m : length ms ≡ nm) where
  fit-as : (rs : List Row) → rows_fit (tabled ps ss ms rs) ≡ fits_in np ns nm (some rs) 1 0 0 0
  fit-as rs =
      λ j. preorder 1 rs && eqb (zero_more (sum_rows panes_used rs) j) ((length-map ps number ∙ p) j) && eqb (zero_more (sum_rows shares_used rs) j) ((length-map ss real ∙ s) j)
      && eqb (zero_more (sum_rows minima_used rs) j) ((length-map ms real ∙ m) j)
    where
      zero_more : (x : ℕ) → x ≡ 0 + x
      zero_more x = omega arith

  used-of : (rs : List Row) → rows_fit (tabled ps ss ms rs) ≡ true → Used (tabled ps ss ms rs)
  used-of rs e =
      let t = tabled ps ss ms rs in
      let o = preorder 1 rs in
      let p = eqb (sum_rows panes_used rs) (length t.panes) in
      let s = eqb (sum_rows shares_used rs) (length t.shares) in
      let m = eqb (sum_rows minima_used rs) (length t.minima) in
      let f = and_left (o && p && s) m e in
      record {
        panes = eqb-true _ _ (and_right o p (and_left (o && p) s f));
        shares = eqb-true _ _ (and_right (o && p) s f);
        minima = eqb-true _ _ (and_right (o && p && s) m e);
      }

  told : (es : List (List ℕ)) → Told es ps ss ms (tabled ps ss ms (map row_from es)) (ok_from np ns nm es 1 0 0 0)
  told es = subst (λ (b : Bool). Told es ps ss ms (tabled ps ss ms (map row_from es)) b) (sym (ok-fits np ns nm es 1 0 0 0)) (by (rows_of es) refl)
    where
      by : (q : Option (List Row)) → rows_of es ≡ q → Told es ps ss ms (tabled ps ss ms (map row_from es)) (fits_in np ns nm (rows_of es) 1 0 0 0)
      by none e =
          record {
            good = λ f. absurd (let z : ◌≡◌ {A = Bool} false true = sym (ap (λ (q : Option (List Row)). fits_in np ns nm q 1 0 0 0) e) ∙ f in let y : ◌≡◌ {A = ℕ} 0 1 = cc in omega arith);
            bad = λ f. ap (λ (q : Option (List Row)). with_rows q ps ss ms) e;
          }
      by (some rs) e =
          let g : fits_in np ns nm (rows_of es) 1 0 0 0 ≡ rows_fit (tabled ps ss ms rs) = ap (λ (q : Option (List Row)). fits_in np ns nm q 1 0 0 0) e ∙ sym (fit-as rs) in
          let k : map row_from es ≡ rs = rows-known es rs e in
          record {
            good = λ f. (
              ap (λ (q : Option (List Row)). with_rows q ps ss ms) e ∙ ap (λ (b : Bool). fitting b (tabled ps ss ms rs)) (sym g ∙ f) ∙ ap (λ (l : List Row). some (tabled ps ss ms l)) (sym k),
              subst (λ (l : List Row). Used (tabled ps ss ms l)) (sym k) (used-of rs (sym g ∙ f)),
            );
            bad = λ f. ap (λ (q : Option (List Row)). with_rows q ps ss ms) e ∙ ap (λ (b : Bool). fitting b (tabled ps ss ms rs)) (sym g ∙ f);
          }

module _ (bs : List ℕ) (t : Places) (w : SectionsAre bs (Some t)) where
  all : Told (chunks_at bs t.rows) (chunks_at bs t.panes) (chunks_at bs t.shares) (chunks_at bs t.minima) (table_of bs t) (ok_rows bs t)
  all =
      told (chunks_at bs t.panes) (chunks_at bs t.shares) (chunks_at bs t.minima) t.panes.count t.shares.count t.minima.count
      (length-chunks 8 t.panes.count (drop t.panes.start bs)) (length-chunks 8 t.shares.count (drop t.shares.start bs)) (length-chunks 8 t.minima.count (drop t.minima.start bs))
      (chunks_at bs t.rows)

  pub table-good : true ≡ ok_rows bs t → TableIs bs (Some t)
  table-good e = let g = all.good (sym e) in record { read = w.is ∙ g.0; placed = w.here; used = g.1 }

  pub table-bad : false ≡ ok_rows bs t → TableIs bs None
  table-bad e = w.is ∙ all.bad (sym e)
