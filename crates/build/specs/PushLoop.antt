-- A row's children, one after another: the loop of push_spec, turn by turn. Assumes nothing.
use Rattle.std.specs.Prelude.{◌≡◌, refl, false, get_or, take, set}
use Rattle.std.proofs.Common.{sym, subst, ◌∙◌, add-one, length-drop, take-take, drop-cons, drop-set-lt, take-suc-set}
use Rattle.std.proofs.Math.Path.{ap}
use mathlib.Core.List.{List, [], ◌∷◌, ◌++◌, map, append-nil, append_assoc, map-append}
use Prim.Native.Nat.{ℕ, zero, suc, ◌+◌, ◌-◌, ◌*◌, ◌≤◌, ◌<◌}
use native.Mathlib.Omega.{arith}
use Rattle.std.proofs.Math.ListN.{length, drop, length-append}
use Rattle.std.proofs.Math.Seq.{slice, slice_empty, slice-cons, length-slice, append_snoc, set-append_seam}
use Rattle.std.proofs.lemmas.List.{take-set-le, drop-set-add}
use Rattle.rules.specs.Lists.{any_of}
use Rattle.rules.specs.Tree.{Node, pane, tabs, split, tile, empty_group}
use Rattle.rules.specs.Table.{Row, pane_row, tabs_row, split_row, children_used}
use Rattle.rules.specs.Spec.{Left, after, row_panes, row_shares, row_minima, wide_row, build, Children, push_children, set_split, push_row, push_next, push_spec}
use Rattle.reader.specs.Bytes.{inner}
use Rattle.build.specs.Push.{children_at, row_node, nodes_from, left_over, Pushed}
use Rattle.build.specs.PushLaws.{slice-join, left_join, nodes-join, length-nodes, nodes-after, nodes-before, any-drop, any-take}

-- j of the n children of the row `at` are built, and `next` is the row that comes after them
pub record Filling (rows : List Row) (at n : ℕ) (kids₀ kids : List ℕ) (j next : ℕ) : Type 0 where
  pub within : j ≤ n
  pub low : suc at ≤ next
  pub high : next ≤ length rows
  pub size : length kids ≡ 1024
  pub kept : take (16 * at) kids ≡ take (16 * at) kids₀
  pub same : (f : ℕ) (l : Left) (ns : List Node) → length ns ≡ suc at → length rows ≤ suc at + f
      → push_children (push_spec f) n [] (build (drop (suc at) rows) l ns)
      ≡ push_children (push_spec f) (n - j) (children_at kids at j)
      (build (drop next rows) (left_over (slice (suc at) next rows) l) (ns ++ nodes_from kids (suc at) (slice (suc at) next rows) l))

pub fill_start : (rows : List Row) (at n : ℕ) (kids : List ℕ) → at < length rows → length kids ≡ 1024 → Filling rows at n kids kids 0 (at + 1)
unfolding nodes_from left_over
fill_start rows at n kids h s =
    record {
      within = omega arith;
      low = omega arith;
      high = omega arith;
      size = s;
      kept = refl;
      same = λ f l ns a g. (λ j. push_children (push_spec f) (less j) [] (build (drop (sym (add-one at) j) rows) l (sym (append-nil ns) j)))
          ∙ (λ j. push_children (push_spec f) (n - 0) [] (build (drop (at + 1) rows) (left_over (sym none j) l) (ns ++ nodes_from kids (suc at) (sym none j) l)));
    }
  where
    less : n ≡ n - 0
    less = omega arith

    none : slice (suc at) (at + 1) rows ≡ []
    none = ap (λ (k : ℕ). slice (suc at) k rows) (add-one at) ∙ slice_empty (suc at) rows

module _ (rows : List Row) (at n : ℕ) (kids₀ kids kids' : List ℕ) (j next r : ℕ) (w : Filling rows at n kids₀ kids j next) (h : j < n) (few : n ≤ 16) (room : at < 64)
    (narrow : any_of wide_row rows ≡ false) (p : Pushed rows (set kids (16 * at + j) next) kids' next r) where
  abbrev seg : List Row
  seg = slice (suc at) next rows

  seg-length : length seg ≡ next - suc at
  seg-length = length-slice (suc at) next rows w.high

  seg-narrow : any_of wide_row seg ≡ false
  seg-narrow = any-drop (suc at) (take next rows) (any-take next rows narrow)

  -- the new child's number stands after the others
  ids : children_at kids at j ++ tile next ∷ [] ≡ children_at kids' at (j + 1)
  ids =
      let low : suc at ≤ next = w.low in
      let size : length kids ≡ 1024 = w.size in
      let fit : 16 * at + (j + 1) ≤ 16 * next = omega arith in
      let there : j < length (drop (16 * at) kids) = omega (arith, length-drop (16 * at) kids) in
      sym (map-append tile (take j (drop (16 * at) kids)) (next ∷ []))
      ∙ ap (map tile)
      (sym (take-suc-set (drop (16 * at) kids) j next there)
      ∙ ap (λ (k : ℕ). take k (set (drop (16 * at) kids) j next)) (sym (add-one j))
      ∙ ap (take (j + 1)) (sym (drop-set-add (16 * at) kids j next))
      ∙ sym (inner (16 * at) (j + 1) (16 * next) (set kids (16 * at + j) next) fit)
      ∙ ap (λ (l : List ℕ). take (j + 1) (drop (16 * at) l)) (sym p.kept)
      ∙ inner (16 * at) (j + 1) (16 * next) kids' fit)

  -- and the nodes that are there do not hear of it
  nodes : (l : Left) → nodes_from kids (suc at) seg l ≡ nodes_from kids' (suc at) seg l
  nodes l =
      let low : suc at ≤ next = w.low in
      nodes-after kids (set kids (16 * at + j) next) (suc at) seg l (sym (drop-set-lt (16 * suc at) kids (16 * at + j) next (omega arith)))
      ∙ nodes-before (set kids (16 * at + j) next) kids' (suc at) (16 * next) seg l seg-narrow (omega (arith, seg-length)) (sym p.kept)

  left-all : (l : Left) → left_over (slice next r rows) (left_over seg l) ≡ left_over (slice (suc at) r rows) l
  left-all l = sym (ap (λ (s : List Row). left_over s l) (slice-join (suc at) next r rows w.low p.low) ∙ left_join seg (slice next r rows) l)

  nodes-all : (l : Left) (ns : List Node) → ns ++ nodes_from kids' (suc at) seg l ++ nodes_from kids' next (slice next r rows) (left_over seg l) ≡ ns ++ nodes_from kids' (suc at) (slice (suc at) r rows) l
  nodes-all l ns =
      let low : suc at ≤ next = w.low in
      let e : suc at + length seg ≡ next = omega (arith, seg-length) in
      append_assoc ns (nodes_from kids' (suc at) seg l) (nodes_from kids' next (slice next r rows) (left_over seg l))
      ∙ ap (λ (x : List Node). ns ++ x)
      (sym (ap (λ (s : List Row). nodes_from kids' (suc at) s l) (slice-join (suc at) next r rows w.low p.low)
      ∙ nodes-join kids' (suc at) seg (slice next r rows) l
      ∙ ap (λ (k : ℕ). nodes_from kids' (suc at) seg l ++ nodes_from kids' k (slice next r rows) (left_over seg l)) e))

  step : (f : ℕ) (l : Left) (ns : List Node) → length ns ≡ suc at → length rows ≤ suc at + f
      → push_children (push_spec f) (n - j) (children_at kids at j) (build (drop next rows) (left_over seg l) (ns ++ nodes_from kids (suc at) seg l))
      ≡ push_children (push_spec f) (n - (j + 1)) (children_at kids' at (j + 1)) (build (drop r rows) (left_over (slice (suc at) r rows) l) (ns ++ nodes_from kids' (suc at) (slice (suc at) r rows) l))
  unfolding push_children
  step f l ns a g =
      let low : suc at ≤ next = w.low in
      let c : n - j ≡ suc (n - (j + 1)) = omega arith in
      let len : length (ns ++ nodes_from kids' (suc at) seg l) ≡ next =
      omega (arith, length-append ns (nodes_from kids' (suc at) seg l), length-nodes kids' (suc at) seg l, seg-length) in
      (λ i. push_children (push_spec f) (c i) (children_at kids at j) (build (drop next rows) (left_over seg l) (ns ++ nodes l i)))
      ∙ (λ i. push_children (push_spec f) (n - (j + 1)) (children_at kids at j ++ tile (len i) ∷ []) (p.same f (left_over seg l) (ns ++ nodes_from kids' (suc at) seg l) len (omega arith) i))
      ∙ (λ i. push_children (push_spec f) (n - (j + 1)) (ids i) (build (drop r rows) (left-all l i) (nodes-all l ns i)))

  pub fill_more : Filling rows at n kids₀ kids' (j + 1) r
  fill_more =
      let low : suc at ≤ next = w.low in
      let plow : next ≤ r = p.low in
      let fit : 16 * at ≤ 16 * next = omega arith in
      record {
        within = omega arith;
        low = omega arith;
        high = p.high;
        size = p.size;
        kept = sym (take-take (16 * at) (16 * next) kids' fit) ∙ ap (take (16 * at)) p.kept ∙ take-take (16 * at) (16 * next) (set kids (16 * at + j) next) fit
            ∙ take-set-le (16 * at) kids (16 * at + j) next (omega arith) ∙ w.kept;
        same = λ f l ns a g. w.same f l ns a g ∙ step f l ns a g;
      }

-- ---- the row itself

module _ (rows : List Row) (at n : ℕ) (kids₀ kids : List ℕ) (j next : ℕ) (row : Row) (w : Filling rows at n kids₀ kids j next) (h : n ≤ j) (there : at < length rows)
    (e : row ≡ get_or rows at pane_row) (c : n ≡ children_used row) where
  abbrev rest : List Row
  rest = slice (suc at) next rows

  ended : (f : ℕ) (l : Left) (ns : List Node) → length ns ≡ suc at → length rows ≤ suc at + f
      → push_children (push_spec f) (children_used row) [] (build (drop (suc at) rows) l ns)
      ≡ record { ids = children_at kids at (children_used row); done = build (drop next rows) (left_over rest l) (ns ++ nodes_from kids (suc at) rest l) }
  unfolding push_children
  ended f l ns a g =
      let within : j ≤ n = w.within in
      let z : n - j ≡ 0 = omega arith in
      let y : j ≡ children_used row = omega (arith, c) in
      ap (λ (k : ℕ). push_children (push_spec f) k [] (build (drop (suc at) rows) l ns)) (sym c) ∙ w.same f l ns a g
      ∙ (λ i. push_children (push_spec f) (z i) (children_at kids at (y i)) (build (drop next rows) (left_over rest l) (ns ++ nodes_from kids (suc at) rest l)))

  run : slice at next rows ≡ row ∷ rest
  run =
      let low : suc at ≤ next = w.low in
      slice-cons at next rows pane_row (omega arith) w.high ∙ ap (λ (x : Row). x ∷ rest) (sym e)

  module _ (f : ℕ) (l : Left) (ns : List Node) (a : length ns ≡ at) (g : length rows ≤ at + suc f) where
    sized : (x : Node) → length (ns ++ x ∷ []) ≡ suc at
    sized x = omega (arith, length-append ns (x ∷ []))

    abbrev Goal : Row → Type 0
    Goal r = push_row (push_spec f) r (drop (suc at) rows) (build (drop at rows) l ns)
        ≡ build (drop next rows) (left_over rest (after r l)) (ns ++ row_node kids at r l ∷ nodes_from kids (suc at) rest (after r l))

    plain : (r : Row) (x : Node) → push_children (push_spec f) 0 [] (build (drop (suc at) rows) (after r l) (ns ++ x ∷ []))
        ≡ record { ids = children_at kids at 0; done = build (drop next rows) (left_over rest (after r l)) (ns ++ x ∷ [] ++ nodes_from kids (suc at) rest (after r l)) }
        → build (drop (suc at) rows) (after r l) (ns ++ x ∷ []) ≡ build (drop next rows) (left_over rest (after r l)) (ns ++ x ∷ nodes_from kids (suc at) rest (after r l))
    unfolding push_children
    plain r x q = ap (λ (d : Children). d.done) q ∙ ap (λ (ms : List Node). build (drop next rows) (left_over rest (after r l)) ms) (append_snoc ns x (nodes_from kids (suc at) rest (after r l)))

    by : (r : Row) → ((l : Left) (ns : List Node) → length ns ≡ suc at → push_children (push_spec f) (children_used r) [] (build (drop (suc at) rows) l ns)
        ≡ record { ids = children_at kids at (children_used r); done = build (drop next rows) (left_over rest l) (ns ++ nodes_from kids (suc at) rest l) }) → Goal r
    by pane_row q = plain pane_row (pane (get_or l.panes 0 0)) (q (after pane_row l) (ns ++ pane (get_or l.panes 0 0) ∷ []) (sized (pane (get_or l.panes 0 0))))
    by (tabs_row b k v) q =
        let x = tabs b v (row_panes (tabs_row b k v) l) in
        plain (tabs_row b k v) x (q (after (tabs_row b k v) l) (ns ++ x ∷ []) (sized x))
    by (split_row y k s m) q =
        let r = split_row y k s m in
        let x = split y (children_at kids at k) (row_shares r l) (row_minima r l) in
        ap (λ (d : Children). set_split (length ns) r l d) (q (after r l) (ns ++ empty_group ∷ []) (sized empty_group))
        ∙ ap (λ (ms : List Node). build (drop next rows) (left_over rest (after r l)) ms)
        (ap (λ (ms : List Node). set ms (length ns) x) (append_snoc ns empty_group (nodes_from kids (suc at) rest (after r l)))
        ∙ set-append_seam ns empty_group (nodes_from kids (suc at) rest (after r l)) x)

    one : push_spec (suc f) (build (drop at rows) l ns) ≡ build (drop next rows) (left_over (slice at next rows) l) (ns ++ nodes_from kids at (slice at next rows) l)
    unfolding push_spec nodes_from left_over
    one =
        ap (λ (rs : List Row). push_next (push_spec f) rs (build (drop at rows) l ns)) (drop-cons rows at pane_row there ∙ ap (λ (x : Row). x ∷ drop (suc at) rows) (sym e))
        ∙ by row (λ l ns a. ended f l ns a (omega arith))
        ∙ (λ i. build (drop next rows) (left_over (sym run i) l) (ns ++ nodes_from kids at (sym run i) l))

  pub fill_end : Pushed rows kids₀ kids at next
  fill_end =
      let low : suc at ≤ next = w.low in
      record { low = omega arith; high = w.high; size = w.size; kept = w.kept; same = by }
    where
      by : (f : ℕ) (l : Left) (ns : List Node) → length ns ≡ at → length rows ≤ at + f
          → push_spec f (build (drop at rows) l ns) ≡ build (drop next rows) (left_over (slice at next rows) l) (ns ++ nodes_from kids at (slice at next rows) l)
      by zero l ns a g = absurd (omega arith)
      by (suc f) l ns a g = one f l ns a g

-- the same, counted by the children that are left
pub fill-counted : {rows : List Row} {at n : ℕ} {kids₀ kids : List ℕ} {next : ℕ} (left : ℕ) → 0 < left → left ≤ n → Filling rows at n kids₀ kids (n - left + 1) next → Filling rows at n kids₀ kids (n - (left - 1)) next
fill-counted {rows} {at} {n} {kids₀} {kids} {next} left h g w = subst (λ (j : ℕ). Filling rows at n kids₀ kids j next) (let e : n - left + 1 ≡ n - (left - 1) = omega arith in e) w

pub fill_none : {rows : List Row} {at n : ℕ} {kids₀ kids : List ℕ} {next : ℕ} → Filling rows at n kids₀ kids 0 next → Filling rows at n kids₀ kids (n - n) next
fill_none {rows} {at} {n} {kids₀} {kids} {next} w = subst (λ (j : ℕ). Filling rows at n kids₀ kids j next) (let e : 0 ≡ n - n = omega arith in e) w
