-- A normal forest's own table passes validation: each row finds its entries at the front of what is left, and no check refuses it. Assumes nothing.
use Rattle.std.specs.Prelude.{◌≡◌, refl, Bool, true, false, not, cond, List, [], ◌∷◌, ◌++◌, map, ℕ, suc, ◌≤◌, ◌<◌, leb, length, Float}
use Rattle.std.proofs.Common.{sym, subst, ◌∙◌, append_assoc, append-nil, arith, ne_eqb}
use Rattle.std.proofs.Math.Path.{ap}
use Rattle.std.proofs.lemmas.List.{map-append}
use Rattle.std.proofs.Math.Option.{Option, none}
use Rattle.std.proofs.lemmas.Bool.{lt-leb}
use Rattle.std.specs.Float.Ieee.{lt, le, eq}
use Rattle.rules.specs.Numbers.{zero-f, one-f, plus, share_ok, minimum_ok}
use Rattle.rules.specs.Lists.{first_by, position_from}
use Rattle.rules.specs.Tree.{Node, empty, pane, tabs, split, node_at, panes_of}
use Rattle.rules.specs.Shares.{fix_share}
use Rattle.rules.specs.Minima.{fix_minimum, compact_by, compact_cons, compact_constraints}
use Rattle.rules.specs.Table.{Row}
use Rattle.rules.specs.Spec.{Left, after, row_panes, refuse_if, duplicate, tabs_refusal, split_refusal, row_refusal, first_refusal, validate}
use Rattle.rules.specs.Repair.{Entry, children_of, shares_of, minima_of}
use Rattle.rules.specs.declared.model.TileId.{TileId}
use Rattle.rules.specs.declared.model.Axis.{Axis}
use Rattle.rules.specs.declared.refusal.Refusal.{Refusal}
use Rattle.rules.specs.declared.refusal.Refusal.TheVariants.{DuplicatePane, EmptyTabs, InvalidActiveTab}
use Rattle.forest.specs.Lists.{All, Distinct, all_map, false-contains, distinct-left, distinct_apart}
use Rattle.forest.specs.Mended.{compact-all}
use Rattle.forest.specs.Codec.{stored, Shared, Least, shared-all, least-all, long_shares, long-minima, long-children}
use Rattle.forest.specs.Forest.{Forest, nil, leaf, node, roots, shown, Leafy, fine-shared, fine-least, Holds}
use Rattle.forest.specs.Again.{names}
use Rattle.forest.specs.Nodes.{leafy-panes}
use Rattle.checks.specs.SplitLaws.{split_good}
use Rattle.roundtrip.specs.Write.{row_of_node, node_shares, node_minima}
use Rattle.roundtrip.specs.ReadBack.{front}

-- ---- what a node has stands before what is left

abbrev pub before : Node → Left → Left
before n l = record { panes = panes_of n ++ l.panes; shares = node_shares n ++ l.shares; minima = node_minima n ++ l.minima }

pub after-node : (n : Node) (l : Left) → after (row_of_node n) (before n l) ≡ l
after-node empty l = refl
after-node (pane p) l = refl
after-node (tabs b a ps) l = λ i. record { panes = (front ps l.panes (length ps) refl).1 i; shares = l.shares; minima = l.minima }
after-node (split a cs ss ms) l =
    λ i. record { panes = l.panes; shares = (front ss l.shares (length ss) refl).1 i; minima = (front ms l.minima (length ms) refl).1 i }

pub panes-node : (n : Node) (l : Left) → row_panes (row_of_node n) (before n l) ≡ panes_of n
panes-node empty l = refl
panes-node (pane p) l = refl
panes-node (tabs b a ps) l = (front ps l.panes (length ps) refl).0
panes-node (split a cs ss ms) l = refl

-- ---- no check refuses a leaf

duplicate-none : (ps seen : List ℕ) → Distinct (seen ++ ps) → duplicate seen ps ≡ none
unfolding duplicate
duplicate-none [] seen d = refl
duplicate-none (p ∷ ps) seen d =
    ap (λ (b : Bool). refuse_if b (DuplicatePane p) (duplicate (seen ++ p ∷ []) ps)) (false-contains p seen (distinct_apart seen (p ∷ ps) d).0)
    ∙ duplicate-none ps (seen ++ p ∷ []) (rw (append_assoc seen (p ∷ []) ps) d)

tabs-none : (a : ℕ) (qs seen : List ℕ) → a < length qs → Distinct (seen ++ qs) → tabs_refusal a qs seen ≡ none
tabs-none a qs seen h d =
    ap (λ (b : Bool). refuse_if b EmptyTabs (refuse_if (leb (length qs) a) (InvalidActiveTab a (length qs)) (duplicate seen qs))) (ne_eqb (length qs) 0 (λ e. omega (arith, h, e)))
    ∙ ap (λ (b : Bool). refuse_if b (InvalidActiveTab a (length qs)) (duplicate seen qs)) (lt-leb (length qs) a h) ∙ duplicate-none qs seen d

leaf-none : (n : Node) (ps : List ℕ) → Leafy n ps → (l : Left) (seen : List ℕ) → Distinct (seen ++ ps) → row_refusal (row_of_node n) (before n l) seen ≡ none
leaf-none empty ps q l seen d = absurd q
leaf-none (pane p) ps q l seen d = duplicate-none (p ∷ []) seen (subst (λ (rs : List ℕ). Distinct (seen ++ rs)) q d)
leaf-none (tabs b a qs) ps q l seen d =
    ap (λ (rs : List ℕ). tabs_refusal a rs seen) (front qs l.panes (length qs) refl).0
    ∙ tabs-none a qs seen q.1 (subst (λ (rs : List ℕ). Distinct (seen ++ rs)) q.0 d)
leaf-none (split a cs ss ms) ps q l seen d = absurd q

-- ---- nor a split

one_ok : share_ok one-f ≡ true
unfolding lt
one_ok = refl

zero_ok : minimum_ok zero-f ≡ true
unfolding le
zero_ok = refl

share-good : (x : Float) → fix_share x ≡ x → not (share_ok x) ≡ false
unfolding fix_share
share-good x e = go (share_ok x) refl e
  where
    go : (b : Bool) → share_ok x ≡ b → cond b x one-f ≡ x → not (share_ok x) ≡ false
    go true q f = ap not q
    go false q f = ap not (ap share_ok (sym f) ∙ one_ok)

minimum-good : (x : Float) → fix_minimum x ≡ x → not (minimum_ok x) ≡ false
unfolding fix_minimum
minimum-good x e = go (minimum_ok x) refl e
  where
    go : (b : Bool) → minimum_ok x ≡ b → cond b (plus x) zero-f ≡ x → not (minimum_ok x) ≡ false
    go true q f = ap not q
    go false q f = ap not (ap minimum_ok (sym f) ∙ zero_ok)

none_found : (test : Float → Bool) (xs : List Float) (n : ℕ) → All (λ x. test x ≡ false) xs → none ≡ position_from n test xs
unfolding position_from
none_found test [] n a = refl
none_found test (x ∷ xs) n a = none_found test xs (suc n) a.1 ∙ sym (ap (λ (b : Bool). first_by b n (position_from (suc n) test xs)) a.0)

compact-short : (ms : List Float) → length (compact_constraints ms) ≤ length ms
unfolding compact_constraints
compact-short [] = omega arith
compact-short (m ∷ ms) = go (compact_constraints ms) (compact-short ms)
  where
    by : (b : Bool) → length (compact_by b m) ≤ suc (length ms)
    by true = omega arith
    by false = omega arith

    go : (xs : List Float) → length xs ≤ length ms → length (compact_cons m xs) ≤ suc (length ms)
    go [] h = by (eq m zero-f)
    go (x ∷ xs) h = omega (arith, h)

split-none : (es : List Entry) → 2 ≤ length es → All Shared es → All Least es → split_refusal (length (children_of es)) (shares_of es) (compact_constraints (minima_of es)) ≡ none
split-none es two sh le =
    let ms = compact_constraints (minima_of es) in
    let n = length (children_of es) in
    let a = long-children es in
    let b = long-minima es in
    let c = compact-short (minima_of es) in
    sym (split_good n (length (shares_of es)) (length ms) (shares_of es) ms refl refl (omega (arith, a, two)) (sym (long_shares es))
    (none_found (λ x. not (share_ok x)) (shares_of es) 0 (all_map share-good (shares_of es) (shared-all es sh))) (omega (arith, b, c))
    (none_found (λ x. not (minimum_ok x)) ms 0 (all_map minimum-good ms (compact-all (λ m. fix_minimum m ≡ m) (minima_of es) (least-all es le)))))

split-row-none : (n : Node) (a : Axis) (es : List Entry) → n ≡ stored a es → 2 ≤ length es → All Shared es → All Least es → (l : Left) (seen : List ℕ) → row_refusal (row_of_node n) (before n l) seen ≡ none
split-row-none n a es e two sh le l seen =
    let ss = shares_of es in
    let ms = compact_constraints (minima_of es) in
    ap (λ (x : Node). row_refusal (row_of_node x) (before x l) seen) e
    ∙ (λ i. split_refusal (length (children_of es)) ((front ss l.shares (length ss) refl).0 i) ((front ms l.minima (length ms) refl).0 i)) ∙ split-none es two sh le

-- ---- the walk of validation

module _ (ns : List Node) where
  abbrev pub rows : List TileId → List Row
  rows xs = map (λ x. row_of_node (node_at ns x)) xs

  -- what a forest has stands before what is left, tile by tile
  abbrev pub feed : Forest → Left → Left
  feed nil l = l
  feed (leaf i s m ps r) l = before (node_at ns i) (feed r l)
  feed (node i s m a c r) l = before (node_at ns i) (feed c (feed r l))

  -- one row that is not refused
  row_on : (n : Node) (rs : List Row) (l : Left) (seen ps : List ℕ) → row_refusal (row_of_node n) (before n l) seen ≡ none → panes_of n ≡ ps
      → validate (row_of_node n ∷ rs) (before n l) seen ≡ validate rs l (seen ++ ps)
  unfolding validate
  row_on n rs l seen ps q e =
      ap (λ (o : Option Refusal). first_refusal o (validate rs (after (row_of_node n) (before n l)) (seen ++ row_panes (row_of_node n) (before n l)))) q
      ∙ (λ i. validate rs (after-node n l i) (seen ++ (panes-node n l ∙ e) i))

  rows_join : (xs ys : List TileId) (rs : List Row) → rows (xs ++ ys) ++ rs ≡ rows xs ++ (rows ys ++ rs)
  rows_join xs ys rs = ap (λ (l : List Row). l ++ rs) (map-append (λ x. row_of_node (node_at ns x)) xs ys) ∙ append_assoc (rows xs) (rows ys) rs

  pub passes : (f : Forest) → Holds ns f → (seen : List ℕ) → Distinct (seen ++ shown f) → (rs : List Row) (l : Left) → validate (rows (names f) ++ rs) (feed f l) seen ≡ validate rs l (seen ++ shown f)
  passes nil h seen d rs l = ap (validate rs l) (sym (append-nil seen))
  passes (leaf i _ _ ps r) h seen d rs l =
      let n = node_at ns i in
      let d' : Distinct ((seen ++ ps) ++ shown r) = rw (append_assoc seen ps (shown r)) d in
      row_on n (rows (names r) ++ rs) (feed r l) seen ps (leaf-none n ps h.0.leafy (feed r l) seen (distinct-left (seen ++ ps) (shown r) d')) (leafy-panes n ps h.0.leafy)
      ∙ passes r h.1 (seen ++ ps) d' rs l ∙ ap (validate rs l) (append_assoc seen ps (shown r))
  passes (node i _ _ a c r) h seen d rs l =
      let n = node_at ns i in
      let d' : Distinct ((seen ++ shown c) ++ shown r) = rw (append_assoc seen (shown c) (shown r)) d in
      let S = h.0 in
      ap (λ (xs : List Row). validate (row_of_node n ∷ xs) (before n (feed c (feed r l))) seen) (rows_join (names c) (names r) rs)
      ∙ row_on n (rows (names c) ++ (rows (names r) ++ rs)) (feed c (feed r l)) seen []
      (split-row-none n a (roots c) S.is S.two (fine-shared ns a (roots c) S.fine) (fine-least ns a (roots c) S.fine) (feed c (feed r l)) seen) (ap panes_of S.is)
      ∙ ap (validate (rows (names c) ++ (rows (names r) ++ rs)) (feed c (feed r l))) (append-nil seen)
      ∙ passes c h.1 seen (distinct-left (seen ++ shown c) (shown r) d') (rows (names r) ++ rs) (feed r l)
      ∙ passes r h.2 (seen ++ shown c) d' rs l ∙ ap (validate rs l) (append_assoc seen (shown c) (shown r))
