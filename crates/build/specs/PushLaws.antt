-- The recursion's laws: nodes of a run of rows, and of two runs that follow each other. Assumes nothing.
use Rattle.std.specs.Prelude.{◌≡◌, refl, Bool, false, ◌||◌, List, [], ◌∷◌, ◌++◌, map, ℕ, zero, suc, ◌+◌, ◌*◌, ◌≤◌, ◌<◌, length, get_or, take, drop}
use Rattle.std.proofs.Common.{sym, ap, ◌∙◌, append-nil, le_of_suc-le-suc, arith, ltb-false, take-append-drop, drop_of_length-le, take-take, drop-drop}
use Rattle.std.proofs.Math.Seq.{slice, slice_empty}
use Rattle.rules.specs.Lists.{any_of}
use Rattle.rules.specs.Tree.{Node, split, tile}
use Rattle.rules.specs.Table.{Row, pane_row, tabs_row, split_row, children_used}
use Rattle.rules.specs.Spec.{Left, after, row_shares, row_minima, wide_row, build, push_spec}
use Rattle.reader.specs.Bytes.{inner}
use Rattle.forest.specs.Bools.{or_left, or_right}
use Rattle.build.specs.Push.{row_node, nodes_from, left_over, Pushed}

pub slice-join : {A : Type 0} (a b c : ℕ) (l : List A) → a ≤ b → b ≤ c → slice a c l ≡ slice a b l ++ slice b c l
slice-join zero b c l h k = sym (ap (λ (x : List _). x ++ drop b (take c l)) (sym (take-take b c l k)) ∙ take-append-drop b (take c l))
slice-join (suc a) zero c l h k = absurd (omega arith)
slice-join (suc a) (suc b) zero l h k = absurd (omega arith)
slice-join (suc a) (suc b) (suc c) [] h k = refl
slice-join (suc a) (suc b) (suc c) (x ∷ l) h k = slice-join a b c l (le_of_suc-le-suc h) (le_of_suc-le-suc k)

pub left_join : (xs ys : List Row) (l : Left) → left_over (xs ++ ys) l ≡ left_over ys (left_over xs l)
unfolding left_over
left_join [] ys l = refl
left_join (x ∷ xs) ys l = left_join xs ys (after x l)

pub nodes-join : (kids : List ℕ) (i : ℕ) (xs ys : List Row) (l : Left) → nodes_from kids i (xs ++ ys) l ≡ nodes_from kids i xs l ++ nodes_from kids (i + length xs) ys (left_over xs l)
unfolding nodes_from left_over
nodes-join kids i [] ys l = ap (λ (k : ℕ). nodes_from kids k ys l) (let z : i ≡ i + 0 = omega arith in z)
nodes-join kids i (x ∷ xs) ys l =
    ap (λ (ns : List Node). row_node kids i x l ∷ ns)
    (nodes-join kids (suc i) xs ys (after x l) ∙ ap (λ (k : ℕ). nodes_from kids (suc i) xs (after x l) ++ nodes_from kids k ys (left_over xs (after x l))) (let z : suc i + length xs ≡ i + suc (length xs) = omega arith in z))

pub length-nodes : (kids : List ℕ) (i : ℕ) (rs : List Row) (l : Left) → length (nodes_from kids i rs l) ≡ length rs
unfolding nodes_from
length-nodes kids i [] l = refl
length-nodes kids i (r ∷ rs) l = ap suc (length-nodes kids (suc i) rs (after r l))

-- ---- a node hears only of its own row's children

node-as : (kids kids' : List ℕ) (i : ℕ) (r : Row) (l : Left) → take (children_used r) (drop (16 * i) kids) ≡ take (children_used r) (drop (16 * i) kids') → row_node kids i r l ≡ row_node kids' i r l
node-as kids kids' i pane_row l e = refl
node-as kids kids' i (tabs_row p n a) l e = refl
node-as kids kids' i (split_row x n s m) l e = ap (λ (c : List ℕ). split x (map tile c) (row_shares (split_row x n s m) l) (row_minima (split_row x n s m) l)) e

-- what stands before the first of them is not heard
pub nodes-after : (kids kids' : List ℕ) (i : ℕ) (rs : List Row) (l : Left) → drop (16 * i) kids ≡ drop (16 * i) kids' → nodes_from kids i rs l ≡ nodes_from kids' i rs l
unfolding nodes_from
nodes-after kids kids' i [] l e = refl
nodes-after kids kids' i (r ∷ rs) l e =
    λ j. node-as kids kids' i r l (ap (take (children_used r)) e) j ∷ nodes-after kids kids' (suc i) rs (after r l) (next kids ∙ ap (drop 16) e ∙ sym (next kids')) j
  where
    next : (ks : List ℕ) → drop (16 * suc i) ks ≡ drop 16 (drop (16 * i) ks)
    next ks = ap (λ (k : ℕ). drop k ks) (let z : 16 * suc i ≡ 16 * i + 16 = omega arith in z) ∙ sym (drop-drop 16 (16 * i) ks)

few-children : (r : Row) → wide_row r ≡ false → children_used r ≤ 16
few-children pane_row e = omega arith
few-children (tabs_row p n a) e = omega arith
few-children (split_row x n s m) e = ltb-false 16 n e

-- nor what stands past the last
pub nodes-before : (kids kids' : List ℕ) (i q : ℕ) (rs : List Row) (l : Left) → any_of wide_row rs ≡ false → 16 * (i + length rs) ≤ q → take q kids ≡ take q kids' → nodes_from kids i rs l ≡ nodes_from kids' i rs l
unfolding nodes_from any_of
nodes-before kids kids' i q [] l w h e = refl
nodes-before kids kids' i q (r ∷ rs) l w h e =
    let few : children_used r ≤ 16 = few-children r (or_left (wide_row r) (any_of wide_row rs) w) in
    let fit : 16 * i + children_used r ≤ q = omega arith in
    λ j. node-as kids kids' i r l
    (sym (inner (16 * i) (children_used r) q kids fit) ∙ ap (λ (k : List ℕ). take (children_used r) (drop (16 * i) k)) e ∙ inner (16 * i) (children_used r) q kids' fit) j
    ∷ nodes-before kids kids' (suc i) q rs (after r l) (or_right (wide_row r) (any_of wide_row rs) w) (omega arith) e j

-- a part of narrow rows is narrow
pub any-drop : (i : ℕ) (rs : List Row) → any_of wide_row rs ≡ false → any_of wide_row (drop i rs) ≡ false
unfolding any_of
any-drop zero rs e = e
any-drop (suc i) [] e = refl
any-drop (suc i) (r ∷ rs) e = any-drop i rs (or_right (wide_row r) (any_of wide_row rs) e)

pub any-take : (i : ℕ) (rs : List Row) → any_of wide_row rs ≡ false → any_of wide_row (take i rs) ≡ false
unfolding any_of
any-take zero rs e = refl
any-take (suc i) [] e = refl
any-take (suc i) (r ∷ rs) e =
    ap (λ (b : Bool). b || any_of wide_row (take i rs)) (or_left (wide_row r) (any_of wide_row rs) e) ∙ any-take i rs (or_right (wide_row r) (any_of wide_row rs) e)

pub row-narrow : (rs : List Row) (i : ℕ) (d : Row) → i < length rs → any_of wide_row rs ≡ false → children_used (get_or rs i d) ≤ 16
unfolding any_of
row-narrow [] i d h e = absurd (omega arith)
row-narrow (r ∷ rs) zero d h e = few-children r (or_left (wide_row r) (any_of wide_row rs) e)
row-narrow (r ∷ rs) (suc i) d h e = row-narrow rs i d (le_of_suc-le-suc h) (or_right (wide_row r) (any_of wide_row rs) e)

-- ---- no row is left

pub pushed_none : (rows : List Row) (kids : List ℕ) (at : ℕ) → length kids ≡ 1024 → at ≤ length rows → length rows ≤ at → Pushed rows kids kids at at
unfolding push_spec nodes_from left_over
pushed_none rows kids at s w h =
    record {
      low = omega arith;
      high = w;
      size = s;
      kept = refl;
      same = λ f l ns a g. ap (λ (rs : List Row). push_spec f (build rs l ns)) none_left ∙ by f l ns
          ∙ (λ j. build (sym none_left j) (left_over (sym (slice_empty at rows) j) l) (sym (append-nil ns) j))
          ∙ ap (λ (rs : List Row). build (drop at rows) (left_over (slice at at rows) l) (ns ++ nodes_from kids at rs l)) (sym (slice_empty at rows));
    }
  where
    none_left : drop at rows ≡ []
    none_left = drop_of_length-le rows {i = at} h

    by : (f : ℕ) (l : Left) (ns : List Node) → push_spec f (build [] l ns) ≡ build [] l ns
    by zero l ns = refl
    by (suc f) l ns = refl
