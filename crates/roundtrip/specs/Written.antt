-- A tidy tree's table is written and read back: what to_spec gives is read as the tree's own table, and a tree that is built from it has the same panes
-- in the same order. Assumes nothing.
use Rattle.std.specs.Prelude.{◌≡◌, Bool, true, false, ◌&&◌, ◌||◌, Float}
use Rattle.std.proofs.Math.Path.{refl, sym, ap}
use Rattle.std.proofs.Common.{subst, ◌∙◌, eq-eqb, ltb-false}
use mathlib.Core.List.{List, [], ◌∷◌, ◌++◌, map, append_assoc, append-nil, map-append}
use Rattle.std.proofs.Math.Option.{some}
use Prim.Native.Nat.{ℕ, zero, suc, ◌+◌, ◌*◌, ◌≤◌}
use native.Mathlib.Omega.{arith}
use Rattle.std.proofs.Math.ListN.{length, length-append}
use Rattle.std.proofs.lemmas.List.{length-map}
use Rattle.rules.specs.Lists.{any_of, wide_list}
use Rattle.rules.specs.Tree.{Node, empty, pane, tabs, split, Arena, node_at, panes_of, wide_node, reading_from}
use Rattle.rules.specs.Target.{panes_in}
use Rattle.rules.specs.Table.{Row, panes_used, shares_used, minima_used, children_used, sum_rows, preorder, read_table}
use Rattle.rules.specs.Spec.{from_spec}
use Rattle.rules.specs.declared.model.TileId.{TileId}
use Rattle.rules.specs.Refusals.{Accepted}
use Rattle.forest.specs.Lists.{All, all_append}
use Rattle.forest.specs.Codec.{long-children}
use Rattle.forest.specs.Forest.{Forest, nil, leaf, node, roots, Leafy, Holds}
use Rattle.forest.specs.Again.{names, names-long}
use Rattle.forest.specs.Grow.{Left, nothing, group, branch, kept_of, stem}
use Rattle.forest.specs.Settled.{Tidy, reads}
use Rattle.forest.specs.Bools.{or_left, or_right}
use Rattle.forest.specs.Actions.{all-narrow}
use Rattle.forest.specs.Along.{panes-along, along}
use Rattle.roundtrip.specs.Write.{row_of_node, node_shares, node_minima, table_along, table_of_tree, to_spec}
use Rattle.roundtrip.specs.ReadBack.{Bytes, RowFits, Real, Writable, bytes_fit, read_back}
use Rattle.accepted.specs.Accepted.{accepted-panes}

-- ---- the rows use up what the nodes have

module _ {A : Type 0} (g : Node → List A) where
  used : (u : Row → ℕ) → ((n : Node) → u (row_of_node n) ≡ length (g n)) → (ns : List Node) (xs : List TileId) → sum_rows u (map (λ x. row_of_node (node_at ns x)) xs) ≡ length (along g ns xs)
  unfolding sum_rows along
  used u e ns [] = refl
  used u e ns (x ∷ xs) = (λ i. e (node_at ns x) i + used u e ns xs i) ∙ sym (length-append (g (node_at ns x)) (along g ns xs))

  along-few : (ns : List Node) → ((x : TileId) → length (g (node_at ns x)) ≤ 16) → (xs : List TileId) → length (along g ns xs) ≤ 16 * length xs
  unfolding along
  along-few ns h [] = omega arith
  along-few ns h (x ∷ xs) =
      let a = length-append (g (node_at ns x)) (along g ns xs) in
      let b = h x in
      let c = along-few ns h xs in omega (arith, a, b, c)

panes-used : (n : Node) → panes_used (row_of_node n) ≡ length (panes_of n)
panes-used empty = refl
panes-used (pane p) = refl
panes-used (tabs b a ps) = refl
panes-used (split a cs ss ms) = refl

shares-used : (n : Node) → shares_used (row_of_node n) ≡ length (node_shares n)
shares-used empty = refl
shares-used (pane p) = refl
shares-used (tabs b a ps) = refl
shares-used (split a cs ss ms) = refl

minima-used : (n : Node) → minima_used (row_of_node n) ≡ length (node_minima n)
minima-used empty = refl
minima-used (pane p) = refl
minima-used (tabs b a ps) = refl
minima-used (split a cs ss ms) = refl

-- ---- and stand in preorder

leafy-row : (n : Node) (ps : List ℕ) → Leafy n ps → children_used (row_of_node n) ≡ 0
leafy-row empty ps l = absurd l
leafy-row (pane p) ps l = refl
leafy-row (tabs b a qs) ps l = refl
leafy-row (split a cs ss ms) ps l = absurd l

module _ (ns : List Node) where
  abbrev rows_along : List TileId → List Row
  rows_along xs = map (λ x. row_of_node (node_at ns x)) xs

  in_order : (f : Forest) → Holds ns f → (k m : ℕ) (rest : List Row) → m ≡ length (roots f) + k → preorder m (rows_along (names f) ++ rest) ≡ preorder k rest
  unfolding preorder
  in_order nil h k m rest e = ap (λ (j : ℕ). preorder j rest) (let z : m ≡ k = omega (arith, e) in z)
  in_order (leaf i _ _ ps r) h k zero rest e = absurd (omega (arith, e))
  in_order (leaf i _ _ ps r) h k (suc m) rest e =
      let z : m + children_used (row_of_node (node_at ns i)) ≡ length (roots r) + k = (let q = leafy-row (node_at ns i) ps h.0.leafy in omega (arith, q, e)) in
      in_order r h.1 k (m + children_used (row_of_node (node_at ns i))) rest z
  in_order (node i _ _ a c r) h k zero rest e = absurd (omega (arith, e))
  in_order (node i _ _ a c r) h k (suc m) rest e =
      let n = node_at ns i in
      let q : children_used (row_of_node n) ≡ length (roots c) = ap (λ (x : Node). children_used (row_of_node x)) h.0.is ∙ long-children (roots c) in
      ap (λ (rs : List Row). preorder (m + children_used (row_of_node n)) (rs ++ rest)) (map-append (λ x. row_of_node (node_at ns x)) (names c) (names r))
      ∙ ap (preorder (m + children_used (row_of_node n))) (append_assoc (rows_along (names c)) (rows_along (names r)) rest)
      ∙ in_order c h.1 m (m + children_used (row_of_node n)) (rows_along (names r) ++ rest) (omega (arith, q))
      ∙ in_order r h.2 k m rest (omega (arith, e))

-- ---- narrow nodes have numbers of two bytes

few-panes : (n : Node) → wide_node n ≡ false → length (panes_of n) ≤ 16
few-panes empty w = omega arith
few-panes (pane p) w = omega arith
few-panes (tabs b a ps) w = ltb-false 16 (length ps) w
few-panes (split a cs ss ms) w = omega arith

few-children : (a : List TileId) (ss ms : List Float) → ((wide_list a || wide_list ss) || wide_list ms) ≡ false → (length a ≤ 16) × ((length ss ≤ 16) × (length ms ≤ 16))
few-children a ss ms w =
    let two = or_left (wide_list a || wide_list ss) (wide_list ms) w in
    (ltb-false 16 (length a) (or_left (wide_list a) (wide_list ss) two), (ltb-false 16 (length ss) (or_right (wide_list a) (wide_list ss) two), ltb-false 16 (length ms) (or_right (wide_list a || wide_list ss) (wide_list ms) w)))

few-shares : (n : Node) → wide_node n ≡ false → length (node_shares n) ≤ 16
few-shares empty w = omega arith
few-shares (pane p) w = omega arith
few-shares (tabs b a ps) w = omega arith
few-shares (split a cs ss ms) w = (few-children cs ss ms w).1.0

few-minima : (n : Node) → wide_node n ≡ false → length (node_minima n) ≤ 16
few-minima empty w = omega arith
few-minima (pane p) w = omega arith
few-minima (tabs b a ps) w = omega arith
few-minima (split a cs ss ms) w = (few-children cs ss ms w).1.1

small : (n : ℕ) → n ≤ 16 → Bytes 2 n
small n h = bytes_fit 2 n (omega (arith, h))

leaf-fits : (n : Node) (ps : List ℕ) → Leafy n ps → wide_node n ≡ false → RowFits (row_of_node n)
leaf-fits empty ps l w = absurd l
leaf-fits (pane p) ps l w = tt
leaf-fits (tabs b a qs) ps l w = let h = ltb-false 16 (length qs) w in let k = l.1 in (small (length qs) h, small a (omega (arith, h, k)))
leaf-fits (split a cs ss ms) ps l w = absurd l

split-fits : (n : Node) (a : _) (cs : List TileId) (ss ms : List Float) → n ≡ split a cs ss ms → wide_node n ≡ false → RowFits (row_of_node n)
split-fits n a cs ss ms e w =
    let f = few-children cs ss ms (sym (ap wide_node e) ∙ w) in
    subst (λ (x : Node). RowFits (row_of_node x)) (sym e) (small (length cs) f.0, (small (length ss) f.1.0, small (length ms) f.1.1))

none-due : preorder 0 [] ≡ true
unfolding preorder
none-due = refl

-- ---- the table of slots that hold a forest of one root

-- numbers that a program's tree has: panes of 64 bits, and reals of an f64
pub record Numbers (ns : List Node) (xs : List TileId) : Type 0 where
  pub panes : All (Bytes 8) (along panes_of ns xs)
  pub shares : All Real (along node_shares ns xs)
  pub minima : All Real (along node_minima ns xs)

module _ (ns : List Node) (narrow : any_of wide_node ns ≡ false) where
  rows-fit-bytes : (f : Forest) → Holds ns f → All (λ x. RowFits (row_of_node (node_at ns x))) (names f)
  rows-fit-bytes nil h = tt
  rows-fit-bytes (leaf i _ _ ps r) h = (leaf-fits (node_at ns i) ps h.0.leafy (all-narrow ns narrow i.slot), rows-fit-bytes r h.1)
  rows-fit-bytes (node i _ _ a c r) h = (
    split-fits (node_at ns i) a _ _ _ h.0.is (all-narrow ns narrow i.slot),
    all_append (λ x. RowFits (row_of_node (node_at ns x))) (names c) (names r) (rows-fit-bytes c h.1) (rows-fit-bytes r h.2),
  )

  all-rows : (xs : List TileId) → All (λ x. RowFits (row_of_node (node_at ns x))) xs → All RowFits (rows_along ns xs)
  all-rows [] a = tt
  all-rows (x ∷ xs) a = (a.0, all-rows xs a.1)

  pub writable : (f : Forest) → Holds ns f → length (roots f) ≡ 1 → length (names f) ≤ 64 → Numbers ns (names f) → Writable (table_along ns (names f))
  writable f h one few N =
      let xs = names f in
      let count : (k : ℕ) → k ≤ 1024 → Bytes 4 k = λ k le. bytes_fit 4 k (omega (arith, le)) in
      let ordered : preorder 1 (rows_along ns xs) ≡ true = (ap (preorder 1) (sym (append-nil (rows_along ns xs))) ∙ in_order ns f h 0 1 [] (omega (arith, one)) ∙ none-due) in
      let ps = used panes_of panes_used panes-used ns xs in
      let ss = used node_shares shares_used shares-used ns xs in
      let ms = used node_minima minima_used minima-used ns xs in
      let rows_long = length-map xs (λ x. row_of_node (node_at ns x)) in
      let panes-long = along-few panes_of ns (λ x. few-panes (node_at ns x) (all-narrow ns narrow x.slot)) xs in
      let shares-long = along-few node_shares ns (λ x. few-shares (node_at ns x) (all-narrow ns narrow x.slot)) xs in
      let minima-long = along-few node_minima ns (λ x. few-minima (node_at ns x) (all-narrow ns narrow x.slot)) xs in
      record {
        fit = λ i. fits_all (ordered i) (eq-eqb _ _ ps i) (eq-eqb _ _ ss i) (eq-eqb _ _ ms i);
        rows = all-rows xs (rows-fit-bytes f h);
        panes = N.panes;
        shares = N.shares;
        minima = N.minima;
        few-rows = count _ (omega (arith, rows_long, few));
        few-panes = count _ (omega (arith, panes-long, few));
        few-shares = count _ (omega (arith, shares-long, few));
        few-minima = count _ (omega (arith, minima-long, few));
      }
    where
      fits_all : Bool → Bool → Bool → Bool → Bool
      fits_all a b c d = a && b && c && d

-- ---- a tidy tree

pub one-root : (l : Left) (r : TileId) → kept_of l ≡ some r → length (roots (stem l)) ≡ 1
one-root nothing r e = absurd (let z : ◌≡◌ {A = ℕ} 0 1 = cc in omega arith)
one-root (group i ps) r e = refl
one-root (branch i a c) r e = refl

module _ (a : Arena) (l : Left) (T : Tidy a.nodes a.root l) (narrow : any_of wide_node a.nodes ≡ false) (N : Numbers a.nodes (reading_from a.nodes a.root)) where
  pub order_is : reading_from a.nodes a.root ≡ names (stem l)
  order_is = reads a.nodes a.root l T.root_is T.held T.room

  -- what is written of it is read as its table
  pub written-reads : read_table (to_spec a) ≡ some (table_of_tree a)
  written-reads =
      let few = names-long (stem l) in
      let room = T.room in
      read_back (table_of_tree a)
      (subst (λ (xs : List TileId). Writable (table_along a.nodes xs)) (sym order_is)
      (writable a.nodes narrow (stem l) T.held (one-root l a.root T.root_is) (omega (arith, few, room)) (subst (Numbers a.nodes) order_is N)))

  -- and a tree that is built from it has the same panes in the same order
  pub written-panes : (from_spec (to_spec a)).answer ≡ Accepted → panes_in (from_spec (to_spec a)).tree.root (from_spec (to_spec a)).tree.nodes ≡ panes_in a.root a.nodes
  written-panes e = accepted-panes (to_spec a) e (table_of_tree a) written-reads ∙ panes-along a.nodes (reading_from a.nodes a.root)
