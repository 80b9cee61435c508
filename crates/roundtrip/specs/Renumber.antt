-- What is built from a normal forest's own table is that forest, with its tiles renumbered in reading order. Assumes nothing.
use Rattle.std.specs.Prelude.{◌≡◌, refl, set, Float}
use Rattle.std.proofs.Math.Path.{sym, ap}
use Rattle.std.proofs.Common.{◌∙◌, arith}
use mathlib.Core.List.{List, [], ◌∷◌, ◌++◌, append_assoc, append-nil, map-append}
use Prim.Native.Nat.{ℕ, zero, suc, ◌+◌, ◌≤◌}
use Rattle.std.proofs.Math.ListN.{length, length-append}
use Rattle.std.proofs.Math.Seq.{append_snoc, set-append_seam}
use Rattle.rules.specs.Tree.{Node, empty, pane, tabs, split, tile, node_at, empty_group}
use Rattle.rules.specs.Minima.{compact_constraints}
use Rattle.rules.specs.Table.{Row, split_row}
use Rattle.rules.specs.Spec.{Left, Build, build, push_children, set_split, push_row, push_spec}
use Rattle.rules.specs.Repair.{children_of, shares_of, minima_of}
use Rattle.rules.specs.declared.model.TileId.{TileId}
use Rattle.rules.specs.declared.model.Axis.{Axis}
use Rattle.forest.specs.Codec.{stored, long-children}
use Rattle.forest.specs.Forest.{Forest, nil, leaf, node, roots, tiles, Leafy, Holds}
use Rattle.forest.specs.Again.{names, heads}
use Rattle.roundtrip.specs.Write.{row_of_node}
use Rattle.roundtrip.specs.ReadBack.{front}
use Rattle.roundtrip.specs.Passes.{before, after-node, rows, feed}

-- its tiles i, i + 1, .. in reading order
abbrev pub renumber : ℕ → Forest → Forest
renumber i nil = nil
renumber i (leaf x s m ps r) = leaf (tile i) s m ps (renumber (suc i) r)
renumber i (node x s m a c r) = node (tile i) s m a (renumber (suc i) c) (renumber (suc i + length (tiles c)) r)

pub same-shares : (i : ℕ) (f : Forest) → shares_of (roots (renumber i f)) ≡ shares_of (roots f)
same-shares i nil = refl
same-shares i (leaf x s m ps r) = ap (λ (l : List Float). s ∷ l) (same-shares (suc i) r)
same-shares i (node x s m a c r) = ap (λ (l : List Float). s ∷ l) (same-shares (suc i + length (tiles c)) r)

pub same-minima : (i : ℕ) (f : Forest) → minima_of (roots (renumber i f)) ≡ minima_of (roots f)
same-minima i nil = refl
same-minima i (leaf x s m ps r) = ap (λ (l : List Float). m ∷ l) (same-minima (suc i) r)
same-minima i (node x s m a c r) = ap (λ (l : List Float). m ∷ l) (same-minima (suc i + length (tiles c)) r)

pub same_count : (i : ℕ) (f : Forest) → length (tiles (renumber i f)) ≡ length (tiles f)
same_count i nil = refl
same_count i (leaf x s m ps r) = ap suc (same_count (suc i) r)
same_count i (node x s m a c r) =
    ap suc (length-append (tiles (renumber (suc i) c)) (tiles (renumber (suc i + length (tiles c)) r)) ∙ (λ z. same_count (suc i) c z + same_count (suc i + length (tiles c)) r z) ∙ sym (length-append (tiles c) (tiles r)))

module _ (ns : List Node) where
  -- the nodes in their new order
  abbrev pub nodes_for : ℕ → Forest → List Node
  nodes_for i nil = []
  nodes_for i (leaf x s m ps r) = node_at ns x ∷ nodes_for (suc i) r
  nodes_for i (node x s m a c r) = stored a (roots (renumber (suc i) c)) ∷ (nodes_for (suc i) c ++ nodes_for (suc i + length (tiles c)) r)

  pub nodes-count : (i : ℕ) (f : Forest) → length (nodes_for i f) ≡ length (tiles f)
  nodes-count i nil = refl
  nodes-count i (leaf x s m ps r) = ap suc (nodes-count (suc i) r)
  nodes-count i (node x s m a c r) =
      ap suc (length-append (nodes_for (suc i) c) (nodes_for (suc i + length (tiles c)) r) ∙ (λ z. nodes-count (suc i) c z + nodes-count (suc i + length (tiles c)) r z) ∙ sym (length-append (tiles c) (tiles r)))

  -- ---- one row

  -- a leaf's row puts its node there
  leaf-pushed : (again : Build → Build) (n : Node) (ps : List ℕ) → Leafy n ps → (rs all : List Row) (l : Left) (bs : List Node)
      → push_row again (row_of_node n) rs (build all (before n l) bs) ≡ build rs l (bs ++ n ∷ [])
  leaf-pushed again empty ps q rs all l bs = absurd q
  leaf-pushed again (pane p) ps q rs all l bs = refl
  leaf-pushed again (tabs b a qs) ps q rs all l bs = λ i. build rs (after-node (tabs b a qs) l i) (bs ++ tabs b a ((front qs l.panes (length qs) refl).0 i) ∷ [])
  leaf-pushed again (split a cs ss ms) ps q rs all l bs = absurd q

  -- a split's row puts its node there, once its children are built
  split_pushed : (again : Build → Build) (a : Axis) (cs is : List TileId) (ss ms : List Float) (rs rest all : List Row) (l l' : Left) (bs new : List Node)
      → push_children again (length cs) [] (build rs l (bs ++ empty_group ∷ [])) ≡ record { ids = is; done = build rest l' ((bs ++ empty_group ∷ []) ++ new) }
      → push_row again (split_row a (length cs) (length ss) (length ms)) rs (build all (before (split a cs ss ms) l) bs) ≡ build rest l' (bs ++ split a is ss ms ∷ new)
  split_pushed again a cs is ss ms rs rest all l l' bs new e =
      let row = split_row a (length cs) (length ss) (length ms) in
      let n = split a cs ss ms in
      ap (λ (x : Left). set_split (length bs) row (before n l) (push_children again (length cs) [] (build rs x (bs ++ empty_group ∷ [])))) (after-node n l)
      ∙ ap (set_split (length bs) row (before n l)) e
      ∙ (λ i. build rest l' (set (append_snoc bs empty_group new i) (length bs) (split a is ((front ss l.shares (length ss) refl).0 i) ((front ms l.minima (length ms) refl).0 i))))
      ∙ ap (build rest l') (set-append_seam bs empty_group new (split a is ss ms))

  -- ---- by the forest

  rows_join : (xs ys : List TileId) (rs : List Row) → rows ns (xs ++ ys) ++ rs ≡ rows ns xs ++ (rows ns ys ++ rs)
  rows_join xs ys rs = ap (λ (l : List Row). l ++ rs) (map-append (λ x. row_of_node (node_at ns x)) xs ys) ∙ append_assoc (rows ns xs) (rows ns ys) rs

  pub grows : (f : Forest) → Holds ns f → (F : ℕ) → length (tiles f) ≤ F → (is : List TileId) (rs : List Row) (l : Left) (bs : List Node)
      → push_children (push_spec F) (length (roots f)) is (build (rows ns (names f) ++ rs) (feed ns f l) bs)
      ≡ record { ids = is ++ heads (renumber (length bs) f); done = build rs l (bs ++ nodes_for (length bs) f) }
  unfolding push_children push_spec
  grows nil h F le is rs l bs = λ i. record { ids = sym (append-nil is) i; done = build rs l (sym (append-nil bs) i) }
  grows (leaf x s m ps r) h zero le is rs l bs = absurd (omega arith)
  grows (leaf x s m ps r) h (suc F) le is rs l bs =
      let n = node_at ns x in
      let k = length (roots r) in
      let i = tile (length bs) in
      let more = rows ns (names r) ++ rs in
      let longer : length (bs ++ n ∷ []) ≡ suc (length bs) = (let z = length-append bs (n ∷ []) in omega (arith, z)) in
      ap (push_children (push_spec (suc F)) k (is ++ i ∷ [])) (leaf-pushed (push_spec F) n ps h.0.leafy more (row_of_node n ∷ more) (feed ns r l) bs)
      ∙ grows r h.1 (suc F) (omega arith) (is ++ i ∷ []) rs l (bs ++ n ∷ [])
      ∙ (λ z. record { ids = (is ++ i ∷ []) ++ heads (renumber (longer z) r); done = build rs l ((bs ++ n ∷ []) ++ nodes_for (longer z) r) })
      ∙ (λ z. record { ids = append_assoc is (i ∷ []) (heads (renumber (suc (length bs)) r)) z; done = build rs l (append_assoc bs (n ∷ []) (nodes_for (suc (length bs)) r) z) })
  grows (node x s m a c r) h zero le is rs l bs = absurd (omega arith)
  grows (node x s m a c r) h (suc F) le is rs l bs =
      let at = length bs in
      let es = roots c in
      let cs = children_of es in
      let ss = shares_of es in
      let ms = compact_constraints (minima_of es) in
      let k = length (roots r) in
      let i = tile at in
      let more = rows ns (names r) ++ rs in
      let under = rows ns (names c) ++ more in
      let all = length-append (tiles c) (tiles r) in
      let hole = bs ++ empty_group ∷ [] in
      let c' = renumber (suc at) c in
      let kids = nodes_for (suc at) c in
      let start : length hole ≡ suc at = (let z = length-append bs (empty_group ∷ []) in omega (arith, z)) in
      let built : push_children (push_spec F) (length cs) [] (build under (feed ns c (feed ns r l)) hole) ≡ record { ids = heads c'; done = build more (feed ns r l) (hole ++ kids) } =
      ap (λ (j : ℕ). push_children (push_spec F) j [] (build under (feed ns c (feed ns r l)) hole)) (long-children es)
      ∙ grows c h.1 F (omega (arith, all)) [] more (feed ns r l) hole
      ∙ (λ z. record { ids = heads (renumber (start z) c); done = build more (feed ns r l) (hole ++ nodes_for (start z) c) }) in
      let new : split a (heads c') ss ms ≡ stored a (roots c') = (λ z. split a (heads c') (sym (same-shares (suc at) c) z) (compact_constraints (sym (same-minima (suc at) c) z))) in
      let put = stored a (roots c') in
      let done = bs ++ put ∷ kids in
      let size : length done ≡ suc at + length (tiles c) = (let p = length-append bs (put ∷ kids) in let q = nodes-count (suc at) c in omega (arith, p, q)) in
      ap (λ (rs' : List Row). push_children (push_spec (suc F)) k (is ++ i ∷ []) (push_row (push_spec F) (row_of_node (node_at ns x)) rs' (build (row_of_node (node_at ns x) ∷ rs') (before (node_at ns x) (feed ns c (feed ns r l))) bs))) (rows_join (names c) (names r) rs)
      ∙ ap (λ (n : Node). push_children (push_spec (suc F)) k (is ++ i ∷ []) (push_row (push_spec F) (row_of_node n) under (build (row_of_node n ∷ under) (before n (feed ns c (feed ns r l))) bs))) h.0.is
      ∙ ap (push_children (push_spec (suc F)) k (is ++ i ∷ []))
      (split_pushed (push_spec F) a cs (heads c') ss ms under more (row_of_node (stored a es) ∷ under) (feed ns c (feed ns r l)) (feed ns r l) bs kids built ∙ ap (λ (n : Node). build more (feed ns r l) (bs ++ n ∷ kids)) new)
      ∙ grows r h.2 (suc F) (omega (arith, all)) (is ++ i ∷ []) rs l done
      ∙ (λ z. record { ids = (is ++ i ∷ []) ++ heads (renumber (size z) r); done = build rs l (done ++ nodes_for (size z) r) })
      ∙ (λ z. record { ids = append_assoc is (i ∷ []) (heads (renumber (suc at + length (tiles c)) r)) z; done = build rs l (append_assoc bs (put ∷ kids) (nodes_for (suc at + length (tiles c)) r) z) })
