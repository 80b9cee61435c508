-- The slots that have a forest's nodes in reading order hold the renumbered forest, and are narrow where the old ones were. Assumes nothing.
use Rattle.std.specs.Prelude.{◌≡◌, Bool, false, ◌||◌, ℕ, zero, suc, ◌+◌, ◌≤◌, ◌<◌, ltb, get_or}
use Rattle.std.proofs.Math.Path.{refl, ap}
use Rattle.std.proofs.Common.{sym, subst, ◌∙◌, arith, length-append, get_or-append-add}
use mathlib.Core.List.{List, [], ◌∷◌, ◌++◌}
use Rattle.std.proofs.Math.ListN.{length, get_or-append}
use Rattle.rules.specs.Lists.{any_of, wide_list}
use Rattle.rules.specs.Tree.{Node, empty, pane, tabs, split, node_at, wide_node}
use Rattle.rules.specs.Minima.{compact_constraints}
use Rattle.rules.specs.Spec.{wide_row}
use Rattle.rules.specs.Repair.{melts}
use Rattle.rules.specs.declared.model.TileId.{TileId}
use Rattle.rules.specs.declared.model.Axis.{Axis}
use Rattle.forest.specs.Lists.{All}
use Rattle.forest.specs.Codec.{stored, long-children}
use Rattle.forest.specs.Forest.{Forest, nil, leaf, node, roots, tiles, shown, Leafy, Fine, Holds}
use Rattle.forest.specs.Bools.{or_left, or_right}
use Rattle.forest.specs.Actions.{all-narrow}
use Rattle.accepted.specs.Sprout.{up_from}
use Rattle.roundtrip.specs.Write.{row_of_node}
use Rattle.roundtrip.specs.Passes.{rows}
use Rattle.roundtrip.specs.Renumber.{renumber, same-shares, same-minima, nodes_for, nodes-count}

-- ---- the renumbered forest: its tiles, its panes, its roots

up-join : (i m n : ℕ) → up_from i m ++ up_from (i + m) n ≡ up_from i (m + n)
up-join i zero n = λ z. up_from ((let q : i + 0 ≡ i = omega arith in q) z) ((let q : n ≡ 0 + n = omega arith in q) z)
up-join i (suc m) n =
    ap (λ (l : List ℕ). i ∷ l) (ap (λ (j : ℕ). up_from (suc i) m ++ up_from j n) (let q : i + suc m ≡ suc i + m = omega arith in q) ∙ up-join (suc i) m n)
    ∙ ap (up_from i) (let q : suc (m + n) ≡ suc m + n = omega arith in q)

pub tiles-are : (i : ℕ) (f : Forest) → tiles (renumber i f) ≡ up_from i (length (tiles f))
tiles-are i nil = refl
tiles-are i (leaf x s m ps r) = ap (λ (l : List ℕ). i ∷ l) (tiles-are (suc i) r)
tiles-are i (node x s m a c r) =
    ap (λ (l : List ℕ). i ∷ l)
    ((λ z. tiles-are (suc i) c z ++ tiles-are (suc i + length (tiles c)) r z) ∙ up-join (suc i) (length (tiles c)) (length (tiles r)) ∙ ap (up_from (suc i)) (sym (length-append (tiles c) (tiles r))))

pub shown-same : (i : ℕ) (f : Forest) → shown (renumber i f) ≡ shown f
shown-same i nil = refl
shown-same i (leaf x s m ps r) = ap (λ (l : List ℕ). ps ++ l) (shown-same (suc i) r)
shown-same i (node x s m a c r) = λ z. shown-same (suc i) c z ++ shown-same (suc i + length (tiles c)) r z

roots-count : (i : ℕ) (f : Forest) → length (roots (renumber i f)) ≡ length (roots f)
roots-count i nil = refl
roots-count i (leaf x s m ps r) = ap suc (roots-count (suc i) r)
roots-count i (node x s m a c r) = ap suc (roots-count (suc i + length (tiles c)) r)

-- ---- slots that have the new nodes hold it

-- the nodes zs stand from i on
abbrev pub From : List Node → ℕ → List Node → Type 0
From xs i zs = (j : ℕ) → j < length zs → get_or xs (i + j) empty ≡ get_or zs j empty

from-head : (xs : List Node) (i : ℕ) (z : Node) (zs : List Node) → From xs i (z ∷ zs) → get_or xs i empty ≡ z
from-head xs i z zs g = ap (λ (k : ℕ). get_or xs k empty) (let q : i ≡ i + 0 = omega arith in q) ∙ g 0 (omega arith)

from_tail : (xs : List Node) (i : ℕ) (z : Node) (zs : List Node) → From xs i (z ∷ zs) → From xs (suc i) zs
from_tail xs i z zs g j h = ap (λ (k : ℕ). get_or xs k empty) (let q : suc i + j ≡ i + suc j = omega arith in q) ∙ g (suc j) (omega (arith, h))

from-left : (xs : List Node) (i : ℕ) (ys zs : List Node) → From xs i (ys ++ zs) → From xs i ys
from-left xs i ys zs g j h = g j (let z = length-append ys zs in omega (arith, h, z)) ∙ get_or-append ys zs empty j h

from-right : (xs : List Node) (i n : ℕ) (ys zs : List Node) → length ys ≡ n → From xs i (ys ++ zs) → From xs (i + n) zs
from-right xs i n ys zs e g j h =
    ap (λ (k : ℕ). get_or xs k empty) (let q : i + n + j ≡ i + (length ys + j) = omega (arith, e) in q)
    ∙ g (length ys + j) (let z = length-append ys zs in omega (arith, h, z)) ∙ get_or-append-add ys zs j empty

module _ (ns xs : List Node) where
  fine-new : (c : Forest) → Holds ns c → (i : ℕ) → From xs i (nodes_for ns i c) → (a : Axis) → All (Fine ns a) (roots c) → All (Fine xs a) (roots (renumber i c))
  fine-new nil h i g a p = tt
  fine-new (leaf x s m ps r) h i g a p =
      ((p.0.0, (p.0.1.0, ap (melts a m) (from-head xs i (node_at ns x) (nodes_for ns (suc i) r) g) ∙ p.0.1.1)), fine-new r h.1 (suc i) (from_tail xs i (node_at ns x) (nodes_for ns (suc i) r) g) a p.1)
  fine-new (node x s m y c r) h i g a p =
      let put = stored y (roots (renumber (suc i) c)) in
      let under = nodes_for ns (suc i) c in
      let beside = nodes_for ns (suc i + length (tiles c)) r in
      let tail = from_tail xs i put (under ++ beside) g in (
        (p.0.0, (p.0.1.0, ap (melts a m) (from-head xs i put (under ++ beside) g) ∙ sym (ap (melts a m) h.0.is) ∙ p.0.1.1)),
        fine-new r h.2 (suc i + length (tiles c)) (from-right xs (suc i) (length (tiles c)) under beside (nodes-count ns (suc i) c) tail) a p.1,
      )

  pub holds-new : (f : Forest) → Holds ns f → (i : ℕ) → From xs i (nodes_for ns i f) → i + length (tiles f) ≤ 64 → Holds xs (renumber i f)
  holds-new nil h i g le = tt
  holds-new (leaf x s m ps r) h i g le = (
    record { inside = omega (arith, le); leafy = subst (λ (n : Node). Leafy n ps) (sym (from-head xs i (node_at ns x) (nodes_for ns (suc i) r) g)) h.0.leafy },
    holds-new r h.1 (suc i) (from_tail xs i (node_at ns x) (nodes_for ns (suc i) r) g) (omega (arith, le)),
  )
  holds-new (node x s m a c r) h i g le =
      let put = stored a (roots (renumber (suc i) c)) in
      let under = nodes_for ns (suc i) c in
      let beside = nodes_for ns (suc i + length (tiles c)) r in
      let tail = from_tail xs i put (under ++ beside) g in
      let left = from-left xs (suc i) under beside tail in
      let right = from-right xs (suc i) (length (tiles c)) under beside (nodes-count ns (suc i) c) tail in
      let all = length-append (tiles c) (tiles r) in
      let two = h.0.two in
      let same = roots-count (suc i) c in (
        record { inside = omega (arith, le); is = from-head xs i put (under ++ beside) g; two = omega (arith, two, same); fine = fine-new c h.1 (suc i) left a h.0.fine },
        holds-new c h.1 (suc i) left (omega (arith, le, all)),
        holds-new r h.2 (suc i + length (tiles c)) right (omega (arith, le, all)),
      )

-- ---- and they are narrow where the old ones were

pub any-join : (xs ys : List Node) → any_of wide_node xs ≡ false → any_of wide_node ys ≡ false → any_of wide_node (xs ++ ys) ≡ false
unfolding any_of
any-join [] ys a b = b
any-join (x ∷ xs) ys a b =
    ap (λ (c : Bool). c || any_of wide_node (xs ++ ys)) (or_left (wide_node x) (any_of wide_node xs) a) ∙ any-join xs ys (or_right (wide_node x) (any_of wide_node xs) a) b

module _ (ns : List Node) (slim : any_of wide_node ns ≡ false) where
  stored-slim : (i : ℕ) (c : Forest) (x : TileId) (a : Axis) → node_at ns x ≡ stored a (roots c) → wide_node (stored a (roots (renumber i c))) ≡ false
  stored-slim i c x a is =
      (λ z. (ltb 16 ((long-children (roots (renumber i c)) ∙ roots-count i c ∙ sym (long-children (roots c))) z) || wide_list (same-shares i c z)) || wide_list (compact_constraints (same-minima i c z)))
      ∙ sym (ap wide_node is) ∙ all-narrow ns slim x.slot

  pub slim-new : (f : Forest) → Holds ns f → (i : ℕ) → any_of wide_node (nodes_for ns i f) ≡ false
  unfolding any_of
  slim-new nil h i = refl
  slim-new (leaf x s m ps r) h i = ap (λ (b : Bool). b || any_of wide_node (nodes_for ns (suc i) r)) (all-narrow ns slim x.slot) ∙ slim-new r h.1 (suc i)
  slim-new (node x s m a c r) h i =
      let under = nodes_for ns (suc i) c in
      let beside = nodes_for ns (suc i + length (tiles c)) r in
      ap (λ (b : Bool). b || any_of wide_node (under ++ beside)) (stored-slim (suc i) c x a h.0.is) ∙ any-join under beside (slim-new c h.1 (suc i)) (slim-new r h.2 (suc i + length (tiles c)))

  row-slim : (n : Node) → wide_node n ≡ false → wide_row (row_of_node n) ≡ false
  row-slim empty w = refl
  row-slim (pane p) w = refl
  row-slim (tabs b a ps) w = w
  row-slim (split a cs ss ms) w = or_left (wide_list cs) (wide_list ss) (or_left (wide_list cs || wide_list ss) (wide_list ms) w)

  pub rows-slim : (xs : List TileId) → any_of wide_row (rows ns xs) ≡ false
  unfolding any_of
  rows-slim [] = refl
  rows-slim (x ∷ xs) = ap (λ (b : Bool). b || any_of wide_row (rows ns xs)) (row-slim (node_at ns x) (all-narrow ns slim x.slot)) ∙ rows-slim xs
