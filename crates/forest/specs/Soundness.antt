-- Settled slots, none of them too wide, are a sound arena; and what repair accepts is settled. Assumes nothing.
use Rattle.std.specs.Prelude.{◌≡◌, ◌↔◌, Bool, true, false, ◌&&◌, ◌||◌, ℕ, suc, ◌+◌, ◌≤◌, ◌<◌, eqb, length}
use Rattle.std.proofs.Math.Path.{refl, ap}
use Rattle.std.proofs.Common.{sym, subst, ◌∙◌, inl, inr, arith, eq-eqb}
use mathlib.Core.List.{List, [], ◌∷◌}
use Rattle.std.proofs.Math.Option.{Option, none, some}
use Rattle.std.proofs.Math.Decide.{ℕ_discrete}
use Rattle.std.proofs.Math.Dec.{T}
use Rattle.std.proofs.Math.ListN.{get_or}
use Rattle.std.proofs.Math.Seq.{get_or-set_same, get_or-set_other}
use Rattle.rules.specs.Numbers.{same_real}
use Rattle.rules.specs.Lists.{any_of, all_of, same_list}
use Rattle.rules.specs.Tree.{Node, empty, pane, tabs, split, Arena, arena, clear_node, is_empty, empty_by, empty_from, empty_slots, empty_group, wide_node, same_tile, axis_code, bar_code, same_node, same_tree, Occupied, Reached}
use Rattle.rules.specs.Repair.{Normal, normalize, Repaired, repaired_by, repaired_as, repair_by, repair}
use Rattle.rules.specs.Sound.{untouched, lone_empty_root, sound}
use Rattle.rules.specs.declared.model.TileId.{TileId}
use Rattle.rules.specs.Refusals.{Accepted}
use Rattle.forest.specs.Lists.{All}
use Rattle.forest.specs.Answers.{refused-not}
use Rattle.forest.specs.Mended.{same_real-self}
use Rattle.forest.specs.Grow.{Left}
use Rattle.forest.specs.Settled.{Tidy, Lone, Settled, settled, unchanged, tidy-fixed}
use Rattle.forest.specs.Reach.{occupied-reached}

-- ---- a tree equals itself

module _ {A : Type 0} (same : A → A → Bool) (self : (x : A) → same x x ≡ true) where
  pub list-self : (xs : List A) → same_list same xs xs ≡ true
  unfolding same_list
  list-self [] = refl
  list-self (x ∷ xs) = rw (self x) (list-self xs)

pub number-self : (n : ℕ) → eqb n n ≡ true
number-self n = eq-eqb n n refl

pub tile-self : (i : TileId) → same_tile i i ≡ true
tile-self i = number-self i.slot

node-self : (n : Node) → same_node n n ≡ true
node-self empty = refl
node-self (pane p) = number-self p
node-self (tabs b a ps) = rw (number-self (bar_code b), number-self a) (list-self eqb number-self ps)
node-self (split x cs ss ms) = rw (number-self (axis_code x), list-self same_tile tile-self cs, list-self same_real same_real-self ss) (list-self same_real same_real-self ms)

pub tree-self : (t : Arena) → same_tree t t ≡ true
tree-self t = rw (tile-self t.root, number-self t.revision) (list-self same_node node-self t.nodes)

-- ---- settled is sound

or-true : (b : Bool) → (b || true) ≡ true
or-true true = refl
or-true false = refl

all-empty : (xs : List Node) → ((i : ℕ) → get_or xs i empty ≡ empty) → all_of is_empty xs ≡ true
unfolding all_of
all-empty [] h = refl
all-empty (x ∷ xs) h = ap (λ (n : Node). is_empty n && all_of is_empty xs) (h 0) ∙ all-empty xs (λ i. h (suc i))

module _ (ns : List Node) (r : TileId) (v : ℕ) (narrow : any_of wide_node ns ≡ false) where
  abbrev t : Arena
  t = arena r v ns

  pub tidy-repair : (l : Left) → Tidy ns r l → repair t ≡ record { answer = Accepted; tree = t; actions = [] }
  unfolding repair
  tidy-repair l T = ap (repaired_as t) (tidy-fixed (empty_slots ns) ns r l T) ∙ ap (λ (b : Bool). repaired_by b t (unchanged ns r l T)) narrow

  lone-sound : Lone ns r → lone_empty_root t ≡ true
  unfolding same_list
  lone-sound L =
      ap (λ (n : Node). same_node n empty_group && all_of is_empty (clear_node r ns)) L.is
      ∙ all-empty (clear_node r ns) (λ i. go i (ℕ_discrete i r.slot))
    where
      go : (i : ℕ) → Dec (i ≡ r.slot) → get_or (clear_node r ns) i empty ≡ empty
      go i (yes e) = ap (λ (k : ℕ). get_or (clear_node r ns) k empty) e ∙ get_or-set_same ns r.slot empty empty (omega (arith, L.size, L.inside))
      go i (no n) = get_or-set_other ns r.slot i empty empty n ∙ L.rest i n

  pub settled-sound : Settled ns r → sound t ≡ true
  unfolding sound
  settled-sound (inl (l, T)) = ap (λ (x : Repaired). untouched t x || lone_empty_root t) (tidy-repair l T) ∙ ap (λ (b : Bool). b || lone_empty_root t) (tree-self t)
  settled-sound (inr L) = ap (λ (b : Bool). untouched t (repair t) || b) (lone-sound L) ∙ or-true (untouched t (repair t))

-- ---- what a call that repairs hands back when it accepts: settled, narrow, given whole

pub record Finished (t : Arena) : Type 0 where
  pub settled : Settled t.nodes t.root
  pub narrow : any_of wide_node t.nodes ≡ false
  pub whole : t.over ≡ false

pub finished-sound : (t : Arena) → Finished t → sound t ≡ true
finished-sound t F =
    subst (λ (b : Bool). sound (record { root = t.root; revision = t.revision; nodes = t.nodes; over = b }) ≡ true) (sym F.whole) (settled-sound t.nodes t.root t.revision F.narrow F.settled)

pub finished-reached : (t : Arena) → Finished t → (i : ℕ) → Occupied t i ↔ Reached t i
finished-reached t F i =
    subst (λ (b : Bool). let x : Arena = record { root = t.root; revision = t.revision; nodes = t.nodes; over = b } in Occupied x i ↔ Reached x i) (sym F.whole) (occupied-reached t.nodes t.root t.revision F.settled i)

-- ---- the slots that a fresh tile may take

empty-by : (k n : ℕ) (b : Bool) (rest : List ℕ) → k < n → All (λ i. i < n) rest → All (λ i. i < n) (empty_by b k rest)
empty-by k n true rest h a = (h, a)
empty-by k n false rest h a = a

empty-below : (ns : List Node) (k n : ℕ) → k + length ns ≤ n → All (λ i. i < n) (empty_from k ns)
unfolding empty_from
empty-below [] k n h = tt
empty-below (x ∷ xs) k n h = empty-by k n (is_empty x) (empty_from (suc k) xs) (omega arith) (empty-below xs (suc k) n (omega arith))

pub slots-inside : (ns : List Node) → length ns ≡ 64 → All (λ i. i < 64) (empty_slots ns)
slots-inside ns size = empty-below ns 0 64 (omega arith)

-- ---- repair

module _ (a : Arena) (size : length a.nodes ≡ 64) where
  finished-by : (b : Bool) (n : Normal) → Settled n.nodes n.root → any_of wide_node n.nodes ≡ b → (repaired_by b a n).answer ≡ Accepted → Finished (repaired_by b a n).tree
  finished-by true n s q e = refused-not e
  finished-by false n s q e = record { settled = s; narrow = q; whole = refl }

  finished_as : (o : Option Normal) → normalize (empty_slots a.nodes) a.root a.nodes ≡ o → (repaired_as a o).answer ≡ Accepted → Finished (repaired_as a o).tree
  finished_as none q e = refused-not e
  finished_as (some n) q e = finished-by (any_of wide_node n.nodes) n (settled a.nodes size a.root (empty_slots a.nodes) (slots-inside a.nodes size) n q) refl e

  finished-if : (b : Bool) → (repair_by b a).answer ≡ Accepted → Finished (repair_by b a).tree
  finished-if true e = refused-not e
  finished-if false e = finished_as (normalize (empty_slots a.nodes) a.root a.nodes) refl e

  -- an accepted repair's tree is settled
  pub repair-finished : (repair a).answer ≡ Accepted → Finished (repair a).tree
  unfolding repair
  repair-finished e = finished-if a.over e

  -- so it is sound
  pub repair-sound : (repair a).answer ≡ Accepted → sound (repair a).tree ≡ true
  repair-sound e = finished-sound (repair a).tree (repair-finished e)

  -- and its occupied slots are those that are reached
  pub repair-reached : (repair a).answer ≡ Accepted → (i : ℕ) → Occupied (repair a).tree i ↔ Reached (repair a).tree i
  repair-reached e i = finished-reached (repair a).tree (repair-finished e) i
