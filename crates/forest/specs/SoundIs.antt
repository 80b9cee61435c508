-- An arena is sound exactly when its repair is accepted and lists nothing, or it is a lone empty root: that the tree comes back equal then follows.
-- And a sound arena, its minima's minus zeros read as zeros, is settled. Assumes nothing.
use Rattle.std.specs.Prelude.{◌≡◌, Bool, ◌&&◌, ◌||◌, List, [], ◌∷◌, map, ℕ, ◌+◌, eqb, length, get_or, Float}
use Rattle.std.proofs.Math.Path.{refl, sym, ap}
use Rattle.std.proofs.Common.{subst, ◌∙◌, arith, ext_get_or}
use Rattle.std.proofs.Math.Bool.{true, false}
use Rattle.std.proofs.Math.Option.{Option, none, some}
use Rattle.std.proofs.lemmas.List.{length-map}
use Rattle.std.proofs.Math.ListN.{get_or-map}
use Rattle.rules.specs.Numbers.{plus, same_real}
use Rattle.rules.specs.Lists.{any_of, same_list}
use Rattle.rules.specs.Tree.{Node, empty, pane, tabs, split, Arena, arena, tile, set_node, is_empty, empty_slots, empty_group, wide_node, reading_from, same_tile, axis_code, bar_code, same_node, same_tree}
use Rattle.rules.specs.Repair.{State, Out, is_reached, sweep_by, swept, sweep_actions, Normal, sweep, rooted, begin, normalize_node, normalize, repaired_by, repaired_as, repair_by, repair}
use Rattle.rules.specs.Sound.{is_accepted, is_none, lone_empty_root, sound}
use Rattle.rules.specs.declared.model.TileId.{TileId}
use Rattle.forest.specs.Lists.{never, none-at}
use Rattle.forest.specs.Mended.{same_real-self}
use Rattle.forest.specs.Equal.{plus-same}
use Rattle.forest.specs.Grow.{tile-keeps}
use Rattle.forest.specs.Settled.{Settled, swept-length, swept_at, settled}
use Rattle.forest.specs.Sweep.{Tells, kept-tells}
use Rattle.forest.specs.Soundness.{list-self, number-self, tile-self, slots-inside}
use Rattle.forest.specs.Quiet.{plain_node, plain_nodes, passed, walk-hushed, sweep-grows, sweep-reached}
use Rattle.forest.specs.Nodes.{empty-is}

-- ---- a repair that lists nothing

module _ (ns : List Node) (size : length ns ≡ 64) (r : TileId) where
  abbrev o : Out
  o = normalize_node 64 r (begin ns)

  abbrev left : State
  left = o.work.state

  rooted-grows : (free : List ℕ) (k : Option TileId) (n : Normal) → rooted free k o.work ≡ some n → n.actions ≡ [] → o.work.actions ≡ []
  rooted-grows free (some s) n e q =
      let z : sweep_actions 0 (reading_from left.nodes s) left.nodes o.work.actions ≡ n.actions = cc in sweep-grows (reading_from left.nodes s) left.nodes 0 o.work.actions (z ∙ q)
  rooted-grows [] none n e q = absurd (let z : ◌≡◌ {A = ℕ} 0 1 = cc in omega arith)
  rooted-grows (i ∷ is) none n e q =
      let ms = set_node (tile i) empty_group left.nodes in
      let z : sweep_actions 0 (reading_from ms (tile i)) ms o.work.actions ≡ n.actions = cc in sweep-grows (reading_from ms (tile i)) ms 0 o.work.actions (z ∙ q)

  module _ (still : o.work.actions ≡ []) where
    kept-root : o.kept ≡ some r
    kept-root = (walk-hushed 64 r (begin ns) (refl, size) still).0

    left_at : (j : ℕ) → get_or left.nodes j empty ≡ passed false (get_or left.claimed j false) (get_or ns j empty)
    left_at j = (walk-hushed 64 r (begin ns) (refl, size) still).1 j ∙ ap (λ (b : Bool). passed b (get_or left.claimed j false) (get_or ns j empty)) (none-at 64 j)

    tells-left : Tells (reading_from left.nodes r) left.claimed left.nodes
    tells-left = let (l, q, G) = tile-keeps 64 r (begin ns) (refl, size) in kept-tells ns size r l G r (sym q ∙ kept-root)

    nodes-long : length left.nodes ≡ 64
    nodes-long = let (l, q, G) = tile-keeps 64 r (begin ns) (refl, size) in G.size ∙ size

    module _ (quiet : sweep_actions 0 (reading_from left.nodes r) left.nodes o.work.actions ≡ []) where
      slot_is : (j : ℕ) → get_or (swept 0 (reading_from left.nodes r) left.nodes) j empty ≡ plain_node (get_or ns j empty)
      slot_is j =
          swept_at (reading_from left.nodes r) left.nodes 0 j j (omega arith) ∙ tells-left.node j
          ∙ go (get_or left.claimed j false) refl (left_at j) (sym (tells-left.noted j) ∙ reached)
        where
          reached : (is_reached j (reading_from left.nodes r) || is_empty (get_or left.nodes j empty)) ≡ true
          reached = ap (λ (k : ℕ). is_reached k (reading_from left.nodes r) || is_empty (get_or left.nodes j empty)) (let q : j ≡ 0 + j = omega arith in q)
              ∙ sweep-reached (reading_from left.nodes r) left.nodes 0 o.work.actions quiet j

          go : (b : Bool) → get_or left.claimed j false ≡ b → get_or left.nodes j empty ≡ passed false (get_or left.claimed j false) (get_or ns j empty)
              → (get_or left.claimed j false || is_empty (get_or left.nodes j empty)) ≡ true → sweep_by (get_or left.claimed j false) (get_or left.nodes j empty) ≡ plain_node (get_or ns j empty)
          go true c p t = ap (λ (b : Bool). sweep_by b (get_or left.nodes j empty)) c ∙ p ∙ ap (λ (b : Bool). passed false b (get_or ns j empty)) c
          go false c p t =
              let e : get_or left.nodes j empty ≡ empty = empty-is (get_or left.nodes j empty) (ap (λ (b : Bool). b || is_empty (get_or left.nodes j empty)) (sym c) ∙ t) in
              let f : get_or left.nodes j empty ≡ get_or ns j empty = p ∙ ap (λ (b : Bool). passed false b (get_or ns j empty)) c in
              ap (λ (b : Bool). sweep_by b (get_or left.nodes j empty)) c ∙ ap plain_node (sym e ∙ f)

      nodes-are : swept 0 (reading_from left.nodes r) left.nodes ≡ plain_nodes ns
      nodes-are =
          ext_get_or empty (swept 0 (reading_from left.nodes r) left.nodes) (plain_nodes ns)
          (swept-length 0 (reading_from left.nodes r) left.nodes ∙ nodes-long ∙ sym size ∙ sym (length-map ns plain_node))
          (λ j h. slot_is j ∙ sym (get_or-map plain_node ns j empty))

  pub quiet_same : (free : List ℕ) (n : Normal) → normalize free r ns ≡ some n → n.actions ≡ [] → (n.root ≡ r) × (n.nodes ≡ plain_nodes ns)
  unfolding normalize
  quiet_same free n e q =
      let still = rooted-grows free o.kept n e q in
      let e' : rooted free (some r) o.work ≡ some n = ap (λ (k : Option TileId). rooted free k o.work) (sym (kept-root still)) ∙ e in
      let is : sweep r left.nodes o.work.actions ≡ n = cc in
      (ap (λ (m : Normal). m.root) (sym is), ap (λ (m : Normal). m.nodes) (sym is) ∙ nodes-are still (ap (λ (m : Normal). m.actions) is ∙ q))

-- ---- a plain tree is the same tree

minima-plain : (xs : List Float) → same_list same_real (map plus xs) xs ≡ true
unfolding same_list
minima-plain [] = refl
minima-plain (x ∷ xs) = rw (plus-same x) (minima-plain xs)

node-plain : (n : Node) → same_node (plain_node n) n ≡ true
node-plain empty = refl
node-plain (pane p) = number-self p
node-plain (tabs b a ps) = rw (number-self (bar_code b), number-self a) (list-self eqb number-self ps)
node-plain (split x cs ss ms) = rw (number-self (axis_code x), list-self same_tile tile-self cs, list-self same_real same_real-self ss) (minima-plain ms)

nodes-plain : (ns : List Node) → same_list same_node (plain_nodes ns) ns ≡ true
unfolding same_list
nodes-plain [] = refl
nodes-plain (n ∷ ns) = rw (node-plain n) (nodes-plain ns)

pub tree_plain : (a : Arena) → same_tree (arena a.root a.revision (plain_nodes a.nodes)) a ≡ true
tree_plain a = rw (tile-self a.root, number-self a.revision) (nodes-plain a.nodes)

-- ---- soundness

pub none_is : {A : Type 0} (l : List A) → is_none l ≡ true → l ≡ []
none_is [] e = refl
none_is (x ∷ xs) e = never (sym e)

module _ (a : Arena) (size : length a.nodes ≡ 64) where
  -- accepted with no action: the tree comes back plain
  plain_by : (b : Bool) (n : Normal) → normalize (empty_slots a.nodes) a.root a.nodes ≡ some n → any_of wide_node n.nodes ≡ b → is_accepted (repaired_by b a n).answer ≡ true → (repaired_by b a n).actions ≡ []
      → ((repaired_by b a n).tree ≡ arena a.root a.revision (plain_nodes a.nodes)) × (any_of wide_node (plain_nodes a.nodes) ≡ false) × Settled (plain_nodes a.nodes) a.root
  plain_by true n e w t q = never (sym t)
  plain_by false n e w t q =
      let (x, y) = quiet_same a.nodes size a.root (empty_slots a.nodes) n e q in
      let s = settled a.nodes size a.root (empty_slots a.nodes) (slots-inside a.nodes size) n e in (
        (λ z. arena (x z) a.revision (y z)),
        ap (any_of wide_node) (sym y) ∙ w,
        subst (λ (ms : List Node). Settled ms a.root) y (subst (Settled n.nodes) x s),
      )

  plain-as : (o : Option Normal) → normalize (empty_slots a.nodes) a.root a.nodes ≡ o → is_accepted (repaired_as a o).answer ≡ true → (repaired_as a o).actions ≡ []
      → ((repaired_as a o).tree ≡ arena a.root a.revision (plain_nodes a.nodes)) × (any_of wide_node (plain_nodes a.nodes) ≡ false) × Settled (plain_nodes a.nodes) a.root
  plain-as none e t q = never (sym t)
  plain-as (some n) e t q = plain_by (any_of wide_node n.nodes) n e refl t q

  plain-if : (b : Bool) → a.over ≡ b → is_accepted (repair_by b a).answer ≡ true → (repair_by b a).actions ≡ []
      → ((repair_by b a).tree ≡ arena a.root a.revision (plain_nodes a.nodes)) × (any_of wide_node (plain_nodes a.nodes) ≡ false) × Settled (plain_nodes a.nodes) a.root × (a.over ≡ false)
  plain-if true e t q = never (sym t)
  plain-if false e t q = let (x, y, z) = plain-as (normalize (empty_slots a.nodes) a.root a.nodes) refl t q in (x, y, z, e)

  -- what a repair that lists nothing hands back
  pub quiet-repair : is_accepted (repair a).answer ≡ true → is_none (repair a).actions ≡ true
      → ((repair a).tree ≡ arena a.root a.revision (plain_nodes a.nodes)) × (any_of wide_node (plain_nodes a.nodes) ≡ false) × Settled (plain_nodes a.nodes) a.root × (a.over ≡ false)
  unfolding repair
  quiet-repair t q = plain-if a.over refl t (none_is (repair_by a.over a).actions q)

  -- accepted with no action, or the lone empty root: the comparison of trees is not needed
  pub sound-is : sound a ≡ ((is_accepted (repair a).answer && is_none (repair a).actions) || lone_empty_root a)
  unfolding sound
  sound-is = ap (λ (b : Bool). b || lone_empty_root a) (go (is_accepted (repair a).answer) (is_none (repair a).actions) refl refl)
    where
      go : (t n : Bool) → is_accepted (repair a).answer ≡ t → is_none (repair a).actions ≡ n
          → ((is_accepted (repair a).answer && is_none (repair a).actions) && same_tree (repair a).tree a) ≡ (is_accepted (repair a).answer && is_none (repair a).actions)
      go true true p q = (λ z. (p z && q z) && same_tree (repair a).tree a) ∙ ap (λ (t : Arena). same_tree t a) (quiet-repair p q).0 ∙ tree_plain a ∙ (λ z. sym p z && sym q z)
      go true false p q = (λ z. (p z && q z) && same_tree (repair a).tree a) ∙ (λ z. sym p z && sym q z)
      go false n p q = (λ z. (p z && is_none (repair a).actions) && same_tree (repair a).tree a) ∙ (λ z. sym p z && is_none (repair a).actions)
