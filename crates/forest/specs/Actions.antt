-- How many actions a repair lists: for each tile that is claimed at most 19, for a root that is no good 1, and in the sweep one for each slot.
-- A split's own are at most 3, and one more where it is melted; each of its 16 children costs one at most beside what the child's own tiles cost. Assumes nothing.
use Rattle.std.specs.Prelude.{◌≡◌, Bool, true, not, ◌||◌, ℕ, zero, suc, ◌+◌, ◌*◌, ◌≤◌, ◌<◌, leb, eqb, get_or, Float}
use Rattle.std.proofs.Math.Path.{refl}
use Rattle.std.proofs.Common.{ap, ◌∙◌, leb-false, ltb-false, length-set, length-append}
use Rattle.std.proofs.Math.Bool.{false}
use mathlib.Core.List.{List, [], ◌∷◌}
use Rattle.std.proofs.Math.Option.{Option, none, some}
use native.Mathlib.Omega.{arith}
use Rattle.std.proofs.Math.ListN.{length, get_elem?}
use Rattle.rules.specs.Lists.{any_of, contains, wide_list}
use Rattle.rules.specs.Tree.{Node, empty, pane, tabs, split, tile, node_at, wide_node, is_empty, reading_from, empty_group, set_node}
use Rattle.rules.specs.Shares.{repaired_shares, eq_reals}
use Rattle.rules.specs.Minima.{aligned_constraints, compact_constraints}
use Rattle.rules.specs.Repair.{added_by, added, added_if, same_action, State, Work, Out, claim, pane_by, Sifted, sifted, sift_by, retain, active_of, group_left, group_step, gone, Entry, entries, shares_of, Run, run, melts, place_by, place, place_out, kids_from, split_left, split_noted, split_step, by_node, by_claimed, by_range, tile_step, normalize_node, is_reached, sweep_note, sweep_actions, Normal, rooted, begin, normalize}
use Rattle.rules.specs.declared.model.TileId.{TileId}
use Rattle.rules.specs.declared.model.Axis.{Axis}
use Rattle.rules.specs.declared.model.TabBarPlacement.{TabBarPlacement}
use Rattle.rules.specs.declared.model.RepairAction.{RepairAction}
use Rattle.rules.specs.declared.model.RepairAction.TheVariants.{RemovedInvalidNode, RepairedActiveTab, RepairedShares, RepairedConstraints, CollapsedSplit, RemovedDuplicatePane}
use Rattle.forest.specs.Lists.{All, set_back, free, free-set}
use Rattle.forest.specs.Codec.{Least, start-least}
use Rattle.forest.specs.Forest.{Forest}
use Rattle.forest.specs.Grow.{Good, Grown, Works, retained, back, good-after, kid-keeps, tile-keeps}
use Rattle.forest.specs.Bools.{or_left, or_right}

-- ---- one action

added-by : (b : Bool) (a : RepairAction) (l : List RepairAction) → length (added_by b a l) ≤ length l + 1
added-by true a l = omega arith
added-by false a l = omega (arith, length-append l (a ∷ []))

added-length : (a : RepairAction) (l : List RepairAction) → length (added a l) ≤ length l + 1
unfolding added
added-length a l = added-by (any_of (same_action a) l) a l

added_if-length : (b : Bool) (a : RepairAction) (l : List RepairAction) → length (added_if b a l) ≤ length l + 1
added_if-length true a l = added-length a l
added_if-length false a l = omega arith

-- ---- what is not claimed has lists of 16 at most

abbrev pub Narrow : State → Type 0
Narrow w = (j : ℕ) → get_or w.claimed j false ≡ false → wide_node (get_or w.nodes j empty) ≡ false

narrow-after : (w v : State) (f : Forest) → Grown w v f → Narrow w → Narrow v
narrow-after w v f G n j e = ap wide_node (G.still j e) ∙ n j (back w v f G j e)

narrow-list : {A : Type 0} (xs : List A) → wide_list xs ≡ false → length xs ≤ 16
narrow-list xs e = ltb-false 16 (length xs) e

-- ---- the account: a tile that is kept may yet be melted, which costs one more

abbrev reserve : Option TileId → ℕ
reserve none = 0
reserve (some i) = 1

abbrev Cheap : Work → Out → Type 0
Cheap w o = length o.work.actions + reserve o.kept + 19 * free o.work.state.claimed ≤ length w.actions + 19 * free w.state.claimed + 1

-- the same of a tile that has just been claimed: from there on 20 are left to it
abbrev Paid : Work → Out → Type 0
Paid w o = length o.work.actions + reserve o.kept + 19 * free o.work.state.claimed ≤ length w.actions + 19 * free w.state.claimed + 20

paid-pane : (b : Bool) (i : TileId) (p : ℕ) (w : Work) → Paid w (pane_by b i p w)
paid-pane true i p w = omega (arith, added-length (RemovedDuplicatePane p i) w.actions)
paid-pane false i p w = omega arith

retain-length : (i : TileId) (ps : List ℕ) (s : Sifted) → length (retain i ps s).left.actions ≤ length s.left.actions + length ps
unfolding retain
retain-length i [] s = omega arith
retain-length i (p ∷ ps) s = go (contains p s.left.state.panes) (retain-length i ps)
  where
    go : (b : Bool) → ((t : Sifted) → length (retain i ps t).left.actions ≤ length t.left.actions + length ps) → length (retain i ps (sift_by b i p s)).left.actions ≤ length s.left.actions + suc (length ps)
    go true ih = omega (arith, ih (sift_by true i p s), added-length (RemovedDuplicatePane p i) s.left.actions)
    go false ih = omega (arith, ih (sift_by false i p s))

group-length : (i : TileId) (b : TabBarPlacement) (a : ℕ) (ps qs : List ℕ) (u : Work)
    → length (group_left i b a ps qs u).work.actions + reserve (group_left i b a ps qs u).kept + 19 * free (group_left i b a ps qs u).work.state.claimed ≤ length u.actions + 2 + 19 * free u.state.claimed
group-length i b a ps [] u = omega (arith, added-length (RemovedInvalidNode i) u.actions)
group-length i b a ps (q ∷ qs) u = omega (arith, added_if-length (not (eqb a (active_of (get_elem? ps a) (q ∷ qs)))) (RepairedActiveTab i) u.actions)

paid-group : (i : TileId) (b : TabBarPlacement) (a : ℕ) (ps : List ℕ) (w : Work) → length ps ≤ 16 → Paid w (group_step i b a ps w)
unfolding group_step
paid-group i b a ps w h =
    let s = retain i ps (sifted [] w) in
    let q : free s.left.state.claimed ≡ free w.state.claimed = ap (λ (v : State). free v.claimed) (retained i ps (sifted [] w)).left in
    omega (arith, group-length i b a ps s.list s.left, retain-length i ps (sifted [] w), q)

-- ---- the children

place_by-length : (b : Bool) (e : Entry) (c : TileId) (n : Node) (r : Run) (w : Work)
    → length (place_by b e c n r w).left.actions + 19 * free (place_by b e c n r w).left.state.claimed ≤ length w.actions + 1 + 19 * free w.state.claimed
place_by-length true e c n r w = omega (arith, added-length (CollapsedSplit c) w.actions)
place_by-length false e c n r w = omega arith

place-length : (a : Axis) (e : Entry) (k : Option TileId) (r : Run) (w : Work)
    → length (place a e k r w).left.actions + 19 * free (place a e k r w).left.state.claimed ≤ length w.actions + reserve k + 19 * free w.state.claimed
place-length a e none r w = omega arith
place-length a e (some c) r w = place_by-length (melts a e.minimum (node_at w.state.nodes c)) e c (node_at w.state.nodes c) r w

abbrev Spares : (TileId → Work → Out) → Type 0
Spares again = (i : TileId) (w : Work) → Good w.state → Narrow w.state → Cheap w (again i w)

module _ (again : TileId → Work → Out) (g : Works again) (c : Spares again) where
  kids-length : (a : Axis) (es : List Entry) (r : Run) → Good r.left.state → Narrow r.left.state → All Least es
      → length (kids_from again a es r).left.actions + 19 * free (kids_from again a es r).left.state.claimed ≤ length r.left.actions + 19 * free r.left.state.claimed + length es
  unfolding kids_from
  kids-length a [] r good n le = omega arith
  kids-length a (e ∷ es) r good n le =
      let o = again e.child r.left in
      let t = place_out a e r o in
      let (f, p, B, s) = kid-keeps again g a e r good le.0 in
      omega (
        arith,
        c e.child r.left good n,
        place-length a e o.kept r o.work,
        kids-length a es t (good-after r.left.state t.left.state f good B) (narrow-after r.left.state t.left.state f B n) le.1,
      )

  split-length : (i : TileId) (a : Axis) (old : List Float) (es : List Entry) (r : Run)
      → length (split_left i a old es r).work.actions + reserve (split_left i a old es r).kept + 19 * free (split_left i a old es r).work.state.claimed ≤ length r.left.actions + 2 + 19 * free r.left.state.claimed
  split-length i a old [] r = omega (arith, added-length (RemovedInvalidNode i) r.left.actions)
  split-length i a old (e ∷ []) r = omega (arith, added-length (CollapsedSplit i) r.left.actions)
  split-length i a old (e ∷ f ∷ es) r =
      let ss = repaired_shares (length (e ∷ f ∷ es)) (shares_of (e ∷ f ∷ es)) in
      omega (arith, added_if-length (r.moved || not (eq_reals ss old)) (RepairedShares i) r.left.actions)

  entries-length : (cs : List TileId) (ss ms : List Float) → length (entries cs ss ms) ≤ length cs
  unfolding entries
  entries-length [] ss ms = omega arith
  entries-length (x ∷ cs) [] ms = omega arith
  entries-length (x ∷ cs) (s ∷ ss) [] = omega arith
  entries-length (x ∷ cs) (s ∷ ss) (m ∷ ms) = omega (arith, entries-length cs ss ms)

  paid-split : (i : TileId) (a : Axis) (cs : List TileId) (ss ms : List Float) (w : Work) → Good w.state → Narrow w.state → length cs ≤ 16 → Paid w (split_step again i a cs ss ms w)
  unfolding split_step
  paid-split i a cs ss ms w good n h =
      let old = repaired_shares (length cs) ss in
      let mins = aligned_constraints (length cs) ms in
      let es = entries cs old mins in
      let u = split_noted i ss ms old mins w in
      let r = kids_from again a es (run [] false u) in
      let first = added_if (not (eq_reals (compact_constraints mins) ms)) (RepairedConstraints i) w.actions in
      let l₁ : length u.actions ≤ length w.actions + 2 = omega (arith, added_if-length (not (eq_reals (compact_constraints mins) ms)) (RepairedConstraints i) w.actions, added_if-length (not (eq_reals old ss)) (RepairedShares i) first) in
      omega (arith, l₁, entries-length cs old mins, kids-length a es (run [] false u) good n (start-least cs old ms (length cs)), split-length i a ss r.list r)

-- ---- a tile

module _ (again : TileId → Work → Out) (g : Works again) (c : Spares again) (i : TileId) (w : Work) (good : Good w.state) (n : Narrow w.state) where
  gone-cheap : Cheap w (gone i w)
  gone-cheap = omega (arith, added-length (RemovedInvalidNode i) w.actions)

  module _ (h : i.slot < 64) (e : get_or w.state.claimed i.slot false ≡ false) where
    claim-free : free w.state.claimed ≡ suc (free (claim i w).state.claimed)
    claim-free = free-set w.state.claimed i.slot (omega (arith, good.0)) e

    claim-good : Good (claim i w).state
    claim-good = (length-set w.state.claimed i.slot true ∙ good.0, good.1)

    claim-narrow : Narrow (claim i w).state
    claim-narrow j q = n j (set_back w.state.claimed i.slot j q)

    paid : (o : Out) → Paid (claim i w) o → Cheap w o
    paid o p = omega (arith, p, claim-free)

    cheap-node : (x : Node) → wide_node x ≡ false → Cheap w (by_node x again i w)
    cheap-node empty k = gone-cheap
    cheap-node (pane p) k = paid (pane_by (contains p w.state.panes) i p (claim i w)) (paid-pane (contains p w.state.panes) i p (claim i w))
    cheap-node (tabs b a ps) k = paid (group_step i b a ps (claim i w)) (paid-group i b a ps (claim i w) (narrow-list ps k))
    cheap-node (split a cs ss ms) k =
        paid (split_step again i a cs ss ms (claim i w)) (paid-split again g c i a cs ss ms (claim i w) claim-good claim-narrow (narrow-list cs (or_left (wide_list cs) (wide_list ss) (or_left (wide_list cs || wide_list ss) (wide_list ms) k))))

  cheap-claimed : (b : Bool) → i.slot < 64 → get_or w.state.claimed i.slot false ≡ b → Cheap w (by_claimed b again i w)
  cheap-claimed true h e = gone-cheap
  cheap-claimed false h e = cheap-node h e (node_at w.state.nodes i) (n i.slot e)

  cheap-range : (b : Bool) → leb 64 i.slot ≡ b → Cheap w (by_range b again i w)
  cheap-range true q = gone-cheap
  cheap-range false q = cheap-claimed (get_or w.state.claimed i.slot false) (leb-false 64 i.slot q) refl

  cheap-tile : Cheap w (tile_step again i w)
  unfolding tile_step
  cheap-tile = cheap-range (leb 64 i.slot) refl

pub tile-cheap : (n : ℕ) → Spares (normalize_node n)
unfolding normalize_node
tile-cheap zero i w good k = omega (arith, added-length (RemovedInvalidNode i) w.actions)
tile-cheap (suc n) i w good k = cheap-tile (normalize_node n) (tile-keeps n) (tile-cheap n) i w good k

-- ---- the whole

sweep-length : (xs : List TileId) (ns : List Node) (i : ℕ) (l : List RepairAction) → length (sweep_actions i xs ns l) ≤ length l + length ns
unfolding sweep_actions
sweep-length xs [] i l = omega arith
sweep-length xs (x ∷ ns) i l = go (is_reached i xs || is_empty x) (sweep-length xs ns (suc i))
  where
    go : (b : Bool) → ((m : List RepairAction) → length (sweep_actions (suc i) xs ns m) ≤ length m + length ns) → length (sweep_actions (suc i) xs ns (sweep_note b i l)) ≤ length l + suc (length ns)
    go true ih = omega (arith, ih (sweep_note true i l))
    go false ih = omega (arith, ih (sweep_note false i l), added-length (RemovedInvalidNode (tile i)) l)

pub all-narrow : (ns : List Node) → any_of wide_node ns ≡ false → (j : ℕ) → wide_node (get_or ns j empty) ≡ false
unfolding any_of
all-narrow [] e j = refl
all-narrow (x ∷ xs) e zero = or_left (wide_node x) (any_of wide_node xs) e
all-narrow (x ∷ xs) e (suc j) = all-narrow xs (or_right (wide_node x) (any_of wide_node xs) e) j

module _ (ns : List Node) (size : length ns ≡ 64) (narrow : any_of wide_node ns ≡ false) (r : TileId) where
  abbrev o : Out
  o = normalize_node 64 r (begin ns)

  walk-length : length o.work.actions ≤ 1217
  walk-length = omega (arith, tile-cheap 64 r (begin ns) (refl, size) (λ j e. all-narrow ns narrow j))

  nodes-long : length o.work.state.nodes ≡ 64
  nodes-long = let (l, q, G) = tile-keeps 64 r (begin ns) (refl, size) in G.size ∙ size

  rooted-length : (free' : List ℕ) (k : Option TileId) (n : Normal) → rooted free' k o.work ≡ some n → length n.actions ≤ 1300
  rooted-length free' (some s) n e =
      let xs = reading_from o.work.state.nodes s in
      let q : sweep_actions 0 xs o.work.state.nodes o.work.actions ≡ n.actions = cc in
      omega (arith, ap length q, sweep-length xs o.work.state.nodes 0 o.work.actions, walk-length, nodes-long)
  rooted-length [] none n e = absurd (let z : ◌≡◌ {A = ℕ} 0 1 = cc in omega arith)
  rooted-length (i ∷ is) none n e =
      let ms = set_node (tile i) empty_group o.work.state.nodes in
      let xs = reading_from ms (tile i) in
      let q : sweep_actions 0 xs ms o.work.actions ≡ n.actions = cc in
      omega (arith, ap length q, sweep-length xs ms 0 o.work.actions, walk-length, nodes-long, length-set o.work.state.nodes i empty_group)

  -- 1,300 places always suffice
  pub actions-fit : (free' : List ℕ) (n : Normal) → normalize free' r ns ≡ some n → length n.actions ≤ 1300
  unfolding normalize
  actions-fit free' n e = rooted-length free' o.kept n e
