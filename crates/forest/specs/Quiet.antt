-- A repair that lists nothing changes nothing, but that it reads a minimum's minus zero as zero. By induction on the fuel. Assumes nothing.
use Rattle.std.specs.Prelude.{◌≡◌, Bool, ◌||◌, ℕ, zero, suc, ◌+◌, ◌<◌, leb, eqb, ltb, Float}
use Rattle.std.proofs.Math.Path.{refl, ap, subst}
use Rattle.std.proofs.Common.{sym, ◌∙◌, arith, length-set, length-append, get_or-set_same, get_or-set_other}
use Rattle.std.proofs.Math.Bool.{true, false, not}
use mathlib.Core.List.{List, [], ◌∷◌, ◌++◌, map, append_assoc, append-nil}
use Rattle.std.proofs.Math.Option.{Option, none, some}
use Rattle.std.proofs.Math.Decide.{ℕ_discrete}
use borrow.Author.Tests.{leb-false, eqb-true}
use Rattle.std.proofs.Math.ListN.{length, get_or, get_elem?, set}
use Rattle.std.proofs.lemmas.List.{length-map, set-get_or}
use Rattle.rules.specs.Numbers.{plus}
use Rattle.rules.specs.Lists.{any_of, contains, wide_list}
use Rattle.rules.specs.Shares.{repaired_shares, eq_reals}
use Rattle.rules.specs.Minima.{aligned_constraints, compact_constraints}
use Rattle.rules.specs.Tree.{Node, empty, pane, tabs, split, tile, node_at, is_empty, kids_of, panes_of, wide_node}
use Rattle.rules.specs.Repair.{added_by, added, added_if, same_action, State, Work, Out, state, claim, pane_by, Sifted, sifted, sift_by, retain, active_of, group_left, group_step, Entry, entries, Run, run, melts, place_by, place, place_out, kids_from, children_of, shares_of, minima_of, split_left, split_noted, split_step, by_node, by_claimed, by_range, tile_step, normalize_node, is_reached, sweep_note, sweep_actions}
use Rattle.rules.specs.declared.model.TileId.{TileId}
use Rattle.rules.specs.declared.model.Axis.{Axis}
use Rattle.rules.specs.declared.model.TabBarPlacement.{TabBarPlacement}
use Rattle.rules.specs.declared.model.RepairAction.{RepairAction}
use Rattle.rules.specs.declared.model.RepairAction.TheVariants.{RepairedActiveTab, RepairedShares, RepairedConstraints, RemovedInvalidNode}
use Rattle.forest.specs.Lists.{All, never}
use Rattle.forest.specs.Lengths.{aligned-length}
use Rattle.forest.specs.Equal.{shares-kept, minima-kept}
use Rattle.forest.specs.Codec.{Least, start-least, long-children, entries-children, entries-shares, entries-minima}
use Rattle.forest.specs.Forest.{Forest}
use Rattle.forest.specs.Grow.{Good, Grown, Works, good-after, kid-keeps, tile-keeps}

-- ---- a node with its minima's minus zeros read as zeros

abbrev pub plain_node : Node → Node
plain_node empty = empty
plain_node (pane p) = pane p
plain_node (tabs b a ps) = tabs b a ps
plain_node (split a cs ss ms) = split a cs ss (map plus ms)

abbrev pub plain_nodes : List Node → List Node
plain_nodes ns = map plain_node ns

pub kids-plain : (n : Node) → kids_of (plain_node n) ≡ kids_of n
kids-plain empty = refl
kids-plain (pane p) = refl
kids-plain (tabs b a ps) = refl
kids-plain (split a cs ss ms) = refl

pub panes-plain : (n : Node) → panes_of (plain_node n) ≡ panes_of n
panes-plain empty = refl
panes-plain (pane p) = refl
panes-plain (tabs b a ps) = refl
panes-plain (split a cs ss ms) = refl

pub wide-plain : (n : Node) → wide_node (plain_node n) ≡ wide_node n
wide-plain empty = refl
wide-plain (pane p) = refl
wide-plain (tabs b a ps) = refl
wide-plain (split a cs ss ms) = ap (λ (k : ℕ). wide_list cs || wide_list ss || ltb 16 k) (length-map ms plus)

-- ---- a list of actions that is empty was empty before, and nothing was added

pub added-some : (a : RepairAction) (l : List RepairAction) → added a l ≡ [] → ⊥
unfolding added any_of
added-some a l e = go (any_of (same_action a) l) refl e
  where
    none' : any_of (same_action a) [] ≡ false
    none' = refl

    go : (b : Bool) → any_of (same_action a) l ≡ b → added_by b a l ≡ [] → ⊥
    go true q e' = never (sym q ∙ ap (any_of (same_action a)) e' ∙ none')
    go false q e' = omega (arith, ap length e', length-append l (a ∷ []))

pub added-never : {A : Type 0} (a : RepairAction) (l : List RepairAction) → added a l ≡ [] → A
added-never a l e = absurd (added-some a l e)

pub added_if-none : (b : Bool) (a : RepairAction) (l : List RepairAction) → added_if b a l ≡ [] → (b ≡ false) × (l ≡ [])
added_if-none true a l e = added-never a l e
added_if-none false a l e = (refl, e)

-- ---- actions only grow

abbrev pub Grows : Work → Work → Type 0
Grows w v = v.actions ≡ [] → w.actions ≡ []

abbrev pub Keeping : (TileId → Work → Out) → Type 0
Keeping again = (i : TileId) (w : Work) → Grows w (again i w).work

pub retain-grows : (i : TileId) (ps : List ℕ) (s : Sifted) → Grows s.left (retain i ps s).left
unfolding retain
retain-grows i [] s e = e
retain-grows i (p ∷ ps) s e = go (contains p s.left.state.panes) (retain-grows i ps) e
  where
    go : (b : Bool) → ((t : Sifted) → Grows t.left (retain i ps t).left) → (retain i ps (sift_by b i p s)).left.actions ≡ [] → s.left.actions ≡ []
    go true ih q = added-never _ s.left.actions (ih (sift_by true i p s) q)
    go false ih q = ih (sift_by false i p s) q

pub group-grows : (i : TileId) (b : TabBarPlacement) (a : ℕ) (ps qs : List ℕ) (w : Work) → Grows w (group_left i b a ps qs w).work
group-grows i b a ps [] w e = added-never _ w.actions e
group-grows i b a ps (q ∷ qs) w e = (added_if-none (not (eqb a (active_of (get_elem? ps a) (q ∷ qs)))) (RepairedActiveTab i) w.actions e).1

pub place-grows : (a : Axis) (e : Entry) (k : Option TileId) (r : Run) (w : Work) → Grows w (place a e k r w).left
place-grows a e none r w q = q
place-grows a e (some c) r w q = go (melts a e.minimum (node_at w.state.nodes c)) q
  where
    go : (b : Bool) → (place_by b e c (node_at w.state.nodes c) r w).left.actions ≡ [] → w.actions ≡ []
    go true q' = added-never _ w.actions q'
    go false q' = q'

pub split-grows : (i : TileId) (a : Axis) (old : List Float) (es : List Entry) (r : Run) → Grows r.left (split_left i a old es r).work
split-grows i a old [] r e = added-never _ r.left.actions e
split-grows i a old (x ∷ []) r e = added-never _ r.left.actions e
split-grows i a old (x ∷ y ∷ es) r e =
    (added_if-none (r.moved || not (eq_reals (repaired_shares (length (x ∷ y ∷ es)) (shares_of (x ∷ y ∷ es))) old)) (RepairedShares i) r.left.actions e).1

module _ (again : TileId → Work → Out) (g : Keeping again) where
  pub kids-grow : (a : Axis) (es : List Entry) (r : Run) → Grows r.left (kids_from again a es r).left
  unfolding kids_from
  kids-grow a [] r e = e
  kids-grow a (x ∷ es) r e =
      let o = again x.child r.left in g x.child r.left (place-grows a x o.kept r o.work (kids-grow a es (place_out a x r o) e))

  pub noted-none : (i : TileId) (ss ms old mins : List Float) (w : Work) → (split_noted i ss ms old mins w).actions ≡ [] → (eq_reals old ss ≡ true) × (eq_reals (compact_constraints mins) ms ≡ true) × (w.actions ≡ [])
  noted-none i ss ms old mins w e =
      let first = added_if (not (eq_reals (compact_constraints mins) ms)) (RepairedConstraints i) w.actions in
      let (p, q) = added_if-none (not (eq_reals old ss)) (RepairedShares i) first e in
      let (p', q') = added_if-none (not (eq_reals (compact_constraints mins) ms)) (RepairedConstraints i) w.actions q in
      (not-false (eq_reals old ss) p, not-false (eq_reals (compact_constraints mins) ms) p', q')
    where
      not-false : (b : Bool) → not b ≡ false → b ≡ true
      not-false true q = refl
      not-false false q = never q

  pub node-grows : (n : Node) (i : TileId) (w : Work) → Grows w (by_node n again i w).work
  unfolding group_step split_step
  node-grows empty i w e = added-never _ w.actions e
  node-grows (pane p) i w e = go (contains p w.state.panes) e
    where
      go : (b : Bool) → (pane_by b i p (claim i w)).work.actions ≡ [] → w.actions ≡ []
      go true q = added-never _ w.actions q
      go false q = q
  node-grows (tabs b a ps) i w e = let s = retain i ps (sifted [] (claim i w)) in retain-grows i ps (sifted [] (claim i w)) (group-grows i b a ps s.list s.left e)
  node-grows (split a cs ss ms) i w e =
      let old = repaired_shares (length cs) ss in
      let mins = aligned_constraints (length cs) ms in
      let r = kids_from again a (entries cs old mins) (run [] false (split_noted i ss ms old mins (claim i w))) in
      (noted-none i ss ms old mins (claim i w) (kids-grow a (entries cs old mins) (run [] false (split_noted i ss ms old mins (claim i w))) (split-grows i a ss r.list r e))).2

  pub tile-grows : (i : TileId) (w : Work) → Grows w (tile_step again i w).work
  unfolding tile_step
  tile-grows i w e = go (leb 64 i.slot) e
    where
      claimed : (b : Bool) → (by_claimed b again i w).work.actions ≡ [] → w.actions ≡ []
      claimed true q = added-never _ w.actions q
      claimed false q = node-grows (node_at w.state.nodes i) i w q

      go : (b : Bool) → (by_range b again i w).work.actions ≡ [] → w.actions ≡ []
      go true q = added-never _ w.actions q
      go false q = claimed (get_or w.state.claimed i.slot false) q

pub walk-grows : (f : ℕ) → Keeping (normalize_node f)
unfolding normalize_node
walk-grows zero i w e = added-never _ w.actions e
walk-grows (suc f) i w e = tile-grows (normalize_node f) (walk-grows f) i w e

-- ---- what a silent walk leaves in a slot: what it claims is made plain, and nothing else is touched

abbrev pub passed : Bool → Bool → Node → Node
passed false true n = plain_node n
passed false false n = n
passed true b n = n

abbrev pub Silent : State → State → Type 0
Silent w v = (j : ℕ) → get_or v.nodes j empty ≡ passed (get_or w.claimed j false) (get_or v.claimed j false) (get_or w.nodes j empty)

abbrev pub Mono : State → State → Type 0
Mono w v = (j : ℕ) → get_or w.claimed j false ≡ true → get_or v.claimed j false ≡ true

pub silent-refl : (w : State) → Silent w w
silent-refl w j = go (get_or w.claimed j false)
  where
    go : (b : Bool) → get_or w.nodes j empty ≡ passed b b (get_or w.nodes j empty)
    go true = refl
    go false = refl

pub silent-chain : (w v u : State) → Mono w v → Mono v u → Silent w v → Silent v u → Silent w u
silent-chain w v u m n p q j = go (get_or w.claimed j false) (get_or v.claimed j false) (get_or u.claimed j false) refl refl refl (p j) (q j)
  where
    go : (a b c : Bool) → get_or w.claimed j false ≡ a → get_or v.claimed j false ≡ b → get_or u.claimed j false ≡ c
        → get_or v.nodes j empty ≡ passed a b (get_or w.nodes j empty) → get_or u.nodes j empty ≡ passed b c (get_or v.nodes j empty) → get_or u.nodes j empty ≡ passed a c (get_or w.nodes j empty)
    go false false false x y z h k = k ∙ h
    go false false true x y z h k = k ∙ ap plain_node h
    go false true true x y z h k = k ∙ h
    go true true c x y z h k = k ∙ h
    go false true false x y z h k = never (sym (n j y) ∙ z)
    go true false c x y z h k = never (sym (m j x) ∙ y)

pub grown-mono : (w v : State) (f : Forest) → Grown w v f → Mono w v
grown-mono w v f G j e = (G.keep j e).0

abbrev pub Hushed : (TileId → Work → Out) → Type 0
Hushed again = (i : TileId) (w : Work) → Good w.state → (again i w).work.actions ≡ [] → ((again i w).kept ≡ some i) × Silent w.state (again i w).work.state

-- ---- panes: all are kept

pub retain-hushed : (i : TileId) (ps : List ℕ) (s : Sifted) → (retain i ps s).left.actions ≡ []
    → ((retain i ps s).list ≡ s.list ++ ps) × ((retain i ps s).left.state.nodes ≡ s.left.state.nodes) × ((retain i ps s).left.state.claimed ≡ s.left.state.claimed)
unfolding retain
retain-hushed i [] s e = (sym (append-nil s.list), refl, refl)
retain-hushed i (p ∷ ps) s e = go (contains p s.left.state.panes) (retain-hushed i ps) e
  where
    go : (b : Bool) → ((t : Sifted) → (retain i ps t).left.actions ≡ [] → ((retain i ps t).list ≡ t.list ++ ps) × ((retain i ps t).left.state.nodes ≡ t.left.state.nodes) × ((retain i ps t).left.state.claimed ≡ t.left.state.claimed))
        → (retain i ps (sift_by b i p s)).left.actions ≡ []
        → ((retain i ps (sift_by b i p s)).list ≡ s.list ++ p ∷ ps) × ((retain i ps (sift_by b i p s)).left.state.nodes ≡ s.left.state.nodes) × ((retain i ps (sift_by b i p s)).left.state.claimed ≡ s.left.state.claimed)
    go true ih q = added-never _ s.left.actions (retain-grows i ps (sift_by true i p s) q)
    go false ih q = let (x, y, z) = ih (sift_by false i p s) q in (x ∙ append_assoc s.list (p ∷ []) ps, y, z)

-- ---- one slot written, of those that a claim and what follows it leave

module _ (w v : State) (good : Good w) (i : TileId) (h : i.slot < 64) (e : get_or w.claimed i.slot false ≡ false) where
  abbrev claimed : State
  claimed = state w.nodes (set w.claimed i.slot true) w.panes

  claim-set : get_or (set w.claimed i.slot true) i.slot false ≡ true
  claim-set = get_or-set_same w.claimed i.slot true false (omega (arith, good.0))

  -- the slot is made plain, and the rest as it was
  pub written-silent : (n : Node) → n ≡ plain_node (node_at w.nodes i) → length v.nodes ≡ 64 → Mono claimed v → Silent claimed v
      → Silent w (state (set v.nodes i.slot n) v.claimed v.panes)
  written-silent n q l m s j = go (ℕ_discrete j i.slot)
    where
      go : Dec (j ≡ i.slot) → get_or (set v.nodes i.slot n) j empty ≡ passed (get_or w.claimed j false) (get_or v.claimed j false) (get_or w.nodes j empty)
      go (yes z) =
          ap (λ (k : ℕ). get_or (set v.nodes i.slot n) k empty) z ∙ get_or-set_same v.nodes i.slot n empty (omega arith) ∙ q
          ∙ (λ y. passed (sym e y) (sym (m i.slot claim-set) y) (get_or w.nodes i.slot empty))
          ∙ ap (λ (k : ℕ). passed (get_or w.claimed k false) (get_or v.claimed k false) (get_or w.nodes k empty)) (sym z)
      go (no z) =
          get_or-set_other v.nodes i.slot j n empty z ∙ s j
          ∙ ap (λ (b : Bool). passed b (get_or v.claimed j false) (get_or w.nodes j empty)) (get_or-set_other w.claimed i.slot j true false z)

-- ---- a split's children: each is kept, in its place

pub place-hushed : (a : Axis) (e : Entry) (r : Run) (w : Work) → (place a e (some e.child) r w).left.actions ≡ [] → place a e (some e.child) r w ≡ run (r.list ++ e ∷ []) r.moved w
place-hushed a e r w q = go (melts a e.minimum (node_at w.state.nodes e.child)) q
  where
    go : (b : Bool) → (place_by b e e.child (node_at w.state.nodes e.child) r w).left.actions ≡ []
        → place_by b e e.child (node_at w.state.nodes e.child) r w ≡ run (r.list ++ e ∷ []) r.moved w
    go true q' = added-never _ w.actions q'
    go false q' = refl

module _ (again : TileId → Work → Out) (g : Works again) (k : Keeping again) (hush : Hushed again) where
  pub kids-hushed : (a : Axis) (es : List Entry) (r : Run) → Good r.left.state → All Least es → (kids_from again a es r).left.actions ≡ []
      → ((kids_from again a es r).list ≡ r.list ++ es) × ((kids_from again a es r).moved ≡ r.moved) × Silent r.left.state (kids_from again a es r).left.state
      × Mono r.left.state (kids_from again a es r).left.state × (length (kids_from again a es r).left.state.nodes ≡ length r.left.state.nodes)
  unfolding kids_from
  kids-hushed a [] r good le q = (sym (append-nil r.list), refl, silent-refl r.left.state, λ j e. e, refl)
  kids-hushed a (e ∷ es) r good le q =
      let o = again e.child r.left in
      let t = place_out a e r o in
      let (f, p, B, s) = kid-keeps again g a e r good le.0 in
      let q₁ : t.left.actions ≡ [] = kids-grow again k a es t q in
      let q₂ : o.work.actions ≡ [] = place-grows a e o.kept r o.work q₁ in
      let (kept, still) = hush e.child r.left good q₂ in
      let is : t ≡ run (r.list ++ e ∷ []) r.moved o.work =
      ap (λ (c : Option TileId). place a e c r o.work) kept ∙ place-hushed a e r o.work (subst (λ (c : Option TileId). (place a e c r o.work).left.actions ≡ []) kept q₁) in
      let (x, y, z, m, l) = kids-hushed a es t (good-after r.left.state t.left.state f good B) le.1 q in
      let here : Silent r.left.state t.left.state = subst (λ (u : Run). Silent r.left.state u.left.state) (sym is) still in (
        x ∙ ap (λ (u : Run). u.list ++ es) is ∙ append_assoc r.list (e ∷ []) es,
        y ∙ ap (λ (u : Run). u.moved) is,
        silent-chain r.left.state t.left.state (kids_from again a es t).left.state (grown-mono r.left.state t.left.state f B) m here z,
        λ j d. m j (B.keep j d).0,
        l ∙ B.size,
      )

  module _ (i : TileId) (w : Work) (good : Good w.state) where
    -- the split that is stored is the one that stood there, made plain
    pub split-left : (a : Axis) (ss : List Float) (es : List Entry) (r : Run) → r.list ≡ es → r.moved ≡ false → (split_left i a ss r.list r).work.actions ≡ []
        → ((split_left i a ss r.list r).kept ≡ some i) × ((split_left i a ss r.list r).work.state ≡ state (set r.left.state.nodes i.slot (split a (children_of es) (repaired_shares (length es) (shares_of es)) (compact_constraints (minima_of es)))) r.left.state.claimed r.left.state.panes)
        × (eq_reals (repaired_shares (length es) (shares_of es)) ss ≡ true)
    split-left a ss es r p m q = go es r p m q
      where
        go : (es' : List Entry) (r' : Run) → r'.list ≡ es' → r'.moved ≡ false → (split_left i a ss r'.list r').work.actions ≡ []
            → ((split_left i a ss r'.list r').kept ≡ some i)
            × ((split_left i a ss r'.list r').work.state ≡ state (set r'.left.state.nodes i.slot (split a (children_of es') (repaired_shares (length es') (shares_of es')) (compact_constraints (minima_of es')))) r'.left.state.claimed r'.left.state.panes)
            × (eq_reals (repaired_shares (length es') (shares_of es')) ss ≡ true)
        go [] r' p' m' q' = added-never _ r'.left.actions (subst (λ (l : List Entry). (split_left i a ss l r').work.actions ≡ []) p' q')
        go (x ∷ []) r' p' m' q' = added-never _ r'.left.actions (subst (λ (l : List Entry). (split_left i a ss l r').work.actions ≡ []) p' q')
        go (x ∷ y ∷ zs) r' p' m' q' =
            let sh = repaired_shares (length (x ∷ y ∷ zs)) (shares_of (x ∷ y ∷ zs)) in
            let z = (added_if-none (r'.moved || not (eq_reals sh ss)) (RepairedShares i) r'.left.actions (subst (λ (l : List Entry). (split_left i a ss l r').work.actions ≡ []) p' q')).0 in (
              ap (λ (l : List Entry). (split_left i a ss l r').kept) p',
              ap (λ (l : List Entry). (split_left i a ss l r').work.state) p'
                  ∙ (λ k. state (set r'.left.state.nodes i.slot (split a (children_of (p' k)) sh (compact_constraints (minima_of (p' k))))) r'.left.state.claimed r'.left.state.panes),
              fine r'.moved (eq_reals sh ss) z,
            )
          where
            fine : (b c : Bool) → (b || not c) ≡ false → c ≡ true
            fine true c z = never z
            fine false true z = refl
            fine false false z = never z

    module _ (h : i.slot < 64) (e : get_or w.state.claimed i.slot false ≡ false) where
      pub split-hushed : (a : Axis) (cs : List TileId) (ss ms : List Float) → node_at w.state.nodes i ≡ split a cs ss ms → (split_step again i a cs ss ms (claim i w)).work.actions ≡ []
          → ((split_step again i a cs ss ms (claim i w)).kept ≡ some i) × Silent w.state (split_step again i a cs ss ms (claim i w)).work.state
      unfolding split_step
      split-hushed a cs ss ms is q =
          let old = repaired_shares (length cs) ss in
          let mins = aligned_constraints (length cs) ms in
          let es = entries cs old mins in
          let u = split_noted i ss ms old mins (claim i w) in
          let r = kids_from again a es (run [] false u) in
          let good' : Good (claim i w).state = (length-set w.state.claimed i.slot true ∙ good.0, good.1) in
          let q₁ : r.left.actions ≡ [] = split-grows i a ss r.list r q in
          let (list, moved, still, mono, long) = kids-hushed a es (run [] false u) good' (start-least cs old ms (length cs)) q₁ in
          let (sh, mi, _) = noted-none again k i ss ms old mins (claim i w) (kids-grow again k a es (run [] false u) q₁) in
          let (kept, left, same) = split-left a ss es r list moved q in
          let (ls, os) = shares-kept (length cs) ss sh in
          let lo : length old ≡ length cs = ap length os ∙ ls in
          let lm : length mins ≡ length cs = aligned-length (length cs) ms in
          let node-is : split a (children_of es) (repaired_shares (length es) (shares_of es)) (compact_constraints (minima_of es)) ≡ plain_node (node_at w.state.nodes i) =
          (λ z. split a (entries-children cs old mins lo lm z)
          ((ap (λ (n : ℕ). repaired_shares n (shares_of es)) (sym (long-children es) ∙ ap length (entries-children cs old mins lo lm)) ∙ ap (repaired_shares (length cs)) (entries-shares cs old mins lo lm ∙ os) ∙ os) z)
          ((ap compact_constraints (entries-minima cs old mins lo lm) ∙ minima-kept (length cs) ms mi) z))
          ∙ ap plain_node (sym is) in (
            kept,
            subst (Silent w.state) (sym left)
                (written-silent w.state r.left.state good i h e _ node-is (long ∙ good.1) mono still),
          )

      group-hushed : (b : TabBarPlacement) (a : ℕ) (ps : List ℕ) → node_at w.state.nodes i ≡ tabs b a ps → (group_step i b a ps (claim i w)).work.actions ≡ []
          → ((group_step i b a ps (claim i w)).kept ≡ some i) × Silent w.state (group_step i b a ps (claim i w)).work.state
      unfolding group_step
      group-hushed b a ps is q =
          let s = retain i ps (sifted [] (claim i w)) in
          let q₁ = group-grows i b a ps s.list s.left q in
          let (list, nodes, flags) = retain-hushed i ps (sifted [] (claim i w)) q₁ in
          go ps s.list list s.left nodes flags q
        where
          go : (ps' qs : List ℕ) → qs ≡ ps → (v : Work) → v.state.nodes ≡ w.state.nodes → v.state.claimed ≡ set w.state.claimed i.slot true → (group_left i b a ps qs v).work.actions ≡ []
              → ((group_left i b a ps qs v).kept ≡ some i) × Silent w.state (group_left i b a ps qs v).work.state
          go ps' [] p v ns fs q' = added-never _ v.actions q'
          go ps' (x ∷ xs) p v ns fs q' =
              let new = active_of (get_elem? ps a) (x ∷ xs) in
              let same : a ≡ new = eqb-true a new (not-not (eqb a new) (added_if-none (not (eqb a new)) (RepairedActiveTab i) v.actions q').0) in
              let node-is : tabs b new (x ∷ xs) ≡ plain_node (node_at w.state.nodes i) = (λ z. tabs b (sym same z) (p z)) ∙ ap plain_node (sym is) in (
                refl,
                subst (λ (u : State). Silent w.state (state (set u.nodes i.slot (tabs b new (x ∷ xs))) u.claimed u.panes)) (λ z. state (sym ns z) (sym fs z) v.state.panes)
                    (written-silent w.state (state w.state.nodes (set w.state.claimed i.slot true) v.state.panes) good i h e (tabs b new (x ∷ xs)) node-is good.1 (λ j d. d) (silent-refl (claimed w.state w.state good i h e))),
              )
            where
              not-not : (c : Bool) → not c ≡ false → c ≡ true
              not-not true z = refl
              not-not false z = never z

      pane-hushed : (p : ℕ) → node_at w.state.nodes i ≡ pane p → (b : Bool) → (pane_by b i p (claim i w)).work.actions ≡ []
          → ((pane_by b i p (claim i w)).kept ≡ some i) × Silent w.state (pane_by b i p (claim i w)).work.state
      pane-hushed p is true q = added-never _ w.actions q
      pane-hushed p is false q = (
        refl,
        subst (λ (ns : List Node). Silent w.state (state ns (set w.state.claimed i.slot true) (w.state.panes ++ p ∷ [])))
            (ap (set w.state.nodes i.slot) (sym is) ∙ set-get_or w.state.nodes i.slot empty)
            (written-silent w.state (state w.state.nodes (set w.state.claimed i.slot true) (w.state.panes ++ p ∷ [])) good i h e (pane p) (ap plain_node (sym is)) good.1 (λ j d. d) (silent-refl (claimed w.state w.state good i h e))),
      )

      node-hushed : (n : Node) → node_at w.state.nodes i ≡ n → (by_node n again i w).work.actions ≡ [] → ((by_node n again i w).kept ≡ some i) × Silent w.state (by_node n again i w).work.state
      node-hushed empty is q = added-never _ w.actions q
      node-hushed (pane p) is q = pane-hushed p is (contains p w.state.panes) q
      node-hushed (tabs b a ps) is q = group-hushed b a ps is q
      node-hushed (split a cs ss ms) is q = split-hushed a cs ss ms is q

    tile-hushed : (tile_step again i w).work.actions ≡ [] → ((tile_step again i w).kept ≡ some i) × Silent w.state (tile_step again i w).work.state
    unfolding tile_step
    tile-hushed q = go (leb 64 i.slot) refl q
      where
        claimed' : (b : Bool) → i.slot < 64 → get_or w.state.claimed i.slot false ≡ b → (by_claimed b again i w).work.actions ≡ []
            → ((by_claimed b again i w).kept ≡ some i) × Silent w.state (by_claimed b again i w).work.state
        claimed' true h e q' = added-never _ w.actions q'
        claimed' false h e q' = node-hushed h e (node_at w.state.nodes i) refl q'

        go : (b : Bool) → leb 64 i.slot ≡ b → (by_range b again i w).work.actions ≡ [] → ((by_range b again i w).kept ≡ some i) × Silent w.state (by_range b again i w).work.state
        go true z q' = added-never _ w.actions q'
        go false z q' = claimed' (get_or w.state.claimed i.slot false) (leb-false 64 i.slot z) refl q'

pub walk-hushed : (f : ℕ) → Hushed (normalize_node f)
unfolding normalize_node
walk-hushed zero i w good q = added-never _ w.actions q
walk-hushed (suc f) i w good q = tile-hushed (normalize_node f) (tile-keeps f) (walk-grows f) (walk-hushed f) i w good q

-- ---- the whole

-- a sweep that lists nothing found every occupied slot reached
pub sweep-grows : (xs : List TileId) (ns : List Node) (k : ℕ) (l : List RepairAction) → sweep_actions k xs ns l ≡ [] → l ≡ []
unfolding sweep_actions
sweep-grows xs [] k l e = e
sweep-grows xs (n ∷ ns) k l e = go (is_reached k xs || is_empty n) (sweep-grows xs ns (suc k)) e
  where
    go : (b : Bool) → ((m : List RepairAction) → sweep_actions (suc k) xs ns m ≡ [] → m ≡ []) → sweep_actions (suc k) xs ns (sweep_note b k l) ≡ [] → l ≡ []
    go true ih q = ih l q
    go false ih q = added-never _ l (ih (added (RemovedInvalidNode (tile k)) l) q)

pub sweep-reached : (xs : List TileId) (ns : List Node) (k : ℕ) (l : List RepairAction) → sweep_actions k xs ns l ≡ [] → (j : ℕ) → (is_reached (k + j) xs || is_empty (get_or ns j empty)) ≡ true
unfolding sweep_actions
sweep-reached xs [] k l e j = or-true (is_reached (k + j) xs)
  where
    or-true : (b : Bool) → (b || true) ≡ true
    or-true true = refl
    or-true false = refl
sweep-reached xs (n ∷ ns) k l e zero = ap (λ (m : ℕ). is_reached m xs || is_empty n) (let q : k + 0 ≡ k = omega arith in q) ∙ go (is_reached k xs || is_empty n) refl e
  where
    go : (b : Bool) → (is_reached k xs || is_empty n) ≡ b → sweep_actions (suc k) xs ns (sweep_note b k l) ≡ [] → (is_reached k xs || is_empty n) ≡ true
    go true z q = z
    go false z q = added-never _ l (sweep-grows xs ns (suc k) (added (RemovedInvalidNode (tile k)) l) q)
sweep-reached xs (n ∷ ns) k l e (suc j) =
    ap (λ (m : ℕ). is_reached m xs || is_empty (get_or ns j empty)) (let q : k + suc j ≡ suc k + j = omega arith in q) ∙ sweep-reached xs ns (suc k) (sweep_note (is_reached k xs || is_empty n) k l) e j
