-- The walk that only reads goes along with repair's: it ends early exactly where repair notes an action. By induction on the fuel. Assumes nothing.
use Rattle.std.specs.Prelude.{◌≡◌, ◌≢◌, Bool, ◌||◌, cond, ℕ, zero, suc, leb, ltb, eqb, length, Float}
use Rattle.std.proofs.Math.Path.{refl}
use Rattle.std.proofs.Common.{sym, ap, subst, ◌∙◌, arith, leb-false, ltb-true, ltb-false, eqb-true, leb-true, eq-eqb, length-set}
use Rattle.std.proofs.Math.Bool.{true, false, not}
use mathlib.Core.List.{List, [], ◌∷◌, ◌++◌}
use Rattle.std.proofs.Math.Option.{Option, none, some}
use Rattle.std.proofs.Math.ListN.{get_or, get_elem?}
use Rattle.rules.specs.Lists.{contains}
use Rattle.rules.specs.Shares.{repaired_shares, eq_reals}
use Rattle.rules.specs.Minima.{aligned_constraints, compact_constraints}
use Rattle.rules.specs.Tree.{Node, empty, pane, tabs, split, node_at}
use Rattle.rules.specs.Repair.{added_if, State, Work, Out, claim, pane_by, Sifted, sifted, sift_by, retain, active_of, group_left, group_step, Entry, entries, Run, run, melts, place_by, place, place_out, kids_from, shares_of, split_left, split_noted, split_step, by_node, by_claimed, by_range, tile_step, normalize_node}
use Rattle.rules.specs.declared.model.TileId.{TileId}
use Rattle.rules.specs.declared.model.Axis.{Axis}
use Rattle.rules.specs.declared.model.TabBarPlacement.{TabBarPlacement}
use Rattle.rules.specs.declared.model.RepairAction.TheVariants.{RepairedActiveTab, RepairedShares, RepairedConstraints}
use Rattle.forest.specs.Lists.{All, Distinct, never, all_map, all_left, all_right, contains-false, false-contains, set_back}
use Rattle.forest.specs.Lengths.{aligned-length}
use Rattle.forest.specs.Equal.{shares-kept}
use Rattle.forest.specs.Codec.{Least, start-least, long-children, entries-children, entries-shares}
use Rattle.forest.specs.Grow.{Good, Works, good-after, kid-keeps, tile-keeps, active-lt}
use Rattle.forest.specs.Again.{active-same}
use Rattle.forest.specs.Quiet.{plain_node, passed, added-never, added_if-none, Keeping, Mono, Silent, Hushed, retain-grows, group-grows, place-grows, split-grows, kids-grow, noted-none, walk-grows, retain-hushed, kids-hushed, walk-hushed}
use Rattle.calm.specs.Calm.{Look, look, taking, calm_panes, seeing, calm_group, unmelted, calm_kids, calm_split, calm_node, calm_tile, calm}

-- nothing was noted, and these are claimed and seen; or something was noted
abbrev pub Tracks : Option Look → Work → Type 0
Tracks none w = w.actions ≡ [] → ⊥
Tracks (some l) w = (w.actions ≡ []) × (w.state.claimed ≡ l.claimed) × (w.state.panes ≡ l.panes)

abbrev pub look_of : State → Look
look_of s = look s.claimed s.panes

-- ---- panes

abbrev Sees : Option (List ℕ) → Work → Type 0
Sees none w = w.actions ≡ [] → ⊥
Sees (some ps) w = (w.actions ≡ []) × (w.state.panes ≡ ps)

retain-sees : (i : TileId) (ps : List ℕ) (s : Sifted) → s.left.actions ≡ [] → Sees (calm_panes ps s.left.state.panes) (retain i ps s).left
unfolding calm_panes retain
retain-sees i [] s e = (e, refl)
retain-sees i (p ∷ ps) s e = go (contains p s.left.state.panes) (retain-sees i ps)
  where
    go : (b : Bool) → ((t : Sifted) → t.left.actions ≡ [] → Sees (calm_panes ps t.left.state.panes) (retain i ps t).left)
        → Sees (cond b none (calm_panes ps (s.left.state.panes ++ p ∷ []))) (retain i ps (sift_by b i p s)).left
    go true ih = λ q. added-never _ s.left.actions (retain-grows i ps (sift_by true i p s) q)
    go false ih = ih (sift_by false i p s) e

-- panes that are all new are distinct
calm-apart : (ps seen qs : List ℕ) → calm_panes ps seen ≡ some qs → All (λ p. contains p seen ≡ false) ps × Distinct ps
unfolding calm_panes
calm-apart [] seen qs e = (tt, tt)
calm-apart (p ∷ ps) seen qs e = go (contains p seen) refl (calm-apart ps (seen ++ p ∷ []) qs) e
  where
    nothing : {A : Type 0} → none ≡ some qs → A
    nothing z = absurd (let w : ◌≡◌ {A = ℕ} 0 1 = cc in omega arith)

    go : (b : Bool) → contains p seen ≡ b → (calm_panes ps (seen ++ p ∷ []) ≡ some qs → All (λ y. contains y (seen ++ p ∷ []) ≡ false) ps × Distinct ps)
        → cond b none (calm_panes ps (seen ++ p ∷ [])) ≡ some qs → All (λ y. contains y seen ≡ false) (p ∷ ps) × Distinct (p ∷ ps)
    go true z ih q = nothing q
    go false z ih q =
        let (out, apart) = ih q in (
          (z, all_map (λ y h. false-contains y seen (all_left (λ z. y ≢ z) seen (p ∷ []) (contains-false y (seen ++ p ∷ []) h))) ps out),
          (all_map (λ y h. (all_right (λ z. y ≢ z) seen (p ∷ []) (contains-false y (seen ++ p ∷ []) h)).0) ps out, apart),
        )

-- ---- a group

module _ (i : TileId) (b : TabBarPlacement) (a : ℕ) (ps : List ℕ) where
  -- every pane was kept: the active one is in its place exactly where the index is in range
  left-tracks : (qs : List ℕ) → qs ≡ ps → Distinct ps → (w : Work) → w.actions ≡ [] → (c : Bool) → ltb a (length ps) ≡ c
      → Tracks (cond c (some (look_of w.state)) none) (group_left i b a ps qs w).work
  left-tracks [] p d w e true z = absurd (omega (arith, ltb-true a (length ps) z, ap length p))
  left-tracks [] p d w e false z = λ q. added-never _ w.actions q
  left-tracks (x ∷ xs) p d w e true z =
      let same : active_of (get_elem? ps a) (x ∷ xs) ≡ a = ap (active_of (get_elem? ps a)) p ∙ active-same ps a (ltb-true a (length ps) z) d in (
        ap (λ (c : Bool). added_if (not c) (RepairedActiveTab i) w.actions) (eq-eqb a (active_of (get_elem? ps a) (x ∷ xs)) (sym same)) ∙ e,
        refl,
        refl,
      )
  left-tracks (x ∷ xs) p d w e false z =
      λ q.
      let new = active_of (get_elem? ps a) (x ∷ xs) in
      let is : a ≡ new = eqb-true a new (not-not (eqb a new) (added_if-none (not (eqb a new)) (RepairedActiveTab i) w.actions q).0) in
      absurd (omega (arith, ltb-false a (length ps) z, is, active-lt (get_elem? ps a) x xs, ap length p))
    where
      not-not : (c : Bool) → not c ≡ false → c ≡ true
      not-not true z = refl
      not-not false z = never z

  group-tracks : (w : Work) → w.actions ≡ [] → Tracks (calm_group a ps (look_of w.state)) (group_step i b a ps w).work
  unfolding group_step
  group-tracks w e = go (calm_panes ps w.state.panes) refl (retain-sees i ps (sifted [] w) e)
    where
      s : Sifted
      s = retain i ps (sifted [] w)

      noisy : (c : Bool) → (s.left.actions ≡ [] → ⊥) → Tracks (cond c none none) (group_left i b a ps s.list s.left).work
      noisy true n = λ q. n (group-grows i b a ps s.list s.left q)
      noisy false n = λ q. n (group-grows i b a ps s.list s.left q)

      go : (o : Option (List ℕ)) → calm_panes ps w.state.panes ≡ o → Sees o s.left → Tracks (cond (ltb a (length ps)) (seeing w.state.claimed o) none) (group_left i b a ps s.list s.left).work
      go none z n = noisy (ltb a (length ps)) n
      go (some qs) z (quiet, panes) =
          let (list, _, flags) = retain-hushed i ps (sifted [] w) quiet in
          subst (λ (l : Look). Tracks (cond (ltb a (length ps)) (some l) none) (group_left i b a ps s.list s.left).work) (λ k. look (flags k) (panes k))
          (left-tracks s.list list (calm-apart ps w.state.panes qs z).1 s.left quiet (ltb a (length ps)) refl)

-- ---- what has been read of the slots given

module _ (ns : List Node) where
  -- what is not claimed is as it was given, and what is claimed would be melted as it was given
  abbrev pub Shown : State → Type 0
  Shown s = (j : ℕ) → (get_or s.claimed j false ≡ false → get_or s.nodes j empty ≡ get_or ns j empty) × ((a : Axis) (m : Float) → melts a m (get_or s.nodes j empty) ≡ melts a m (get_or ns j empty))

  plain-melts : (a : Axis) (m : Float) (n : Node) → melts a m (plain_node n) ≡ melts a m n
  plain-melts a m empty = refl
  plain-melts a m (pane q) = refl
  plain-melts a m (tabs b x ps) = refl
  plain-melts a m (split b cs ss ms) = refl

  pub shown-after : (w v : State) → Mono w v → Shown w → Silent w v → Shown v
  shown-after w v m p q j = go (get_or w.claimed j false) (get_or v.claimed j false) refl refl (q j)
    where
      go : (b c : Bool) → get_or w.claimed j false ≡ b → get_or v.claimed j false ≡ c → get_or v.nodes j empty ≡ passed b c (get_or w.nodes j empty)
          → (get_or v.claimed j false ≡ false → get_or v.nodes j empty ≡ get_or ns j empty) × ((a : Axis) (x : Float) → melts a x (get_or v.nodes j empty) ≡ melts a x (get_or ns j empty))
      go false false x y h = (λ z. h ∙ (p j).0 x, λ a f. ap (melts a f) h ∙ (p j).1 a f)
      go false true x y h = (λ z. never (sym y ∙ z), λ a f. ap (melts a f) h ∙ plain-melts a f (get_or w.nodes j empty) ∙ (p j).1 a f)
      go true c x y h = (λ z. never (sym (m j x) ∙ z), λ a f. ap (melts a f) h ∙ (p j).1 a f)

  shown-claim : (i : TileId) (w : Work) → Shown w.state → Shown (claim i w).state
  shown-claim i w p j = (λ z. (p j).0 (set_back w.state.claimed i.slot j z), (p j).1)

  abbrev Follows : (TileId → Look → Option Look) → (TileId → Work → Out) → Type 0
  Follows calms again = (i : TileId) (w : Work) → Good w.state → Shown w.state → w.actions ≡ [] → Tracks (calms i (look_of w.state)) (again i w).work

  module _ (calms : TileId → Look → Option Look) (again : TileId → Work → Out) (g : Works again) (k : Keeping again) (hush : Hushed again) (follow : Follows calms again) where
    kids-none : (a : Axis) (es : List Entry) → calm_kids calms ns a es none ≡ none
    unfolding calm_kids
    kids-none a [] = refl
    kids-none a (e ∷ es) = kids-none a es

    mono : (i : TileId) (w : Work) → Good w.state → Mono w.state (again i w).work.state
    mono i w good j e = let (_, _, G) = g i w good in (G.keep j e).0

    -- a child that was kept: it is placed, or melted in
    module _ (a : Axis) (x : Entry) (es : List Entry) (r : Run) (good : Good r.left.state) (sh : Shown r.left.state) (le : All Least (x ∷ es)) where
      abbrev o : Out
      o = again x.child r.left

      abbrev t : Run
      t = place_out a x r o

      -- something was noted, and nothing undoes it
      loud : (t.left.actions ≡ [] → ⊥) → Tracks (calm_kids calms ns a es none) (kids_from again a es t).left
      loud n = subst (λ (z : Option Look). Tracks z (kids_from again a es t).left) (sym (kids-none a es)) (λ q. n (kids-grow again k a es t q))

      module _ (l : Look) (quiet : o.work.actions ≡ []) (flags : o.work.state.claimed ≡ l.claimed) (panes : o.work.state.panes ≡ l.panes) where
        hushed : (o.kept ≡ some x.child) × Silent r.left.state o.work.state
        hushed = hush x.child r.left good quiet

        after : Shown o.work.state
        after = shown-after r.left.state o.work.state (mono x.child r.left good) sh hushed.1

        placed : (c : Bool) → melts a x.minimum (node_at ns x.child) ≡ c → t ≡ place_by c x x.child (node_at o.work.state.nodes x.child) r o.work
        placed c z =
            ap (λ (y : Option TileId). place a x y r o.work) hushed.0
            ∙ ap (λ (d : Bool). place_by d x x.child (node_at o.work.state.nodes x.child) r o.work) ((after x.child.slot).1 a x.minimum ∙ z)

        kept-track : ((u : Run) → Good u.left.state → Shown u.left.state → u.left.actions ≡ [] → Tracks (calm_kids calms ns a es (some (look_of u.left.state))) (kids_from again a es u).left)
            → (c : Bool) → melts a x.minimum (node_at ns x.child) ≡ c → Tracks (calm_kids calms ns a es (cond c none (some l))) (kids_from again a es t).left
        kept-track ih true z = loud (λ q. added-never _ o.work.actions (subst (λ (u : Run). u.left.actions ≡ []) (placed true z) q))
        kept-track ih false z =
            let u = place_by false x x.child (node_at o.work.state.nodes x.child) r o.work in
            let (f, _, B, _) = kid-keeps again g a x r good le.0 in
            let fine : Good u.left.state = subst (λ (v : Run). Good v.left.state) (placed false z) (good-after r.left.state t.left.state f good B) in
            subst (λ (v : Run). Tracks (calm_kids calms ns a es (some l)) (kids_from again a es v).left) (sym (placed false z))
            (subst (λ (m : Look). Tracks (calm_kids calms ns a es (some m)) (kids_from again a es u).left) (λ y. look (flags y) (panes y)) (ih u fine after quiet))

      child-track : ((u : Run) → Good u.left.state → Shown u.left.state → u.left.actions ≡ [] → Tracks (calm_kids calms ns a es (some (look_of u.left.state))) (kids_from again a es u).left)
          → (m : Option Look) → Tracks m o.work → Tracks (calm_kids calms ns a es (unmelted ns a x m)) (kids_from again a es t).left
      child-track ih none n = loud (λ q. n (place-grows a x o.kept r o.work q))
      child-track ih (some l) (quiet, flags, panes) = kept-track l quiet flags panes ih (melts a x.minimum (node_at ns x.child)) refl

    kids-track : (a : Axis) (es : List Entry) (r : Run) → Good r.left.state → Shown r.left.state → All Least es → r.left.actions ≡ []
        → Tracks (calm_kids calms ns a es (some (look_of r.left.state))) (kids_from again a es r).left
    unfolding calm_kids kids_from
    kids-track a [] r good sh le e = (e, refl, refl)
    kids-track a (x ∷ es) r good sh le e =
        child-track a x es r good sh le (λ u good' sh' e'. kids-track a es u good' sh' le.1 e') (calms x.child (look_of r.left.state)) (follow x.child r.left good sh e)

    -- ---- a split

    module _ (i : TileId) (a : Axis) (cs : List TileId) (ss ms : List Float) (w : Work) (good : Good w.state) (sh : Shown w.state) (e : w.actions ≡ []) where
      abbrev old : List Float
      old = repaired_shares (length cs) ss

      abbrev mins : List Float
      mins = aligned_constraints (length cs) ms

      abbrev es : List Entry
      es = entries cs old mins

      abbrev u : Work
      u = split_noted i ss ms old mins w

      abbrev v : Run
      v = kids_from again a es (run [] false u)

      abbrev end : Work
      end = (split_left i a ss v.list v).work

      -- what is noted before the children is noted at the end
      early : (u.actions ≡ [] → ⊥) → end.actions ≡ [] → ⊥
      early n q = n (kids-grow again k a es (run [] false u) (split-grows i a ss v.list v q))

      module _ (b1 : eq_reals old ss ≡ true) (b2 : eq_reals (compact_constraints mins) ms ≡ true) where
        quiet : u.actions ≡ []
        quiet =
            ap (λ (c : Bool). added_if (not c) (RepairedShares i) (added_if (not (eq_reals (compact_constraints mins) ms)) (RepairedConstraints i) w.actions)) b1
            ∙ ap (λ (c : Bool). added_if (not c) (RepairedConstraints i) w.actions) b2 ∙ e

        lo : length old ≡ length cs
        lo = let (l, o) = shares-kept (length cs) ss b1 in ap length o ∙ l

        long : length es ≡ length cs
        long = sym (long-children es) ∙ ap length (entries-children cs old mins lo (aligned-length (length cs) ms))

        -- the children were all kept: the split stays where they are two or more
        stays : (xs : List Entry) → v.list ≡ xs → xs ≡ es → v.moved ≡ false → v.left.actions ≡ [] → (c : Bool) → leb 2 (length cs) ≡ c
            → Tracks (cond c (some (look_of v.left.state)) none) (split_left i a ss xs v).work
        stays [] p q m n true z = absurd (omega (arith, leb-true 2 (length cs) z, long, ap length q))
        stays [] p q m n false z = λ h. added-never _ v.left.actions h
        stays (x ∷ []) p q m n true z = absurd (omega (arith, leb-true 2 (length cs) z, long, ap length q))
        stays (x ∷ []) p q m n false z = λ h. added-never _ v.left.actions h
        stays (x ∷ y ∷ zs) p q m n false z = absurd (omega (arith, leb-false 2 (length cs) z, long, ap length q))
        stays (x ∷ y ∷ zs) p q m n true z =
            let now : repaired_shares (length (x ∷ y ∷ zs)) (shares_of (x ∷ y ∷ zs)) ≡ old =
            (λ h. repaired_shares ((ap length q ∙ long) h) ((ap shares_of q ∙ entries-shares cs old mins lo (aligned-length (length cs) ms) ∙ (shares-kept (length cs) ss b1).1) h)) in (
              ap (λ (c : Bool). added_if (c || not (eq_reals (repaired_shares (length (x ∷ y ∷ zs)) (shares_of (x ∷ y ∷ zs))) ss)) (RepairedShares i) v.left.actions) m
                  ∙ ap (λ (c : Bool). added_if (not c) (RepairedShares i) v.left.actions) (ap (λ (l : List Float). eq_reals l ss) now ∙ b1) ∙ n,
              refl,
              refl,
            )

        later : (o : Option Look) → Tracks o v.left → Tracks (cond (leb 2 (length cs)) o none) end
        later none n = by (leb 2 (length cs))
          where
            by : (c : Bool) → Tracks (cond c none none) end
            by true = λ q. n (split-grows i a ss v.list v q)
            by false = λ q. n (split-grows i a ss v.list v q)
        later (some l) (silent, flags, panes) =
            let (list, moved, _, _, _) = kids-hushed again g k hush a es (run [] false u) good (start-least cs old ms (length cs)) silent in
            subst (λ (m : Look). Tracks (cond (leb 2 (length cs)) (some m) none) end) (λ y. look (flags y) (panes y)) (stays v.list refl list moved silent (leb 2 (length cs)) refl)

      split-track : Tracks (calm_split calms ns a cs ss ms (look_of w.state)) (split_step again i a cs ss ms w).work
      unfolding split_step
      split-track = first (eq_reals old ss) refl (eq_reals (compact_constraints mins) ms) refl
        where
          never-quiet : (c : Bool) → c ≡ false → c ≡ true → ⊥
          never-quiet c p q = never (sym q ∙ p)

          first : (b1 : Bool) → eq_reals old ss ≡ b1 → (b2 : Bool) → eq_reals (compact_constraints mins) ms ≡ b2
              → Tracks (cond b1 (cond b2 (cond (leb 2 (length cs)) (calm_kids calms ns a es (some (look_of w.state))) none) none) none) end
          first false p b2 q = early (λ h. never-quiet (eq_reals old ss) p (noted-none again k i ss ms old mins w h).0)
          first true p false q = early (λ h. never-quiet (eq_reals (compact_constraints mins) ms) q (noted-none again k i ss ms old mins w h).1)
          first true p true q = later p q (calm_kids calms ns a es (some (look_of w.state))) (kids-track a es (run [] false u) good sh (start-least cs old ms (length cs)) (quiet p q))

    -- ---- a tile

    module _ (i : TileId) (w : Work) (good : Good w.state) (sh : Shown w.state) (e : w.actions ≡ []) where
      pane-track : (p : ℕ) (b : Bool) → Tracks (seeing (claim i w).state.claimed (cond b none (some (w.state.panes ++ p ∷ [])))) (pane_by b i p (claim i w)).work
      pane-track p true = λ q. added-never _ w.actions q
      pane-track p false = (e, refl, refl)

      claim-good : Good (claim i w).state
      claim-good = (length-set w.state.claimed i.slot true ∙ good.0, good.1)

      node-track : (n : Node) → (Shown (claim i w).state) → Tracks (calm_node n calms ns (taking i (look_of w.state))) (by_node n again i w).work
      unfolding calm_panes
      node-track empty c = λ q. added-never _ w.actions q
      node-track (pane p) c = pane-track p (contains p w.state.panes)
      node-track (tabs b a ps) c = group-tracks i b a ps (claim i w) e
      node-track (split a cs ss ms) c = split-track i a cs ss ms (claim i w) claim-good c e

    tile-track : (i : TileId) (w : Work) → Good w.state → Shown w.state → w.actions ≡ [] → Tracks (calm_tile calms ns i (look_of w.state)) (tile_step again i w).work
    unfolding calm_tile tile_step
    tile-track i w good sh e = range (leb 64 i.slot)
      where
        -- a slot that is not claimed reads as it was given, and a claim writes nothing
        node-is : get_or w.state.claimed i.slot false ≡ false → node_at w.state.nodes i ≡ node_at ns i
        node-is z = (sh i.slot).0 z

        claimed : (b : Bool) → get_or w.state.claimed i.slot false ≡ b → Tracks (cond b none (calm_node (node_at ns i) calms ns (taking i (look_of w.state)))) (by_claimed b again i w).work
        claimed true z = λ q. added-never _ w.actions q
        claimed false z = subst (λ (n : Node). Tracks (calm_node n calms ns (taking i (look_of w.state))) (by_node (node_at w.state.nodes i) again i w).work) (node-is z) (node-track i w good sh e (node_at w.state.nodes i) (shown-claim i w sh))

        range : (b : Bool) → Tracks (cond b none (cond (get_or w.state.claimed i.slot false) none (calm_node (node_at ns i) calms ns (taking i (look_of w.state))))) (by_range b again i w).work
        range true = λ q. added-never _ w.actions q
        range false = claimed (get_or w.state.claimed i.slot false) refl

pub walk-tracks : (ns : List Node) (f : ℕ) (i : TileId) (w : Work) → Good w.state → Shown ns w.state → w.actions ≡ [] → Tracks (calm f ns i (look_of w.state)) (normalize_node f i w).work
unfolding calm normalize_node
walk-tracks ns zero i w good sh e = λ q. added-never _ w.actions q
walk-tracks ns (suc f) i w good sh e = tile-track ns (calm f ns) (normalize_node f) (tile-keeps f) (walk-grows f) (walk-hushed f) (walk-tracks ns f) i w good sh e
