-- What a walk of the repair gets to: of every slot that it claims the panes are seen, and the children claimed, where they are there to be claimed; and
-- every pane that is seen stands in a slot as given. By induction on the fuel, for any arena. Assumes nothing.
use Rattle.std.specs.Prelude.{◌≡◌, ◌⊎◌, Bool, ◌||◌, leb, eqb, length}
use Rattle.std.proofs.Math.Path.{refl, ap, subst}
use Rattle.std.proofs.Common.{sym, ◌∙◌, inr, arith, leb-false, leb-true, eqb-true, length-set, get_or-set_same, get_or-set_other}
use Rattle.std.proofs.Math.Logic.{inl}
use Rattle.std.proofs.Math.Bool.{true, false}
use mathlib.Core.List.{List, [], ◌∷◌, ◌++◌}
use Prim.Native.Nat.{ℕ, zero, suc, ◌≤◌, ◌<◌}
use Rattle.std.proofs.Math.Decide.{ℕ_discrete}
use Rattle.std.proofs.Math.ListN.{get_or, set}
use Rattle.rules.specs.Lists.{any_of, contains}
use Rattle.rules.specs.Tree.{Node, empty, pane, tabs, split, node_at, is_empty, kids_of, panes_of, Member}
use Rattle.rules.specs.Shares.{repaired_shares}
use Rattle.rules.specs.Minima.{aligned_constraints}
use Rattle.rules.specs.Repair.{State, Work, Out, state, claim, pane_by, Sifted, sifted, sift_by, retain, group_left, group_step, Entry, entries, Run, run, place_out, kids_from, children_of, split_done, split_noted, split_step, by_node, by_claimed, by_range, tile_step, normalize_node}
use Rattle.rules.specs.declared.model.TileId.{TileId}
use Rattle.rules.specs.declared.model.Axis.{Axis}
use Rattle.forest.specs.Lists.{All, never, all_map, all-member, member-all, member-left, member_right, member-cases, free, free-set, set-mono, set_back}
use Rattle.forest.specs.Lengths.{repaired-length, aligned-length}
use Rattle.forest.specs.Codec.{Least, start-least, entries-children}
use Rattle.forest.specs.Forest.{Forest, Same}
use Rattle.forest.specs.Grow.{Good, Grown, Works, back, good-after, retained, kid-keeps, tile-keeps}
use Rattle.forest.specs.Kept.{Alike, place-alike, split-alike, group-alike}

-- ---- what is told of a walk over the slots ns

-- the tile is claimed, if it is there to be claimed
abbrev pub Met : List Node → List Bool → TileId → Type 0
Met ns cs i = i.slot < 64 → is_empty (node_at ns i) ≡ false → get_or cs i.slot false ≡ true

-- some slot shows the pane, one of those that are reached
abbrev pub Stood : List Node → (ℕ → Type 0) → ℕ → Type 0
Stood ns R p = (j : ℕ) × R j × Member p (panes_of (get_or ns j empty))

-- the claims cs grew to ds, and the panes seen are qs
pub record Closed (ns : List Node) (R : ℕ → Type 0) (cs ds : List Bool) (qs : List ℕ) : Type 0 where
  pub mono : (j : ℕ) → get_or cs j false ≡ true → get_or ds j false ≡ true
  pub shows : (j : ℕ) → get_or ds j false ≡ true → (p : ℕ) → Member p (panes_of (get_or ns j empty)) → Member p qs
  pub stood : (p : ℕ) → Member p qs → Stood ns R p
  pub kids : (j : ℕ) → get_or cs j false ≡ false → get_or ds j false ≡ true → (k : TileId) → Member k (kids_of (get_or ns j empty)) → Met ns ds k

-- where a tile's walk begins: slots that are not claimed are as given
pub record Fair (ns : List Node) (R : ℕ → Type 0) (w : State) : Type 0 where
  pub good : Good w
  pub agrees : (j : ℕ) → get_or w.claimed j false ≡ false → Same ns w.nodes j
  pub shows : (j : ℕ) → get_or w.claimed j false ≡ true → (p : ℕ) → Member p (panes_of (get_or ns j empty)) → Member p w.panes
  pub stood : (p : ℕ) → Member p w.panes → Stood ns R p

module _ (ns : List Node) (R : ℕ → Type 0) where
  abbrev Ends : State → State → Type 0
  Ends w v = Closed ns R w.claimed v.claimed v.panes

  closed_none : (w : State) → Fair ns R w → Ends w w
  closed_none w F = record { mono = λ j t. t; shows = F.shows; stood = F.stood; kids = λ j o t k m. never (sym t ∙ o) }

  fair-after : (w v : State) (f : Forest) → Fair ns R w → Grown w v f → Ends w v → Fair ns R v
  fair-after w v f F G C =
      record { good = good-after w v f F.good G; agrees = λ j q. G.still j q ∙ F.agrees j (back w v f G j q); shows = C.shows; stood = C.stood }

  ends-alike : (w v u : State) → Alike v u → Ends w v → Ends w u
  ends-alike w v u a C =
      subst (λ (ds : List Bool). Closed ns R w.claimed ds u.panes) (sym a.0) (subst (Closed ns R w.claimed v.claimed) (sym a.1) C)

  met-mono : (cs ds : List Bool) → ((j : ℕ) → get_or cs j false ≡ true → get_or ds j false ≡ true) → (i : TileId) → Met ns cs i → Met ns ds i
  met-mono cs ds f i m h o = f i.slot (m h o)

  ends-chain : (w v u : State) → Ends w v → Ends v u → Ends w u
  ends-chain w v u A B =
      record { mono = λ j t. B.mono j (A.mono j t); shows = B.shows; stood = B.stood; kids = λ j o t k m. go j o t k m (get_or v.claimed j false) refl }
    where
      go : (j : ℕ) → get_or w.claimed j false ≡ false → get_or u.claimed j false ≡ true → (k : TileId) → Member k (kids_of (get_or ns j empty)) → (b : Bool) → get_or v.claimed j false ≡ b → Met ns u.claimed k
      go j o t k m true q = met-mono v.claimed u.claimed B.mono k (A.kids j o q k m)
      go j o t k m false q = B.kids j q t k m

-- ---- panes of a group: each is seen, and no other

contains-true : (x : ℕ) (xs : List ℕ) → contains x xs ≡ true → Member x xs
unfolding any_of
contains-true x [] e = never (sym e)
contains-true x (y ∷ ys) e = go (eqb x y) refl (λ k. contains-true x ys k) e
  where
    go : (b : Bool) → eqb x y ≡ b → (contains x ys ≡ true → Member x ys) → (b || contains x ys) ≡ true → Member x (y ∷ ys)
    go true q r e' = inl (eqb-true x y q)
    go false q r e' = inr (r e')

sift-sees : (i : TileId) (ps : List ℕ) (s : Sifted) (p : ℕ) → Member p ps ⊎ Member p s.left.state.panes → Member p (retain i ps s).left.state.panes
unfolding retain
sift-sees i [] s p (inl m) = absurd m
sift-sees i [] s p (inr m) = m
sift-sees i (q ∷ ps) s p m = go (contains q s.left.state.panes) refl m (λ t n. sift-sees i ps t p n)
  where
    go : (b : Bool) → contains q s.left.state.panes ≡ b → Member p (q ∷ ps) ⊎ Member p s.left.state.panes
        → ((t : Sifted) → Member p ps ⊎ Member p t.left.state.panes → Member p (retain i ps t).left.state.panes) → Member p (retain i ps (sift_by b i q s)).left.state.panes
    go true e (inl (inl k)) ih = ih (sift_by true i q s) (inr (subst (λ (x : ℕ). Member x s.left.state.panes) (sym k) (contains-true q s.left.state.panes e)))
    go true e (inl (inr n)) ih = ih (sift_by true i q s) (inl n)
    go true e (inr n) ih = ih (sift_by true i q s) (inr n)
    go false e (inl (inl k)) ih = ih (sift_by false i q s) (inr (member_right p s.left.state.panes (q ∷ []) (inl k)))
    go false e (inl (inr n)) ih = ih (sift_by false i q s) (inl n)
    go false e (inr n) ih = ih (sift_by false i q s) (inr (member-left p s.left.state.panes (q ∷ []) n))

sift-from : (i : TileId) (ps : List ℕ) (s : Sifted) (p : ℕ) → Member p (retain i ps s).left.state.panes → Member p s.left.state.panes ⊎ Member p ps
unfolding retain
sift-from i [] s p m = inl m
sift-from i (q ∷ ps) s p m = go (contains q s.left.state.panes) (λ t n. sift-from i ps t p n) m
  where
    more : Member p s.left.state.panes ⊎ Member p ps → Member p s.left.state.panes ⊎ Member p (q ∷ ps)
    more (inl n) = inl n
    more (inr n) = inr (inr n)

    last : Member p s.left.state.panes ⊎ Member p (q ∷ []) → Member p s.left.state.panes ⊎ Member p (q ∷ ps)
    last (inl n) = inl n
    last (inr (inl k)) = inr (inl k)
    last (inr (inr n)) = absurd n

    one : Member p (s.left.state.panes ++ q ∷ []) ⊎ Member p ps → Member p s.left.state.panes ⊎ Member p (q ∷ ps)
    one (inl n) = last (member-cases p s.left.state.panes (q ∷ []) n)
    one (inr n) = inr (inr n)

    go : (b : Bool) → ((t : Sifted) → Member p (retain i ps t).left.state.panes → Member p t.left.state.panes ⊎ Member p ps)
        → Member p (retain i ps (sift_by b i q s)).left.state.panes → Member p s.left.state.panes ⊎ Member p (q ∷ ps)
    go true ih n = more (ih (sift_by true i q s) n)
    go false ih n = one (ih (sift_by false i q s) n)

-- ---- a tile that is claimed

module _ (ns : List Node) (R : ℕ → Type 0) (w : State) (F : Fair ns R w) (i : TileId) (h : i.slot < 64) (e : get_or w.claimed i.slot false ≡ false) where
  abbrev claims : List Bool
  claims = set w.claimed i.slot true

  claim-set : get_or claims i.slot false ≡ true
  claim-set = get_or-set_same w.claimed i.slot true false (omega (arith, F.good.0))

  -- claimed now: the tile itself, or claimed before
  claim-cases : (j : ℕ) → get_or claims j false ≡ true → (j ≡ i.slot) ⊎ (get_or w.claimed j false ≡ true)
  claim-cases j t = go (ℕ_discrete j i.slot)
    where
      go : Dec (j ≡ i.slot) → (j ≡ i.slot) ⊎ (get_or w.claimed j false ≡ true)
      go (yes q) = inl q
      go (no q) = inr (sym (get_or-set_other w.claimed i.slot j true false q) ∙ t)

  module _ (n : Node) (is : node_at ns i ≡ n) where
    -- a leaf: the panes seen are now qs, its own among them
    leaf-closed : R i.slot → (qs : List ℕ) → ((p : ℕ) → Member p w.panes → Member p qs) → ((p : ℕ) → Member p (panes_of n) → Member p qs)
        → ((p : ℕ) → Member p qs → Member p w.panes ⊎ Member p (panes_of n)) → kids_of n ≡ [] → Closed ns R w.claimed claims qs
    leaf-closed at qs old own from none =
        record {
          mono = λ j t. set-mono w.claimed i.slot j t;
          shows = λ j t p m. seen j p m (claim-cases j t);
          stood = λ p m. stands p (from p m);
          kids = λ j o t k m. under j o k m (claim-cases j t);
        }
      where
        seen : (j p : ℕ) → Member p (panes_of (get_or ns j empty)) → (j ≡ i.slot) ⊎ (get_or w.claimed j false ≡ true) → Member p qs
        seen j p m (inl q) = own p (subst (λ (x : Node). Member p (panes_of x)) (ap (λ (k : ℕ). get_or ns k empty) q ∙ is) m)
        seen j p m (inr t) = old p (F.shows j t p m)

        stands : (p : ℕ) → Member p w.panes ⊎ Member p (panes_of n) → Stood ns R p
        stands p (inl m) = F.stood p m
        stands p (inr m) = (i.slot, at, subst (λ (x : Node). Member p (panes_of x)) (sym is) m)

        under : (j : ℕ) → get_or w.claimed j false ≡ false → (k : TileId) → Member k (kids_of (get_or ns j empty)) → (j ≡ i.slot) ⊎ (get_or w.claimed j false ≡ true) → Met ns claims k
        under j o k m (inl q) = absurd (subst (Member k) none (subst (λ (x : Node). Member k (kids_of x)) (ap (λ (y : ℕ). get_or ns y empty) q ∙ is) m))
        under j o k m (inr t) = never (sym t ∙ o)

    -- a split: claimed, it shows nothing, and its children are still to come
    split-fair : panes_of n ≡ [] → Fair ns R (state w.nodes claims w.panes)
    split-fair none =
        record {
          good = (length-set w.claimed i.slot true ∙ F.good.0, F.good.1);
          agrees = λ j q. F.agrees j (set_back w.claimed i.slot j q);
          shows = λ j t p m. seen j p m (claim-cases j t);
          stood = F.stood;
        }
      where
        seen : (j p : ℕ) → Member p (panes_of (get_or ns j empty)) → (j ≡ i.slot) ⊎ (get_or w.claimed j false ≡ true) → Member p w.panes
        seen j p m (inl q) = absurd (subst (Member p) none (subst (λ (x : Node). Member p (panes_of x)) (ap (λ (k : ℕ). get_or ns k empty) q ∙ is) m))
        seen j p m (inr t) = F.shows j t p m

    -- once they are met
    split-closed : (ds : List Bool) (qs : List ℕ) → Closed ns R claims ds qs → All (Met ns ds) (kids_of n) → Closed ns R w.claimed ds qs
    split-closed ds qs C a =
        record { mono = λ j t. C.mono j (set-mono w.claimed i.slot j t); shows = C.shows; stood = C.stood; kids = λ j o t k m. go j o t k m (ℕ_discrete j i.slot) }
      where
        go : (j : ℕ) → get_or w.claimed j false ≡ false → get_or ds j false ≡ true → (k : TileId) → Member k (kids_of (get_or ns j empty)) → Dec (j ≡ i.slot) → Met ns ds k
        go j o t k m (yes q) = member-all (Met ns ds) k (kids_of n) (subst (λ (x : Node). Member k (kids_of x)) (ap (λ (y : ℕ). get_or ns y empty) q ∙ is) m) a
        go j o t k m (no q) = C.kids j (get_or-set_other w.claimed i.slot j true false q ∙ o) t k m

-- ---- the walk

module _ (ns : List Node) (R : ℕ → Type 0) (step : (i : ℕ) (j : TileId) → R i → Member j (kids_of (get_or ns i empty)) → R j.slot) where
  abbrev Done : TileId → State → State → Type 0
  Done i w v = Ends ns R w v × Met ns v.claimed i

  abbrev Walks : (TileId → Work → Out) → ℕ → Type 0
  Walks again f = (i : TileId) (w : Work) → R i.slot → Fair ns R w.state → free w.state.claimed ≤ f → Done i w.state (again i w).work.state

  module _ (again : TileId → Work → Out) (g : Works again) (f : ℕ) (walks : Walks again f) where
    kids-closed : (a : Axis) (es : List Entry) (r : Run) → Fair ns R r.left.state → free r.left.state.claimed ≤ f → All Least es → All (λ c. R c.slot) (children_of es)
        → Ends ns R r.left.state (kids_from again a es r).left.state × All (Met ns (kids_from again a es r).left.state.claimed) (children_of es)
    unfolding kids_from
    kids-closed a [] r F h le rs = (closed_none ns R r.left.state F, tt)
    kids-closed a (e ∷ es) r F h le rs =
        let o = again e.child r.left in
        let t = place_out a e r o in
        let u = kids_from again a es t in
        let (C, m) = walks e.child r.left rs.0 F h in
        let A = place-alike a e o.kept r o.work in
        let D = ends-alike ns R r.left.state o.work.state t.left.state A C in
        let (k, p, B, s) = kid-keeps again g a e r F.good le.0 in
        let (E, ms) = kids-closed a es t (fair-after ns R r.left.state t.left.state k F B D) (omega (arith, B.room)) le.1 rs.1 in (
          ends-chain ns R r.left.state t.left.state u.left.state D E,
          (met-mono ns R t.left.state.claimed u.left.state.claimed E.mono e.child (subst (λ (cs : List Bool). Met ns cs e.child) (sym A.0) m), ms),
        )

    module _ (i : TileId) (w : Work) (at : R i.slot) (F : Fair ns R w.state) (h : free w.state.claimed ≤ suc f) where
      node_done : (n : Node) → node_at ns i ≡ n → i.slot < 64 → get_or w.state.claimed i.slot false ≡ false → Done i w.state (by_node n again i w).work.state
      unfolding group_step split_step
      node_done empty is k e = (closed_none ns R w.state F, λ x o. never (ap is_empty (sym is) ∙ o))
      node_done (pane p) is k e = go (contains p w.state.panes) refl
        where
          go : (b : Bool) → contains p w.state.panes ≡ b → Done i w.state (pane_by b i p (claim i w)).work.state
          go true q = (
            leaf-closed ns R w.state F i k e (pane p) is at w.state.panes (λ x m. m) (λ x m. own x m) (λ x m. inl m) refl,
            λ x o. claim-set ns R w.state F i k e,
          )
            where
              own : (x : ℕ) → Member x (p ∷ []) → Member x w.state.panes
              own x (inl z) = subst (λ (y : ℕ). Member y w.state.panes) (sym z) (contains-true p w.state.panes q)
              own x (inr m) = absurd m
          go false q = (
            leaf-closed ns R w.state F i k e (pane p) is at (w.state.panes ++ p ∷ []) (λ x m. member-left x w.state.panes (p ∷ []) m)
                (λ x m. member_right x w.state.panes (p ∷ []) m) (λ x m. member-cases x w.state.panes (p ∷ []) m) refl,
            λ x o. claim-set ns R w.state F i k e,
          )
      node_done (tabs b a ps) is k e =
          let s = sifted [] (claim i w) in
          let t = retain i ps s in
          let v = (group_left i b a ps t.list t.left).work.state in
          let A = group-alike i b a ps t.list t.left in
          let c : v.claimed ≡ set w.state.claimed i.slot true = A.0 ∙ ap (λ (x : State). x.claimed) (retained i ps s).left in (
            ends-alike ns R w.state t.left.state v A
                (subst (λ (ds : List Bool). Closed ns R w.state.claimed ds t.left.state.panes) (sym (ap (λ (x : State). x.claimed) (retained i ps s).left))
                (leaf-closed ns R w.state F i k e (tabs b a ps) is at t.left.state.panes (λ x m. sift-sees i ps s x (inr m)) (λ x m. sift-sees i ps s x (inl m)) (λ x m. sift-from i ps s x m) refl)),
            λ x o. ap (λ (ds : List Bool). get_or ds i.slot false) c ∙ claim-set ns R w.state F i k e,
          )
      node_done (split a cs ss ms) is k e =
          let old = repaired_shares (length cs) ss in
          let mins = aligned_constraints (length cs) ms in
          let s = run [] false (split_noted i ss ms old mins (claim i w)) in
          let t = kids_from again a (entries cs old mins) s in
          let v = (split_done i a ss t).work.state in
          let A = split-alike i a ss t.list t in
          let ids = entries-children cs old mins (repaired-length (length cs) ss) (aligned-length (length cs) ms) in
          let under = all_map (λ c m. step i.slot c at (subst (λ (x : Node). Member c (kids_of x)) (sym is) m)) cs (all-member cs) in
          let K = kids-closed a (entries cs old mins) s (split-fair ns R w.state F i k e (split a cs ss ms) is refl)
          (omega (arith, free-set w.state.claimed i.slot (omega (arith, F.good.0)) e)) (start-least cs old ms (length cs)) (subst (All (λ c. R c.slot)) (sym ids) under) in
          let all = subst (All (Met ns t.left.state.claimed)) ids K.1 in (
            ends-alike ns R w.state t.left.state v A (split-closed ns R w.state F i k e (split a cs ss ms) is t.left.state.claimed t.left.state.panes K.0 all),
            λ x o. ap (λ (ds : List Bool). get_or ds i.slot false) A.0 ∙ K.0.mono i.slot (claim-set ns R w.state F i k e),
          )

      claimed-done : (b : Bool) → i.slot < 64 → get_or w.state.claimed i.slot false ≡ b → Done i w.state (by_claimed b again i w).work.state
      claimed-done true k e = (closed_none ns R w.state F, λ x o. e)
      claimed-done false k e =
          subst (λ (n : Node). Done i w.state (by_node n again i w).work.state) (sym (F.agrees i.slot e)) (node_done (node_at ns i) refl k e)

      range-done : (b : Bool) → leb 64 i.slot ≡ b → Done i w.state (by_range b again i w).work.state
      range-done true q = (closed_none ns R w.state F, λ x o. let y = leb-true 64 i.slot q in absurd (omega (arith, x, y)))
      range-done false q = claimed-done (get_or w.state.claimed i.slot false) (leb-false 64 i.slot q) refl

      tile-done : Done i w.state (tile_step again i w).work.state
      unfolding tile_step
      tile-done = range-done (leb 64 i.slot) refl

  pub walk-closed : (f : ℕ) (i : TileId) (w : Work) → R i.slot → Fair ns R w.state → free w.state.claimed ≤ f → Done i w.state (normalize_node f i w).work.state
  unfolding normalize_node
  walk-closed zero i w at F h = (closed_none ns R w.state F, λ k o. go k (get_or w.state.claimed i.slot false) refl)
    where
      go : i.slot < 64 → (b : Bool) → get_or w.state.claimed i.slot false ≡ b → get_or w.state.claimed i.slot false ≡ true
      go k true e = e
      go k false e = absurd (omega (arith, free-set w.state.claimed i.slot (omega (arith, F.good.0)) e))
  walk-closed (suc f) i w at F h = tile-done (normalize_node f) (tile-keeps f) f (walk-closed f) i w at F h
