-- What a walk of the repair leaves: a forest that the slots hold, of tiles that it claimed, none twice, each pane once. By induction on the fuel.
-- Assumes nothing.
use Rattle.std.specs.Prelude.{◌≡◌, ◌≢◌, Bool, ◌||◌, ℕ, zero, suc, ◌+◌, ◌≤◌, ◌<◌, leb, eqb, length, get_or, set, Float}
use Rattle.std.proofs.Math.Path.{refl, sym, ap, subst}
use Rattle.std.proofs.Common.{◌∙◌, arith, leb-false, length-set, length-append}
use Rattle.std.proofs.Math.Bool.{true, false, or-false}
use mathlib.Core.List.{List, [], ◌∷◌, ◌++◌, map, append_assoc, append-nil}
use Rattle.std.proofs.Math.Option.{Option, none, some}
use Rattle.std.proofs.Math.Dec.{ltb}
use Rattle.std.proofs.Math.ListN.{get_elem?}
use Rattle.std.proofs.lemmas.List.{length-map}
use lib.Seq.{get_or-set_same, get_or-set_other}
use Rattle.std.specs.Float.Ieee.{binary64, mul, eq}
use Rattle.rules.specs.Numbers.{zero-f}
use Rattle.rules.specs.Lists.{contains, first_by, position_from}
use Rattle.rules.specs.Tree.{Node, empty, pane, tabs, split, node_at, same_axis}
use Rattle.rules.specs.Shares.{fix_share, repaired_shares}
use Rattle.rules.specs.Minima.{aligned_constraints, compact_constraints}
use Rattle.rules.specs.Repair.{State, Work, Out, state, work, claim, pane_by, Sifted, sifted, sift_by, retain, or_first, active_of, group_left, group_step, Entry, entries, Run, run, melts, scaled, melted, place_by, place, place_out, kids_from, children_of, shares_of, minima_of, split_done, split_noted, split_step, by_node, by_claimed, by_range, tile_step, normalize_node}
use Rattle.rules.specs.declared.model.TileId.{TileId}
use Rattle.rules.specs.declared.model.Axis.{Axis}
use Rattle.rules.specs.declared.model.Axis.TheVariants.{Horizontal, Vertical}
use Rattle.rules.specs.declared.model.TabBarPlacement.{TabBarPlacement}
use Rattle.rules.specs.declared.model.RepairAction.{RepairAction}
use Rattle.forest.specs.Lists.{All, Distinct, never, all_map, all_append, all_left, all_right, contains-false, distinct_append, free, set-mono, set_back, free-set}
use Rattle.forest.specs.Bools.{and_both}
use Rattle.forest.specs.Codec.{stored, reshared, Shared, Least, read_back, start-least, stored-fixed, fixed-shared}
use Rattle.forest.specs.Forest.{Forest, nil, leaf, node, roots, tiles, shown, ◌⧺◌, reshare, wide, broad, wide-reshare, Leafy, Set, Fine, fine-shared, fine-least, Holds, Same, roots-append, tiles-append, shown-append, holds-append, roots-reshare, tiles-reshare, shown-reshare, holds-reshare, all-roots, set_same, holds_same}

abbrev pub Good : State → Type 0
Good w = (length w.claimed ≡ 64) × (length w.nodes ≡ 64)

-- a slot written, nothing else
abbrev pub written : ℕ → Node → State → State
written j n w = state (set w.nodes j n) w.claimed w.panes

-- from w to v, the forest f was kept
pub record Grown (w v : State) (f : Forest) : Type 0 where
  pub long : length v.claimed ≡ length w.claimed
  pub size : length v.nodes ≡ length w.nodes
  pub holds : Holds v.nodes f
  pub fresh : All (λ i. get_or w.claimed i false ≡ false) (tiles f)
  pub taken : All (λ i. get_or v.claimed i false ≡ true) (tiles f)
  pub apart : Distinct (tiles f)
  pub room : length (tiles f) + free v.claimed ≤ free w.claimed
  pub keep : (j : ℕ) → get_or w.claimed j false ≡ true → (get_or v.claimed j false ≡ true) × Same w.nodes v.nodes j
  pub still : (j : ℕ) → get_or v.claimed j false ≡ false → Same w.nodes v.nodes j
  pub spent : (j : ℕ) → get_or w.claimed j false ≡ false → get_or v.claimed j false ≡ true → All (λ k. j ≢ k) (tiles f) → get_or v.nodes j empty ≡ empty
  pub sees : v.panes ≡ w.panes ++ shown f
  pub once : Distinct w.panes → Distinct v.panes

-- what is left of a tile: nothing, a leaf or a split
pub data Left : Type 0 where
  nothing : Left
  group : TileId → List ℕ → Left
  branch : TileId → Axis → Forest → Left

abbrev pub kept_of : Left → Option TileId
kept_of nothing = none
kept_of (group i ps) = some i
kept_of (branch i a c) = some i

-- it, with a share and a minimum
abbrev pub sown : Float → Float → Left → Forest
sown s m nothing = nil
sown s m (group i ps) = leaf i s m ps nil
sown s m (branch i a c) = node i s m a c nil

abbrev pub stem : Left → Forest
stem l = sown zero-f zero-f l

abbrev pub Keeps : State → Out → Type 0
Keeps w o = (l : Left) × (o.kept ≡ kept_of l) × Grown w o.work.state (stem l)

-- ---- laws of what is grown

pub grown-none : (w : State) → Grown w w nil
grown-none w =
    record {
      long = refl;
      size = refl;
      holds = tt;
      fresh = tt;
      taken = tt;
      apart = tt;
      room = omega arith;
      keep = λ j e. (e, refl);
      still = λ j e. refl;
      spent = λ j e t o. never (sym t ∙ e);
      sees = sym (append-nil w.panes);
      once = λ d. d;
    }

-- another forest of the same tiles and panes
pub grown-like : (w v : State) (f g : Forest) → tiles g ≡ tiles f → shown g ≡ shown f → Holds v.nodes g → Grown w v f → Grown w v g
grown-like w v f g t q h G =
    record {
      long = G.long;
      size = G.size;
      holds = h;
      fresh = rw t G.fresh;
      taken = rw t G.taken;
      apart = rw t G.apart;
      room = rw t G.room;
      keep = G.keep;
      still = G.still;
      spent = λ j e o a. G.spent j e o (rw t at a);
      sees = rw q G.sees;
      once = G.once;
    }

grown-reshare : (w v : State) (f : Forest) (h : Float → Float) → Grown w v f → Grown w v (reshare h f)
grown-reshare w v f h G = grown-like w v f (reshare h f) (tiles-reshare h f) (shown-reshare h f) (holds-reshare h v.nodes f G.holds) G

pub back : (w v : State) (f : Forest) → Grown w v f → (j : ℕ) → get_or v.claimed j false ≡ false → get_or w.claimed j false ≡ false
back w v f G j e = go (get_or w.claimed j false) refl
  where
    go : (b : Bool) → get_or w.claimed j false ≡ b → get_or w.claimed j false ≡ false
    go true q = never (sym (G.keep j q).0 ∙ e)
    go false q = q

-- a slot that is emptied is empty, and so is another that was
set-empty : (ns : List Node) (i k : ℕ) → (k ≢ i → get_or ns k empty ≡ empty) → get_or (set ns i empty) k empty ≡ empty
set-empty [] i k h = refl
set-empty (n ∷ ns) zero zero h = refl
set-empty (n ∷ ns) zero (suc k) h = h (λ e. absurd (omega arith))
set-empty (n ∷ ns) (suc i) zero h = h (λ e. absurd (omega arith))
set-empty (n ∷ ns) (suc i) (suc k) h = set-empty ns i k (λ z. h (λ e. z (let q : k ≡ i = omega arith in q)))

differ : (cs : List Bool) (i j : ℕ) → get_or cs i false ≡ true → get_or cs j false ≡ false → j ≢ i
differ cs i j t u e = never (sym t ∙ ap (λ (k : ℕ). get_or cs k false) (sym e) ∙ u)

chain-spent : (w v u : State) (f g : Forest) → Grown w v f → Grown v u g → (j : ℕ) → get_or w.claimed j false ≡ false → get_or u.claimed j false ≡ true
    → All (λ k. j ≢ k) (tiles f ++ tiles g) → (b : Bool) → get_or v.claimed j false ≡ b → get_or u.nodes j empty ≡ empty
chain-spent w v u f g A B j e t o true q = (B.keep j q).1 ∙ A.spent j e q (all_left (λ k. j ≢ k) (tiles f) (tiles g) o)
chain-spent w v u f g A B j e t o false q = B.spent j q t (all_right (λ k. j ≢ k) (tiles f) (tiles g) o)

pub grown-chain : (w v u : State) (f g : Forest) → Grown w v f → Grown v u g → Grown w u (f ⧺ g)
grown-chain w v u f g A B =
    record {
      long = B.long ∙ A.long;
      size = B.size ∙ A.size;
      holds = holds-append u.nodes f g (holds_same v.nodes u.nodes f (all_map (λ j t. (B.keep j t).1) (tiles f) A.taken) A.holds) B.holds;
      fresh = rw (tiles-append f g) (all_append (λ i. get_or w.claimed i false ≡ false) (tiles f) (tiles g) A.fresh (all_map (back w v f A) (tiles g) B.fresh));
      taken = rw (tiles-append f g) (all_append (λ i. get_or u.claimed i false ≡ true) (tiles f) (tiles g) (all_map (λ j t. (B.keep j t).0) (tiles f) A.taken) B.taken);
      apart = rw (tiles-append f g) (distinct_append (tiles f) (tiles g) A.apart B.apart
          (all_map (λ y o. all_map (λ x t. differ v.claimed x y t o) (tiles f) A.taken) (tiles g) B.fresh));
      room = rw (tiles-append f g) (omega (arith, length-append (tiles f) (tiles g), A.room, B.room));
      keep = λ j e. ((B.keep j (A.keep j e).0).0, (B.keep j (A.keep j e).0).1 ∙ (A.keep j e).1);
      still = λ j e. B.still j e ∙ A.still j (back v u g B j e);
      spent = λ j e t o. chain-spent w v u f g A B j e t (rw (tiles-append f g) at o) (get_or v.claimed j false) refl;
      sees = B.sees ∙ ap (λ (l : List ℕ). l ++ shown g) A.sees ∙ append_assoc w.panes (shown f) (shown g)
          ∙ ap (λ (l : List ℕ). w.panes ++ l) (sym (shown-append f g));
      once = λ d. B.once (A.once d);
    }

pub good-after : (w v : State) (f : Forest) → Good w → Grown w v f → Good v
good-after w v f g G = (G.long ∙ g.0, G.size ∙ g.1)

-- a split that is melted leaves what was under it, and its slot empty
grown-melt : (w v : State) (i : TileId) (s m : Float) (a : Axis) (c : Forest) → Grown w v (node i s m a c nil) → Grown w (written i.slot empty v) c
grown-melt w v i s m a c G =
    let away : All (λ k. k ≢ i.slot) (tiles c) = all_left (λ k. k ≢ i.slot) (tiles c) [] G.apart.0 in
    record {
      long = G.long;
      size = length-set v.nodes i.slot empty ∙ G.size;
      holds = holds_same v.nodes (set v.nodes i.slot empty) c (all_map (λ k z. get_or-set_other v.nodes i.slot k empty empty z) (tiles c) away) G.holds.1;
      fresh = rw (append-nil (tiles c)) at G.fresh.1;
      taken = rw (append-nil (tiles c)) at G.taken.1;
      apart = rw (append-nil (tiles c)) at G.apart.1;
      room = omega (arith, G.room, length-append (tiles c) []);
      keep = λ k t. ((G.keep k t).0, get_or-set_other v.nodes i.slot k empty empty (λ q. differ w.claimed k i.slot t G.fresh.0 (sym q)) ∙ (G.keep k t).1);
      still = λ k q. get_or-set_other v.nodes i.slot k empty empty (differ v.claimed i.slot k G.taken.0 q) ∙ G.still k q;
      spent = λ k e t o. set-empty v.nodes i.slot k (λ n. G.spent k e t (n, rw (append-nil (tiles c)) o));
      sees = rw (append-nil (shown c)) at G.sees;
      once = G.once;
    }

-- ---- panes: those that were not seen are kept, each once

pub record Retained (ps : List ℕ) (s r : Sifted) : Type 0 where
  pub kept : List ℕ
  pub list : r.list ≡ s.list ++ kept
  pub left : r.left.state ≡ state s.left.state.nodes s.left.state.claimed (s.left.state.panes ++ kept)
  pub once : Distinct s.left.state.panes → Distinct (s.left.state.panes ++ kept)

pub retained : (i : TileId) (ps : List ℕ) (s : Sifted) → Retained ps s (retain i ps s)
unfolding retain
retained i [] s =
    record {
      kept = [];
      list = sym (append-nil s.list);
      left = λ z. state s.left.state.nodes s.left.state.claimed (sym (append-nil s.left.state.panes) z);
      once = λ d. rw (append-nil s.left.state.panes) d;
    }
retained i (p ∷ ps) s = go (contains p s.left.state.panes) refl (λ t. retained i ps t)
  where
    go : (b : Bool) → contains p s.left.state.panes ≡ b → ((t : Sifted) → Retained ps t (retain i ps t)) → Retained (p ∷ ps) s (retain i ps (sift_by b i p s))
    go true q ih = let R = ih (sift_by true i p s) in record { kept = R.kept; list = R.list; left = R.left; once = R.once }
    go false q ih =
        let R = ih (sift_by false i p s) in
        record {
          kept = p ∷ R.kept;
          list = R.list ∙ append_assoc s.list (p ∷ []) R.kept;
          left = R.left ∙ (λ z. state s.left.state.nodes s.left.state.claimed (append_assoc s.left.state.panes (p ∷ []) R.kept z));
          once = λ d. rw (append_assoc s.left.state.panes (p ∷ []) R.kept)
              at (R.once (distinct_append s.left.state.panes (p ∷ []) d (tt, tt) (contains-false p s.left.state.panes q, tt)));
        }

position-lt : (n : ℕ) (test : ℕ → Bool) (xs : List ℕ) → 0 < n + length xs → or_first (position_from n test xs) < n + length xs
unfolding position_from
position-lt n test [] h = h
position-lt n test (x ∷ xs) h = go (test x) (position-lt (suc n) test xs (omega arith))
  where
    go : (b : Bool) → or_first (position_from (suc n) test xs) < suc n + length xs → or_first (first_by b n (position_from (suc n) test xs)) < n + suc (length xs)
    go true k = omega arith
    go false k = omega arith

pub active-lt : (o : Option ℕ) (q : ℕ) (qs : List ℕ) → active_of o (q ∷ qs) < suc (length qs)
active-lt none q qs = omega arith
active-lt (some p) q qs = omega (arith, position-lt 0 (eqb p) (q ∷ qs) (omega arith))

-- ---- a tile that is claimed

module _ (w : State) (good : Good w) (i : TileId) (h : i.slot < 64) (e : get_or w.claimed i.slot false ≡ false) where
  abbrev pub claimed : State
  claimed = state w.nodes (set w.claimed i.slot true) w.panes

  claim-set : get_or (set w.claimed i.slot true) i.slot false ≡ true
  claim-set = get_or-set_same w.claimed i.slot true false (omega (arith, good.0))

  claim-free : free w.claimed ≡ suc (free (set w.claimed i.slot true))
  claim-free = free-set w.claimed i.slot (omega (arith, good.0)) e

  claim-good : Good claimed
  claim-good = (length-set w.claimed i.slot true ∙ good.0, good.1)

  module _ (v : State) (f : Forest) (G : Grown claimed v f) where
    others : All (λ j. j ≢ i.slot) (tiles f)
    others = all_map (λ j o. differ (set w.claimed i.slot true) i.slot j claim-set o) (tiles f) G.fresh

    -- another slot that was not claimed is not claimed by this
    not_yet : (k : ℕ) → k ≢ i.slot → get_or w.claimed k false ≡ false → get_or (set w.claimed i.slot true) k false ≡ false
    not_yet k n o = get_or-set_other w.claimed i.slot k true false n ∙ o

    own-keep : (n : Node) (j : ℕ) → get_or w.claimed j false ≡ true → (get_or v.claimed j false ≡ true) × Same w.nodes (set v.nodes i.slot n) j
    own-keep n j t =
        let K = G.keep j (set-mono w.claimed i.slot j t) in
        (K.0, get_or-set_other v.nodes i.slot j n empty (λ q. differ w.claimed j i.slot t e (sym q)) ∙ K.1)

    own-still : (n : Node) (j : ℕ) → get_or v.claimed j false ≡ false → Same w.nodes (set v.nodes i.slot n) j
    own-still n j q = get_or-set_other v.nodes i.slot j n empty (differ v.claimed i.slot j (G.keep i.slot claim-set).0 q) ∙ G.still j q

    own-holds : (n : Node) → Holds (set v.nodes i.slot n) f
    own-holds n = holds_same v.nodes (set v.nodes i.slot n) f (all_map (λ k z. get_or-set_other v.nodes i.slot k n empty z) (tiles f) others) G.holds

    own_fresh : All (λ j. get_or w.claimed j false ≡ false) (tiles f)
    own_fresh = all_map (λ j o. set_back w.claimed i.slot j o) (tiles f) G.fresh

    -- the tile's own slot is emptied
    pub grown-own : Grown w (written i.slot empty v) f
    grown-own =
        record {
          long = G.long ∙ length-set w.claimed i.slot true;
          size = length-set v.nodes i.slot empty ∙ G.size;
          holds = own-holds empty;
          fresh = own_fresh;
          taken = G.taken;
          apart = G.apart;
          room = omega (arith, G.room, claim-free);
          keep = own-keep empty;
          still = own-still empty;
          spent = λ k o t a. set-empty v.nodes i.slot k (λ n. G.spent k (not_yet k n o) t a);
          sees = G.sees;
          once = G.once;
        }

    at_own : (n : Node) → get_or (set v.nodes i.slot n) i.slot empty ≡ n
    at_own n = get_or-set_same v.nodes i.slot n empty (omega (arith, G.size, good.1))

    grown-node : (a : Axis) → 2 ≤ length (roots f) → All (Fine v.nodes a) (roots f) → Grown w (written i.slot (stored a (roots f)) v) (node i zero-f zero-f a f nil)
    grown-node a two fine =
        let n = stored a (roots f) in
        record {
          long = G.long ∙ length-set w.claimed i.slot true;
          size = length-set v.nodes i.slot n ∙ G.size;
          holds = (
            record {
              inside = h;
              is = at_own n;
              two = two;
              fine = fine-set (roots f) (all-roots (λ j. j ≢ i.slot) f others) fine;
            },
            own-holds n,
            tt,
          );
          fresh = rw (append-nil (tiles f)) (e, own_fresh);
          taken = rw (append-nil (tiles f)) ((G.keep i.slot claim-set).0, G.taken);
          apart = rw (append-nil (tiles f)) (others, G.apart);
          room = rw (append-nil (tiles f)) (omega (arith, G.room, claim-free));
          keep = own-keep n;
          still = own-still n;
          spent = λ k o t a. get_or-set_other v.nodes i.slot k n empty a.0 ∙ G.spent k (not_yet k a.0 o) t (rw (append-nil (tiles f)) at a.1);
          sees = rw (append-nil (shown f)) G.sees;
          once = G.once;
        }
      where
        fine-set : (es : List Entry) → All (λ x. x.child.slot ≢ i.slot) es → All (Fine v.nodes a) es → All (Fine (set v.nodes i.slot (stored a (roots f))) a) es
        fine-set [] o q = tt
        fine-set (x ∷ xs) o q =
            ((q.0.0, (q.0.1.0, ap (melts a x.minimum) (get_or-set_other v.nodes i.slot x.child.slot (stored a (roots f)) empty o.0) ∙ q.0.1.1)), fine-set xs o.1 q.1)

  -- ---- a pane, a group

  -- panes not seen before, in a slot that now shows them
  grown-leaf : (n : Node) (ps : List ℕ) → Leafy n ps → (Distinct w.panes → Distinct (w.panes ++ ps))
      → Grown w (state (set w.nodes i.slot n) (set w.claimed i.slot true) (w.panes ++ ps)) (leaf i zero-f zero-f ps nil)
  grown-leaf n ps l once =
      record {
        long = length-set w.claimed i.slot true;
        size = length-set w.nodes i.slot n;
        holds = (record { inside = h; leafy = subst (λ (x : Node). Leafy x ps) (sym (get_or-set_same w.nodes i.slot n empty (omega (arith, good.1)))) l }, tt);
        fresh = (e, tt);
        taken = (claim-set, tt);
        apart = (tt, tt);
        room = omega (arith, claim-free);
        keep = λ j t. (set-mono w.claimed i.slot j t, get_or-set_other w.nodes i.slot j n empty (λ z. differ w.claimed j i.slot t e (sym z)));
        still = λ j q. get_or-set_other w.nodes i.slot j n empty (differ (set w.claimed i.slot true) i.slot j claim-set q);
        spent = λ j o t a. never (sym t ∙ get_or-set_other w.claimed i.slot j true false a.0 ∙ o);
        sees = rw (append-nil ps) refl;
        once = once;
      }

  pane-keeps : (log : List RepairAction) (p : ℕ) → node_at w.nodes i ≡ pane p → (b : Bool) → contains p w.panes ≡ b → Keeps w (pane_by b i p (work claimed log))
  pane-keeps log p is true q = (nothing, refl, grown-own claimed nil (grown-none claimed))
  pane-keeps log p is false q = (
    group i (p ∷ []),
    refl,
    subst (λ (ns : List Node). Grown w (state ns (set w.claimed i.slot true) (w.panes ++ p ∷ [])) (leaf i zero-f zero-f (p ∷ []) nil))
        (ap (set w.nodes i.slot) (sym is) ∙ lib.Seq.set-get_or w.nodes i.slot empty)
        (grown-leaf (pane p) (p ∷ []) refl (λ d. distinct_append w.panes (p ∷ []) d (tt, tt) (contains-false p w.panes q, tt))),
  )

  -- the panes kept are those of the list, and the state is as they leave it
  group-keeps : (b : TabBarPlacement) (a : ℕ) (ps qs : List ℕ) (u : Work) → u.state ≡ state w.nodes (set w.claimed i.slot true) (w.panes ++ qs)
      → (Distinct w.panes → Distinct (w.panes ++ qs)) → Keeps w (group_left i b a ps qs u)
  group-keeps b a ps [] u q d = (
    nothing,
    refl,
    subst (λ (v : State). Grown w (written i.slot empty v) nil) (sym (q ∙ (λ z. state w.nodes (set w.claimed i.slot true) (append-nil w.panes z)))) (grown-own claimed nil (grown-none claimed)),
  )
  group-keeps b a ps (x ∷ xs) u q d = (
    group i (x ∷ xs),
    refl,
    subst (λ (v : State). Grown w (written i.slot (tabs b (active_of (get_elem? ps a) (x ∷ xs)) (x ∷ xs)) v) (leaf i zero-f zero-f (x ∷ xs) nil)) (sym q)
        (grown-leaf (tabs b (active_of (get_elem? ps a) (x ∷ xs)) (x ∷ xs)) (x ∷ xs) (refl, active-lt (get_elem? ps a) x xs) d),
  )

  -- ---- a split: none kept, one kept, or more

  module _ (a : Axis) where
    pub grown-many : (v : State) (f : Forest) → Grown claimed v f → All (Set v.nodes a) (roots f) → 2 ≤ length (roots (reshare fix_share f))
        → Grown w (written i.slot (split a (children_of (roots f)) (repaired_shares (length (roots f)) (shares_of (roots f))) (compact_constraints (minima_of (roots f)))) v) (node i zero-f zero-f a (reshare fix_share f) nil)
    grown-many v f G s two =
        subst (λ (n : Node). Grown w (written i.slot n v) (node i zero-f zero-f a (reshare fix_share f) nil))
        (ap (stored a) (roots-reshare fix_share f) ∙ sym (stored-fixed a (roots f)))
        (grown-node v (reshare fix_share f) (grown-reshare claimed v f fix_share G) a two (rw (roots-reshare fix_share f) (fixed (roots f) (fixed-shared (roots f)) s)))
      where
        fixed : (es : List Entry) → All Shared (map (reshared fix_share) es) → All (Set v.nodes a) es → All (Fine v.nodes a) (map (reshared fix_share) es)
        fixed [] p b = tt
        fixed (x ∷ xs) p b = ((p.0, b.0), fixed xs p.1 b.1)

    split-keeps : (u : Work) (old : List Float) (b : Bool) (f : Forest) → Grown claimed u.state f → All (Set u.state.nodes a) (roots f)
        → Keeps w (split_done i a old (run (roots f) b u))
    split-keeps u old b nil G s = (nothing, refl, grown-own u.state nil G)
    split-keeps u old b (leaf j x m ps nil) G s =
        let B = grown-own u.state (leaf j x m ps nil) G in (group j ps, refl, grown-like w _ (leaf j x m ps nil) (leaf j zero-f zero-f ps nil) refl refl B.holds B)
    split-keeps u old b (node j x m y c nil) G s =
        let B = grown-own u.state (node j x m y c nil) G in (branch j y c, refl, grown-like w _ (node j x m y c nil) (node j zero-f zero-f y c nil) refl refl B.holds B)
    split-keeps u old b (leaf j x m ps (leaf j' x' m' ps' r)) G s =
        let f = leaf j x m ps (leaf j' x' m' ps' r) in (branch i a (reshare fix_share f), refl, grown-many u.state f G s (omega arith))
    split-keeps u old b (leaf j x m ps (node j' x' m' y' c' r)) G s =
        let f = leaf j x m ps (node j' x' m' y' c' r) in (branch i a (reshare fix_share f), refl, grown-many u.state f G s (omega arith))
    split-keeps u old b (node j x m y c (leaf j' x' m' ps' r)) G s =
        let f = node j x m y c (leaf j' x' m' ps' r) in (branch i a (reshare fix_share f), refl, grown-many u.state f G s (omega arith))
    split-keeps u old b (node j x m y c (node j' x' m' y' c' r)) G s =
        let f = node j x m y c (node j' x' m' y' c' r) in (branch i a (reshare fix_share f), refl, grown-many u.state f G s (omega arith))

    pub split-run : (r : Run) (old : List Float) (f : Forest) → r.list ≡ roots f → Grown claimed r.left.state f → All (Set r.left.state.nodes a) (roots f)
        → Keeps w (split_done i a old r)
    split-run r old f q G s =
        subst (λ (l : List Entry). Keeps w (split_done i a old (run l r.moved r.left))) (sym q) (split-keeps r.left old r.moved f G s)

-- ---- a child that is kept

pub leafy-melts : (a : Axis) (m : Float) (n : Node) (ps : List ℕ) → Leafy n ps → melts a m n ≡ false
leafy-melts a m empty ps l = absurd l
leafy-melts a m (pane p) ps l = refl
leafy-melts a m (tabs b x qs) ps l = refl
leafy-melts a m (split b cs ss ms) ps l = absurd l

pub axis-same : (a b : Axis) → same_axis a b ≡ true → a ≡ b
axis-same Horizontal Horizontal e = refl
axis-same Horizontal Vertical e = never (sym e)
axis-same Vertical Horizontal e = never (sym e)
axis-same Vertical Vertical e = refl

set-reshared : (ns : List Node) (h : Float → Float) (a b : Axis) → a ≡ b → (es : List Entry) → All (Fine ns a) es → All (Set ns b) (map (reshared h) es)
set-reshared ns h a b q [] p = tt
set-reshared ns h a b q (x ∷ xs) p = ((p.0.1.0, subst (λ (y : Axis). melts y x.minimum (node_at ns x.child) ≡ false) q p.0.1.1), set-reshared ns h a b q xs p.1)

-- after a child of the run r, of which b says whether it is wide, from the state w: a forest more, broad where the child is wide
abbrev pub Placed : Axis → Run → State → Bool → Run → Type 0
Placed a r w b t = (f : Forest) × (t.list ≡ r.list ++ roots f) × Grown w t.left.state f × All (Set t.left.state.nodes a) (roots f) × (b ≡ true → broad f ≡ true)

module _ (a : Axis) (e : Entry) (cl : Least e) (r : Run) (w : State) (u : Work) where
  place-leaf : (j : TileId) (ps : List ℕ) → Grown w u.state (leaf j zero-f zero-f ps nil) → Placed a r w false (place a e (some j) r u)
  place-leaf j ps G =
      let dull = leafy-melts a e.minimum (node_at u.state.nodes j) ps G.holds.0.leafy in
      subst (λ (b : Bool). Placed a r w false (place_by b e j (node_at u.state.nodes j) r u)) (sym dull) (
        leaf j e.share e.minimum ps nil,
        refl,
        grown-like w u.state (leaf j zero-f zero-f ps nil) (leaf j e.share e.minimum ps nil) refl refl G.holds G,
        ((cl, dull), tt),
        λ q. never (sym q),
      )

  module _ (j : TileId) (y : Axis) (c : Forest) (G : Grown w u.state (node j zero-f zero-f y c nil)) where
    melted-is : melted e.share (stored y (roots c)) ≡ roots (reshare (mul binary64 e.share) c)
    melted-is =
        ap (map (scaled e.share)) (read_back (roots c) (fine-shared u.state.nodes y (roots c) G.holds.0.fine) (fine-least u.state.nodes y (roots c) G.holds.0.fine))
        ∙ sym (roots-reshare (mul binary64 e.share) c)

    under : Forest
    under = reshare (mul binary64 e.share) c

    away : All (λ k. k ≢ j.slot) (tiles c)
    away = all_left (λ k. k ≢ j.slot) (tiles c) [] G.apart.0

    place-branch : (b : Bool) → melts a e.minimum (stored y (roots c)) ≡ b → Placed a r w (wide (node j zero-f zero-f y c nil)) (place_by b e j (stored y (roots c)) r u)
    unfolding under
    place-branch true q = (
      under,
      ap (λ (l : List Entry). r.list ++ l) melted-is,
      grown-reshare w (written j.slot empty u.state) c (mul binary64 e.share) (grown-melt w u.state j zero-f zero-f y c G),
      set_same u.state.nodes (set u.state.nodes j.slot empty) a (roots under)
          (all_map (λ x n. get_or-set_other u.state.nodes j.slot x.child.slot empty empty n) (roots under) (all-roots (λ k. k ≢ j.slot) under (rw (tiles-reshare (mul binary64 e.share) c) away)))
          (rw (roots-reshare (mul binary64 e.share) c)
          (set-reshared u.state.nodes (mul binary64 e.share) y a (axis-same y a (and_both (same_axis y a) (eq e.minimum zero-f) q).0) (roots c) G.holds.0.fine)),
      λ k. (λ z. ltb 16 (length (roots-reshare (mul binary64 e.share) c z)) || wide-reshare (mul binary64 e.share) c z)
          ∙ ap (λ (n : ℕ). ltb 16 n || wide c) (length-map (roots c) (reshared (mul binary64 e.share))) ∙ sym (or-false (broad c)) ∙ k,
    )
    place-branch false q = (
      node j e.share e.minimum y c nil,
      refl,
      grown-like w u.state (node j zero-f zero-f y c nil) (node j e.share e.minimum y c nil) refl refl G.holds G,
      ((cl, ap (melts a e.minimum) G.holds.0.is ∙ q), tt),
      λ k. k,
    )

    place-split : Placed a r w (wide (node j zero-f zero-f y c nil)) (place a e (some j) r u)
    place-split =
        subst (λ (n : Node). Placed a r w (wide (node j zero-f zero-f y c nil)) (place_by (melts a e.minimum n) e j n r u)) (sym G.holds.0.is)
        (place-branch (melts a e.minimum (stored y (roots c))) refl)

  pub placed : (l : Left) → Grown w u.state (stem l) → Placed a r w (wide (stem l)) (place a e (kept_of l) r u)
  placed nothing G = (nil, sym (append-nil r.list), G, tt, λ q. never (sym q))
  placed (group j ps) G = place-leaf j ps G
  placed (branch j y c) G = place-split j y c G

-- ---- the walk

abbrev pub Works : (TileId → Work → Out) → Type 0
Works again = (i : TileId) (w : Work) → Good w.state → Keeps w.state (again i w)

module _ (again : TileId → Work → Out) (g : Works again) (a : Axis) where
  abbrev pub After : Run → Run → Type 0
  After r t = (f : Forest) × (t.list ≡ r.list ++ roots f) × Grown r.left.state t.left.state f × All (Set t.left.state.nodes a) (roots f)

  pub kid-keeps : (e : Entry) (r : Run) → Good r.left.state → Least e → After r (place_out a e r (again e.child r.left))
  kid-keeps e r good cl =
      let o = again e.child r.left in
      let (l, q, A) = g e.child r.left good in
      let (f, p, B, s, _) = placed a e cl r r.left.state o.work l A in
      subst (λ (k : Option TileId). After r (place a e k r o.work)) (sym q) (f, p, B, s)

  pub kids-keep : (es : List Entry) (r : Run) → Good r.left.state → All Least es → After r (kids_from again a es r)
  unfolding kids_from
  kids-keep [] r good cl = (nil, sym (append-nil r.list), grown-none r.left.state, tt)
  kids-keep (e ∷ es) r good cl =
      let t = place_out a e r (again e.child r.left) in
      let (f, p, B, s) = kid-keeps e r good cl.0 in
      let (f', p', B', s') = kids-keep es t (good-after r.left.state t.left.state f good B) cl.1 in
      let u = (kids_from again a es t).left.state in (
        f ⧺ f',
        p' ∙ ap (λ (l : List Entry). l ++ roots f') p ∙ append_assoc r.list (roots f) (roots f') ∙ ap (λ (l : List Entry). r.list ++ l) (sym (roots-append f f')),
        grown-chain r.left.state t.left.state u f f' B B',
        rw (roots-append f f') (all_append (Set u.nodes a) (roots f) (roots f')
            (set_same t.left.state.nodes u.nodes a (roots f) (all-roots (Same t.left.state.nodes u.nodes) f (all_map (λ j k. (B'.keep j k).1) (tiles f) B.taken)) s) s'),
      )

module _ (again : TileId → Work → Out) (g : Works again) (i : TileId) (w : Work) (good : Good w.state) where
  at-node : (n : Node) → node_at w.state.nodes i ≡ n → i.slot < 64 → get_or w.state.claimed i.slot false ≡ false → Keeps w.state (by_node n again i w)
  unfolding group_step split_step
  at-node empty is h e = (nothing, refl, grown-none w.state)
  at-node (pane p) is h e = pane-keeps w.state good i h e w.actions p is (contains p w.state.panes) refl
  at-node (tabs b a ps) is h e =
      let s = sifted [] (claim i w) in
      let R = retained i ps s in
      subst (λ (l : List ℕ). Keeps w.state (group_left i b a ps l (retain i ps s).left)) (sym R.list)
      (group-keeps w.state good i h e b a ps R.kept (retain i ps s).left R.left R.once)
  at-node (split a cs ss ms) is h e =
      let old = repaired_shares (length cs) ss in
      let mins = aligned_constraints (length cs) ms in
      let u = split_noted i ss ms old mins (claim i w) in
      let K = kids-keep again g a (entries cs old mins) (run [] false u) (claim-good w.state good i h e) (start-least cs old ms (length cs)) in
      split-run w.state good i h e a (kids_from again a (entries cs old mins) (run [] false u)) ss K.0 K.1 K.2 K.3

  at-claimed : (b : Bool) → i.slot < 64 → get_or w.state.claimed i.slot false ≡ b → Keeps w.state (by_claimed b again i w)
  at-claimed true h e = (nothing, refl, grown-none w.state)
  at-claimed false h e = at-node (node_at w.state.nodes i) refl h e

  at-range : (b : Bool) → leb 64 i.slot ≡ b → Keeps w.state (by_range b again i w)
  at-range true q = (nothing, refl, grown-none w.state)
  at-range false q = at-claimed (get_or w.state.claimed i.slot false) (leb-false 64 i.slot q) refl

  at-tile : Keeps w.state (tile_step again i w)
  unfolding tile_step
  at-tile = at-range (leb 64 i.slot) refl

pub tile-keeps : (n : ℕ) → Works (normalize_node n)
unfolding normalize_node
tile-keeps zero i w good = (nothing, refl, grown-none w.state)
tile-keeps (suc n) i w good = at-tile (normalize_node n) (tile-keeps n) i w good
