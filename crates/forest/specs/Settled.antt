-- What every accepted repair ends in: slots that hold one tree and nothing else, or a lone empty root; and the repair of such slots changes nothing.
-- Assumes nothing.
use Rattle.std.specs.Prelude.{◌≡◌, ◌≢◌, ◌⊎◌, Bool, ◌||◌, eqb, length, get_or}
use Rattle.std.proofs.Math.Path.{refl, ap}
use Rattle.std.proofs.Common.{sym, subst, ◌∙◌, inl, inr, eq-eqb, ne_eqb, length-set, length-append, ext_get_or, get_or-set_same}
use Rattle.std.proofs.Math.Bool.{true, false}
use mathlib.Core.List.{List, [], ◌∷◌, ◌++◌, map}
use Rattle.std.proofs.Math.Option.{Option, none, some}
use Prim.Native.Nat.{ℕ, zero, suc, ◌+◌, ◌≤◌, ◌<◌}
use native.Mathlib.Omega.{arith}
use Rattle.rules.specs.Lists.{any_of}
use Rattle.rules.specs.Tree.{Node, empty, empty_group, tile, node_at, set_node, is_empty, kids_of, reading, reading_from, steps, Member}
use Rattle.rules.specs.Repair.{Work, Out, work, out, normalize_node, is_reached, sweep_by, swept, sweep_note, sweep_actions, sweep, Normal, rooted, rooted_out, begin, normalize}
use Rattle.rules.specs.declared.model.TileId.{TileId}
use Rattle.rules.specs.declared.model.RepairAction.{RepairAction}
use Rattle.forest.specs.Lists.{All, Distinct, never, all_map, all-member, find, none-at}
use Rattle.forest.specs.Forest.{tiles, shown, Holds, holds_same}
use Rattle.forest.specs.Grow.{Good, Grown, Left, nothing, group, branch, kept_of, stem, tile-keeps}
use Rattle.forest.specs.Again.{Ready, after, claimed, seeing, walked-leaf, walked-branch, names, heads, reading-all, names-slots, names-long}

-- ---- the two ends

-- the slots hold one tree, of which the root is the top, and nothing else
pub record Tidy (ns : List Node) (r : TileId) (l : Left) : Type 0 where
  pub size : length ns ≡ 64
  pub root_is : kept_of l ≡ some r
  pub held : Holds ns (stem l)
  pub apart : Distinct (tiles (stem l))
  pub panes : Distinct (shown (stem l))
  pub room : length (tiles (stem l)) ≤ 64
  pub rest : (i : ℕ) → All (λ j. i ≢ j) (tiles (stem l)) → get_or ns i empty ≡ empty

-- the only occupied slot is the root, an empty Hidden group
pub record Lone (ns : List Node) (r : TileId) : Type 0 where
  pub size : length ns ≡ 64
  pub inside : r.slot < 64
  pub is : node_at ns r ≡ empty_group
  pub rest : (i : ℕ) → i ≢ r.slot → get_or ns i empty ≡ empty

abbrev pub Settled : List Node → TileId → Type 0
Settled ns r = ((l : Left) × Tidy ns r l) ⊎ Lone ns r

-- ---- the sweep, slot by slot

abbrev pub slots : List TileId → List ℕ
slots xs = map (λ t. t.slot) xs

pub reached-in : (i : ℕ) (xs : List TileId) → Member i (slots xs) → is_reached i xs ≡ true
unfolding any_of
reached-in i [] m = absurd m
reached-in i (x ∷ xs) (inl e) = rw (eq-eqb i x.slot e) refl
reached-in i (x ∷ xs) (inr m) = ap (λ (b : Bool). eqb i x.slot || b) (reached-in i xs m) ∙ or-true (eqb i x.slot)
  where
    or-true : (b : Bool) → (b || true) ≡ true
    or-true true = refl
    or-true false = refl

pub reached-out : (i : ℕ) (xs : List TileId) → All (λ j. i ≢ j) (slots xs) → is_reached i xs ≡ false
unfolding any_of
reached-out i [] a = refl
reached-out i (x ∷ xs) a = rw (ne_eqb i x.slot a.0) (reached-out i xs a.1)

sweep-empty : (b : Bool) → sweep_by b empty ≡ empty
sweep-empty true = refl
sweep-empty false = refl

pub swept_at : (xs : List TileId) (ns : List Node) (k i j : ℕ) → j ≡ k + i → get_or (swept k xs ns) i empty ≡ sweep_by (is_reached j xs) (get_or ns i empty)
unfolding swept
swept_at xs [] k i j e = sym (sweep-empty (is_reached j xs))
swept_at xs (n ∷ ns) k zero j e = ap (λ (x : ℕ). sweep_by (is_reached x xs) n) (let q : k ≡ j = omega arith in q)
swept_at xs (n ∷ ns) k (suc i) j e = swept_at xs ns (suc k) i j (omega arith)

pub swept-length : (k : ℕ) (xs : List TileId) (ns : List Node) → length (swept k xs ns) ≡ length ns
unfolding swept
swept-length k xs [] = refl
swept-length k xs (n ∷ ns) = ap suc (swept-length (suc k) xs ns)

swept-in : (xs : List TileId) (ns : List Node) (i : ℕ) → Member i (slots xs) → get_or (swept 0 xs ns) i empty ≡ get_or ns i empty
swept-in xs ns i m = swept_at xs ns 0 i i (omega arith) ∙ ap (λ (b : Bool). sweep_by b (get_or ns i empty)) (reached-in i xs m)

swept-out : (xs : List TileId) (ns : List Node) (i : ℕ) → All (λ j. i ≢ j) (slots xs) → get_or (swept 0 xs ns) i empty ≡ empty
swept-out xs ns i a = swept_at xs ns 0 i i (omega arith) ∙ ap (λ (b : Bool). sweep_by b (get_or ns i empty)) (reached-out i xs a)

-- where every occupied slot is reached, nothing is emptied and nothing is listed
module _ (xs : List TileId) where
  keep-actions : (ns : List Node) (k : ℕ) (l : List RepairAction) → ((i : ℕ) → is_empty (get_or ns i empty) ≡ false → is_reached (k + i) xs ≡ true) → sweep_actions k xs ns l ≡ l
  unfolding sweep_actions
  keep-actions [] k l h = refl
  keep-actions (n ∷ ns) k l h =
      ap (λ (b : Bool). sweep_actions (suc k) xs ns (sweep_note b k l)) (go (is_empty n) refl)
      ∙ keep-actions ns (suc k) l (λ i e. ap (λ (j : ℕ). is_reached j xs) (let q : suc k + i ≡ k + suc i = omega arith in q) ∙ h (suc i) e)
    where
      go : (b : Bool) → is_empty n ≡ b → (is_reached k xs || b) ≡ true
      go true q = or-true (is_reached k xs)
        where
          or-true : (c : Bool) → (c || true) ≡ true
          or-true true = refl
          or-true false = refl
      go false q = ap (λ (c : Bool). c || false) (ap (λ (j : ℕ). is_reached j xs) (let z : k ≡ k + 0 = omega arith in z) ∙ h 0 q)

-- ---- the tree that a walk leaves, swept

heads-are : (l : Left) (r : TileId) → kept_of l ≡ some r → heads (stem l) ≡ r ∷ []
heads-are nothing r e = absurd (let z : ◌≡◌ {A = ℕ} 0 1 = cc in omega arith)
heads-are (group i ps) r e = let q : i ≡ r = cc in ap (λ (x : TileId). x ∷ []) q
heads-are (branch i a c) r e = let q : i ≡ r = cc in ap (λ (x : TileId). x ∷ []) q

module _ (ns : List Node) (r : TileId) (l : Left) (k : kept_of l ≡ some r) (h : Holds ns (stem l)) (few : length (tiles (stem l)) ≤ 64) where
  pub reads : reading_from ns r ≡ names (stem l)
  reads = ap (reading steps ns) (sym (heads-are l r k)) ∙ reading-all (stem l) ns h steps (omega (arith, names-long (stem l)))

  pub slots-are : slots (reading_from ns r) ≡ tiles (stem l)
  slots-are = ap slots reads ∙ names-slots (stem l)

module _ (ns : List Node) (size : length ns ≡ 64) (r : TileId) (l : Left) (k : kept_of l ≡ some r) (h : Holds ns (stem l)) (apart : Distinct (tiles (stem l)))
    (panes : Distinct (shown (stem l))) (few : length (tiles (stem l)) ≤ 64) where
  abbrev left : List Node
  left = swept 0 (reading_from ns r) ns

  tidy-left : Tidy left r l
  tidy-left =
      record {
        size = swept-length 0 (reading_from ns r) ns ∙ size;
        root_is = k;
        held = holds_same ns left (stem l) (all_map (λ i m. swept-in (reading_from ns r) ns i (rw (slots-are ns r l k h few) m)) (tiles (stem l)) (all-member (tiles (stem l)))) h;
        apart = apart;
        panes = panes;
        room = few;
        rest = λ i a. swept-out (reading_from ns r) ns i (rw (slots-are ns r l k h few) a);
      }

-- ---- a fresh root

module _ (ns : List Node) (size : length ns ≡ 64) (i : ℕ) (h : i < 64) where
  abbrev pub fresh : List Node
  fresh = set_node (tile i) empty_group ns

  fresh_at : get_or fresh i empty ≡ empty_group
  fresh_at = get_or-set_same ns i empty_group empty (omega arith)

  pub fresh-reads : reading_from fresh (tile i) ≡ tile i ∷ []
  unfolding reading
  fresh-reads = ap (λ (x : Node). tile i ∷ reading 1024 fresh (kids_of x ++ [])) fresh_at

  lone-left : Lone (swept 0 (reading_from fresh (tile i)) fresh) (tile i)
  lone-left =
      subst (λ (xs : List TileId). Lone (swept 0 xs fresh) (tile i)) (sym fresh-reads)
      record {
        size = swept-length 0 (tile i ∷ []) fresh ∙ length-set ns i empty_group ∙ size;
        inside = h;
        is = swept-in (tile i ∷ []) fresh i (inl refl) ∙ fresh_at;
        rest = λ j n. swept-out (tile i ∷ []) fresh j (n, tt);
      }

-- ---- every normalized arena is settled

module _ (ns : List Node) (size : length ns ≡ 64) (r : TileId) where
  good : Good (begin ns).state
  good = (refl, size)

  abbrev o : Out
  o = normalize_node 64 r (begin ns)

  module _ (l : Left) (G : Grown (begin ns).state o.work.state (stem l)) where
    pub few : length (tiles (stem l)) ≤ 64
    few = omega (arith, G.room)

    panes-apart : Distinct (shown (stem l))
    panes-apart = subst Distinct G.sees (G.once tt)

    pub tidied : (s : TileId) → kept_of l ≡ some s → Tidy (swept 0 (reading_from o.work.state.nodes s) o.work.state.nodes) s l
    tidied s k = tidy-left o.work.state.nodes (G.size ∙ size) s l k G.holds G.apart panes-apart few

  settled-by : (free : List ℕ) → All (λ i. i < 64) free → (k : Option TileId) (l : Left) → k ≡ kept_of l → Grown (begin ns).state o.work.state (stem l)
      → (n : Normal) → rooted free k o.work ≡ some n → Settled n.nodes n.root
  settled-by free h (some s) l q G n e =
      let x = sweep s o.work.state.nodes o.work.actions in
      let same : x ≡ n = cc in
      subst (λ (m : Normal). Settled m.nodes m.root) same (inl (l, tidied l G s (sym q)))
  settled-by [] h none l q G n e = absurd (let z : ◌≡◌ {A = ℕ} 0 1 = cc in omega arith)
  settled-by (i ∷ is) h none l q G n e =
      let x = sweep (tile i) (set_node (tile i) empty_group o.work.state.nodes) o.work.actions in
      let same : x ≡ n = cc in
      subst (λ (m : Normal). Settled m.nodes m.root) same (inr (lone-left o.work.state.nodes (G.size ∙ size) i h.0))

  pub settled : (free : List ℕ) → All (λ i. i < 64) free → (n : Normal) → normalize free r ns ≡ some n → Settled n.nodes n.root
  unfolding normalize
  settled free h n e = let (l, q, G) = tile-keeps 64 r (begin ns) good in settled-by free h o.kept l q G n e

-- ---- and the repair of a tidy tree is the tree, with no action

module _ (ns : List Node) (r : TileId) (l : Left) (T : Tidy ns r l) where
  ready : Ready (begin ns).state (stem l)
  ready = record { holds = T.held; open-yet = all_map (λ i m. none-at 64 i) (tiles (stem l)) (all-member (tiles (stem l))); apart = T.apart; panes = T.panes }

  abbrev xs : List TileId
  xs = reading_from ns r

  xs-slots : slots xs ≡ tiles (stem l)
  xs-slots = slots-are ns r l T.root_is T.held T.room

  pub occupied-in : (i : ℕ) → is_empty (get_or ns i empty) ≡ false → Member i (tiles (stem l))
  occupied-in i n = go (find i (tiles (stem l)))
    where
      go : Member i (tiles (stem l)) ⊎ All (λ j. i ≢ j) (tiles (stem l)) → Member i (tiles (stem l))
      go (inl m) = m
      go (inr a) = never (ap is_empty (sym (T.rest i a)) ∙ n)

  slot_same : (i : ℕ) → Member i (tiles (stem l)) ⊎ All (λ j. i ≢ j) (tiles (stem l)) → get_or (swept 0 xs ns) i empty ≡ get_or ns i empty
  slot_same i (inl m) = swept-in xs ns i (rw xs-slots m)
  slot_same i (inr a) = swept-out xs ns i (rw xs-slots a) ∙ sym (T.rest i a)

  slots_same : swept 0 xs ns ≡ ns
  slots_same = ext_get_or empty (swept 0 xs ns) ns (swept-length 0 xs ns) (λ i h. slot_same i (find i (tiles (stem l))))

  quiet : sweep_actions 0 xs ns [] ≡ []
  quiet = keep-actions xs ns 0 [] (λ i e. ap (λ (j : ℕ). is_reached j xs) (let q : 0 + i ≡ i = omega arith in q) ∙ reached-in i xs (rw xs-slots (occupied-in i e)))

  abbrev pub unchanged : Normal
  unchanged = record { root = r; nodes = ns; actions = [] }

  -- from the walk's answer, its slots and its actions
  fixed-by : (free : List ℕ) (v : Work) → normalize_node 64 r (begin ns) ≡ out (some r) v → v.state.nodes ≡ ns → v.actions ≡ [] → normalize free r ns ≡ some unchanged
  unfolding normalize
  fixed-by free v e en ea =
      ap (rooted_out free) e ∙ (λ z. some (sweep r (en z) (ea z))) ∙ (λ z. some (record { root = r; nodes = slots_same z; actions = quiet z }))

pub tidy-fixed : (free : List ℕ) (ns : List Node) (r : TileId) (l : Left) (T : Tidy ns r l) → normalize free r ns ≡ some (unchanged ns r l T)
tidy-fixed free ns r nothing T = absurd (let k = T.root_is in let z : ◌≡◌ {A = ℕ} 0 1 = cc in omega arith)
tidy-fixed free ns r (group i ps) T =
    let k = T.root_is in
    let q : i ≡ r = cc in
    let v = work (seeing ps (claimed i (begin ns).state)) [] in
    fixed-by ns r (group i ps) T free v
    (subst (λ (j : TileId). normalize_node 64 j (begin ns) ≡ out (some j) v) q (walked-leaf 63 i ps (begin ns) (ready ns r (group i ps) T))) refl refl
tidy-fixed free ns r (branch i a c) T =
    let k = T.root_is in
    let q : i ≡ r = cc in
    let v = work (after (claimed i (begin ns).state) c) [] in
    fixed-by ns r (branch i a c) T free v
    (subst (λ (j : TileId). normalize_node 64 j (begin ns) ≡ out (some j) v) q
    (walked-branch 63 i a c (begin ns) (ready ns r (branch i a c) T) (omega (arith, T.room, length-append (tiles c) [])))) refl refl
