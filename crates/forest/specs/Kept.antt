-- Repair keeps the panes of slots that hold a loose forest, in their order: by induction on the forest, a walk claims its tiles and sees its panes.
-- Assumes nothing.
use Rattle.std.specs.Prelude.{◌≡◌, ◌≢◌, Bool, true, leb, get_or, set, replicate, Float}
use Rattle.std.proofs.Math.Path.{refl, sym, ap, subst}
use Rattle.std.proofs.Common.{◌∙◌, inl, inr, arith, leb-false, length-set, get_or-set_same, get_or-set_other}
use Rattle.std.proofs.Math.Bool.{false}
use mathlib.Core.List.{List, [], ◌∷◌, ◌++◌, append_assoc, append-nil}
use Rattle.std.proofs.Math.Option.{Option, none, some}
use Prim.Native.Nat.{ℕ, zero, suc, ◌≤◌, ◌<◌}
use Rattle.std.proofs.Math.ListN.{length, length-append}
use Rattle.rules.specs.Numbers.{zero-f}
use Rattle.rules.specs.Lists.{any_of}
use Rattle.rules.specs.Tree.{Node, empty, pane, tabs, split, node_at, Arena, empty_slots, wide_node}
use Rattle.rules.specs.Target.{panes_in}
use Rattle.rules.specs.Shares.{repaired_shares}
use Rattle.rules.specs.Minima.{fix_minimum, aligned_constraints}
use Rattle.rules.specs.Repair.{State, Work, Out, state, claim, gone, pane_by, Sifted, sifted, sift_by, retain, group_left, group_step, Entry, entry, entries, Run, run, melts, place_by, place, place_out, kids_from, children_of, split_left, split_done, split_noted, split_step, by_node, by_claimed, by_range, tile_step, normalize_node, Normal, begin, normalize, repaired_by, repaired_as, repair_by, repair}
use Rattle.rules.specs.declared.model.TileId.{TileId}
use Rattle.rules.specs.declared.model.Axis.{Axis}
use Rattle.rules.specs.declared.model.Axis.TheVariants.{Horizontal}
use Rattle.rules.specs.declared.model.TabBarPlacement.{TabBarPlacement}
use Rattle.rules.specs.Refusals.{Accepted}
use Rattle.forest.specs.Lists.{All, Distinct, never, all_map, all_both, all_append, all_left, all_right, member-all, distinct-left, distinct-right, distinct_apart, false-contains, free, free-set, marked, marked_append, marked_other, none-at, set-mono, set_back}
use Rattle.forest.specs.Mended.{fix_minimum-twice}
use Rattle.forest.specs.Lengths.{repaired-length, aligned-length}
use Rattle.forest.specs.Codec.{Least, start-least, entries-children}
use Rattle.forest.specs.Forest.{Forest, Same}
use Rattle.forest.specs.Grow.{Good, Grown, back, good-after, kid-keeps, tile-keeps}
use Rattle.forest.specs.Again.{tile-by}
use Rattle.forest.specs.Soundness.{slots-inside}
use Rattle.forest.specs.Seen.{panes-seen}
use Rattle.forest.specs.Loose.{Loose, end, lost, shows, parts, heads, tiles, shown, Lost, Shows, Parts, Loosely, loosely-inside, Held}

-- ---- laws of flags and lists

marked-keeps : (cs : List Bool) (xs : List ℕ) (j : ℕ) → get_or cs j false ≡ true → get_or (marked cs xs) j false ≡ true
marked-keeps cs [] j e = e
marked-keeps cs (x ∷ xs) j e = marked-keeps (set cs x true) xs j (set-mono cs x j e)

marked-in : (cs : List Bool) (xs : List ℕ) (n : ℕ) → length cs ≡ n → All (λ i. i < n) xs → All (λ j. get_or (marked cs xs) j false ≡ true) xs
marked-in cs [] n e h = tt
marked-in cs (x ∷ xs) n e h =
    (marked-keeps (set cs x true) xs x (get_or-set_same cs x true false (let k = h.0 in omega (arith, e, k))), marked-in (set cs x true) xs n (length-set cs x true ∙ e) h.1)

unset : (cs : List Bool) (x : ℕ) (xs : List ℕ) → All (λ y. y ≢ x) xs → All (λ j. get_or cs j false ≡ false) xs → All (λ j. get_or (set cs x true) j false ≡ false) xs
unset cs x = all_both (λ j n o. get_or-set_other cs x j true false n ∙ o)

-- so many flags are set
few-marked : (cs : List Bool) (xs : List ℕ) (n : ℕ) → length cs ≡ n → All (λ i. i < n) xs → All (λ j. get_or cs j false ≡ false) xs → Distinct xs → length xs ≤ free cs
few-marked cs [] n e h o d = omega arith
few-marked cs (x ∷ xs) n e h o d =
    let ih = few-marked (set cs x true) xs n (length-set cs x true ∙ e) h.1 (unset cs x xs d.0 o.1) d.1 in
    let one = free-set cs x (let k = h.0 in omega (arith, e, k)) o.0 in omega (arith, ih, one)

-- ---- what is told of a walk: which tiles were claimed, and which panes were seen

pub record Told (w v : State) (ts ps : List ℕ) : Type 0 where
  pub claims : v.claimed ≡ marked w.claimed ts
  pub sees : v.panes ≡ w.panes ++ ps

-- the same claims and panes
abbrev pub Alike : State → State → Type 0
Alike v u = (u.claimed ≡ v.claimed) × (u.panes ≡ v.panes)

told-alike : (w v u : State) (ts ps : List ℕ) → Told w v ts ps → Alike v u → Told w u ts ps
told-alike w v u ts ps t a = record { claims = a.0 ∙ t.claims; sees = a.1 ∙ t.sees }

told-chain : (w v u : State) (ts us ps qs : List ℕ) → Told w v ts ps → Told v u us qs → Told w u (ts ++ us) (ps ++ qs)
told-chain w v u ts us ps qs a b =
    record {
      claims = b.claims ∙ ap (λ (cs : List Bool). marked cs us) a.claims ∙ marked_append w.claimed ts us;
      sees = b.sees ∙ ap (λ (l : List ℕ). l ++ qs) a.sees ∙ append_assoc w.panes ps qs;
    }

told_none : (w : State) → Told w w [] []
told_none w = record { claims = refl; sees = sym (append-nil w.panes) }

-- placing a child, and leaving a split or a group, touches neither
place-by : (b : Bool) (e : Entry) (c : TileId) (n : Node) (r : Run) (w : Work) → Alike w.state (place_by b e c n r w).left.state
place-by true e c n r w = (refl, refl)
place-by false e c n r w = (refl, refl)

pub place-alike : (a : Axis) (e : Entry) (k : Option TileId) (r : Run) (w : Work) → Alike w.state (place a e k r w).left.state
place-alike a e none r w = (refl, refl)
place-alike a e (some c) r w = place-by (melts a e.minimum (node_at w.state.nodes c)) e c (node_at w.state.nodes c) r w

pub split-alike : (i : TileId) (a : Axis) (old : List Float) (es : List Entry) (r : Run) → Alike r.left.state (split_left i a old es r).work.state
split-alike i a old [] r = (refl, refl)
split-alike i a old (e ∷ []) r = (refl, refl)
split-alike i a old (e ∷ f ∷ es) r = (refl, refl)

pub group-alike : (i : TileId) (b : TabBarPlacement) (a : ℕ) (ps qs : List ℕ) (w : Work) → Alike w.state (group_left i b a ps qs w).work.state
group-alike i b a ps [] w = (refl, refl)
group-alike i b a ps (q ∷ qs) w = (refl, refl)

-- panes that were not seen are seen, in order
retain-sees : (i : TileId) (ps : List ℕ) (s : Sifted) → Distinct (s.left.state.panes ++ ps) → Told s.left.state (retain i ps s).left.state [] ps
unfolding retain
retain-sees i [] s d = told_none s.left.state
retain-sees i (p ∷ ps) s d =
    let v = s.left.state in
    let t = sift_by false i p s in
    subst (λ (b : Bool). Told v (retain i ps (sift_by b i p s)).left.state [] (p ∷ ps)) (sym (false-contains p v.panes (distinct_apart v.panes (p ∷ ps) d).0))
    (told-chain v t.left.state (retain i ps t).left.state [] [] (p ∷ []) ps record { claims = refl; sees = refl } (retain-sees i ps t (rw (append_assoc v.panes (p ∷ []) ps) d)))

-- ---- the walk

module _ (ns : List Node) where
  pub record Ready (w : State) (before : List ℕ) (f : Loose) : Type 0 where
    pub good : Good w
    pub agrees : (j : ℕ) → get_or w.claimed j false ≡ false → Same ns w.nodes j
    pub taken : All (λ j. get_or w.claimed j false ≡ true) before
    pub holds : Loosely ns before f
    pub open-yet : All (λ j. get_or w.claimed j false ≡ false) (tiles f)
    pub apart : Distinct (tiles f)
    pub panes : Distinct (w.panes ++ shown f)

  -- ---- one tile

  lost-by : (again : TileId → Work → Out) (i : TileId) (w : Work) (x : Node) → x ≡ empty → by_node x again i w ≡ gone i w
  lost-by again i w x e = ap (λ (y : Node). by_node y again i w) e

  module _ (again : TileId → Work → Out) (before : List ℕ) (i : TileId) (w : Work) (r : Loose) (R : Ready w.state before (lost i r)) where
    nowhere : leb 64 i.slot ≡ false → get_or w.state.claimed i.slot false ≡ false → Lost ns before i → by_node (node_at w.state.nodes i) again i w ≡ gone i w
    nowhere q e (inl h) = let k = leb-false 64 i.slot q in absurd (omega (arith, k, h))
    nowhere q e (inr (inl h)) = lost-by again i w (node_at w.state.nodes i) (R.agrees i.slot e ∙ h)
    nowhere q e (inr (inr m)) = never (sym (member-all (λ j. get_or w.state.claimed j false ≡ true) i.slot before m R.taken) ∙ e)

    lost-claimed : (b : Bool) → leb 64 i.slot ≡ false → get_or w.state.claimed i.slot false ≡ b → by_claimed b again i w ≡ gone i w
    lost-claimed true q e = refl
    lost-claimed false q e = nowhere q e R.holds.0

    lost-range : (b : Bool) → leb 64 i.slot ≡ b → by_range b again i w ≡ gone i w
    lost-range true q = refl
    lost-range false q = lost-claimed (get_or w.state.claimed i.slot false) q refl

    lost-tile : tile_step again i w ≡ gone i w
    unfolding tile_step
    lost-tile = lost-range (leb 64 i.slot) refl

  tile-lost : (n : ℕ) (before : List ℕ) (i : TileId) (w : Work) (r : Loose) → Ready w.state before (lost i r) → Told w.state (normalize_node n i w).work.state [] []
  unfolding normalize_node
  tile-lost zero before i w r R = told_none w.state
  tile-lost (suc n) before i w r R = subst (λ (o : Out). Told w.state o.work.state [] []) (sym (lost-tile (normalize_node n) before i w r R)) (told_none w.state)

  -- its claim, and then what is told of it
  claimed-told : (i : TileId) (w v : State) (ts ps : List ℕ) → Told (state w.nodes (set w.claimed i.slot true) w.panes) v ts ps → Told w v (i.slot ∷ ts) ps
  claimed-told i w v ts ps t = record { claims = t.claims; sees = t.sees }

  shows-by : (again : TileId → Work → Out) (i : TileId) (w : Work) (ps : List ℕ) (x : Node) → Shows x ps → Distinct (w.state.panes ++ ps)
      → Told w.state (by_node x again i w).work.state (i.slot ∷ []) ps
  unfolding group_step
  shows-by again i w ps empty l d = absurd l
  shows-by again i w ps (pane p) l d =
      let d' : Distinct (w.state.panes ++ p ∷ []) = subst (λ (qs : List ℕ). Distinct (w.state.panes ++ qs)) l d in
      subst (λ (b : Bool). Told w.state (pane_by b i p (claim i w)).work.state (i.slot ∷ []) ps) (sym (false-contains p w.state.panes (distinct_apart w.state.panes (p ∷ []) d').0))
      record { claims = refl; sees = ap (λ (qs : List ℕ). w.state.panes ++ qs) (sym l) }
  shows-by again i w ps (tabs b a qs) l d =
      let s = retain i qs (sifted [] (claim i w)) in
      let T = retain-sees i qs (sifted [] (claim i w)) (subst (λ (rs : List ℕ). Distinct (w.state.panes ++ rs)) l d) in
      subst (Told w.state (group_left i b a qs s.list s.left).work.state (i.slot ∷ [])) (sym l)
      (claimed-told i w.state (group_left i b a qs s.list s.left).work.state [] qs
      (told-alike (claim i w).state s.left.state (group_left i b a qs s.list s.left).work.state [] qs T (group-alike i b a qs s.list s.left)))
  shows-by again i w ps (split a cs ss ms) l d = absurd l

  -- what is under a split, told of the walk along its children
  abbrev Under : ℕ → Loose → Type 0
  Under n c = (before : List ℕ) (a : Axis) (es : List Entry) (r : Run) → children_of es ≡ heads c → All Least es → Ready r.left.state before c
      → Told r.left.state (kids_from (normalize_node n) a es r).left.state (tiles c) (shown c)

  parts-by : (n : ℕ) (before : List ℕ) (i : TileId) (w : Work) (c : Loose) (x : Node) → Parts x (heads c) → Under n c → Ready (claim i w).state before c
      → Told w.state (by_node x (normalize_node n) i w).work.state (i.slot ∷ tiles c) (shown c)
  unfolding split_step
  parts-by n before i w c empty l ih R = absurd l
  parts-by n before i w c (pane p) l ih R = absurd l
  parts-by n before i w c (tabs b a qs) l ih R = absurd l
  parts-by n before i w c (split a cs ss ms) l ih R =
      let old = repaired_shares (length cs) ss in
      let mins = aligned_constraints (length cs) ms in
      let s = run [] false (split_noted i ss ms old mins (claim i w)) in
      let t = kids_from (normalize_node n) a (entries cs old mins) s in
      let T = ih before a (entries cs old mins) s (entries-children cs old mins (repaired-length (length cs) ss) (aligned-length (length cs) ms) ∙ l) (start-least cs old ms (length cs)) R in
      claimed-told i w.state (split_done i a ss t).work.state (tiles c) (shown c)
      (told-alike (claim i w).state t.left.state (split_done i a ss t).work.state (tiles c) (shown c) T (split-alike i a ss t.list t))

  -- ---- from a forest that is ready to its parts

  module _ (w : State) (before : List ℕ) (i : TileId) (c r : Loose) (R : Ready w before (parts i c r)) where
    ready-under : Ready (state w.nodes (set w.claimed i.slot true) w.panes) (i.slot ∷ before) c
    ready-under =
        record {
          good = (length-set w.claimed i.slot true ∙ R.good.0, R.good.1);
          agrees = λ j q. R.agrees j (set_back w.claimed i.slot j q);
          taken = (
            get_or-set_same w.claimed i.slot true false (let k = R.holds.0.0 in let g = R.good.0 in omega (arith, k, g)),
            all_map (λ j t. set-mono w.claimed i.slot j t) before R.taken,
          );
          holds = R.holds.1;
          open-yet = unset w.claimed i.slot (tiles c) (all_left (λ j. j ≢ i.slot) (tiles c) (tiles r) R.apart.0) (all_left (λ j. get_or w.claimed j false ≡ false) (tiles c) (tiles r) R.open-yet.1);
          apart = distinct-left (tiles c) (tiles r) R.apart.1;
          panes = distinct-left (w.panes ++ shown c) (shown r) (rw (append_assoc w.panes (shown c) (shown r)) R.panes);
        }

  -- what is to be known of a child that claims ts and sees ps, and of what stands beside it
  record Beside (w : State) (before ts ps : List ℕ) (r : Loose) : Type 0 where
    good : Good w
    agrees : (j : ℕ) → get_or w.claimed j false ≡ false → Same ns w.nodes j
    taken : All (λ j. get_or w.claimed j false ≡ true) before
    inside : All (λ j. j < 64) ts
    holds : Loosely ns (ts ++ before) r
    open-yet : All (λ j. get_or w.claimed j false ≡ false) (ts ++ tiles r)
    apart : Distinct (ts ++ tiles r)
    panes : Distinct (w.panes ++ (ps ++ shown r))

  -- after the child the rest is ready
  ready-beside : (w v : State) (before ts ps : List ℕ) (r : Loose) (g : Forest) → Grown w v g → Told w v ts ps → Beside w before ts ps r → Ready v (ts ++ before) r
  ready-beside w v before ts ps r g G T B =
      record {
        good = good-after w v g B.good G;
        agrees = λ j q. G.still j q ∙ B.agrees j (back w v g G j q);
        taken = all_append (λ j. get_or v.claimed j false ≡ true) ts before
            (subst (λ (cs : List Bool). All (λ j. get_or cs j false ≡ true) ts) (sym T.claims) (marked-in w.claimed ts 64 B.good.0 B.inside))
            (all_map (λ j t. (G.keep j t).0) before B.taken);
        holds = B.holds;
        open-yet = all_both (λ j x y. ap (λ (cs : List Bool). get_or cs j false) T.claims ∙ marked_other w.claimed ts j x ∙ y) (tiles r)
            (distinct_apart ts (tiles r) B.apart) (all_right (λ j. get_or w.claimed j false ≡ false) ts (tiles r) B.open-yet);
        apart = distinct-right ts (tiles r) B.apart;
        panes = subst (λ (l : List ℕ). Distinct (l ++ shown r)) (sym T.sees) (rw (append_assoc w.panes ps (shown r)) B.panes);
      }

  -- a child, then the others
  module _ (n : ℕ) (before ts ps : List ℕ) (a : Axis) (e : Entry) (es : List Entry) (r : Run) (g : Loose) where
    abbrev o : Out
    o = normalize_node n e.child r.left

    abbrev next : Run
    next = place_out a e r o

    one_more : Least e → Told r.left.state o.work.state ts ps → Beside r.left.state before ts ps g
        → (Ready next.left.state (ts ++ before) g → Told next.left.state (kids_from (normalize_node n) a es next).left.state (tiles g) (shown g))
        → Told r.left.state (kids_from (normalize_node n) a (e ∷ es) r).left.state (ts ++ tiles g) (ps ++ shown g)
    unfolding kids_from
    one_more le T B rest =
        let w = r.left.state in
        let v = next.left.state in
        let (f, _, G, _) = kid-keeps (normalize_node n) (tile-keeps n) a e r B.good le in
        let U = told-alike w o.work.state v ts ps T (place-alike a e o.kept r o.work) in
        told-chain w v (kids_from (normalize_node n) a es next).left.state ts (tiles g) ps (shown g) U (rest (ready-beside w v before ts ps g f G U B))

  -- ---- by the forest

  walked : (f : Loose) (n : ℕ) → length (tiles f) ≤ n → Under n f
  unfolding kids_from
  walked end n h before a [] r q le R = told_none r.left.state
  walked end n h before a (e ∷ es) r q le R = absurd (let z = ap length q in omega (arith, z))
  walked (lost i g) n h before a [] r q le R = absurd (let z = ap length q in omega (arith, z))
  walked (lost i g) n h before a (e ∷ es) r q le R =
      let w = r.left.state in
      let k : i ≡ e.child = cc in
      let ks : children_of es ≡ heads g = cc in
      one_more n before [] [] a e es r g le.0
      (subst (λ (x : TileId). Told w (normalize_node n x r.left).work.state [] []) k (tile-lost n before i r.left g R))
      record {
        good = R.good;
        agrees = R.agrees;
        taken = R.taken;
        inside = tt;
        holds = R.holds.1;
        open-yet = R.open-yet;
        apart = R.apart;
        panes = R.panes;
      }
      (λ S. walked g n h before a es (next n before [] [] a e es r g) ks le.1 S)
  walked (shows i ps g) n h before a [] r q le R = absurd (let z = ap length q in omega (arith, z))
  walked (shows i ps g) zero h before a (e ∷ es) r q le R = absurd (omega arith)
  walked (shows i ps g) (suc n) h before a (e ∷ es) r q le R =
      let w = r.left.state in
      let k : i ≡ e.child = cc in
      let ks : children_of es ≡ heads g = cc in
      let is = R.agrees i.slot R.open-yet.0 in
      let d = distinct-left (w.panes ++ ps) (shown g) (rw (append_assoc w.panes ps (shown g)) R.panes) in
      let T : Told w (normalize_node (suc n) i r.left).work.state (i.slot ∷ []) ps =
      subst (λ (x : Out). Told w x.work.state (i.slot ∷ []) ps) (sym (tile-by n i r.left (node_at ns i) R.holds.0.0 R.open-yet.0 is))
      (shows-by (normalize_node n) i r.left ps (node_at ns i) R.holds.0.1 d) in
      one_more (suc n) before (i.slot ∷ []) ps a e es r g le.0
      (subst (λ (x : TileId). Told w (normalize_node (suc n) x r.left).work.state (i.slot ∷ []) ps) k T)
      record {
        good = R.good;
        agrees = R.agrees;
        taken = R.taken;
        inside = (R.holds.0.0, tt);
        holds = R.holds.1;
        open-yet = R.open-yet;
        apart = R.apart;
        panes = R.panes;
      }
      (λ S. walked g (suc n) (omega arith) (i.slot ∷ before) a es (next (suc n) before (i.slot ∷ []) ps a e es r g) ks le.1 S)
  walked (parts i c g) n h before a [] r q le R = absurd (let z = ap length q in omega (arith, z))
  walked (parts i c g) zero h before a (e ∷ es) r q le R = absurd (omega arith)
  walked (parts i c g) (suc n) h before a (e ∷ es) r q le R =
      let w = r.left.state in
      let k : i ≡ e.child = cc in
      let ks : children_of es ≡ heads g = cc in
      let is = R.agrees i.slot R.open-yet.0 in
      let all = length-append (tiles c) (tiles g) in
      let T : Told w (normalize_node (suc n) i r.left).work.state (i.slot ∷ tiles c) (shown c) =
      subst (λ (x : Out). Told w x.work.state (i.slot ∷ tiles c) (shown c)) (sym (tile-by n i r.left (node_at ns i) R.holds.0.0 R.open-yet.0 is))
      (parts-by n (i.slot ∷ before) i r.left c (node_at ns i) R.holds.0.1 (walked c n (omega (arith, all))) (ready-under w before i c g R)) in
      one_more (suc n) before (i.slot ∷ tiles c) (shown c) a e es r g le.0
      (subst (λ (x : TileId). Told w (normalize_node (suc n) x r.left).work.state (i.slot ∷ tiles c) (shown c)) k T)
      record {
        good = R.good;
        agrees = R.agrees;
        taken = R.taken;
        inside = (R.holds.0.0, loosely-inside ns (i.slot ∷ before) c R.holds.1);
        holds = R.holds.2;
        open-yet = R.open-yet;
        apart = R.apart;
        panes = R.panes;
      }
      (λ S. walked g (suc n) (omega (arith, all)) (i.slot ∷ (tiles c ++ before)) a es (next (suc n) before (i.slot ∷ tiles c) (shown c) a e es r g) ks le.1 S)

-- ---- the theorem

module _ (ns : List Node) (r : TileId) (f : Loose) (H : Held ns r f) where
  ready : Ready ns (begin ns).state [] f
  ready =
      record {
        good = (refl, H.size);
        agrees = λ j q. refl;
        taken = tt;
        holds = H.holds;
        open-yet = all_map (λ j k. none-at 64 j) (tiles f) (loosely-inside ns [] f H.holds);
        apart = H.apart;
        panes = H.panes;
      }

  -- at most 64 tiles
  pub few : length (tiles f) ≤ 64
  few = few-marked (replicate 64 false) (tiles f) 64 refl (loosely-inside ns [] f H.holds) ready.open-yet H.apart

  -- the walk sees its panes, in order
  pub walk-sees : (normalize_node 64 r (begin ns)).work.state.panes ≡ shown f
  unfolding kids_from
  walk-sees =
      let e = entry r zero-f (fix_minimum zero-f) in
      let s = run [] false (begin ns) in
      let o = normalize_node 64 r (begin ns) in
      let T = walked ns f 64 few [] Horizontal (e ∷ []) s (sym H.root_is) (fix_minimum-twice zero-f, tt) ready in
      sym (place-alike Horizontal e o.kept s o.work).1 ∙ T.sees

  -- so repair keeps them, each in its place among them
  pub keeps-panes : (free' : List ℕ) → All (λ i. i < 64) free' → (n : Normal) → normalize free' r ns ≡ some n → panes_in n.root n.nodes ≡ shown f
  keeps-panes free' h n e = panes-seen ns H.size r free' h n e ∙ walk-sees

-- ---- and so does the public call

module _ (a : Arena) (f : Loose) (H : Held a.nodes a.root f) where
  panes-by : (b : Bool) (n : Normal) → panes_in n.root n.nodes ≡ shown f → (repaired_by b a n).answer ≡ Accepted → panes_in (repaired_by b a n).tree.root (repaired_by b a n).tree.nodes ≡ shown f
  panes-by true n p e = absurd (let z : ◌≡◌ {A = ℕ} 0 1 = cc in omega arith)
  panes-by false n p e = p

  panes-as : (o : Option Normal) → normalize (empty_slots a.nodes) a.root a.nodes ≡ o → (repaired_as a o).answer ≡ Accepted → panes_in (repaired_as a o).tree.root (repaired_as a o).tree.nodes ≡ shown f
  panes-as none q e = absurd (let z : ◌≡◌ {A = ℕ} 0 1 = cc in omega arith)
  panes-as (some n) q e = panes-by (any_of wide_node n.nodes) n (keeps-panes a.nodes a.root f H (empty_slots a.nodes) (slots-inside a.nodes H.size) n q) e

  panes-if : (b : Bool) → (repair_by b a).answer ≡ Accepted → panes_in (repair_by b a).tree.root (repair_by b a).tree.nodes ≡ shown f
  panes-if true e = absurd (let z : ◌≡◌ {A = ℕ} 0 1 = cc in omega arith)
  panes-if false e = panes-as (normalize (empty_slots a.nodes) a.root a.nodes) refl e

  pub repair-panes : (repair a).answer ≡ Accepted → panes_in (repair a).tree.root (repair a).tree.nodes ≡ shown f
  unfolding repair
  repair-panes e = panes-if a.over e
