-- A walk over a forest that the slots hold keeps it, writes nothing and notes nothing; and what is read from its roots is its tiles.
-- By induction on the forest. Assumes nothing.
use Rattle.std.specs.Prelude.{◌≡◌, refl, ◌≢◌, Bool, true, false, not, ◌||◌, List, [], ◌∷◌, ◌++◌, map, ℕ, zero, suc, ◌+◌, ◌-◌, ◌≤◌, ◌<◌, eqb, length, get_or, set, Float}
use Rattle.std.proofs.Common.{sym, ap, subst, ◌∙◌, append_assoc, append-nil, arith, not-suc-le-zero, le_of_suc-le-suc, eq-eqb, ne_eqb, length-append, get_or-set_other}
use Rattle.std.proofs.Math.Option.{Option, none, some}
use Rattle.std.proofs.lemmas.Bool.{lt-leb}
use Rattle.std.proofs.Math.ListN.{get_elem?}
use Rattle.std.proofs.lemmas.List.{set-get_or}
use Rattle.rules.specs.Numbers.{zero-f}
use Rattle.rules.specs.Lists.{position_from}
use Rattle.rules.specs.Tree.{Node, empty, pane, tabs, split, node_at, kids_of, reading}
use Rattle.rules.specs.Shares.{repaired_shares}
use Rattle.rules.specs.Minima.{compact_constraints}
use Rattle.rules.specs.Repair.{State, Work, Out, state, work, out, note_if, claim, pane_by, Sifted, sifted, sift_by, retain, active_of, or_first, group_left, group_step, Entry, entry, entries, Run, run, melts, place_by, place_out, kids_from, children_of, shares_of, minima_of, kept_split, split_done, split_noted, split_step, by_node, by_range, by_claimed, tile_step, normalize_node}
use Rattle.rules.specs.declared.model.TileId.{TileId}
use Rattle.rules.specs.declared.model.Axis.{Axis}
use Rattle.rules.specs.declared.model.TabBarPlacement.{TabBarPlacement}
use Rattle.rules.specs.declared.model.RepairAction.TheVariants.{RepairedActiveTab, RepairedShares, RepairedConstraints}
use Rattle.forest.specs.Lists.{All, Distinct, all_both, all_left, all_right, all_get_d, false-contains, distinct-left, distinct-right, distinct_apart, marked, marked_append, marked_other}
use Rattle.forest.specs.Codec.{stored, Shared, Least, long-children, shares-back, minima-back, read_back, shares-equal, minima-equal}
use Rattle.forest.specs.Forest.{Forest, nil, leaf, node, roots, tiles, shown, Leafy, IsLeaf, IsSplit, Fine, fine-shared, fine-least, Holds}

pub record Ready (w : State) (f : Forest) : Type 0 where
  pub holds : Holds w.nodes f
  pub open-yet : All (λ i. get_or w.claimed i false ≡ false) (tiles f)
  pub apart : Distinct (tiles f)
  pub panes : Distinct (w.panes ++ shown f)

abbrev pub after : State → Forest → State
after w f = state w.nodes (marked w.claimed (tiles f)) (w.panes ++ shown f)

abbrev pub claimed : TileId → State → State
claimed i w = state w.nodes (set w.claimed i.slot true) w.panes

abbrev pub seeing : List ℕ → State → State
seeing ps w = state w.nodes w.claimed (w.panes ++ ps)

-- ---- panes that were not seen

retain-same : (i : TileId) (ps : List ℕ) (s : Sifted) → Distinct (s.left.state.panes ++ ps)
    → retain i ps s ≡ sifted (s.list ++ ps) (work (seeing ps s.left.state) s.left.actions)
unfolding retain
retain-same i [] s d =
    λ z. sifted (sym (append-nil s.list) z) (work (state s.left.state.nodes s.left.state.claimed (sym (append-nil s.left.state.panes) z)) s.left.actions)
retain-same i (p ∷ ps) s d =
    let v = s.left.state in
    let t = sift_by false i p s in
    ap (λ (b : Bool). retain i ps (sift_by b i p s)) (false-contains p v.panes (distinct_apart v.panes (p ∷ ps) d).0)
    ∙ retain-same i ps t (rw (append_assoc v.panes (p ∷ []) ps) d)
    ∙ (λ z. sifted (append_assoc s.list (p ∷ []) ps z) (work (state v.nodes v.claimed (append_assoc v.panes (p ∷ []) ps z)) s.left.actions))

pub element-at : (xs : List ℕ) (n : ℕ) → n < length xs → get_elem? xs n ≡ some (get_or xs n 0)
element-at [] n h = absurd (not-suc-le-zero h)
element-at (x ∷ xs) zero h = refl
element-at (x ∷ xs) (suc n) h = element-at xs n (le_of_suc-le-suc h)

pub element-past : (xs : List ℕ) (n : ℕ) → length xs ≤ n → get_elem? xs n ≡ none
element-past [] n h = refl
element-past (x ∷ xs) zero h = absurd (not-suc-le-zero h)
element-past (x ∷ xs) (suc n) h = element-past xs n (le_of_suc-le-suc h)

position-same : (ys : List ℕ) (n a : ℕ) → a < length ys → Distinct ys → position_from n (eqb (get_or ys a 0)) ys ≡ some (n + a)
unfolding position_from
position-same [] n a h d = absurd (not-suc-le-zero h)
position-same (y ∷ ys) n zero h d = rw (eq-eqb y y refl) (ap some (let q : n ≡ n + 0 = omega arith in q))
position-same (y ∷ ys) n (suc a) h d =
    rw (ne_eqb (get_or ys a 0) y (all_get_d (λ z. z ≢ y) ys 0 a (le_of_suc-le-suc h) d.0))
    (position-same ys (suc n) a (le_of_suc-le-suc h) d.1 ∙ ap some (let q : suc n + a ≡ n + suc a = omega arith in q))

pub active-same : (ps : List ℕ) (a : ℕ) → a < length ps → Distinct ps → active_of (get_elem? ps a) ps ≡ a
active-same ps a h d = ap (λ (o : Option ℕ). active_of o ps) (element-at ps a h) ∙ ap or_first (position-same ps 0 a h d) ∙ (let q : 0 + a ≡ a = omega arith in q)

group-left : (i : TileId) (b : TabBarPlacement) (a : ℕ) (qs : List ℕ) (u : Work) → node_at u.state.nodes i ≡ tabs b a qs → a < length qs → Distinct qs
    → group_left i b a qs qs u ≡ out (some i) u
group-left i b a [] u is h d = absurd (not-suc-le-zero h)
group-left i b a (q ∷ qs) u is h d =
    let new = active_of (get_elem? (q ∷ qs) a) (q ∷ qs) in
    let shut : Bool → List Node → Out = λ t ns. out (some i) (work (state ns u.state.claimed u.state.panes) (note_if (not t) (RepairedActiveTab i) u).actions) in
    let same = active-same (q ∷ qs) a h d in
    (λ z. shut (eq-eqb a new (sym same) z) (((λ y. set u.state.nodes i.slot (tabs b (same y) (q ∷ qs))) ∙ ap (set u.state.nodes i.slot) (sym is) ∙ set-get_or u.state.nodes i.slot empty) z))

group-same : (i : TileId) (b : TabBarPlacement) (a : ℕ) (qs : List ℕ) (u : Work) → node_at u.state.nodes i ≡ tabs b a qs → a < length qs → Distinct (u.state.panes ++ qs)
    → group_step i b a qs u ≡ out (some i) (work (seeing qs u.state) u.actions)
unfolding group_step
group-same i b a qs u is h d =
    ap (λ (s : Sifted). group_left i b a qs s.list s.left) (retain-same i qs (sifted [] u) d)
    ∙ group-left i b a qs (work (seeing qs u.state) u.actions) is h (distinct-right u.state.panes qs d)

-- ---- a split whose lists are as they should be

module _ (i : TileId) (a : Axis) (u : Work) where
  closed : (es : List Entry) → node_at u.state.nodes i ≡ stored a es → 2 ≤ length es → All Shared es → split_done i a (shares_of es) (run es false u) ≡ out (some i) u
  closed [] is two sh = absurd (omega arith)
  closed (x ∷ []) is two sh = absurd (omega arith)
  closed (x ∷ y ∷ zs) is two sh =
      let es = x ∷ y ∷ zs in
      let same : repaired_shares (length es) (shares_of es) ≡ shares_of es = ap (λ (n : ℕ). repaired_shares n (shares_of es)) (sym (long-children es)) ∙ shares-back es sh in
      let shut : Bool → List Node → Out = λ t ns. out (some i) (work (state ns u.state.claimed u.state.panes) (note_if (false || not t) (RepairedShares i) u).actions) in
      (λ z. kept_split i a (shares_of es) (same z) (run es false u))
      ∙ (λ z. shut (shares-equal es sh z) ((ap (set u.state.nodes i.slot) (sym is) ∙ set-get_or u.state.nodes i.slot empty) z))

-- bad lists are not noted where there are none
noted-none : (i : TileId) (es : List Entry) (w : Work) → All Shared es → All Least es
    → split_noted i (shares_of es) (compact_constraints (minima_of es)) (shares_of es) (minima_of es) w ≡ w
noted-none i es w sh le =
    λ z. note_if (not (shares-equal es sh z)) (RepairedShares i) (note_if (not (minima-equal es le z)) (RepairedConstraints i) w)

-- ---- one tile

-- a child that is kept as it is
kids-step : (again : TileId → Work → Out) (a : Axis) (e : Entry) (es : List Entry) (r : Run) (u : Work) → again e.child r.left ≡ out (some e.child) u
    → melts a e.minimum (node_at u.state.nodes e.child) ≡ false
    → kids_from again a (e ∷ es) r ≡ kids_from again a es (run (r.list ++ e ∷ []) r.moved u)
unfolding kids_from
kids-step again a e es r u q m =
    ap (λ (o : Out). kids_from again a es (place_out a e r o)) q
    ∙ ap (λ (b : Bool). kids_from again a es (place_by b e e.child (node_at u.state.nodes e.child) r u)) m

-- to a tile that is in range and not claimed, by what stands in its slot
pub tile-by : (n : ℕ) (i : TileId) (w : Work) (x : Node) → i.slot < 64 → get_or w.state.claimed i.slot false ≡ false → node_at w.state.nodes i ≡ x
    → normalize_node (suc n) i w ≡ by_node x (normalize_node n) i w
unfolding normalize_node tile_step
tile-by n i w x h e is =
    ap (λ (b : Bool). by_range b (normalize_node n) i w) (lt-leb 64 i.slot h) ∙ ap (λ (b : Bool). by_claimed b (normalize_node n) i w) e
    ∙ ap (λ (y : Node). by_node y (normalize_node n) i w) is

leaf-by : (n : ℕ) (i : TileId) (w : Work) (ps : List ℕ) (x : Node) → Leafy x ps → node_at w.state.nodes i ≡ x → Distinct (w.state.panes ++ ps)
    → by_node x (normalize_node n) i w ≡ out (some i) (work (seeing ps (claimed i w.state)) w.actions)
leaf-by n i w ps empty l is d = absurd l
leaf-by n i w ps (pane p) l is d =
    let d' : Distinct (w.state.panes ++ p ∷ []) = subst (λ (qs : List ℕ). Distinct (w.state.panes ++ qs)) l d in
    ap (λ (b : Bool). pane_by b i p (claim i w)) (false-contains p w.state.panes (distinct_apart w.state.panes (p ∷ []) d').0)
    ∙ ap (λ (qs : List ℕ). out (some i) (work (seeing qs (claimed i w.state)) w.actions)) (sym l)
leaf-by n i w ps (tabs b a qs) l is d =
    group-same i b a qs (claim i w) is l.1 (subst (λ (rs : List ℕ). Distinct (w.state.panes ++ rs)) l.0 d)
    ∙ ap (λ (rs : List ℕ). out (some i) (work (seeing rs (claimed i w.state)) w.actions)) (sym l.0)
leaf-by n i w ps (split a cs ss ms) l is d = absurd l

tile-leaf : (n : ℕ) (i : TileId) (w : Work) (ps : List ℕ) → IsLeaf w.state.nodes i ps → get_or w.state.claimed i.slot false ≡ false → Distinct (w.state.panes ++ ps)
    → normalize_node (suc n) i w ≡ out (some i) (work (seeing ps (claimed i w.state)) w.actions)
tile-leaf n i w ps l e d = tile-by n i w (node_at w.state.nodes i) l.inside e refl ∙ leaf-by n i w ps (node_at w.state.nodes i) l.leafy refl d

module _ (n : ℕ) (i : TileId) (w : Work) (a : Axis) (c : Forest) (s : IsSplit w.state.nodes i a (roots c)) where
  abbrev es : List Entry
  es = roots c

  sh : All Shared es
  sh = fine-shared w.state.nodes a es s.fine

  le : All Least es
  le = fine-least w.state.nodes a es s.fine

  -- the step, by the shares and minima that it reads and by what it notes
  abbrev opening : List Float → List Float → Out
  opening old mins =
      split_done i a (shares_of es)
      (kids_from (normalize_node n) a (entries (children_of es) old mins) (run [] false (split_noted i (shares_of es) (compact_constraints (minima_of es)) old mins (claim i w))))

  abbrev starting : List Entry → Work → Out
  starting l v = split_done i a (shares_of es) (kids_from (normalize_node n) a l (run [] false v))

  entries-same : entries (children_of es) (shares_of es) (minima_of es) ≡ es
  entries-same = (λ z. entries (children_of es) (sym (shares-back es sh) z) (sym (minima-back es le) z)) ∙ read_back es sh le

  step_same : split_step (normalize_node n) i a (children_of es) (shares_of es) (compact_constraints (minima_of es)) (claim i w) ≡ starting es (claim i w)
  unfolding split_step
  step_same = (λ z. opening (shares-back es sh z) (minima-back es le z)) ∙ (λ z. starting (entries-same z) (noted-none i es (claim i w) sh le z))

  tile-node : get_or w.state.claimed i.slot false ≡ false
      → kids_from (normalize_node n) a es (run [] false (claim i w)) ≡ run es false (work (after (claimed i w.state) c) w.actions)
      → normalize_node (suc n) i w ≡ out (some i) (work (after (claimed i w.state) c) w.actions)
  tile-node e ih =
      tile-by n i w (stored a es) s.inside e s.is ∙ step_same ∙ ap (split_done i a (shares_of es)) ih
      ∙ closed i a (work (after (claimed i w.state) c) w.actions) es s.is s.two sh

-- ---- from a forest that is ready to its parts

module _ (w : State) (i : TileId) (s m : Float) (r : Forest) where
  ready-leaf : (ps : List ℕ) → Ready w (leaf i s m ps r) → Ready (seeing ps (claimed i w)) r
  ready-leaf ps R =
      record {
        holds = R.holds.1;
        open-yet = all_both (λ j n o. get_or-set_other w.claimed i.slot j true false n ∙ o) (tiles r) R.apart.0 R.open-yet.1;
        apart = R.apart.1;
        panes = rw (append_assoc w.panes ps (shown r)) R.panes;
      }

  leaf-panes : (ps : List ℕ) → Ready w (leaf i s m ps r) → Distinct (w.panes ++ ps)
  leaf-panes ps R = distinct-left (w.panes ++ ps) (shown r) (rw (append_assoc w.panes ps (shown r)) R.panes)

  module _ (a : Axis) (c : Forest) (R : Ready w (node i s m a c r)) where
    ready-under : Ready (claimed i w) c
    ready-under =
        record {
          holds = R.holds.1;
          open-yet = all_both (λ j n o. get_or-set_other w.claimed i.slot j true false n ∙ o) (tiles c)
              (all_left (λ j. j ≢ i.slot) (tiles c) (tiles r) R.apart.0) (all_left (λ j. get_or w.claimed j false ≡ false) (tiles c) (tiles r) R.open-yet.1);
          apart = distinct-left (tiles c) (tiles r) R.apart.1;
          panes = distinct-left (w.panes ++ shown c) (shown r) (rw (append_assoc w.panes (shown c) (shown r)) R.panes);
        }

    ready-beside : Ready (after (claimed i w) c) r
    ready-beside =
        record {
          holds = R.holds.2;
          open-yet = all_both (λ j x y. marked_other (set w.claimed i.slot true) (tiles c) j x ∙ y) (tiles r)
              (distinct_apart (tiles c) (tiles r) R.apart.1)
              (all_both (λ j n o. get_or-set_other w.claimed i.slot j true false n ∙ o) (tiles r)
              (all_right (λ j. j ≢ i.slot) (tiles c) (tiles r) R.apart.0) (all_right (λ j. get_or w.claimed j false ≡ false) (tiles c) (tiles r) R.open-yet.1));
          apart = distinct-right (tiles c) (tiles r) R.apart.1;
          panes = rw (append_assoc w.panes (shown c) (shown r)) R.panes;
        }

-- ---- the walk

pub walked : (f : Forest) (n : ℕ) (a : Axis) (r : Run) → Ready r.left.state f → length (tiles f) ≤ n → All (Fine r.left.state.nodes a) (roots f)
    → kids_from (normalize_node n) a (roots f) r ≡ run (r.list ++ roots f) r.moved (work (after r.left.state f) r.left.actions)
unfolding kids_from
walked nil n a r R h q =
    let w = r.left.state in
    λ z. run (sym (append-nil r.list) z) r.moved (work (state w.nodes w.claimed (sym (append-nil w.panes) z)) r.left.actions)
walked (leaf i s m ps g) zero a r R h q = absurd (omega arith)
walked (leaf i s m ps g) (suc n) a r R h q =
    let w = r.left.state in
    let e = entry i s m in
    let u = work (seeing ps (claimed i w)) r.left.actions in
    kids-step (normalize_node (suc n)) a e (roots g) r u (tile-leaf n i r.left ps R.holds.0 R.open-yet.0 (leaf-panes w i s m g ps R)) q.0.1.1
    ∙ walked g (suc n) a (run (r.list ++ e ∷ []) r.moved u) (ready-leaf w i s m g ps R) (omega arith) q.1
    ∙ (λ z. run (append_assoc r.list (e ∷ []) (roots g) z) r.moved
    (work (state w.nodes (marked (set w.claimed i.slot true) (tiles g)) (append_assoc w.panes ps (shown g) z)) r.left.actions))
walked (node i s m x c g) zero a r R h q = absurd (omega arith)
walked (node i s m x c g) (suc n) a r R h q =
    let w = r.left.state in
    let e = entry i s m in
    let u = work (after (claimed i w) c) r.left.actions in
    kids-step (normalize_node (suc n)) a e (roots g) r u
    (tile-node n i r.left x c R.holds.0 R.open-yet.0
    (walked c n x (run [] false (claim i r.left)) (ready-under w i s m g x c R) (omega (arith, length-append (tiles c) (tiles g))) R.holds.0.fine)) q.0.1.1
    ∙ walked g (suc n) a (run (r.list ++ e ∷ []) r.moved u) (ready-beside w i s m g x c R) (omega (arith, length-append (tiles c) (tiles g))) q.1
    ∙ (λ z. run (append_assoc r.list (e ∷ []) (roots g) z) r.moved
    (work (state w.nodes (marked_append (set w.claimed i.slot true) (tiles c) (tiles g) z) (append_assoc w.panes (shown c) (shown g) z)) r.left.actions))

-- the walk of one tile
pub walked-leaf : (n : ℕ) (i : TileId) (ps : List ℕ) (w : Work) → Ready w.state (leaf i zero-f zero-f ps nil)
    → normalize_node (suc n) i w ≡ out (some i) (work (seeing ps (claimed i w.state)) w.actions)
walked-leaf n i ps w R = tile-leaf n i w ps R.holds.0 R.open-yet.0 (leaf-panes w.state i zero-f zero-f nil ps R)

pub walked-branch : (n : ℕ) (i : TileId) (a : Axis) (c : Forest) (w : Work) → Ready w.state (node i zero-f zero-f a c nil) → length (tiles c) ≤ n
    → normalize_node (suc n) i w ≡ out (some i) (work (after (claimed i w.state) c) w.actions)
walked-branch n i a c w R h =
    tile-node n i w a c R.holds.0 R.open-yet.0
    (walked c n a (run [] false (claim i w)) (ready-under w.state i zero-f zero-f nil a c R) h R.holds.0.fine)

-- ---- reading order

-- the ids of a forest's tiles, in reading order
abbrev pub names : Forest → List TileId
names nil = []
names (leaf i s m ps r) = i ∷ names r
names (node i s m a c r) = i ∷ (names c ++ names r)

abbrev pub heads : Forest → List TileId
heads f = children_of (roots f)

pub leafy-kids : (n : Node) (ps : List ℕ) → Leafy n ps → kids_of n ≡ []
leafy-kids empty ps l = refl
leafy-kids (pane p) ps l = refl
leafy-kids (tabs b a qs) ps l = refl
leafy-kids (split a cs ss ms) ps l = absurd l

reading-nil : (n : ℕ) (ns : List Node) → reading n ns [] ≡ []
unfolding reading
reading-nil zero ns = refl
reading-nil (suc n) ns = refl

pub reading-on : (f : Forest) (ns : List Node) → Holds ns f → (n m : ℕ) (xs : List TileId) → n ≡ length (names f) + m
    → reading n ns (heads f ++ xs) ≡ names f ++ reading m ns xs
unfolding reading
reading-on nil ns h n m xs e = ap (λ (k : ℕ). reading k ns xs) (let q : n ≡ m = omega arith in q)
reading-on (leaf i _ _ ps r) ns h zero m xs e = absurd (omega arith)
reading-on (leaf i _ _ ps r) ns h (suc n) m xs e =
    ap (λ (l : List TileId). i ∷ l) (ap (λ (ks : List TileId). reading n ns (ks ++ (heads r ++ xs))) (leafy-kids (node_at ns i) ps h.0.leafy) ∙ reading-on r ns h.1 n m xs (omega arith))
reading-on (node i _ _ a c r) ns h zero m xs e = absurd (omega arith)
reading-on (node i _ _ a c r) ns h (suc n) m xs e =
    ap (λ (l : List TileId). i ∷ l)
    (ap (λ (x : Node). reading n ns (kids_of x ++ (heads r ++ xs))) h.0.is
    ∙ reading-on c ns h.1 n (length (names r) + m) (heads r ++ xs) (omega (arith, length-append (names c) (names r)))
    ∙ ap (λ (l : List TileId). names c ++ l) (reading-on r ns h.2 (length (names r) + m) m xs refl)
    ∙ sym (append_assoc (names c) (names r) (reading m ns xs)))

pub reading-all : (f : Forest) (ns : List Node) → Holds ns f → (n : ℕ) → length (names f) ≤ n → reading n ns (heads f) ≡ names f
reading-all f ns h n le =
    ap (λ (l : List TileId). reading n ns l) (sym (append-nil (heads f)))
    ∙ reading-on f ns h n (n - length (names f)) [] (omega arith)
    ∙ ap (λ (l : List TileId). names f ++ l) (reading-nil (n - length (names f)) ns)
    ∙ append-nil (names f)

pub names-slots : (f : Forest) → map (λ i. i.slot) (names f) ≡ tiles f
names-slots nil = refl
names-slots (leaf i _ _ ps r) = ap (λ (l : List ℕ). i.slot ∷ l) (names-slots r)
names-slots (node i _ _ a c r) = ap (λ (l : List ℕ). i.slot ∷ l) (slots-append (names c) (names r) ∙ (λ z. names-slots c z ++ names-slots r z))
  where
    slots-append : (xs ys : List TileId) → map (λ t. t.slot) (xs ++ ys) ≡ map (λ t. t.slot) xs ++ map (λ t. t.slot) ys
    slots-append [] ys = refl
    slots-append (x ∷ xs) ys = ap (λ (l : List ℕ). x.slot ∷ l) (slots-append xs ys)

pub names-long : (f : Forest) → length (names f) ≡ length (tiles f)
names-long nil = refl
names-long (leaf i _ _ ps r) = ap suc (names-long r)
names-long (node i _ _ a c r) = ap suc (length-append (names c) (names r) ∙ (λ z. names-long c z + names-long r z) ∙ sym (length-append (tiles c) (tiles r)))
