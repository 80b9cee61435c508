-- THE ROUND TRIP: what is to be written of a tidy tree is accepted, and gives the same tree, its tiles numbered in reading order.
-- Tidy (forest/Settled): what every accepted repair leaves, the lone empty root aside, which no table has (12). Assumes nothing.
use Rattle.std.specs.Prelude.{◌≡◌, ◌≢◌, Bool, true, false, ℕ, zero, suc, ◌+◌, ◌-◌, ◌≤◌, leb, get_or, replicate}
use Rattle.std.proofs.Math.Path.{refl, sym, ap}
use Rattle.std.proofs.Common.{subst, ◌∙◌, arith, le-ltb, leb-true, leb-false, length-append}
use mathlib.Core.List.{List, [], ◌∷◌, ◌++◌, append_assoc, append-nil}
use Rattle.std.proofs.Math.Option.{Option, none, some}
use Rattle.std.proofs.Math.ListN.{length, get_or-append}
use Rattle.std.proofs.lemmas.List.{length-map, length-replicate}
use Rattle.rules.specs.Lists.{any_of}
use Rattle.rules.specs.Tree.{Node, empty, Arena, arena, tile, node_at, panes_of, wide_node, empty_slots, reading_from}
use Rattle.rules.specs.Target.{panes_in}
use Rattle.rules.specs.Table.{Table}
use Rattle.rules.specs.Spec.{Left, left_of, validate, Build, build, Children, push_children, push_spec, padded, built_nodes, Built, built_by, built_as, built_from, validated, narrow, within, tabled, from_spec}
use Rattle.rules.specs.declared.model.TileId.{TileId}
use Rattle.rules.specs.Refusals.{Accepted}
use Rattle.rules.specs.declared.refusal.Refusal.{Refusal}
use Rattle.forest.specs.Lists.{All, Distinct}
use Rattle.forest.specs.Forest.{Forest, nil, leaf, node, tiles, shown, Holds}
use Rattle.forest.specs.Again.{names, names-long}
use Rattle.forest.specs.Grow.{nothing, group, branch, kept_of, stem}
use Rattle.forest.specs.Grow as Grow
use Rattle.forest.specs.Settled.{Tidy, unchanged, tidy-fixed}
use Rattle.forest.specs.Along.{along}
use Rattle.build.specs.SlotsLoop.{any-replicate}
use Rattle.accepted.specs.Sprout.{up_from, up-distinct}
use Rattle.accepted.specs.Accepted.{no_more}
use Rattle.roundtrip.specs.Write.{node_shares, node_minima, table_along, to_spec}
use Rattle.roundtrip.specs.Written.{Numbers, order_is, one-root, written-reads, written-panes}
use Rattle.roundtrip.specs.Passes.{before, feed, passes}
use Rattle.roundtrip.specs.Renumber.{renumber, same_count, nodes_for, nodes-count, grows}
use Rattle.roundtrip.specs.Renumbered.{tiles-are, shown-same, holds-new, any-join, slim-new, rows-slim}

-- ---- the sections of a forest's table are what it has, tile by tile

module _ (ns : List Node) where
  along-join : {A : Type 0} (g : Node → List A) (xs ys : List TileId) → along g ns (xs ++ ys) ≡ along g ns xs ++ along g ns ys
  unfolding along
  along-join g [] ys = refl
  along-join g (x ∷ xs) ys = ap (λ (l : List _). g (node_at ns x) ++ l) (along-join g xs ys) ∙ sym (append_assoc (g (node_at ns x)) (along g ns xs) (along g ns ys))

  one-tile : {A : Type 0} (g : Node → List A) (x : TileId) (xs : List TileId) (ps : List A) → along g ns (x ∷ xs) ++ ps ≡ g (node_at ns x) ++ (along g ns xs ++ ps)
  unfolding along
  one-tile g x xs ps = append_assoc (g (node_at ns x)) (along g ns xs) ps

  two-parts : {A : Type 0} (g : Node → List A) (x : TileId) (xs ys : List TileId) (ps : List A) → along g ns (x ∷ (xs ++ ys)) ++ ps ≡ g (node_at ns x) ++ (along g ns xs ++ (along g ns ys ++ ps))
  two-parts g x xs ys ps =
      one-tile g x (xs ++ ys) ps ∙ ap (λ (l : List _). g (node_at ns x) ++ l) (ap (λ (l : List _). l ++ ps) (along-join g xs ys) ∙ append_assoc (along g ns xs) (along g ns ys) ps)

  abbrev sections : List TileId → Left → Left
  sections xs l = record { panes = along panes_of ns xs ++ l.panes; shares = along node_shares ns xs ++ l.shares; minima = along node_minima ns xs ++ l.minima }

  fed : (f : Forest) (l : Left) → sections (names f) l ≡ feed ns f l
  unfolding along
  fed nil l = refl
  fed (leaf x s m ps r) l =
      (λ i. record { panes = one-tile panes_of x (names r) l.panes i; shares = one-tile node_shares x (names r) l.shares i; minima = one-tile node_minima x (names r) l.minima i })
      ∙ ap (before (node_at ns x)) (fed r l)
  fed (node x s m a c r) l =
      (λ i. record { panes = two-parts panes_of x (names c) (names r) l.panes i; shares = two-parts node_shares x (names c) (names r) l.shares i; minima = two-parts node_minima x (names c) (names r) l.minima i })
      ∙ ap (before (node_at ns x)) (fed c (sections (names r) l) ∙ ap (feed ns c) (fed r l))

abbrev nothing_left : Left
nothing_left = record { panes = []; shares = []; minima = [] }

-- ---- the new arena is tidy

new-left : Grow.Left → Grow.Left
new-left nothing = nothing
new-left (group i ps) = group (tile 0) ps
new-left (branch i a c) = branch (tile 0) a (renumber 1 c)

new-stem : (l : Grow.Left) → stem (new-left l) ≡ renumber 0 (stem l)
unfolding new-left
new-stem nothing = refl
new-stem (group i ps) = refl
new-stem (branch i a c) = refl

new-root : (l : Grow.Left) (r : TileId) → kept_of l ≡ some r → kept_of (new-left l) ≡ some (tile 0)
unfolding new-left
new-root nothing r e = absurd (let z : ◌≡◌ {A = ℕ} 0 1 = cc in omega arith)
new-root (group i ps) r e = refl
new-root (branch i a c) r e = refl

not-among : (i k n : ℕ) → k ≤ i → All (λ j. i ≢ j) (up_from k n) → k + n ≤ i
not-among i k zero h a = omega (arith, h)
not-among i k (suc n) h a = go (leb (suc k) i) refl (not-among i (suc k) n)
  where
    go : (b : Bool) → leb (suc k) i ≡ b → (suc k ≤ i → All (λ j. i ≢ j) (up_from (suc k) n) → suc k + n ≤ i) → k + suc n ≤ i
    go true q ih = let z = ih (leb-true (suc k) i q) a.1 in omega (arith, z)
    go false q ih = let z = leb-false (suc k) i q in absurd (a.0 (omega (arith, z, h)))

beyond : (zs : List Node) (k i : ℕ) → length zs ≤ i → get_or (zs ++ replicate k empty) i empty ≡ empty
beyond [] k i h = no_more k i
beyond (z ∷ zs) k zero h = absurd (omega (arith, h))
beyond (z ∷ zs) k (suc i) h = beyond zs k i (omega (arith, h))

module _ (a : Arena) (l : Grow.Left) (T : Tidy a.nodes a.root l) (slim : any_of wide_node a.nodes ≡ false) where
  abbrev f : Forest
  f = stem l

  abbrev pub zs : List Node
  zs = nodes_for a.nodes 0 f

  long : length zs ≡ length (tiles f)
  long = nodes-count a.nodes 0 f

  tidy : Tidy (padded zs) (tile 0) (new-left l)
  tidy =
      let room = T.room in
      let n = long in
      let S = new-stem l in
      let p = length-append zs (replicate (64 - length zs) empty) in
      let q = length-replicate (64 - length zs) empty in
      record {
        size = omega (arith, p, q, n, room);
        root_is = new-root l a.root T.root_is;
        held = subst (Holds (padded zs)) (sym S)
            (holds-new a.nodes (padded zs) f T.held 0 (λ j h. ap (λ (k : ℕ). get_or (padded zs) k empty) (let e : 0 + j ≡ j = omega arith in e) ∙ get_or-append zs (replicate (64 - length zs) empty) empty j h) (omega (arith, room)));
        apart = subst (λ (g : Forest). Distinct (tiles g)) (sym S) (subst Distinct (sym (tiles-are 0 f)) (up-distinct 0 (length (tiles f))));
        panes = subst (λ (g : Forest). Distinct (shown g)) (sym S) (subst Distinct (sym (shown-same 0 f)) T.panes);
        room = subst (λ (g : Forest). length (tiles g) ≤ 64) (sym S) (let e = same_count 0 f in omega (arith, e, room));
        rest = λ i o. beyond zs (64 - length zs) i
            (let z = not-among i 0 (length (tiles f)) (omega arith) (subst (All (λ j. i ≢ j)) (tiles-are 0 f) (subst (λ (g : Forest). All (λ j. i ≢ j) (tiles g)) S o)) in omega (arith, z, n));
      }

  slim-all : any_of wide_node (padded zs) ≡ false
  slim-all = any-join zs (replicate (64 - length zs) empty) (slim-new a.nodes slim f T.held 0) (any-replicate wide_node (64 - length zs) empty refl)

  -- ---- the way of the table through the rules

  abbrev t : Table
  t = table_along a.nodes (names f)

  size : length t.rows ≡ length (tiles f)
  size = length-map (names f) _ ∙ names-long f

  left_is : left_of t ≡ feed a.nodes f nothing_left
  left_is =
      (λ i. record {
        panes = sym (append-nil (along panes_of a.nodes (names f))) i;
        shares = sym (append-nil (along node_shares a.nodes (names f))) i;
        minima = sym (append-nil (along node_minima a.nodes (names f))) i;
      })
      ∙ fed a.nodes f nothing_left

  valid : validate t.rows (left_of t) [] ≡ none
  unfolding validate
  valid = (λ i. validate (sym (append-nil t.rows) i) (left_is i) []) ∙ passes a.nodes f T.held [] T.panes [] nothing_left

  built : built_nodes t ≡ padded zs
  unfolding push_children
  built =
      let F = length t.rows in
      let e = size in
      ap (λ (b : Build). padded b.nodes)
      ((λ i. push_spec F (build (sym (append-nil t.rows) i) (left_is i) []))
      ∙ ap (λ (c : Children). c.done)
      (ap (λ (k : ℕ). push_children (push_spec F) k [] (build (t.rows ++ []) (feed a.nodes f nothing_left) [])) (sym (one-root l a.root T.root_is))
      ∙ grows a.nodes f T.held F (omega (arith, e)) [] [] nothing_left []))

  accepted : tabled (some t) ≡ record { answer = Accepted; tree = arena (tile 0) 0 (padded zs) }
  accepted =
      let e = size in
      let room = T.room in
      ap (λ (b : Bool). within b t) (le-ltb 64 (length t.rows) (omega (arith, e, room)))
      ∙ ap (λ (b : Bool). narrow b t) (rows-slim a.nodes slim (names f))
      ∙ ap (λ (o : Option Refusal). validated o t) valid
      ∙ ap built_from built
      ∙ ap built_as (tidy-fixed (empty_slots (padded zs)) (padded zs) (tile 0) (new-left l) tidy)
      ∙ ap (λ (b : Bool). built_by b (unchanged (padded zs) (tile 0) (new-left l) tidy)) slim-all

  module _ (N : Numbers a.nodes (reading_from a.nodes a.root)) where
    pub round_trip : from_spec (to_spec a) ≡ record { answer = Accepted; tree = arena (tile 0) 0 (padded zs) }
    unfolding from_spec
    round_trip = ap tabled (written-reads a l T slim N) ∙ ap (λ (xs : List TileId). tabled (some (table_along a.nodes xs))) (order_is a l T slim N) ∙ accepted

    -- the same panes in the same order
    pub round-trip-panes : panes_in (from_spec (to_spec a)).tree.root (from_spec (to_spec a)).tree.nodes ≡ panes_in a.root a.nodes
    round-trip-panes = written-panes a l T slim N (ap (λ (b : Built). b.answer) round_trip)
