-- Finding by a scan of the slots, in place of the reading order: what each scan says, and that on slots that hold one tree it finds the same. Assumes nothing.
use Rattle.std.specs.Prelude.{◌≡◌, ◌⊎◌, Bool, true, false, eqb, length}
use Rattle.std.proofs.Math.Path.{refl, sym, ap}
use Rattle.std.proofs.Common.{subst, ◌∙◌, eqb-true}
use Rattle.std.proofs.Math.Logic.{inl, inr}
use mathlib.Core.List.{List, [], ◌∷◌}
use Rattle.std.proofs.Math.Option.{Option, none, some}
use Prim.Native.Nat.{ℕ, zero, suc, ◌+◌, ◌≤◌, ◌<◌}
use native.Mathlib.Omega.{arith}
use Rattle.std.proofs.Math.Decide.{ℕ_discrete}
use Rattle.std.proofs.Math.ListN.{get_or}
use Rattle.rules.specs.Lists.{first_by, position_from, position}
use Rattle.rules.specs.Tree.{Node, empty, pane, tabs, split, tile, node_at, is_empty, kids_of, panes_of, reading_from, same_tile, Member}
use Rattle.rules.specs.Target.{PaneLocation, nowhere, in_tile, in_tabs, tile_has, tabs_have, located, locate, find_pane, Parent, parent_by, seek_parent, find_parent, panes_along, panes_in}
use Rattle.rules.specs.declared.model.TileId.{TileId}
use Rattle.lists.specs.Find.{position-found}
use Rattle.forest.specs.Lists.{All, Distinct, member-all, member_right, member-left, clash, distinct-right}
use Rattle.forest.specs.Settled.{slots}
use Rattle.forest.specs.Stays.{panes-full}
use Rattle.forest.specs.Nodes.{parent-full, full-below}

-- ---- the scans: slot by slot, from the lowest

unfoldable pub scan_from : ℕ → List Node → ℕ → PaneLocation
scan_from k [] p = nowhere
scan_from k (n ∷ ns) p = located n p (tile k) (scan_from (suc k) ns p)

abbrev pub scan_pane : List Node → ℕ → PaneLocation
scan_pane ns p = scan_from 0 ns p

unfoldable pub parent_from : ℕ → List Node → TileId → Option Parent
parent_from k [] t = none
parent_from k (n ∷ ns) t = parent_by (position (same_tile t) (kids_of n)) (tile k) (parent_from (suc k) ns t)

abbrev pub scan_parent : List Node → TileId → Option Parent
scan_parent ns t = parent_from 0 ns t

-- ---- the first hit of a list of slots, where at most one slot hits: any two lists that have the slots that hit agree

module _ {X : Type 0} (f : ℕ → Option X) where
  abbrev pub or_next : Option X → Option X → Option X
  or_next (some x) next = some x
  or_next none next = next

  unfoldable pub first : List ℕ → Option X
  first [] = none
  first (i ∷ is) = or_next (f i) (first is)

  -- the first is a hit of a member, or no member hits
  abbrev pub Found : List ℕ → Type 0
  Found xs = ((i : ℕ) × (x : X) × Member i xs × (f i ≡ some x) × (first xs ≡ some x)) ⊎ (All (λ i. f i ≡ none) xs × (first xs ≡ none))

  pub found : (xs : List ℕ) → Found xs
  unfolding first
  found [] = inr (tt, refl)
  found (i ∷ is) = go (f i) refl (found is)
    where
      go : (o : Option X) → f i ≡ o → Found is → Found (i ∷ is)
      go (some x) e r = inl (i, x, inl refl, e, ap (λ (o : Option X). or_next o (first is)) e)
      go none e (inl (j, x, m, q, w)) = inl (j, x, inr m, q, ap (λ (o : Option X). or_next o (first is)) e ∙ w)
      go none e (inr (a, w)) = inr ((e, a), ap (λ (o : Option X). or_next o (first is)) e ∙ w)

  some-none : {A : Type 0} {o : Option X} {x : X} → o ≡ some x → o ≡ none → A
  some-none p q = absurd (let z : ◌≡◌ {A = ℕ} 0 1 = cc in omega arith)

  pub first-same : (xs ys : List ℕ) → ((i j : ℕ) (x y : X) → f i ≡ some x → f j ≡ some y → i ≡ j)
      → ((i : ℕ) (x : X) → f i ≡ some x → Member i xs) → ((i : ℕ) (x : X) → f i ≡ some x → Member i ys) → first xs ≡ first ys
  first-same xs ys once inx iny = go (found xs) (found ys)
    where
      go : Found xs → Found ys → first xs ≡ first ys
      go (inl (i, x, m, e, w)) (inl (j, y, n, q, v)) = let k = once i j x y e q in w ∙ sym e ∙ ap f k ∙ q ∙ sym v
      go (inl (i, x, m, e, w)) (inr (a, v)) = some-none e (member-all (λ k. f k ≡ none) i ys (iny i x e) a)
      go (inr (a, w)) (inl (j, y, n, q, v)) = some-none q (member-all (λ k. f k ≡ none) j xs (inx j y q) a)
      go (inr (a, w)) (inr (b, v)) = w ∙ sym v

-- k, k + 1, .., n of them
abbrev pub count : ℕ → ℕ → List ℕ
count k zero = []
count k (suc n) = k ∷ count (suc k) n

pub in_count : (k n i : ℕ) → k ≤ i → i < k + n → Member i (count k n)
in_count k zero i h g = absurd (omega arith)
in_count k (suc n) i h g = go (ℕ_discrete i k) (λ x y. in_count (suc k) n i x y)
  where
    go : Dec (i ≡ k) → (suc k ≤ i → i < suc k + n → Member i (count (suc k) n)) → Member i (count k (suc n))
    go (yes e) f = inl e
    go (no e) f = inr (f (omega (arith, e)) (omega arith))

-- ---- where a pane stands, as a hit

abbrev pub hit_tile : Bool → TileId → Option PaneLocation
hit_tile true i = some (in_tile i)
hit_tile false i = none

abbrev pub hit_tabs : Option ℕ → TileId → Option PaneLocation
hit_tabs (some n) i = some (in_tabs i n)
hit_tabs none i = none

abbrev pub hit : Node → ℕ → TileId → Option PaneLocation
hit empty p i = none
hit (pane q) p i = hit_tile (eqb p q) i
hit (tabs b a qs) p i = hit_tabs (position (eqb p) qs) i
hit (split a cs ss ms) p i = none

abbrev pub or_where : Option PaneLocation → PaneLocation → PaneLocation
or_where (some l) next = l
or_where none next = next

pub located-hit : (n : Node) (p : ℕ) (i : TileId) (next : PaneLocation) → located n p i next ≡ or_where (hit n p i) next
located-hit empty p i next = refl
located-hit (pane q) p i next = go (eqb p q)
  where
    go : (b : Bool) → tile_has b i next ≡ or_where (hit_tile b i) next
    go true = refl
    go false = refl
located-hit (tabs b a qs) p i next = go (position (eqb p) qs)
  where
    go : (o : Option ℕ) → tabs_have o i next ≡ or_where (hit_tabs o i) next
    go (some n) = refl
    go none = refl
located-hit (split a cs ss ms) p i next = refl

-- what a search finds passes its test
found-member : {A : Type 0} (t : A → Bool) (n : ℕ) (xs : List A) (i : ℕ) → position_from n t xs ≡ some i → (x : A) × Member x xs × (t x ≡ true)
unfolding position_from
found-member t n [] i e = absurd (let z : ◌≡◌ {A = ℕ} 0 1 = cc in omega arith)
found-member t n (x ∷ xs) i e = go (t x) refl (λ q. found-member t (suc n) xs i q) e
  where
    go : (b : Bool) → t x ≡ b → (position_from (suc n) t xs ≡ some i → (y : _) × Member y xs × (t y ≡ true)) → first_by b n (position_from (suc n) t xs) ≡ some i
        → (y : _) × Member y (x ∷ xs) × (t y ≡ true)
    go true q r w = (x, inl refl, q)
    go false q r w = let (y, m, z) = r w in (y, inr m, z)

pub hit-panes : (n : Node) (p : ℕ) (i : TileId) (l : PaneLocation) → hit n p i ≡ some l → Member p (panes_of n)
hit-panes empty p i l e = absurd (let z : ◌≡◌ {A = ℕ} 0 1 = cc in omega arith)
hit-panes (pane q) p i l e = go (eqb p q) refl e
  where
    go : (b : Bool) → eqb p q ≡ b → hit_tile b i ≡ some l → Member p (q ∷ [])
    go true w z = inl (eqb-true p q w)
    go false w z = absurd (let y : ◌≡◌ {A = ℕ} 0 1 = cc in omega arith)
hit-panes (tabs b a qs) p i l e = go (position (eqb p) qs) refl e
  where
    go : (o : Option ℕ) → position (eqb p) qs ≡ o → hit_tabs o i ≡ some l → Member p qs
    go (some n) w z = let (y, m, q) = found-member (eqb p) 0 qs n w in subst (λ (k : ℕ). Member k qs) (sym (eqb-true p y q)) m
    go none w z = absurd (let y : ◌≡◌ {A = ℕ} 0 1 = cc in omega arith)
hit-panes (split a cs ss ms) p i l e = absurd (let z : ◌≡◌ {A = ℕ} 0 1 = cc in omega arith)

-- ---- which split holds a tile, as a hit

abbrev pub held : Option ℕ → TileId → Option Parent
held (some n) i = some (record { split = i; index = n })
held none i = none

pub parent-hit : (o : Option ℕ) (i : TileId) (next : Option Parent) → parent_by o i next ≡ or_next (λ _. none) (held o i) next
parent-hit (some n) i next = refl
parent-hit none i next = refl

pub held-kids : (n : Node) (t i : TileId) (q : Parent) → held (position (same_tile t) (kids_of n)) i ≡ some q → Member t.slot (slots (kids_of n))
held-kids n t i q e = go (position (same_tile t) (kids_of n)) refl e
  where
    named : (x : TileId) (xs : List TileId) → Member x xs → Member x.slot (slots xs)
    named x [] m = absurd m
    named x (y ∷ ys) (inl w) = inl (ap (λ (k : TileId). k.slot) w)
    named x (y ∷ ys) (inr m) = inr (named x ys m)

    go : (o : Option ℕ) → position (same_tile t) (kids_of n) ≡ o → held o i ≡ some q → Member t.slot (slots (kids_of n))
    go (some k) w z =
        let (y, m, u) = found-member (same_tile t) 0 (kids_of n) k w in subst (λ (j : ℕ). Member j (slots (kids_of n))) (sym (eqb-true t.slot y.slot u)) (named y (kids_of n) m)
    go none w z = absurd (let y : ◌≡◌ {A = ℕ} 0 1 = cc in omega arith)

-- ---- each search as the first hit of a list of slots

module _ (ns : List Node) where
  abbrev pane_hit : ℕ → ℕ → Option PaneLocation
  pane_hit p k = hit (get_or ns k empty) p (tile k)

  abbrev kid_hit : TileId → ℕ → Option Parent
  kid_hit t k = held (position (same_tile t) (kids_of (get_or ns k empty))) (tile k)

  locate-first : (p : ℕ) (xs : List TileId) → locate ns p xs ≡ or_where (first (pane_hit p) (slots xs)) nowhere
  unfolding locate first
  locate-first p [] = refl
  locate-first p (x ∷ xs) =
      located-hit (node_at ns x) p x (locate ns p xs) ∙ ap (or_where (hit (node_at ns x) p x)) (locate-first p xs)
      ∙ go (hit (node_at ns x) p x) (first (pane_hit p) (slots xs))
    where
      go : (o r : Option PaneLocation) → or_where o (or_where r nowhere) ≡ or_where (or_next (pane_hit p) o r) nowhere
      go (some l) r = refl
      go none r = refl

  seek-first : (t : TileId) (xs : List TileId) → seek_parent ns t xs ≡ first (kid_hit t) (slots xs)
  unfolding seek_parent first
  seek-first t [] = refl
  seek-first t (x ∷ xs) =
      parent-hit (position (same_tile t) (kids_of (node_at ns x))) x (seek_parent ns t xs) ∙ ap (or_next (kid_hit t) (kid_hit t x.slot)) (seek-first t xs)

  scan-first : (p k : ℕ) (ms : List Node) → ((j : ℕ) → get_or ms j empty ≡ get_or ns (k + j) empty) → scan_from k ms p ≡ or_where (first (pane_hit p) (count k (length ms))) nowhere
  unfolding scan_from first
  scan-first p k [] h = refl
  scan-first p k (m ∷ ms) h =
      located-hit m p (tile k) (scan_from (suc k) ms p)
      ∙ (λ z. or_where (hit (here z) p (tile k)) (scan-first p (suc k) ms (λ j. h (suc j) ∙ ap (λ (i : ℕ). get_or ns i empty) (let q : k + suc j ≡ suc k + j = omega arith in q)) z))
      ∙ go (hit (get_or ns k empty) p (tile k)) (first (pane_hit p) (count (suc k) (length ms)))
    where
      here : m ≡ get_or ns k empty
      here = h 0 ∙ ap (λ (i : ℕ). get_or ns i empty) (let q : k + 0 ≡ k = omega arith in q)

      go : (o r : Option PaneLocation) → or_where o (or_where r nowhere) ≡ or_where (or_next (pane_hit p) o r) nowhere
      go (some l) r = refl
      go none r = refl

  parent-first : (t : TileId) (k : ℕ) (ms : List Node) → ((j : ℕ) → get_or ms j empty ≡ get_or ns (k + j) empty) → parent_from k ms t ≡ first (kid_hit t) (count k (length ms))
  unfolding parent_from first
  parent-first t k [] h = refl
  parent-first t k (m ∷ ms) h =
      parent-hit (position (same_tile t) (kids_of m)) (tile k) (parent_from (suc k) ms t)
      ∙ (λ z. or_next (kid_hit t) (held (position (same_tile t) (kids_of (here z))) (tile k)) (parent-first t (suc k) ms (λ j. h (suc j) ∙ ap (λ (i : ℕ). get_or ns i empty) (let q : k + suc j ≡ suc k + j = omega arith in q)) z))
    where
      here : m ≡ get_or ns k empty
      here = h 0 ∙ ap (λ (i : ℕ). get_or ns i empty) (let q : k + 0 ≡ k = omega arith in q)

-- ---- where occupied slots are read, each pane stands once and each tile has one parent, the scans find what the walks find

pub record OneTree (ns : List Node) (r : TileId) : Type 0 where
  pub size : length ns ≡ 64
  pub covers : (i : ℕ) → is_empty (get_or ns i empty) ≡ false → Member i (slots (reading_from ns r))
  pub panes : Distinct (panes_in r ns)
  pub parents : (i j t : ℕ) → Member t (slots (kids_of (get_or ns i empty))) → Member t (slots (kids_of (get_or ns j empty))) → i ≡ j

module _ (ns : List Node) where
  pub along-in : (p : ℕ) (xs : List TileId) (i : ℕ) → Member i (slots xs) → Member p (panes_of (get_or ns i empty)) → Member p (panes_along ns xs)
  unfolding panes_along
  along-in p [] i m h = absurd m
  along-in p (x ∷ xs) i (inl e) h = member-left p (panes_of (node_at ns x)) (panes_along ns xs) (subst (λ (k : ℕ). Member p (panes_of (get_or ns k empty))) e h)
  along-in p (x ∷ xs) i (inr m) h = member_right p (panes_of (node_at ns x)) (panes_along ns xs) (along-in p xs i m h)

  pub pane-once : (p : ℕ) (xs : List TileId) → Distinct (panes_along ns xs) → (i j : ℕ) → Member i (slots xs) → Member j (slots xs)
      → Member p (panes_of (get_or ns i empty)) → Member p (panes_of (get_or ns j empty)) → i ≡ j
  unfolding panes_along
  pane-once p [] d i j m n h g = absurd m
  pane-once p (x ∷ xs) d i j (inl e) (inl f) h g = e ∙ sym f
  pane-once p (x ∷ xs) d i j (inl e) (inr n) h g =
      clash p (panes_of (node_at ns x)) (panes_along ns xs) d (subst (λ (k : ℕ). Member p (panes_of (get_or ns k empty))) e h) (along-in p xs j n g)
  pane-once p (x ∷ xs) d i j (inr m) (inl f) h g =
      clash p (panes_of (node_at ns x)) (panes_along ns xs) d (subst (λ (k : ℕ). Member p (panes_of (get_or ns k empty))) f g) (along-in p xs i m h)
  pane-once p (x ∷ xs) d i j (inr m) (inr n) h g = pane-once p xs (distinct-right (panes_of (node_at ns x)) (panes_along ns xs) d) i j m n h g

  module _ (r : TileId) (O : OneTree ns r) where
    in_all : (i : ℕ) → is_empty (get_or ns i empty) ≡ false → Member i (count 0 (length ns))
    in_all i e = in_count 0 (length ns) i (omega arith) (let h = full-below ns i e in omega arith)

    pub find-scan : (p : ℕ) → find_pane r ns p ≡ scan_pane ns p
    find-scan p =
        locate-first ns p (reading_from ns r)
        ∙ ap (λ (o : Option PaneLocation). or_where o nowhere)
        (first-same (pane_hit ns p) (slots (reading_from ns r)) (count 0 (length ns))
        (λ i j x y e q. pane-once p (reading_from ns r) O.panes i j (O.covers i (full i x e)) (O.covers j (full j y q)) (hit-panes (get_or ns i empty) p (tile i) x e) (hit-panes (get_or ns j empty) p (tile j) y q))
        (λ i x e. O.covers i (full i x e)) (λ i x e. in_all i (full i x e)))
        ∙ sym (scan-first ns p 0 ns (λ j. ap (λ (i : ℕ). get_or ns i empty) (let q : j ≡ 0 + j = omega arith in q)))
      where
        full : (i : ℕ) (x : PaneLocation) → pane_hit ns p i ≡ some x → is_empty (get_or ns i empty) ≡ false
        full i x e = panes-full (get_or ns i empty) p (hit-panes (get_or ns i empty) p (tile i) x e)

    pub parent-scan : (t : TileId) → find_parent r ns t ≡ scan_parent ns t
    parent-scan t =
        seek-first ns t (reading_from ns r)
        ∙ first-same (kid_hit ns t) (slots (reading_from ns r)) (count 0 (length ns))
        (λ i j x y e q. O.parents i j t.slot (held-kids (get_or ns i empty) t (tile i) x e) (held-kids (get_or ns j empty) t (tile j) y q))
        (λ i x e. O.covers i (full i x e)) (λ i x e. in_all i (full i x e))
        ∙ sym (parent-first ns t 0 ns (λ j. ap (λ (i : ℕ). get_or ns i empty) (let q : j ≡ 0 + j = omega arith in q)))
      where
        full : (i : ℕ) (x : Parent) → kid_hit ns t i ≡ some x → is_empty (get_or ns i empty) ≡ false
        full i x e = parent-full (get_or ns i empty) t.slot (held-kids (get_or ns i empty) t (tile i) x e)

-- ---- what a scan finds stands where it says

abbrev pub is_split : Node → Bool
is_split empty = false
is_split (pane p) = false
is_split (tabs b a ps) = false
is_split (split a cs ss ms) = true

-- no split; and a place in a group is one of its panes'
abbrev pub Stands : List Node → PaneLocation → Type 0
Stands ns nowhere = Unit {0}
Stands ns (in_tile t) = is_split (node_at ns t) ≡ false
Stands ns (in_tabs g i) = (is_split (node_at ns g) ≡ false) × (i < length (panes_of (node_at ns g)))

module _ (ns : List Node) (p i : ℕ) where
  abbrev n : Node
  n = get_or ns i empty

  tile-stands : (b : Bool) (l : PaneLocation) → is_split n ≡ false → hit_tile b (tile i) ≡ some l → Stands ns l
  tile-stands true l s e = let q : in_tile (tile i) ≡ l = cc in subst (Stands ns) q s
  tile-stands false l s e = absurd (let z : ◌≡◌ {A = ℕ} 0 1 = cc in omega arith)

  tabs-stands : (qs : List ℕ) (o : Option ℕ) → position (eqb p) qs ≡ o → panes_of n ≡ qs → (l : PaneLocation) → is_split n ≡ false → hit_tabs o (tile i) ≡ some l → Stands ns l
  tabs-stands qs (some k) w z l s e = let q : in_tabs (tile i) k ≡ l = cc in subst (Stands ns) q (s, subst (λ (xs : List ℕ). k < length xs) (sym z) (position-found (eqb p) qs k 0 w).0)
  tabs-stands qs none w z l s e = absurd (let y : ◌≡◌ {A = ℕ} 0 1 = cc in omega arith)

  hit-stands : (m : Node) → n ≡ m → (l : PaneLocation) → hit m p (tile i) ≡ some l → Stands ns l
  hit-stands empty q l e = absurd (let z : ◌≡◌ {A = ℕ} 0 1 = cc in omega arith)
  hit-stands (pane x) q l e = tile-stands (eqb p x) l (ap is_split q) e
  hit-stands (tabs b a qs) q l e = tabs-stands qs (position (eqb p) qs) refl (ap panes_of q) l (ap is_split q) e
  hit-stands (split a cs ss ms) q l e = absurd (let z : ◌≡◌ {A = ℕ} 0 1 = cc in omega arith)

pub scan-stands : (ns : List Node) (p : ℕ) → Stands ns (scan_pane ns p)
scan-stands ns p = go (found (pane_hit ns p) (count 0 (length ns)))
  where
    is : scan_pane ns p ≡ or_where (first (pane_hit ns p) (count 0 (length ns))) nowhere
    is = scan-first ns p 0 ns (λ j. ap (λ (i : ℕ). get_or ns i empty) (let q : j ≡ 0 + j = omega arith in q))

    go : Found (pane_hit ns p) (count 0 (length ns)) → Stands ns (scan_pane ns p)
    go (inl (i, l, m, e, w)) = subst (Stands ns) (sym (is ∙ ap (λ (o : Option PaneLocation). or_where o nowhere) w)) (hit-stands ns p i (get_or ns i empty) refl l e)
    go (inr (a, w)) = subst (Stands ns) (sym (is ∙ ap (λ (o : Option PaneLocation). or_where o nowhere) w)) tt

-- a parent has the tile at the place that is found
pub scan-holds : (ns : List Node) (t : TileId) (q : Parent) → scan_parent ns t ≡ some q → q.index < length (kids_of (node_at ns q.split))
scan-holds ns t q e = go (found (kid_hit ns t) (count 0 (length ns)))
  where
    is : scan_parent ns t ≡ first (kid_hit ns t) (count 0 (length ns))
    is = parent-first ns t 0 ns (λ j. ap (λ (i : ℕ). get_or ns i empty) (let z : j ≡ 0 + j = omega arith in z))

    held_at : (i : ℕ) (o : Option ℕ) → position (same_tile t) (kids_of (get_or ns i empty)) ≡ o → held o (tile i) ≡ some q → q.index < length (kids_of (node_at ns q.split))
    held_at i (some k) w z =
        let y : record { split = tile i; index = k } ≡ q = cc in
        subst (λ (x : Parent). x.index < length (kids_of (node_at ns x.split))) y (position-found (same_tile t) (kids_of (get_or ns i empty)) k t w).0
    held_at i none w z = absurd (let y : ◌≡◌ {A = ℕ} 0 1 = cc in omega arith)

    go : Found (kid_hit ns t) (count 0 (length ns)) → q.index < length (kids_of (node_at ns q.split))
    go (inl (i, l, m, f, w)) = let z : l ≡ q = (let u = is in cc) in held_at i (position (same_tile t) (kids_of (get_or ns i empty))) refl (f ∙ ap some z)
    go (inr (a, w)) = absurd (let u = is in let z : ◌≡◌ {A = ℕ} 0 1 = cc in omega arith)
