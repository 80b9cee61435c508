-- Where a pane stands: nowhere exactly when it is not among the tree's panes in reading order. And a tile that is read is the root or has a parent. Assumes nothing.
use Rattle.std.specs.Prelude.{◌≡◌, refl, ◌↔◌, ◌⊎◌, Bool, true, false, ◌||◌, List, [], ◌∷◌, ◌++◌, ℕ, zero, suc, eqb}
use Rattle.std.proofs.Common.{sym, ap, ◌∙◌, inl, inr, eqb-true, eq-eqb}
use Rattle.std.proofs.Math.Option.{Option, none, some}
use Rattle.rules.specs.Lists.{any_of, contains, first_by, position_from, position, is_some}
use Rattle.rules.specs.Tree.{Node, empty, pane, tabs, split, Arena, node_at, kids_of, panes_of, reading, reading_from, same_tile, Member}
use Rattle.rules.specs.Target.{PaneLocation, nowhere, in_tile, in_tabs, tile_has, tabs_have, located, locate, find_pane, is_somewhere, contains_pane, Parent, parent_by, seek_parent, find_parent, panes_along, panes_in}
use Rattle.rules.specs.declared.model.TabBarPlacement.{TabBarPlacement}
use Rattle.rules.specs.declared.model.TileId.{TileId}
use Rattle.forest.specs.Lists.{never, member-cases}
use Rattle.forest.specs.Soundness.{tile-self}
use Rattle.fates.specs.PaneTheorems.{Has}
use Rattle.promises.specs.Words.{both_ways, not-means}
use Rattle.promises.specs.RepairExact.{any-means}

-- the pane is not in the tree
abbrev pub Absent : Arena → ℕ → Type 0
Absent a p = Has a p → ⊥

-- ---- the tests, as one: among the panes

pub found-any : {A : Type 0} (p : A → Bool) (xs : List A) (k : ℕ) → is_some (position_from k p xs) ≡ any_of p xs
unfolding position_from any_of
found-any p [] k = refl
found-any p (x ∷ xs) k = go (p x) (found-any p xs (suc k))
  where
    go : (b : Bool) → is_some (position_from (suc k) p xs) ≡ any_of p xs → is_some (first_by b k (position_from (suc k) p xs)) ≡ (b || any_of p xs)
    go true e = refl
    go false e = e

any_append : {A : Type 0} (p : A → Bool) (xs ys : List A) → any_of p (xs ++ ys) ≡ (any_of p xs || any_of p ys)
unfolding any_of
any_append p [] ys = refl
any_append p (x ∷ xs) ys = go (p x) (any_append p xs ys)
  where
    go : (b : Bool) → any_of p (xs ++ ys) ≡ (any_of p xs || any_of p ys) → (b || any_of p (xs ++ ys)) ≡ ((b || any_of p xs) || any_of p ys)
    go true e = refl
    go false e = e

located-any : (n : Node) (p : ℕ) (i : TileId) (next : PaneLocation) → is_somewhere (located n p i next) ≡ (contains p (panes_of n) || is_somewhere next)
unfolding any_of
located-any empty p i next = refl
located-any (pane q) p i next = go (eqb p q)
  where
    go : (b : Bool) → is_somewhere (tile_has b i next) ≡ ((b || false) || is_somewhere next)
    go true = refl
    go false = refl
located-any (tabs b a qs) p i next = go (position (eqb p) qs) ∙ ap (λ (c : Bool). c || is_somewhere next) (found-any (eqb p) qs 0)
  where
    go : (o : Option ℕ) → is_somewhere (tabs_have o i next) ≡ (is_some o || is_somewhere next)
    go none = refl
    go (some k) = refl
located-any (split a cs ss ms) p i next = refl

along-any : (ns : List Node) (p : ℕ) (xs : List TileId) → is_somewhere (locate ns p xs) ≡ contains p (panes_along ns xs)
unfolding locate panes_along any_of
along-any ns p [] = refl
along-any ns p (x ∷ xs) =
    located-any (node_at ns x) p x (locate ns p xs) ∙ ap (λ (b : Bool). contains p (panes_of (node_at ns x)) || b) (along-any ns p xs)
    ∙ sym (any_append (eqb p) (panes_of (node_at ns x)) (panes_along ns xs))

-- ---- so: found exactly when it is there

pub contains-means : (p : ℕ) (xs : List ℕ) → (contains p xs ≡ true) ↔ Member p xs
unfolding any_of
contains-means p [] = (λ e. never (sym e), λ m. absurd m)
contains-means p (x ∷ xs) = go (eqb p x) refl (contains-means p xs)
  where
    go : (b : Bool) → eqb p x ≡ b → (contains p xs ≡ true) ↔ Member p xs → ((b || contains p xs) ≡ true) ↔ Member p (x ∷ xs)
    go true q f = (λ e. inl (eqb-true p x q), λ m. refl)
    go false q f = (λ e. inr (f.0 e), back)
      where
        back : Member p (x ∷ xs) → contains p xs ≡ true
        back (inl e) = never (sym (eq-eqb p x e) ∙ q)
        back (inr m) = f.1 m

module _ (a : Arena) (p : ℕ) where
  pub has-means : (contains_pane a.root a.nodes p ≡ true) ↔ Has a p
  has-means = let e = along-any a.nodes p (reading_from a.nodes a.root) in let f = contains-means p (panes_in a.root a.nodes) in (λ q. f.0 (sym e ∙ q), λ m. e ∙ f.1 m)

  pub nowhere-means : (l : PaneLocation) → find_pane a.root a.nodes p ≡ l → (l ≡ nowhere) ↔ Absent a p
  nowhere-means l q = both_ways (by l) (not-means (is_somewhere l) (λ e. has-means.0 (ap is_somewhere q ∙ e), λ m. sym (ap is_somewhere q) ∙ has-means.1 m))
    where
      by : (l : PaneLocation) → (l ≡ nowhere) ↔ (is_somewhere l ≡ false)
      by nowhere = (λ e. refl, λ e. refl)
      by (in_tile t) = (λ e. ap is_somewhere e, λ e. never e)
      by (in_tabs g i) = (λ e. ap is_somewhere e, λ e. never e)

-- ---- what stands at the place that was found, and that it was read

abbrev pub Found : List Node → ℕ → List TileId → PaneLocation → Type 0
Found ns p xs nowhere = Unit {0}
Found ns p xs (in_tile t) = Member t xs × (node_at ns t ≡ pane p)
Found ns p xs (in_tabs g i) = Member g xs × (b : TabBarPlacement) × (n : ℕ) × (qs : List ℕ) × (node_at ns g ≡ tabs b n qs) × Member p qs

later : (ns : List Node) (p : ℕ) (x : TileId) (xs : List TileId) (l : PaneLocation) → Found ns p xs l → Found ns p (x ∷ xs) l
later ns p x xs nowhere f = tt
later ns p x xs (in_tile t) (m, e) = (inr m, e)
later ns p x xs (in_tabs g i) (m, b, n, qs, e, h) = (inr m, b, n, qs, e, h)

pub locate-found : (ns : List Node) (p : ℕ) (xs : List TileId) → Found ns p xs (locate ns p xs)
unfolding locate
locate-found ns p [] = tt
locate-found ns p (x ∷ xs) = go (node_at ns x) refl (later ns p x xs (locate ns p xs) (locate-found ns p xs))
  where
    by-pane : (q : ℕ) → node_at ns x ≡ pane q → (b : Bool) → eqb p q ≡ b → Found ns p (x ∷ xs) (locate ns p xs) → Found ns p (x ∷ xs) (tile_has b x (locate ns p xs))
    by-pane q e true t f = (inl refl, e ∙ ap pane (sym (eqb-true p q t)))
    by-pane q e false t f = f

    by-tabs : (b : TabBarPlacement) (n : ℕ) (qs : List ℕ) → node_at ns x ≡ tabs b n qs → (o : Option ℕ) → is_some o ≡ contains p qs → Found ns p (x ∷ xs) (locate ns p xs) → Found ns p (x ∷ xs) (tabs_have o x (locate ns p xs))
    by-tabs b n qs e none h f = f
    by-tabs b n qs e (some k) h f = (inl refl, b, n, qs, e, (contains-means p qs).0 (sym h))

    go : (m : Node) → node_at ns x ≡ m → Found ns p (x ∷ xs) (locate ns p xs) → Found ns p (x ∷ xs) (located m p x (locate ns p xs))
    go empty e f = f
    go (pane q) e f = by-pane q e (eqb p q) refl f
    go (tabs b n qs) e f = by-tabs b n qs e (position (eqb p) qs) (found-any (eqb p) qs 0) f
    go (split y cs ss ms) e f = f

-- ---- a tile that is read is one of those to begin with, or a child of one that is read

abbrev Below : List Node → TileId → List TileId → Type 0
Below ns t xs = (y : TileId) × Member y xs × Member t (kids_of (node_at ns y))

read_below : (ns : List Node) (t : TileId) (f : ℕ) (xs : List TileId) → Member t (reading f ns xs) → Member t xs ⊎ Below ns t (reading f ns xs)
unfolding reading
read_below ns t zero xs m = absurd m
read_below ns t (suc f) [] m = absurd m
read_below ns t (suc f) (x ∷ xs) (inl e) = inl (inl e)
read_below ns t (suc f) (x ∷ xs) (inr m) = go (read_below ns t f (kids_of (node_at ns x) ++ xs) m)
  where
    by : Member t (kids_of (node_at ns x)) ⊎ Member t xs → Member t (x ∷ xs) ⊎ Below ns t (x ∷ reading f ns (kids_of (node_at ns x) ++ xs))
    by (inl k) = inr (x, inl refl, k)
    by (inr k) = inl (inr k)

    go : Member t (kids_of (node_at ns x) ++ xs) ⊎ Below ns t (reading f ns (kids_of (node_at ns x) ++ xs)) → Member t (x ∷ xs) ⊎ Below ns t (x ∷ reading f ns (kids_of (node_at ns x) ++ xs))
    go (inl k) = by (member-cases t (kids_of (node_at ns x)) xs k)
    go (inr (y, r, k)) = inr (y, inr r, k)

seek-any : (ns : List Node) (t : TileId) (xs : List TileId) → is_some (seek_parent ns t xs) ≡ any_of (λ y. any_of (same_tile t) (kids_of (node_at ns y))) xs
unfolding seek_parent any_of
seek-any ns t [] = refl
seek-any ns t (x ∷ xs) =
    go (position (same_tile t) (kids_of (node_at ns x))) (seek_parent ns t xs)
    ∙ (λ z. found-any (same_tile t) (kids_of (node_at ns x)) 0 z || seek-any ns t xs z)
  where
    go : (o : Option ℕ) (next : Option Parent) → is_some (parent_by o x next) ≡ (is_some o || is_some next)
    go none next = refl
    go (some k) next = refl

-- so a tile that is read has a parent, or is the root
pub read-hangs : (ns : List Node) (r t : TileId) → Member t (reading_from ns r) → (t ≡ r) ⊎ (is_some (find_parent r ns t) ≡ true)
read-hangs ns r t m = go (read_below ns t 1025 (r ∷ []) m)
  where
    go : Member t (r ∷ []) ⊎ Below ns t (reading_from ns r) → (t ≡ r) ⊎ (is_some (find_parent r ns t) ≡ true)
    go (inl (inl e)) = inl e
    go (inl (inr k)) = absurd k
    go (inr (y, k, c)) =
        inr (seek-any ns t (reading_from ns r)
        ∙ (any-means (λ y. any_of (same_tile t) (kids_of (node_at ns y))) (reading_from ns r)).1 (y, k, (any-means (same_tile t) (kids_of (node_at ns y))).1 (t, c, tile-self t)))
