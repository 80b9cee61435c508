-- Laws of the scans, one slot after another, and of what they find. Assumes nothing.
use mathlib.Core.Path.{◌≡◌, refl, sym, ap, ◌∙◌}
use mathlib.Core.Bool.{Bool, true, false, ◌||◌}
use mathlib.Core.List.{List, [], ◌∷◌, map}
use mathlib.Core.Option.{Option, none, some}
use Rattle.std.specs.Prelude.{Option as Maybe, Some, None, is_some}
use Prim.Native.Nat.{ℕ, zero, suc, ◌+◌, ◌≤◌, ◌<◌}
use native.Mathlib.Omega.{arith}
use native.Mathlib.Numerals.{add-one}
use borrow.Author.Tests.{ltb-false}
use lib.Dec.{eqb, ltb}
use lib.Ieee.{Float}
use lib.ListN.{length, get_or, take, drop, drop_of_length-le}
use lib.Seq.{drop-cons}
use Rattle.rules.specs.Lists.{first_by, position_from, position}
use Rattle.rules.specs.Tree.{Node, empty, pane, tabs, split, tile, kids_of, same_tile}
use Rattle.rules.specs.Target.{PaneLocation, nowhere, tile_has, tabs_have, located, is_somewhere, parent_by}
use Rattle.rules.specs.declared.model.TileId.{TileId}
use Rattle.forest.specs.Lists.{never}
use Rattle.columns.specs.Columns.{node_by, node_from, nodes_from}
use Rattle.columns.specs.Pack.{over_head}
use Rattle.columns.specs.ColumnLaws.{nodes-long, nodes-at, split-of}
use Rattle.forest.specs.Bools.{or_left}
use Rattle.nodes.specs.declared.PaneLocation.{PaneLocation as Location}
use Rattle.nodes.specs.declared.PaneLocation.TheVariants.{Tile, InTabs}
use Rattle.nodes.specs.Parts.{location_of}
use Rattle.nodes.specs.Find.{scan_from, scan_pane, parent_from, scan_parent, hit, or_where, located-hit}

-- ---- a pane

-- what is found is somewhere
pub somewhere-some : (r : Maybe Location) → is_somewhere (location_of r) ≡ is_some r
somewhere-some None = refl
somewhere-some (Some (Tile t)) = refl
somewhere-some (Some (InTabs g i)) = refl

-- what is found in a slot is what is found; what is not is found after it
some-hit : (o : Option PaneLocation) (next : PaneLocation) → is_somewhere (or_where o nowhere) ≡ true → or_where o next ≡ or_where o nowhere
some-hit (some l) next e = refl
some-hit none next e = never (sym e)

hit-some : (n : Node) (p : ℕ) (i : TileId) (next : PaneLocation) → is_somewhere (located n p i nowhere) ≡ true → located n p i next ≡ located n p i nowhere
hit-some n p i next e =
    located-hit n p i next ∙ some-hit (hit n p i) next (ap is_somewhere (sym (located-hit n p i nowhere)) ∙ e) ∙ sym (located-hit n p i nowhere)

hit-where : (n : Node) (p : ℕ) (i : TileId) (next : PaneLocation) → is_somewhere (located n p i nowhere) ≡ false → located n p i next ≡ next
hit-where empty p i next e = refl
hit-where (pane q) p i next e = go (eqb p q) e
  where
    go : (b : Bool) → is_somewhere (tile_has b i nowhere) ≡ false → tile_has b i next ≡ next
    go true w = never w
    go false w = refl
hit-where (tabs b a qs) p i next e = go (position (eqb p) qs) e
  where
    go : (o : Option ℕ) → is_somewhere (tabs_have o i nowhere) ≡ false → tabs_have o i next ≡ next
    go (some n) w = never w
    go none w = refl
hit-where (split a cs ss ms) p i next e = refl

-- a scan that has got to i
abbrev pub Scanning : List Node → ℕ → ℕ → Type 0
Scanning ns p i = scan_from i (drop i ns) p ≡ scan_pane ns p

abbrev pub Seeking : List Node → TileId → ℕ → Type 0
Seeking ns t i = parent_from i (drop i ns) t ≡ scan_parent ns t

module _ (ns : List Node) (long : length ns ≡ 64) where
  module _ (p i : ℕ) (h : i < 64) (l : PaneLocation) (e : l ≡ located (get_or ns i empty) p (tile i) nowhere) where
    here : scan_from i (drop i ns) p ≡ located (get_or ns i empty) p (tile i) (scan_from (suc i) (drop (suc i) ns) p)
    unfolding scan_from
    here = ap (λ (l : List Node). scan_from i l p) (drop-cons ns i empty (omega (arith, long)))

    pub scanning-found : is_somewhere l ≡ true → Scanning ns p i → l ≡ scan_pane ns p
    scanning-found s w = e ∙ sym (here ∙ hit-some (get_or ns i empty) p (tile i) (scan_from (suc i) (drop (suc i) ns) p) (ap is_somewhere (sym e) ∙ s)) ∙ w

    pub scanning-more : is_somewhere l ≡ false → Scanning ns p i → Scanning ns p (i + 1)
    scanning-more s w =
        ap (λ (k : ℕ). scan_from k (drop k ns) p) (add-one i) ∙ sym (here ∙ hit-where (get_or ns i empty) p (tile i) (scan_from (suc i) (drop (suc i) ns) p) (ap is_somewhere (sym e) ∙ s)) ∙ w

  pub scanning-all : (p i : ℕ) → 64 ≤ i → Scanning ns p i → nowhere ≡ scan_pane ns p
  unfolding scan_from
  scanning-all p i h w = sym (ap (λ (l : List Node). scan_from i l p) (let g : length ns ≤ i = omega (arith, long) in drop_of_length-le ns g)) ∙ w

  -- ---- a parent

  module _ (t : TileId) (i : ℕ) (h : i < 64) where
    held-here : parent_from i (drop i ns) t ≡ parent_by (position (same_tile t) (kids_of (get_or ns i empty))) (tile i) (parent_from (suc i) (drop (suc i) ns) t)
    unfolding parent_from
    held-here = ap (λ (l : List Node). parent_from i l t) (drop-cons ns i empty (omega (arith, long)))

    pub seeking-found : (j : ℕ) → some j ≡ position (same_tile t) (kids_of (get_or ns i empty)) → Seeking ns t i → some (record { split = tile i; index = j }) ≡ scan_parent ns t
    seeking-found j e w = sym (held-here ∙ ap (λ (o : Option ℕ). parent_by o (tile i) (parent_from (suc i) (drop (suc i) ns) t)) (sym e)) ∙ w

    pub seeking-more : none ≡ position (same_tile t) (kids_of (get_or ns i empty)) → Seeking ns t i → Seeking ns t (i + 1)
    seeking-more e w =
        ap (λ (k : ℕ). parent_from k (drop k ns) t) (add-one i) ∙ sym (held-here ∙ ap (λ (o : Option ℕ). parent_by o (tile i) (parent_from (suc i) (drop (suc i) ns) t)) (sym e)) ∙ w

  pub seeking-all : (t : TileId) (i : ℕ) → 64 ≤ i → Seeking ns t i → none ≡ scan_parent ns t
  unfolding parent_from
  seeking-all t i h w = sym (ap (λ (l : List Node). parent_from i l t) (let g : length ns ≤ i = omega (arith, long) in drop_of_length-le ns g)) ∙ w

-- ---- one row

-- its list is of 16 at most
pub head_few : (h : List ℕ) → over_head h ≡ false → get_or h 4 0 ≤ 16
head_few h e =
    let a = ltb 16 (get_or h 4 0) in
    let b = ltb 16 (get_or h 5 0) in
    ltb-false 16 (get_or h 4 0) (or_left a b (or_left (a || b) (ltb 16 (get_or h 6 0)) e))

module _ (h xs : List ℕ) (ss ms : List Float) (p : ℕ) (t : TileId) where
  pub row-pane : get_or h 0 0 ≡ 1 → tile_has (eqb p (get_or h 2 0)) t nowhere ≡ located (node_from h xs ss ms) p t nowhere
  row-pane e = ap (λ (k : ℕ). located (node_by k h xs ss ms) p t nowhere) (sym e)

  pub row-tabs : get_or h 0 0 ≡ 2 → tabs_have (position (eqb p) (take (get_or h 4 0) xs)) t nowhere ≡ located (node_from h xs ss ms) p t nowhere
  row-tabs e = ap (λ (k : ℕ). located (node_by k h xs ss ms) p t nowhere) (sym e)

  pub row-nowhere : (get_or h 0 0 ≡ 1 → ⊥) → (get_or h 0 0 ≡ 2 → ⊥) → nowhere ≡ located (node_from h xs ss ms) p t nowhere
  row-nowhere o w = go (get_or h 0 0) o w
    where
      go : (k : ℕ) → (k ≡ 1 → ⊥) → (k ≡ 2 → ⊥) → nowhere ≡ located (node_by k h xs ss ms) p t nowhere
      go zero a b = refl
      go (suc zero) a b = absurd (a refl)
      go (suc (suc zero)) a b = absurd (b refl)
      go (suc (suc (suc k))) a b = refl

-- a tile among tiles is its number among their numbers
numbers-from : (n t : ℕ) (xs : List ℕ) → position_from n (eqb t) xs ≡ position_from n (same_tile (tile t)) (map tile xs)
unfolding position_from
numbers-from n t [] = refl
numbers-from n t (x ∷ xs) = ap (first_by (eqb t x) n) (numbers-from (suc n) t xs)

module _ (h xs : List ℕ) (ss ms : List Float) (t : ℕ) where
  pub row-kids : 2 < get_or h 0 0 → position (eqb t) (take (get_or h 4 0) xs) ≡ position (same_tile (tile t)) (kids_of (node_from h xs ss ms))
  row-kids g =
      numbers-from 0 t (take (get_or h 4 0) xs)
      ∙ ap (λ (n : Node). position (same_tile (tile t)) (kids_of n)) (sym (split-of (get_or h 0 0) h xs ss ms (λ e. omega arith) (λ e. omega arith) (λ e. omega arith)))

  pub row-childless : get_or h 0 0 ≤ 2 → none ≡ position (same_tile (tile t)) (kids_of (node_from h xs ss ms))
  unfolding position_from
  row-childless g = go (get_or h 0 0) g
    where
      go : (k : ℕ) → k ≤ 2 → none ≡ position (same_tile (tile t)) (kids_of (node_by k h xs ss ms))
      go zero l = refl
      go (suc zero) l = refl
      go (suc (suc zero)) l = refl
      go (suc (suc (suc k))) l = absurd (omega arith)

-- ---- the scans over rows, whatever shares and minima they have

module _ (hs xs : List (List ℕ)) (lh : length hs ≡ 64) (lx : length xs ≡ 64) where
  -- of any columns with these heads and ids
  abbrev pub Rows : (List Node → Type 0) → Type 0
  Rows P = (ss ms : List (List Float)) → length ss ≡ 64 → length ms ≡ 64 → P (nodes_from hs xs ss ms)

  module _ (i : ℕ) (h : i < 64) where
    module _ (p : ℕ) (l : PaneLocation) (e : (ss ms : List Float) → l ≡ located (node_from (get_or hs i []) (get_or xs i []) ss ms) p (tile i) nowhere) where
      at : Rows (λ (ns : List Node). l ≡ located (get_or ns i empty) p (tile i) nowhere)
      at ss ms ls lm = e (get_or ss i []) (get_or ms i []) ∙ ap (λ (n : Node). located n p (tile i) nowhere) (sym (nodes-at hs xs ss ms lh lx ls lm i))

      pub rows-found : is_somewhere l ≡ true → Rows (λ (ns : List Node). Scanning ns p i) → Rows (λ (ns : List Node). l ≡ scan_pane ns p)
      rows-found s w ss ms ls lm = scanning-found (nodes_from hs xs ss ms) (nodes-long hs xs ss ms lh lx ls lm) p i h l (at ss ms ls lm) s (w ss ms ls lm)

      pub rows_more : is_somewhere l ≡ false → Rows (λ (ns : List Node). Scanning ns p i) → Rows (λ (ns : List Node). Scanning ns p (i + 1))
      rows_more s w ss ms ls lm = scanning-more (nodes_from hs xs ss ms) (nodes-long hs xs ss ms lh lx ls lm) p i h l (at ss ms ls lm) s (w ss ms ls lm)

    module _ (t : TileId) (o : Option ℕ) (e : (ss ms : List Float) → o ≡ position (same_tile t) (kids_of (node_from (get_or hs i []) (get_or xs i []) ss ms))) where
      placed : Rows (λ (ns : List Node). o ≡ position (same_tile t) (kids_of (get_or ns i empty)))
      placed ss ms ls lm = e (get_or ss i []) (get_or ms i []) ∙ ap (λ (n : Node). position (same_tile t) (kids_of n)) (sym (nodes-at hs xs ss ms lh lx ls lm i))

      pub rows-holds : (j : ℕ) → some j ≡ o → Rows (λ (ns : List Node). Seeking ns t i) → Rows (λ (ns : List Node). some (record { split = tile i; index = j }) ≡ scan_parent ns t)
      rows-holds j q w ss ms ls lm = seeking-found (nodes_from hs xs ss ms) (nodes-long hs xs ss ms lh lx ls lm) t i h j (q ∙ placed ss ms ls lm) (w ss ms ls lm)

      pub rows-onward : none ≡ o → Rows (λ (ns : List Node). Seeking ns t i) → Rows (λ (ns : List Node). Seeking ns t (i + 1))
      rows-onward q w ss ms ls lm = seeking-more (nodes_from hs xs ss ms) (nodes-long hs xs ss ms lh lx ls lm) t i h (q ∙ placed ss ms ls lm) (w ss ms ls lm)

  pub rows-nowhere : (p i : ℕ) → 64 ≤ i → Rows (λ (ns : List Node). Scanning ns p i) → Rows (λ (ns : List Node). nowhere ≡ scan_pane ns p)
  rows-nowhere p i h w ss ms ls lm = scanning-all (nodes_from hs xs ss ms) (nodes-long hs xs ss ms lh lx ls lm) p i h (w ss ms ls lm)

  pub rows-loose : (t : TileId) (i : ℕ) → 64 ≤ i → Rows (λ (ns : List Node). Seeking ns t i) → Rows (λ (ns : List Node). none ≡ scan_parent ns t)
  rows-loose t i h w ss ms ls lm = seeking-all (nodes_from hs xs ss ms) (nodes-long hs xs ss ms lh lx ls lm) t i h (w ss ms ls lm)
