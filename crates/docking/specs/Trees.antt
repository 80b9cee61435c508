-- Slots of a sound arena hold one tree, in the words that the scans need: occupied slots are read, panes stand once, tiles have one parent; and where one pane
-- at most is left some slot is empty. Assumes nothing.
use Rattle.std.specs.Prelude.{◌≡◌, refl, ◌≢◌, ◌⊎◌, Bool, true, false, not, List, [], ◌∷◌, ◌++◌, ℕ, zero, suc, ◌≤◌, ◌<◌, T, length, get_or}
use Rattle.std.proofs.Common.{sym, ap, subst, ◌∙◌, inl, inr, arith, length-append}
use Rattle.std.proofs.Math.Decide.{ℕ_discrete}
use Rattle.std.proofs.lemmas.List.{length-map}
use Rattle.std.proofs.Math.ListN.{get_or-map}
use Rattle.rules.specs.Tree.{Node, empty, pane, tabs, split, Arena, node_at, is_empty, kids_of, panes_of, empty_by, empty_from, empty_slots, reading, reading_from, Member}
use Rattle.rules.specs.Target.{panes_along, panes_in}
use Rattle.rules.specs.Sound.{sound}
use Rattle.rules.specs.declared.model.TileId.{TileId}
use Rattle.forest.specs.Lists.{All, Distinct, never, member-all, member-left, member_right, member-cases, distinct-left, distinct-right, clash}
use Rattle.forest.specs.Forest.{Forest, nil, leaf, node, roots, tiles, shown, Leafy, Holds}
use Rattle.forest.specs.Grow.{nothing, group, branch, stem}
use Rattle.forest.specs.Again.{heads, leafy-kids}
use Rattle.forest.specs.SoundCases.{Plain, sound-cases}
use Rattle.forest.specs.Settled.{Lone, Settled, slots, occupied-in}
use Rattle.forest.specs.Reach.{occupied-reached, read-once, tidy-panes, panes-once}
use Rattle.forest.specs.Quiet.{plain_node, plain_nodes, kids-plain, panes-plain}
use Rattle.forest.specs.Nodes.{parent-full}
use Rattle.nodes.specs.Find.{OneTree}

-- ---- a tile of a forest has one parent

not-leafy : {A : Type 0} (n : Node) (ps : List ℕ) → Leafy n ps → (t : ℕ) → Member t (slots (kids_of n)) → A
not-leafy n ps l t m = absurd (subst (λ (ks : List TileId). Member t (slots ks)) (leafy-kids n ps l) m)

heads-tiles : (t : ℕ) (f : Forest) → Member t (slots (heads f)) → Member t (tiles f)
heads-tiles t nil m = absurd m
heads-tiles t (leaf i _ _ ps r) (inl e) = inl e
heads-tiles t (leaf i _ _ ps r) (inr m) = inr (heads-tiles t r m)
heads-tiles t (node i _ _ a c r) (inl e) = inl e
heads-tiles t (node i _ _ a c r) (inr m) = inr (member_right t (tiles c) (tiles r) (heads-tiles t r m))

module _ (ns : List Node) where
  abbrev Kid : ℕ → ℕ → Type 0
  Kid t i = Member t (slots (kids_of (get_or ns i empty)))

  at_leaf : {A : Type 0} (x : TileId) (ps : List ℕ) (i t : ℕ) → Leafy (node_at ns x) ps → i ≡ x.slot → Kid t i → A
  at_leaf x ps i t l e k = not-leafy (get_or ns i empty) ps (subst (λ (j : ℕ). Leafy (get_or ns j empty) ps) (sym e) l) t k

  -- the kids of a split that holds c are its heads
  at-node : (x : TileId) (n : Node) (c : Forest) (i t : ℕ) → node_at ns x ≡ n → kids_of n ≡ heads c → i ≡ x.slot → Kid t i → Member t (slots (heads c))
  at-node x n c i t e h q k = subst (λ (ks : List TileId). Member t (slots ks)) (ap (λ (j : ℕ). kids_of (get_or ns j empty)) q ∙ ap kids_of e ∙ h) k

  inside : (f : Forest) → Holds ns f → (i t : ℕ) → Member i (tiles f) → Kid t i → Member t (tiles f)
  inside nil h i t m k = absurd m
  inside (leaf x _ _ ps r) h i t (inl e) k = at_leaf x ps i t h.0.leafy e k
  inside (leaf x _ _ ps r) h i t (inr m) k = inr (inside r h.1 i t m k)
  inside (node x _ _ a c r) h i t (inl e) k = inr (member-left t (tiles c) (tiles r) (heads-tiles t c (at-node x _ c i t h.0.is refl e k)))
  inside (node x _ _ a c r) h i t (inr m) k = under (member-cases i (tiles c) (tiles r) m) (λ q. inside c h.1 i t q k) (λ q. inside r h.2 i t q k)
    where
      under : Member i (tiles c) ⊎ Member i (tiles r) → (Member i (tiles c) → Member t (tiles c)) → (Member i (tiles r) → Member t (tiles r)) → Member t (x.slot ∷ (tiles c ++ tiles r))
      under (inl q) f g = inr (member-left t (tiles c) (tiles r) (f q))
      under (inr q) f g = inr (member_right t (tiles c) (tiles r) (g q))

  apart_from : {A : Type 0} (x t : ℕ) (xs : List ℕ) → All (λ y. y ≢ x) xs → Member t xs → t ≡ x → A
  apart_from x t xs a m e = absurd (member-all (λ y. y ≢ x) t xs m a e)

  -- a kid is no head
  not-head : {A : Type 0} (f : Forest) → Holds ns f → Distinct (tiles f) → (i t : ℕ) → Member i (tiles f) → Kid t i → Member t (slots (heads f)) → A
  not-head nil h d i t m k q = absurd m
  not-head (leaf x _ _ ps r) h d i t (inl e) k q = at_leaf x ps i t h.0.leafy e k
  not-head (leaf x _ _ ps r) h d i t (inr m) k (inl e) = apart_from x.slot t (tiles r) d.0 (inside r h.1 i t m k) e
  not-head (leaf x _ _ ps r) h d i t (inr m) k (inr q) = not-head r h.1 d.1 i t m k q
  not-head {A} (node x _ _ a c r) h d i t m k q = under m q (λ n p. not-head r h.2 (distinct-right (tiles c) (tiles r) d.1) i t n k p)
    where
      low : Member t (tiles c) → Member t (x.slot ∷ slots (heads r)) → A
      low n (inl e) = apart_from x.slot t (tiles c ++ tiles r) d.0 (member-left t (tiles c) (tiles r) n) e
      low n (inr p) = clash t (tiles c) (tiles r) d.1 n (heads-tiles t r p)

      high : Member i (tiles r) → Member t (x.slot ∷ slots (heads r)) → (Member i (tiles r) → Member t (slots (heads r)) → A) → A
      high n (inl e) f = apart_from x.slot t (tiles c ++ tiles r) d.0 (member_right t (tiles c) (tiles r) (inside r h.2 i t n k)) e
      high n (inr p) f = f n p

      side : Member i (tiles c) ⊎ Member i (tiles r) → Member t (x.slot ∷ slots (heads r)) → (Member i (tiles r) → Member t (slots (heads r)) → A) → A
      side (inl n) p f = low (inside c h.1 i t n k) p
      side (inr n) p f = high n p f

      under : Member i (x.slot ∷ (tiles c ++ tiles r)) → Member t (x.slot ∷ slots (heads r)) → (Member i (tiles r) → Member t (slots (heads r)) → A) → A
      under (inl e) p f = low (heads-tiles t c (at-node x _ c i t h.0.is refl e k)) p
      under (inr n) p f = side (member-cases i (tiles c) (tiles r) n) p f

  pub one_parent : (f : Forest) → Holds ns f → Distinct (tiles f) → (i j t : ℕ) → Member i (tiles f) → Member j (tiles f) → Kid t i → Kid t j → i ≡ j
  one_parent nil h d i j t m n k l = absurd m
  one_parent (leaf x _ _ ps r) h d i j t (inl e) n k l = at_leaf x ps i t h.0.leafy e k
  one_parent (leaf x _ _ ps r) h d i j t (inr m) (inl e) k l = at_leaf x ps j t h.0.leafy e l
  one_parent (leaf x _ _ ps r) h d i j t (inr m) (inr n) k l = one_parent r h.1 d.1 i j t m n k l
  one_parent (node x _ _ a c r) h d i j t m n k l =
      both m n (λ p q. one_parent c h.1 (distinct-left (tiles c) (tiles r) d.1) i j t p q k l) (λ p q. one_parent r h.2 (distinct-right (tiles c) (tiles r) d.1) i j t p q k l)
    where
      -- the one under the other's heads
      over : {A : Type 0} (y z : ℕ) → y ≡ x.slot → Kid t y → Member z (tiles c) ⊎ Member z (tiles r) → Kid t z → A
      over y z e u (inl q) v = not-head c h.1 (distinct-left (tiles c) (tiles r) d.1) z t q v (at-node x _ c y t h.0.is refl e u)
      over y z e u (inr q) v = clash t (tiles c) (tiles r) d.1 (heads-tiles t c (at-node x _ c y t h.0.is refl e u)) (inside r h.2 z t q v)

      low : Member i (tiles c) ⊎ Member i (tiles r) → Member j (tiles c) ⊎ Member j (tiles r) → (Member i (tiles c) → Member j (tiles c) → i ≡ j) → (Member i (tiles r) → Member j (tiles r) → i ≡ j) → i ≡ j
      low (inl p) (inl q) f g = f p q
      low (inl p) (inr q) f g = clash t (tiles c) (tiles r) d.1 (inside c h.1 i t p k) (inside r h.2 j t q l)
      low (inr p) (inl q) f g = clash t (tiles c) (tiles r) d.1 (inside c h.1 j t q l) (inside r h.2 i t p k)
      low (inr p) (inr q) f g = g p q

      both : Member i (x.slot ∷ (tiles c ++ tiles r)) → Member j (x.slot ∷ (tiles c ++ tiles r)) → (Member i (tiles c) → Member j (tiles c) → i ≡ j) → (Member i (tiles r) → Member j (tiles r) → i ≡ j) → i ≡ j
      both (inl e) (inl q) f g = e ∙ sym q
      both (inl e) (inr q) f g = over i j e k (member-cases j (tiles c) (tiles r) q) l
      both (inr p) (inl q) f g = over j i q l (member-cases i (tiles c) (tiles r) p) k
      both (inr p) (inr q) f g = low (member-cases i (tiles c) (tiles r) p) (member-cases j (tiles c) (tiles r) q) f g

-- ---- settled slots hold one tree

full-occupied : (b : Bool) → b ≡ false → T (not b)
full-occupied true e = never e
full-occupied false e = tt

lone-kids : {A : Type 0} (ns : List Node) (r : TileId) → Lone ns r → (i t : ℕ) → Member t (slots (kids_of (get_or ns i empty))) → A
lone-kids {A} ns r L i t m = go (ℕ_discrete i r.slot)
  where
    go : Dec (i ≡ r.slot) → A
    go (yes e) = absurd (subst (λ (n : Node). Member t (slots (kids_of n))) (ap (λ (k : ℕ). get_or ns k empty) e ∙ L.is) m)
    go (no e) = absurd (subst (λ (n : Node). Member t (slots (kids_of n))) (L.rest i e) m)

pub settled-tree : (ns : List Node) (r : TileId) → Settled ns r → OneTree ns r
settled-tree ns r (inl (l, T)) =
    record {
      size = T.size;
      covers = λ i e. ((read-once ns r 0 (inl (l, T))).1 i).1 ((occupied-reached ns r 0 (inl (l, T)) i).0 (full-occupied (is_empty (get_or ns i empty)) e));
      panes = panes-once ns r 0 (inl (l, T));
      parents = λ i j t m n. one_parent ns (stem l) T.held T.apart i j t (occupied-in ns r l T i (parent-full (get_or ns i empty) t m)) (occupied-in ns r l T j (parent-full (get_or ns j empty) t n)) m n;
    }
settled-tree ns r (inr L) =
    record {
      size = L.size;
      covers = λ i e. ((read-once ns r 0 (inr L)).1 i).1 ((occupied-reached ns r 0 (inr L) i).0 (full-occupied (is_empty (get_or ns i empty)) e));
      panes = panes-once ns r 0 (inr L);
      parents = λ i j t m n. lone-kids ns r L i t m;
    }

-- ---- where one pane at most is left, some slot is empty

some-empty : (ns : List Node) (k i : ℕ) → i < length ns → get_or ns i empty ≡ empty → 0 < length (empty_from k ns)
unfolding empty_from
some-empty [] k i h e = absurd (omega arith)
some-empty (n ∷ ns) k zero h e = subst (λ (x : Node). 0 < length (empty_by (is_empty x) k (empty_from (suc k) ns))) (sym e) (omega arith)
some-empty (n ∷ ns) k (suc i) h e = go (is_empty n) (some-empty ns (suc k) i (omega arith) e)
  where
    go : (b : Bool) → 0 < length (empty_from (suc k) ns) → 0 < length (empty_by b k (empty_from (suc k) ns))
    go true g = omega arith
    go false g = g

-- a slot that is not the one
other-empty : (ns : List Node) → length ns ≡ 64 → (r : ℕ) → ((i : ℕ) → i ≢ r → get_or ns i empty ≡ empty) → 0 < length (empty_slots ns)
other-empty ns size r h = go (ℕ_discrete 0 r)
  where
    go : Dec (0 ≡ r) → 0 < length (empty_slots ns)
    go (yes e) = some-empty ns 0 1 (omega arith) (h 1 (λ q. omega arith))
    go (no e) = some-empty ns 0 0 (omega arith) (h 0 e)

leafy-some : (n : Node) (ps : List ℕ) → Leafy n ps → 1 ≤ length ps
leafy-some empty ps l = absurd l
leafy-some (pane p) ps l = omega (arith, ap length l)
leafy-some (tabs b a qs) ps l = omega (arith, ap length l.0, l.1)
leafy-some (split a cs ss ms) ps l = absurd l

-- each root of a forest shows a pane
pub many-shown : (ns : List Node) (f : Forest) → Holds ns f → length (roots f) ≤ length (shown f)
many-shown ns nil h = omega arith
many-shown ns (leaf i _ _ ps r) h = let g = many-shown ns r h.1 in omega (arith, leafy-some (node_at ns i) ps h.0.leafy, length-append ps (shown r))
many-shown ns (node i _ _ a c r) h =
    let f = many-shown ns c h.1 in
    let g = many-shown ns r h.2 in
    omega (arith, h.0.two, length-append (shown c) (shown r))

pub settled-room : (ns : List Node) (r : TileId) → Settled ns r → length (panes_in r ns) ≤ 1 → 0 < length (empty_slots ns)
settled-room ns r (inr L) h = other-empty ns L.size r.slot L.rest
settled-room ns r (inl (nothing, T)) h = absurd (let k = T.root_is in let z : ◌≡◌ {A = ℕ} 0 1 = cc in omega arith)
settled-room ns r (inl (group i ps, T)) h = other-empty ns T.size i.slot (λ j n. T.rest j (n, tt))
settled-room ns r (inl (branch i a c, T)) h =
    absurd (omega (arith, ap length (tidy-panes ns r 0 (branch i a c) T), length-append (shown c) [], many-shown ns c T.held.1, T.held.0.two))

-- ---- and so do slots that differ from them by the sign of a minimum's zero

empty-plain : (n : Node) → is_empty (plain_node n) ≡ is_empty n
empty-plain empty = refl
empty-plain (pane p) = refl
empty-plain (tabs b a ps) = refl
empty-plain (split a cs ss ms) = refl

-- the reading order goes by the children alone
pub reading-like : (ns ms : List Node) → ((i : ℕ) → kids_of (get_or ms i empty) ≡ kids_of (get_or ns i empty)) → (f : ℕ) (xs : List TileId) → reading f ms xs ≡ reading f ns xs
unfolding reading
reading-like ns ms h zero xs = refl
reading-like ns ms h (suc f) [] = refl
reading-like ns ms h (suc f) (x ∷ xs) = ap (λ (l : List TileId). x ∷ l) (reading-like ns ms h f (kids_of (node_at ms x) ++ xs) ∙ ap (λ (ks : List TileId). reading f ns (ks ++ xs)) (h x.slot))

along-like : (ns ms : List Node) → ((i : ℕ) → panes_of (get_or ms i empty) ≡ panes_of (get_or ns i empty)) → (xs : List TileId) → panes_along ms xs ≡ panes_along ns xs
unfolding panes_along
along-like ns ms h [] = refl
along-like ns ms h (x ∷ xs) = λ z. h x.slot z ++ along-like ns ms h xs z

empties-like : (ns : List Node) (k : ℕ) → empty_from k (plain_nodes ns) ≡ empty_from k ns
unfolding empty_from
empties-like [] k = refl
empties-like (n ∷ ns) k = λ z. empty_by (empty-plain n z) k (empties-like ns (suc k) z)

module _ (ns : List Node) (r : TileId) where
  plain_at : (i : ℕ) → get_or (plain_nodes ns) i empty ≡ plain_node (get_or ns i empty)
  plain_at i = get_or-map plain_node ns i empty

  plain-kids : (i : ℕ) → kids_of (get_or (plain_nodes ns) i empty) ≡ kids_of (get_or ns i empty)
  plain-kids i = ap kids_of (plain_at i) ∙ kids-plain (get_or ns i empty)

  plain-reads : reading_from (plain_nodes ns) r ≡ reading_from ns r
  plain-reads = reading-like ns (plain_nodes ns) plain-kids 1025 (r ∷ [])

  plain-panes : panes_in r (plain_nodes ns) ≡ panes_in r ns
  plain-panes = ap (panes_along (plain_nodes ns)) plain-reads ∙ along-like ns (plain_nodes ns) (λ i. ap panes_of (plain_at i) ∙ panes-plain (get_or ns i empty)) (reading_from ns r)

  plain-tree : OneTree (plain_nodes ns) r → OneTree ns r
  plain-tree O =
      record {
        size = sym (length-map ns plain_node) ∙ O.size;
        covers = λ i e. subst (λ (xs : List TileId). Member i (slots xs)) plain-reads (O.covers i (ap is_empty (plain_at i) ∙ empty-plain (get_or ns i empty) ∙ e));
        panes = subst Distinct plain-panes O.panes;
        parents = λ i j t m n. O.parents i j t (subst (λ (ks : List TileId). Member t (slots ks)) (sym (plain-kids i)) m) (subst (λ (ks : List TileId). Member t (slots ks)) (sym (plain-kids j)) n);
      }

-- ---- a sound arena's slots

pub record Standing (ns : List Node) (r : TileId) : Type 0 where
  pub tree : OneTree ns r
  pub room : length (panes_in r ns) ≤ 1 → 0 < length (empty_slots ns)

pub sound-standing : (a : Arena) → length a.nodes ≡ 64 → sound a ≡ true → Standing a.nodes a.root
sound-standing a size e = go (sound-cases a size e)
  where
    go : Plain a ⊎ Lone a.nodes a.root → Standing a.nodes a.root
    go (inl p) =
        record {
          tree = plain-tree a.nodes a.root (settled-tree (plain_nodes a.nodes) a.root p.settled);
          room = λ h. subst (λ (l : List ℕ). 0 < length l) (empties-like a.nodes 0) (settled-room (plain_nodes a.nodes) a.root p.settled (subst (λ (l : List ℕ). length l ≤ 1) (sym (plain-panes a.nodes a.root)) h));
        }
    go (inr L) = record { tree = settled-tree a.nodes a.root (inr L); room = settled-room a.nodes a.root (inr L) }
