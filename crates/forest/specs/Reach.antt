-- In settled slots the occupied ones are exactly those that are reached from the root, each once; and each pane stands once. Assumes nothing.
use Rattle.std.specs.Prelude.{◌≡◌, ◌↔◌, ◌⊎◌, Bool, true, false, not, ℕ, T, get_or}
use Rattle.std.proofs.Math.Path.{refl, sym, ap, subst}
use Rattle.std.proofs.Common.{◌∙◌, inl, inr, arith}
use mathlib.Core.List.{List, [], ◌∷◌, ◌++◌, append_assoc}
use Rattle.std.proofs.Math.Option.{some}
use Rattle.std.proofs.Math.Decide.{ℕ_discrete}
use Rattle.rules.specs.Tree.{Node, empty, Arena, arena, node_at, is_empty, kids_of, panes_of, reading, reading_from, Member, Occupied, Reached}
use Rattle.rules.specs.Target.{panes_along, panes_in}
use Rattle.rules.specs.declared.model.TileId.{TileId}
use Rattle.forest.specs.Lists.{All, Distinct, never, all_map, all_append, all-member, member-all, member-left, member_right, member-cases}
use Rattle.forest.specs.Forest.{Forest, nil, leaf, node, tiles, shown, Leafy, Holds, Full, holds-full}
use Rattle.forest.specs.Grow.{Left, nothing, group, branch, kept_of, stem}
use Rattle.forest.specs.Again.{names, heads, leafy-kids}
use Rattle.forest.specs.Settled.{Tidy, Lone, Settled, slots, reads, slots-are, occupied-in}
use Rattle.forest.specs.Nodes.{leafy-panes}

-- ---- occupied, as a test and as a fact

full-occupied : (b : Bool) → b ≡ false → T (not b)
full-occupied true e = never e
full-occupied false e = tt

occupied-full : (b : Bool) → T (not b) → b ≡ false
occupied-full true t = absurd t
occupied-full false t = refl

-- ---- a forest's tiles have their children in it, and are reached where its roots are

module _ (ns : List Node) where
  heads-in : (f : Forest) → All (λ i. Member i.slot (tiles f)) (heads f)
  heads-in nil = tt
  heads-in (leaf i _ _ ps r) = (inl refl, all_map (λ j m. inr m) (heads r) (heads-in r))
  heads-in (node i _ _ a c r) = (inl refl, all_map (λ j m. inr (member_right j.slot (tiles c) (tiles r) m)) (heads r) (heads-in r))

  no_kids : {A : Type 0} (n : Node) (ps : List ℕ) → Leafy n ps → (j : TileId) → Member j (kids_of n) → A
  no_kids n ps l j m = absurd (subst (Member j) (leafy-kids n ps l) m)

  closed : (f : Forest) → Holds ns f → (i : ℕ) → Member i (tiles f) → (j : TileId) → Member j (kids_of (get_or ns i empty)) → Member j.slot (tiles f)
  closed nil h i m j n = absurd m
  closed (leaf x _ _ ps r) h i (inl e) j n = no_kids (get_or ns i empty) ps (subst (λ (k : ℕ). Leafy (get_or ns k empty) ps) (sym e) h.0.leafy) j n
  closed (leaf x _ _ ps r) h i (inr m) j n = inr (closed r h.1 i m j n)
  closed (node x _ _ a c r) h i (inl e) j n =
      inr (member-left j.slot (tiles c) (tiles r)
      (member-all (λ y. Member y.slot (tiles c)) j (heads c) (subst (λ (k : Node). Member j (kids_of k)) (ap (λ (k : ℕ). get_or ns k empty) e ∙ h.0.is) n) (heads-in c)))
  closed (node x _ _ a c r) h i (inr m) j n =
      under (member-cases i (tiles c) (tiles r) m) (λ q. closed c h.1 i q j n) (λ q. closed r h.2 i q j n)
    where
      under : Member i (tiles c) ⊎ Member i (tiles r) → (Member i (tiles c) → Member j.slot (tiles c)) → (Member i (tiles r) → Member j.slot (tiles r))
          → Member j.slot (x.slot ∷ (tiles c ++ tiles r))
      under (inl q) f g = inr (member-left j.slot (tiles c) (tiles r) (f q))
      under (inr q) f g = inr (member_right j.slot (tiles c) (tiles r) (g q))

module _ (t : Arena) where
  reach-all : (f : Forest) → Holds t.nodes f → All (λ i. Reached t i.slot) (heads f) → All (Reached t) (tiles f)
  reach-all nil h a = tt
  reach-all (leaf i _ _ ps r) h a = (a.0, reach-all r h.1 a.1)
  reach-all (node i _ _ x c r) h a = (
    a.0,
    all_append (Reached t) (tiles c) (tiles r)
        (reach-all c h.1
        (all_map (λ j m. Reached.child a.0 (subst (λ (k : Node). Member j (kids_of k)) (sym h.0.is) m)) (heads c) (all-member (heads c))))
        (reach-all r h.2 a.1),
  )

-- ---- occupied is reached

module _ (ns : List Node) (r : TileId) (v : ℕ) where
  abbrev t : Arena
  t = arena r v ns

  module _ (l : Left) (T : Tidy ns r l) where
    root_in : (k : Left) → kept_of k ≡ some r → Member r.slot (tiles (stem k))
    root_in nothing e = absurd (let z : ◌≡◌ {A = ℕ} 0 1 = cc in omega arith)
    root_in (group i ps) e = let q : i ≡ r = cc in inl (ap (λ (x : TileId). x.slot) (sym q))
    root_in (branch i a c) e = let q : i ≡ r = cc in inl (ap (λ (x : TileId). x.slot) (sym q))

    tile-full : (i : ℕ) → Member i (tiles (stem l)) → Full ns i
    tile-full i m = member-all (Full ns) i (tiles (stem l)) m (holds-full ns (stem l) T.held)

    root-heads : (k : Left) → kept_of k ≡ some r → Reached t r.slot → All (λ i. Reached t i.slot) (heads (stem k))
    root-heads nothing e q = tt
    root-heads (group i ps) e q = let z : r ≡ i = cc in (subst (λ (x : TileId). Reached t x.slot) z q, tt)
    root-heads (branch i a c) e q = let z : r ≡ i = cc in (subst (λ (x : TileId). Reached t x.slot) z q, tt)

    tidy-in : (i : ℕ) → Reached t i → Member i (tiles (stem l))
    tidy-in i (Reached.root h) = root_in l T.root_is
    tidy-in i (Reached.child {i = x} {j = j} q m) = closed ns (stem l) T.held x (tidy-in x q) j m

    tidy-reached : (i : ℕ) → Member i (tiles (stem l)) → Reached t i
    tidy-reached i m =
        member-all (Reached t) i (tiles (stem l)) m
        (reach-all t (stem l) T.held (root-heads l T.root_is (Reached.root (tile-full r.slot (root_in l T.root_is)).0)))

  lone-in : Lone ns r → (i : ℕ) → Reached t i → i ≡ r.slot
  lone-in L i (Reached.root h) = refl
  lone-in L i (Reached.child {i = x} {j = j} q m) =
      absurd (subst (λ (n : Node). Member j (kids_of n)) (ap (λ (k : ℕ). get_or ns k empty) (lone-in L x q) ∙ L.is) m)

  pub occupied-reached : Settled ns r → (i : ℕ) → Occupied t i ↔ Reached t i
  occupied-reached (inl (l, T)) i =
      (λ o. tidy-reached l T i (occupied-in ns r l T i (occupied-full (is_empty (get_or ns i empty)) o)), λ q. full-occupied (is_empty (get_or ns i empty)) (tile-full l T i (tidy-in l T i q)).1)
  occupied-reached (inr L) i = (λ o. go o (ℕ_discrete i r.slot), λ q. full-occupied (is_empty (get_or ns i empty)) (ap (λ (k : ℕ). is_empty (get_or ns k empty)) (lone-in L i q) ∙ ap is_empty L.is))
    where
      go : Occupied t i → Dec (i ≡ r.slot) → Reached t i
      go o (yes e) = subst (Reached t) (sym e) (Reached.root L.inside)
      go o (no n) = absurd (subst (λ (k : Node). T (not (is_empty k))) (L.rest i n) o)

  -- ---- in the reading order each tile that is reached stands, once

  lone-reads : Lone ns r → reading_from ns r ≡ r ∷ []
  unfolding reading
  lone-reads L = ap (λ (x : Node). r ∷ reading 1024 ns (kids_of x ++ [])) L.is

  pub read-once : Settled ns r → Distinct (slots (reading_from ns r)) × ((i : ℕ) → Member i (slots (reading_from ns r)) ↔ Reached t i)
  read-once (inl (l, T)) =
      let q = slots-are ns r l T.root_is T.held T.room in
      (rw q T.apart, λ i. (λ m. tidy-reached l T i (subst (Member i) q m), λ k. subst (Member i) (sym q) (tidy-in l T i k)))
  read-once (inr L) =
      subst (λ (xs : List TileId). Distinct (slots xs) × ((i : ℕ) → Member i (slots xs) ↔ Reached t i)) (sym (lone-reads L))
      ((tt, tt), λ i. (λ m. one i m, λ k. inl (lone-in L i k)))
    where
      one : (i : ℕ) → Member i (slots (r ∷ [])) → Reached t i
      one i (inl e) = subst (Reached t) (sym e) (Reached.root L.inside)
      one i (inr m) = absurd m

  -- ---- each pane stands once

  along-append : (xs ys : List TileId) → panes_along ns (xs ++ ys) ≡ panes_along ns xs ++ panes_along ns ys
  unfolding panes_along
  along-append [] ys = refl
  along-append (x ∷ xs) ys = ap (λ (l : List ℕ). panes_of (node_at ns x) ++ l) (along-append xs ys) ∙ sym (append_assoc (panes_of (node_at ns x)) (panes_along ns xs) (panes_along ns ys))

  along-names : (f : Forest) → Holds ns f → panes_along ns (names f) ≡ shown f
  unfolding panes_along
  along-names nil h = refl
  along-names (leaf i _ _ ps g) h = λ z. leafy-panes (node_at ns i) ps h.0.leafy z ++ along-names g h.1 z
  along-names (node i _ _ a c g) h = (λ z. panes_of (h.0.is z) ++ panes_along ns (names c ++ names g)) ∙ along-append (names c) (names g) ∙ (λ z. along-names c h.1 z ++ along-names g h.2 z)

  pub tidy-panes : (l : Left) → Tidy ns r l → panes_in r ns ≡ shown (stem l)
  tidy-panes l T = ap (panes_along ns) (reads ns r l T.root_is T.held T.room) ∙ along-names (stem l) T.held

  pub panes-once : Settled ns r → Distinct (panes_in r ns)
  unfolding panes_along
  panes-once (inl (l, T)) = rw (tidy-panes l T) T.panes
  panes-once (inr L) = subst (λ (xs : List TileId). Distinct (panes_along ns xs)) (sym (lone-reads L)) (subst (λ (n : Node). Distinct (panes_of n ++ [])) (sym L.is) tt)
