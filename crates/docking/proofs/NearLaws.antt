-- Laws of a tile put beside another: each way of the code gives what the rule comes to. Assumes nothing.
use mathlib.Core.Path.{◌≡◌, refl, sym, ap, subst, ◌∙◌}
use mathlib.Core.Bool.{Bool, true, false, ◌||◌}
use mathlib.Core.List.{List, [], ◌∷◌}
use mathlib.Core.Option.{Option, none, some}
use Rattle.std.specs.Prelude.{◌⊎◌, Some, None}
use Rattle.std.proofs.Common.{inl, inr}
use Prim.Native.Nat.{ℕ, zero, suc, ◌≤◌, ◌<◌}
use native.Mathlib.Omega.{arith}
use borrow.Author.Tests.{lt-ltb, eq-eqb, ne_eqb}
use lib.Dec.{ltb}
use lib.ListN.{length, get_or, drop, length-take}
use lib.Seq.{get_or-set_other}
use lib.Ieee.{Float}
use Rattle.rules.specs.Numbers.{zero-f}
use Rattle.rules.specs.Lists.{insert_at}
use Rattle.rules.specs.Tree.{Node, Arena, empty, split, tile, tiles, reals, view_slot, node_of, over_slot, node_at, set_node, is_empty, kids_of, empty_slots, wide_node, same_tile}
use Rattle.rules.specs.Shares.{repaired_shares}
use Rattle.rules.specs.Minima.{aligned_constraints, compact_constraints}
use Rattle.rules.specs.Target.{Parent, find_parent}
use Rattle.rules.specs.Insert.{draft, insert_index, divided_shares, inserted_in, new_split, replaced_in}
use Rattle.rules.specs.Insert as Insert
use Rattle.rules.specs.Operations.{Step, change, taken, put_near, refused, finish}
use Rattle.rules.specs.declared.model.TileId.{TileId}
use Rattle.rules.specs.declared.model.Axis.{Axis}
use Rattle.rules.specs.declared.model.Kind.{Kind}
use Rattle.rules.specs.declared.model.Kind.TheVariants.{Empty, Pane, Tabs, Split}
use Rattle.rules.specs.declared.model.Slot.{Slot}
use Rattle.rules.specs.declared.refusal.Refusal.TheVariants.{ArenaFull, TooWide, InvalidTileId, InvalidOperation}
use Rattle.lists.specs.Places.{length-insert_at}
use Rattle.nodes.specs.Find.{scan_parent, scan-holds}
use Rattle.docking.specs.Near.{alike-kids, alike-scan, alike_same, taken-empty, like-first, set_first, set_both, near-absent, near-loose, near-in, near-root, near-under}
use Rattle.nodes.specs.Parts.{beside_of, Spared}
use Rattle.docking.specs.Steps.{Fits, Nears, Makes, parent_at, Within, Rooted, Under}
use Rattle.nodes.specs.declared.Beside.{Beside}
use Rattle.nodes.specs.declared.Spares.{Spares}
use Rattle.nodes.proofs.SlotLaws.{bare-view, split-few}
use Rattle.docking.proofs.FinishLaws.{step-full, step-wide, step-goes, has_room, taken-is, no_more, free-inside, wide-set}

-- ---- what has children is a split, in a slot

kinded : {A : Type 0} (s : Slot) (k : Kind) (i : ℕ) → i < length (kids_of (node_of k s)) → ((x : Axis) → k ≡ Split x → A) → A
kinded s Empty i h f = absurd (omega arith)
kinded s (Pane p) i h f = absurd (omega arith)
kinded s (Tabs b) i h f = absurd (omega arith)
kinded s (Split x) i h f = f x refl

inside : (ns : List Node) (j i : ℕ) → i < length (kids_of (get_or ns j empty)) → j < length ns
inside [] j i h = absurd (omega arith)
inside (n ∷ ns) zero i h = omega arith
inside (n ∷ ns) (suc j) i h = let g = inside ns j i h in omega arith

-- the bounds that the code asks
pub split-bounds : (s : Slot) (i : ℕ) → over_slot s ≡ false → i < length (kids_of (view_slot s)) → (i < s.children.len) × (s.children.len ≤ 16) × (s.shares.len ≤ 16)
split-bounds s i o h =
    kinded s s.kind i h
    (λ x e.
    let (f, g, w) = split-few s x e o in
    let k : i < length (tiles s.children) = subst (λ (n : Node). i < length (kids_of n)) (bare-view s (Split x) e) h in
    (omega (arith, length-take s.children.len s.children.at), f, g))

-- one more child than 16 is too wide
wide-kids : (x : Axis) (cs : List TileId) (ss rs : List Float) → ltb 16 (length cs) ≡ true → wide_node (split x cs ss rs) ≡ true
wide-kids x cs ss rs e = ap (λ (b : Bool). b || ltb 16 (length ss) || ltb 16 (length rs)) e

pub grown-wide : (s : Slot) (i : ℕ) (b : Insert.Beside) (new : TileId) → length s.children.at ≡ 16 → i < length (kids_of (view_slot s)) → 16 ≤ s.children.len → wide_node (inserted_in b new i (view_slot s)) ≡ true
grown-wide s i b new there h w =
    kinded s s.kind i h
    (λ x e.
    ap (λ (n : Node). wide_node (inserted_in b new i n)) (bare-view s (Split x) e)
    ∙ wide-kids x (insert_at p new cs) (divided_shares b i (repaired_shares (length cs) (reals s.shares))) (compact_constraints (insert_at p zero-f (aligned_constraints (length cs) (reals s.minima)))) many)
  where
    p : ℕ
    p = insert_index b.placement i

    cs : List TileId
    cs = tiles s.children

    many : ltb 16 (length (insert_at p new cs)) ≡ true
    many = lt-ltb 16 (length (insert_at p new cs)) (omega (arith, length-insert_at p new cs, length-take s.children.len s.children.at, there))

-- one slot at most is left
none_two : (a : Arena) → length a.nodes ≡ 64 → (room : Spares) → Spared room a.nodes → (room.first ≡ None) ⊎ (room.second ≡ None) → length (empty_slots a.nodes) ≤ 1
none_two a size room S (inl e) = let h = no_more a size 0 (sym S.first ∙ e) in omega arith
none_two a size room S (inr e) = no_more a size 1 (sym S.second ∙ e)

module _ (root : ℕ) (room : Spares) (ms : List Node) (new : Node) (b : Beside) (a : Arena) where
  abbrev ns : List Node
  ns = a.nodes

  abbrev free : List ℕ
  free = empty_slots ns

  abbrev step : Step
  step = put_near a new (beside_of b) (draft a.root ms)

  module _ (F : Fits root room ms new a) where
    pub long : length ns ≡ 64
    long = F.taken.fit.size

    parent_is : find_parent a.root ns b.target ≡ scan_parent ns b.target
    parent_is = F.taken.fit.parents b.target

    pub put-absent : is_empty (node_at ms b.target) ≡ true → finish a step ≡ refused InvalidTileId a
    put-absent e = ap (finish a) (near-absent a long ms F.taken.alike new F.leaf (beside_of b) (scan_parent ns b.target) parent_is e)

    -- the parent that is found in the slots as they are is the arena's
    pub put-nears : (p : Option Parent) → is_empty (node_at ms b.target) ≡ false → p ≡ scan_parent ms b.target → Nears root room ms new b p a
    put-nears p e h =
        record { fits = F; there = e; holder = h ∙ alike-scan ns ms F.taken.alike (F.taken.long ∙ sym long) b.target }

    pub put-axis : (x : Axis) (p : Option Parent) (r : Bool) → r ≡ Insert.same_axis_parent x p ms → r ≡ Insert.same_axis_parent x p ns
    put-axis x p r e = e ∙ alike_same ns ms F.taken.alike x p

  module _ (p : Option Parent) (N : Nears root room ms new b p a) where
    abbrev F : Fits root room ms new a
    F = N.fits

    pub size : length ns ≡ 64
    size = long F

    pub found : find_parent a.root ns b.target ≡ p
    found = parent_is F ∙ sym N.holder

    -- the slots with the new tile set
    abbrev with_new : List Node
    with_new = set_first a size ms F.taken.alike new F.leaf (beside_of b) p found

    first_is : (t : TileId) → room.first ≡ Some t → t ≡ taken 0 a
    first_is t e = taken-is a size 0 t (sym F.taken.spared.first ∙ e)

    second_is : (t : TileId) → room.second ≡ Some t → t ≡ taken 1 a
    second_is t e = taken-is a size 1 t (sym F.taken.spared.second ∙ e)

    new_is : (t : TileId) → room.first ≡ Some t → (made : List Node) → made ≡ set_node t new ms → made ≡ with_new
    new_is t e made m = m ∙ ap (λ (x : TileId). set_node x new ms) (first_is t e)

    root_is : (k : ℕ) → k ≡ root → same_tile (tile k) a.root ≡ true
    root_is k e = eq-eqb k a.root.slot (e ∙ sym F.taken.under)

    root-not : (k : ℕ) → (k ≡ root → ⊥) → same_tile (tile k) a.root ≡ false
    root-not k n = ne_eqb k a.root.slot (λ e. n (e ∙ F.taken.under))

    pub put-loose : (b.target.slot ≡ root → ⊥) → p ≡ none → finish a step ≡ refused InvalidOperation a
    put-loose e q = ap (finish a) (near-loose a size ms F.taken.alike new F.leaf (beside_of b) p found N.there (root-not b.target.slot e) q)

    pub put-rooted : Insert.same_axis_parent b.axis p ns ≡ false → b.target.slot ≡ root → Rooted room ms new b a
    put-rooted s e = (root, p, N, root_is b.target.slot e, s)

    pub put-unders : (s : TileId) (i : ℕ) → p ≡ some (parent_at s i) → Insert.same_axis_parent b.axis p ns ≡ false → (b.target.slot ≡ root → ⊥) → Under root room ms new b s i a
    put-unders s i q e n =
        (subst (λ (o : Option Parent). Nears root room ms new b o a) q N, root-not b.target.slot n, sym (ap (λ (o : Option Parent). Insert.same_axis_parent b.axis o ns) q) ∙ e)

    pub put-within : (s : TileId) (i : ℕ) → p ≡ some (parent_at s i) → Insert.same_axis_parent b.axis p ns ≡ true → Within root room ms new b s i a
    put-within s i q e = (subst (λ (o : Option Parent). Nears root room ms new b o a) q N, sym (ap (λ (o : Option Parent). Insert.same_axis_parent b.axis o ns) q) ∙ e)

  -- ---- in a parent of the same axis

  module _ (sp : TileId) (i : ℕ) (W : Within root room ms new b sp i a) where
    abbrev q : Option Parent
    q = some (parent_at sp i)

    abbrev N : Nears root room ms new b q a
    N = W.0

    abbrev grown : List Node
    grown = set_node sp (inserted_in (beside_of b) (taken 0 a) i (node_at (with_new q N) sp)) (with_new q N)

    in_is : step ≡ change (draft a.root grown) 1 (drop 1 free)
    in_is = near-in a (size q N) ms N.fits.taken.alike new N.fits.leaf (beside_of b) q (found q N) N.there (parent_at sp i) refl W.1

    pub put-in-full : room.first ≡ None → finish a step ≡ refused ArenaFull a
    put-in-full h = step-full a (size q N) step (draft a.root grown) 0 (drop 1 free) in_is (no_more a (size q N) 0 (sym N.fits.taken.spared.first ∙ h))

    module _ (t : TileId) (e : room.first ≡ Some t) (made : List Node) (m : made ≡ set_node t new ms) (s : Slot) (o : view_slot s ≡ node_at made sp) where
      same : view_slot s ≡ node_at (with_new q N) sp
      same = o ∙ ap (λ (l : List Node). node_at l sp) (new_is q N t e made m)

      placed : i < length (kids_of (node_at (with_new q N) sp))
      placed =
          subst (λ (l : List TileId). i < length l)
          (sym (alike-kids ns (with_new q N) (like-first a (size q N) ms N.fits.taken.alike new N.fits.leaf (beside_of b) q (found q N)) sp.slot))
          (scan-holds ns b.target (parent_at sp i) (sym N.holder))

      pub put_in_place : i < length (kids_of (view_slot s))
      put_in_place = subst (λ (n : Node). i < length (kids_of n)) (sym same) placed

      roomy : ltb (length free) 1 ≡ false
      roomy = has_room a (size q N) 0 t (sym N.fits.taken.spared.first ∙ e)

      pub put-in-wide : length s.children.at ≡ 16 → 16 ≤ s.children.len → finish a step ≡ refused TooWide a
      put-in-wide R w =
          step-wide a (size q N) step (draft a.root grown) 1 (drop 1 free) in_is roomy
          (wide-set (with_new q N) sp.slot (inserted_in (beside_of b) (taken 0 a) i (node_at (with_new q N) sp)) (inside (with_new q N) sp.slot i placed)
          (ap (λ (n : Node). wide_node (inserted_in (beside_of b) (taken 0 a) i n)) (sym same) ∙ grown-wide s i (beside_of b) (taken 0 a) R put_in_place w))

      pub put-in-goes : (n : Node) (done : List Node) → n ≡ inserted_in (beside_of b) t i (view_slot s) → done ≡ set_node sp n made → Makes a step root room.second done
      put-in-goes n done x y =
          step-goes a (size q N) step (draft a.root grown) 1 (drop 1 free) root room.second done in_is
          (λ j. draft (tile (N.fits.taken.under j)) (sym (y ∙ (λ j. set_node sp ((x ∙ (λ k. inserted_in (beside_of b) (first_is q N t e k) i (same k))) j) (new_is q N t e made m j))) j))
          roomy (free-inside a (size q N) 1) N.fits.taken.spared.second

  -- ---- a new split of the two

  module _ (p : Option Parent) (N : Nears root room ms new b p a) where
    abbrev with_both : List Node
    with_both = set_both a (size p N) ms N.fits.taken.alike new N.fits.leaf (beside_of b) p (found p N) N.there

    -- the two slots that are taken
    module _ (t u : TileId) (e : room.first ≡ Some t) (f : room.second ≡ Some u) where
      both_is : (made : List Node) → made ≡ set_node t new ms → (n : Node) → n ≡ new_split (beside_of b) t b.placement → (done : List Node) → done ≡ set_node u n made → done ≡ with_both
      both_is made m n x done y =
          y ∙ (λ z. set_node (second_is p N u f z) ((x ∙ ap (λ (k : TileId). new_split (beside_of b) k b.placement) (first_is p N t e)) z) (new_is p N t e made m z))

  module _ (sp : TileId) (i : ℕ) (W : Under root room ms new b sp i a) where
    abbrev hq : Option Parent
    hq = some (parent_at sp i)

    abbrev M : Nears root room ms new b hq a
    M = W.0

    abbrev swapped : List Node
    swapped = set_node sp (replaced_in (taken 1 a) i (node_at (with_both hq M) sp)) (with_both hq M)

    under-is : step ≡ change (draft a.root swapped) 2 (drop 2 free)
    under-is = near-under a (size hq M) ms M.fits.taken.alike new M.fits.leaf (beside_of b) hq (found hq M) M.there W.1 (parent_at sp i) refl W.2

    pub put-under-full : (room.first ≡ None) ⊎ (room.second ≡ None) → finish a step ≡ refused ArenaFull a
    put-under-full h = step-full a (size hq M) step (draft a.root swapped) 1 (drop 2 free) under-is (none_two a (size hq M) room M.fits.taken.spared h)

    -- the parent has children, so its slot is not the one that the new split takes
    apart : sp.slot ≡ get_or free 1 64 → ⊥
    apart e =
        let h = scan-holds ns b.target (parent_at sp i) (sym M.holder) in
        let k : get_or ns sp.slot empty ≡ empty = ap (λ (j : ℕ). get_or ns j empty) e ∙ taken-empty ns (size hq M) 1 in
        let g : i < length (kids_of empty) = subst (λ (n : Node). i < length (kids_of n)) k h in omega arith

    module _ (t u : TileId) (e : room.first ≡ Some t) (f : room.second ≡ Some u) (made : List Node) (m : made ≡ set_node t new ms) (n : Node) (x : n ≡ new_split (beside_of b) t b.placement)
        (more : List Node) (y : more ≡ set_node u n made) (s : Slot) (o : view_slot s ≡ node_at more sp) where
      both : more ≡ with_both hq M
      both = both_is hq M t u e f made m n x more y

      pub put-under-place : i < length (kids_of (view_slot s))
      put-under-place =
          subst (λ (n : Node). i < length (kids_of n))
          (sym (o ∙ ap (λ (l : List Node). node_at l sp) both ∙ get_or-set_other (with_new hq M) (taken 1 a).slot sp.slot (new_split (beside_of b) (taken 0 a) b.placement) empty apart))
          (subst (λ (l : List TileId). i < length l)
          (sym (alike-kids ns (with_new hq M) (like-first a (size hq M) ms M.fits.taken.alike new M.fits.leaf (beside_of b) hq (found hq M)) sp.slot))
          (scan-holds ns b.target (parent_at sp i) (sym M.holder)))

      pub put-under-goes : (w : Node) → w ≡ replaced_in u i (view_slot s) → (done : List Node) → done ≡ set_node sp w more → Makes a step root room.third done
      put-under-goes w g done v =
          step-goes a (size hq M) step (draft a.root swapped) 2 (drop 2 free) root room.third done under-is
          (λ j. draft (tile (M.fits.taken.under j)) (sym (v ∙ (λ j. set_node sp ((g ∙ (λ k. replaced_in (second_is hq M u f k) i ((o ∙ ap (λ (l : List Node). node_at l sp) both) k))) j) (both j))) j))
          (has_room a (size hq M) 1 u (sym M.fits.taken.spared.second ∙ f)) (free-inside a (size hq M) 2) M.fits.taken.spared.third

-- at the root
module _ (room : Spares) (ms : List Node) (new : Node) (b : Beside) (a : Arena) (W : Rooted room ms new b a) where
  abbrev top : Step
  top = put_near a new (beside_of b) (draft a.root ms)

  abbrev L : List Node
  L = with_both W.0 room ms new b a W.1 W.2

  abbrev wide : length a.nodes ≡ 64
  wide = size W.0 room ms new b a W.1 W.2

  over-is : top ≡ change (draft (taken 1 a) L) 2 (drop 2 (empty_slots a.nodes))
  over-is =
      let (r, p, N, e, s) = W in
      near-root a (size r room ms new b a p N) ms N.fits.taken.alike new N.fits.leaf (beside_of b) p (found r room ms new b a p N) N.there e s

  pub put-over-full : (room.first ≡ None) ⊎ (room.second ≡ None) → finish a top ≡ refused ArenaFull a
  put-over-full h = step-full a wide top (draft (taken 1 a) L) 1 (drop 2 (empty_slots a.nodes)) over-is (none_two a wide room W.2.fits.taken.spared h)

  pub put-over-goes : (t u : TileId) (e : room.first ≡ Some t) (f : room.second ≡ Some u) (made : List Node) → made ≡ set_node t new ms → (n : Node) → n ≡ new_split (beside_of b) t b.placement
      → (done : List Node) → done ≡ set_node u n made → Makes a top u.slot room.third done
  put-over-goes t u e f made m n x done y =
      let T = W.2.fits.taken in
      step-goes a wide top (draft (taken 1 a) L) 2 (drop 2 (empty_slots a.nodes)) u.slot room.third done over-is
      (λ j. draft (sym (second_is W.0 room ms new b a W.1 W.2 u f) j) (sym (both_is W.0 room ms new b a W.1 W.2 t u e f made m n x done y) j))
      (has_room a wide 1 u (sym T.spared.second ∙ f)) (free-inside a wide 2) T.spared.third
