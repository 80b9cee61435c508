-- A tile put beside another in a new split of the two, at the root or in the target's place; and every way in which a tile is put beside another.
-- Assumes nothing.
use Rattle.std.specs.Prelude.{◌≡◌, refl, ◌≢◌, ◌⊎◌, Bool, true, false, List, ℕ, ◌<◌, ltb, length, get_or, set}
use Rattle.std.proofs.Common.{sym, ap, subst, ◌∙◌, inl, inr, arith, ltb-false, eqb-true, length-set, get_or-set_same, get_or-set_other}
use Rattle.std.proofs.Math.Option.{Option, none, some}
use Rattle.std.proofs.Math.Decide.{ℕ_discrete}
use Rattle.rules.specs.Tree.{Node, empty, Arena, tile, node_at, set_node, is_empty, kids_of, panes_of, empty_slots, same_tile, Member, Reached}
use Rattle.rules.specs.Target.{Parent, find_parent}
use Rattle.rules.specs.Insert.{Draft, draft, Beside, has_axis, new_split, replaced_in}
use Rattle.rules.specs.Operations.{Step, refuse, unchanged, changed, taken, put_near}
use Rattle.rules.specs.declared.model.TileId.{TileId}
use Rattle.nodes.specs.Find.{is_split}
use Rattle.docking.specs.Near.{taken-empty, near-absent, near-loose, near-in, near-root, near-under}
use Rattle.fates.specs.Spots.{set-has, set_keeps, set-like, taken-inside, taken-apart}
use Rattle.fates.specs.Graft.{carry, of, step-to, new-target, new-own, new-panes, replaced-kids, replaced-panes, Grafted, Ground, first, x-empty, grafted, first-long, first-own, first-other, first-kids, kids, placed, s-full, s-in, s-not, s-split, inside-grafted}

module _ (a : Arena) (ms : List Node) (new : Node) (G : Ground a ms new) (b : Beside) where
  abbrev x : ℕ
  x = (taken 0 a).slot

  abbrev y : ℕ
  y = (taken 1 a).slot

  abbrev made : Node
  made = new_split b (taken 0 a) b.placement

  -- the slots with the new tile and the new split, not hung yet
  abbrev both : List Node
  both = set_node (taken 1 a) made (first a ms new G)

  y-empty : get_or a.nodes y empty ≡ empty
  y-empty = taken-empty a.nodes G.size 1

  module _ (room : 1 < length (empty_slots a.nodes)) where
    x-in : x < 64
    x-in = taken-inside a.nodes G.size 0 (omega arith)

    y-in : y < 64
    y-in = taken-inside a.nodes G.size 1 room

    x-not-y : x ≢ y
    x-not-y = taken-apart a.nodes G.size room

    both_own : get_or both x empty ≡ new
    both_own = get_or-set_other (first a ms new G) y x made empty x-not-y ∙ first-own a ms new G x-in

    both-split : get_or both y empty ≡ made
    both-split = get_or-set_same (first a ms new G) y made empty (omega (arith, first-long a ms new G, y-in))

    both-panes : (i : ℕ) → i ≢ x → panes_of (get_or both i empty) ≡ panes_of (get_or ms i empty)
    both-panes i e =
        set-like panes_of (first a ms new G) y made
        (new-panes b (taken 0 a) b.placement ∙ ap panes_of (sym (first-other a ms new G y (λ w. x-not-y (sym w)) ∙ G.blank y y-empty))) i
        ∙ ap panes_of (first-other a ms new G i e)

    both-kids : (i : ℕ) → i ≢ y → kids_of (get_or both i empty) ≡ kids_of (get_or a.nodes i empty)
    both-kids i e = ap kids_of (get_or-set_other (first a ms new G) y i made empty e) ∙ first-kids a ms new G i

    -- the new split has no children in the tree as it was
    y-none : (i : ℕ) (j : TileId) → Member j (kids_of (get_or a.nodes i empty)) → i ≢ y
    y-none i j m e = absurd (subst (λ (n : Node). Member j (kids_of n)) (ap (λ (k : ℕ). get_or a.nodes k empty) e ∙ y-empty) m)

    -- where it is reached and stands, the target and the new tile are reached
    module _ (d : Draft) (is : get_or d.nodes y empty ≡ made) (r : Reached (of d) y) where
      to-target : Reached (of d) b.target.slot
      to-target = step-to (of d) y b.target (kids_of made) (ap kids_of is) (new-target b (taken 0 a) b.placement) r

      to-new : Reached (of d) x
      to-new = step-to (of d) y (taken 0 a) (kids_of made) (ap kids_of is) (new-own b (taken 0 a) b.placement) r

    -- ---- at the root

    root-grafted : same_tile b.target a.root ≡ true → Grafted a ms new (draft (taken 1 a) both)
    root-grafted e =
        let d = draft (taken 1 a) both in
        let r : Reached (of d) y = Reached.root y-in in
        grafted a ms new G d both_own both-panes
        (carry a (of d) (λ h. subst (Reached (of d)) (eqb-true b.target.slot a.root.slot e) (to-target d both-split r))
        (λ i j m q. step-to (of d) i j (kids_of (get_or a.nodes i empty)) (both-kids i (y-none i j m)) m q)) (to-new d both-split r)

    -- ---- in the place that the target had in its split

    module _ (q : Parent) (found : find_parent a.root a.nodes b.target ≡ some q) where
      abbrev s : ℕ
      s = q.split.slot

      abbrev under : Draft
      under = draft a.root (set_node q.split (replaced_in (taken 1 a) q.index (node_at both q.split)) both)

      y-not-s : y ≢ s
      y-not-s = s-not a ms new G b q found y y-empty

      s-both : get_or both s empty ≡ get_or (first a ms new G) s empty
      s-both = get_or-set_other (first a ms new G) y s made empty (λ e. y-not-s (sym e))

      under-kids : kids_of (get_or under.nodes s empty) ≡ set (kids a ms new G b q found) q.index (taken 1 a)
      under-kids =
          ap kids_of (get_or-set_same both s (replaced_in (taken 1 a) q.index (get_or both s empty)) empty
          (omega (arith, length-set (first a ms new G) y made, first-long a ms new G, s-in a ms new G b q found)))
          ∙ replaced-kids (taken 1 a) q.index (get_or both s empty) (ap is_split s-both ∙ s-split a ms new G b q found)
          ∙ ap (λ (l : List TileId). set l q.index (taken 1 a)) (both-kids s (λ e. y-not-s (sym e)))

      under-other : (i : ℕ) → i ≢ s → get_or under.nodes i empty ≡ get_or both i empty
      under-other i e = get_or-set_other both s i (replaced_in (taken 1 a) q.index (get_or both s empty)) empty e

      to-split : Reached (of under) s → Reached (of under) y
      to-split r =
          step-to (of under) s (taken 1 a) (set (kids a ms new G b q found) q.index (taken 1 a)) under-kids
          (set-has q.index (taken 1 a) (kids a ms new G b q found) (placed a ms new G b q found).0) r

      under_split : get_or under.nodes y empty ≡ made
      under_split = under-other y y-not-s ∙ both-split

      -- a step from the split to the target goes by the new split
      under-reach : (i : ℕ) → Reached a i → Reached (of under) i
      under-reach = carry a (of under) (λ h. Reached.root h) (λ i j m r. go i j m r (ℕ_discrete i s))
        where
          by : (j : TileId) → Reached (of under) s → (j ≡ get_or (kids a ms new G b q found) q.index (tile 0)) ⊎ Member j (set (kids a ms new G b q found) q.index (taken 1 a)) → Reached (of under) j.slot
          by j r (inl e) =
              subst (Reached (of under)) (eqb-true b.target.slot (get_or (kids a ms new G b q found) q.index (tile 0)).slot (placed a ms new G b q found).1 ∙ ap (λ (t : TileId). t.slot) (sym e))
              (to-target under under_split (to-split r))
          by j r (inr m) = step-to (of under) s j (set (kids a ms new G b q found) q.index (taken 1 a)) under-kids m r

          go : (i : ℕ) (j : TileId) → Member j (kids_of (get_or a.nodes i empty)) → Reached (of under) i → Dec (i ≡ s) → Reached (of under) j.slot
          go i j m r (yes e) =
              by j (subst (Reached (of under)) e r)
              (set_keeps q.index (taken 1 a) (kids a ms new G b q found) (tile 0) j (subst (λ (k : ℕ). Member j (kids_of (get_or a.nodes k empty))) e m))
          go i j m r (no e) = step-to (of under) i j (kids_of (get_or a.nodes i empty)) (ap kids_of (under-other i e) ∙ both-kids i (y-none i j m)) m r

      under-grafted : Grafted a ms new under
      under-grafted =
          grafted a ms new G under (under-other x (s-not a ms new G b q found x (x-empty a ms new G)) ∙ both_own)
          (λ i e. set-like panes_of both s (replaced_in (taken 1 a) q.index (get_or both s empty)) (replaced-panes (taken 1 a) q.index (get_or both s empty)) i ∙ both-panes i e) under-reach
          (to-new under under_split (to-split (under-reach s (G.full s (s-full a ms new G b q found)))))

  -- ---- every way

  -- whatever is made, once there are slots enough
  abbrev pub Grafts : Step → Type 0
  Grafts (refuse e) = Unit {0}
  Grafts unchanged = ⊥
  Grafts (changed c) = ltb (length (empty_slots a.nodes)) c.needed ≡ false → Grafted a ms new c.made

  abbrev free : ℕ
  free = length (empty_slots a.nodes)

  pub near-grafted : Grafts (put_near a new b (draft a.root ms))
  near-grafted = there (is_empty (node_at ms b.target)) refl
    where
      within : is_empty (node_at ms b.target) ≡ false → (P : Option Parent) → find_parent a.root a.nodes b.target ≡ P → (c : Bool) → same_tile b.target a.root ≡ c
          → Grafts (put_near a new b (draft a.root ms))
      within is none found true e =
          subst Grafts (sym (near-root a G.size ms G.alike new G.leaf b none found is e refl)) (λ h. root-grafted (let k = ltb-false free 2 h in omega arith) e)
      within is none found false e = subst Grafts (sym (near-loose a G.size ms G.alike new G.leaf b none found is e refl)) tt
      within is (some q) found c e = axis (has_axis b.axis (node_at a.nodes q.split)) refl c e
        where
          axis : (h : Bool) → has_axis b.axis (node_at a.nodes q.split) ≡ h → (c : Bool) → same_tile b.target a.root ≡ c → Grafts (put_near a new b (draft a.root ms))
          axis true w c e =
              subst Grafts (sym (near-in a G.size ms G.alike new G.leaf b (some q) found is q refl w))
              (λ h. inside-grafted a ms new G b q found (taken-inside a.nodes G.size 0 (let k = ltb-false free 1 h in omega arith)))
          axis false w true e =
              subst Grafts (sym (near-root a G.size ms G.alike new G.leaf b (some q) found is e w)) (λ h. root-grafted (let k = ltb-false free 2 h in omega arith) e)
          axis false w false e =
              subst Grafts (sym (near-under a G.size ms G.alike new G.leaf b (some q) found is e q refl w)) (λ h. under-grafted (let k = ltb-false free 2 h in omega arith) q found)

      there : (c : Bool) → is_empty (node_at ms b.target) ≡ c → Grafts (put_near a new b (draft a.root ms))
      there true e = subst Grafts (sym (near-absent a G.size ms G.alike new G.leaf b (find_parent a.root a.nodes b.target) refl e)) tt
      there false e = within e (find_parent a.root a.nodes b.target) refl (same_tile b.target a.root) refl
