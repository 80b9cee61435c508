-- A pane taken out of a sound tree's slots: it is gone, every other pane stands where it stood, and the slots read as they did. Assumes nothing.
use Rattle.std.specs.Prelude.{◌≡◌, ◌≢◌, true, List, [], ◌∷◌, ℕ, ◌<◌, length}
use Rattle.std.proofs.Math.Path.{refl, subst}
use Rattle.std.proofs.Common.{sym, ap, ◌∙◌, inl, inr, arith, length-set}
use Rattle.std.proofs.Math.ListN.{get_or}
use Rattle.std.proofs.Math.Seq.{get_or-set_same}
use Rattle.rules.specs.Lists.{remove_at}
use Rattle.rules.specs.Tree.{Node, empty, pane, tabs, split, node_at, panes_of, reading_from, Member}
use Rattle.rules.specs.Target.{PaneLocation, nowhere, in_tile, in_tabs, is_somewhere, panes_along}
use Rattle.rules.specs.Insert.{removed_from, remove_pane}
use Rattle.rules.specs.declared.model.TileId.{TileId}
use Rattle.forest.specs.Lists.{Distinct, never, distinct-left, distinct-right}
use Rattle.forest.specs.Settled.{slots}
use Rattle.forest.specs.Stays.{panes-full, full-inside}
use Rattle.nodes.specs.Find.{OneTree, pane-once}
use Rattle.docking.specs.Near.{Alike, alike-removed}
use Rattle.fates.specs.Spots.{remove-from, remove-keeps, remove-gone, place-has, set-passes, set-came, At, at-stands}

-- some slot shows the pane
abbrev pub In : List Node → ℕ → Type 0
In ns p = (i : ℕ) × Member p (panes_of (get_or ns i empty))

-- the panes of a slot that is read are distinct
slot-distinct : (ns : List Node) (xs : List TileId) → Distinct (panes_along ns xs) → (i : ℕ) → Member i (slots xs) → Distinct (panes_of (get_or ns i empty))
unfolding panes_along
slot-distinct ns [] d i m = absurd m
slot-distinct ns (x ∷ xs) d i (inl e) = subst (λ (k : ℕ). Distinct (panes_of (get_or ns k empty))) (sym e) (distinct-left (panes_of (node_at ns x)) (panes_along ns xs) d)
slot-distinct ns (x ∷ xs) d i (inr m) = slot-distinct ns xs (distinct-right (panes_of (node_at ns x)) (panes_along ns xs) d) i m

-- ---- a group with a pane taken out

removed-tabs : (k : ℕ) (n : Node) (q : ℕ) → Member q (panes_of (removed_from k n)) → Member q (panes_of n)
removed-tabs k empty q m = m
removed-tabs k (pane p) q m = m
removed-tabs k (tabs b a ps) q m = remove-from k ps q m
removed-tabs k (split x cs ss ms) q m = m

removed-empty : (k : ℕ) (n : Node) → n ≡ empty → removed_from k n ≡ empty
removed-empty k n e = ap (removed_from k) e

module _ (ns : List Node) (p : ℕ) where
  -- ---- where it stood

  pub at_in : (l : PaneLocation) → At ns p l → is_somewhere l ≡ true → In ns p
  at_in nowhere h s = never (sym s)
  at_in (in_tile t) h s = (t.slot, subst (λ (n : Node). Member p (panes_of n)) (sym h) (inl refl))
  at_in (in_tabs g k) (b, a, ps, is, h, e) s = (g.slot, subst (λ (n : Node). Member p (panes_of n)) (sym is) (subst (λ (q : ℕ). Member q ps) e (place-has k ps 0 h)))

  -- ---- the others stay, and none comes

  pub removed-keeps : (l : PaneLocation) → At ns p l → (q : ℕ) → q ≢ p → (i : ℕ) → Member q (panes_of (get_or ns i empty)) → Member q (panes_of (get_or (remove_pane l ns) i empty))
  removed-keeps nowhere h q n i m = m
  removed-keeps (in_tile t) h q n i m = set-passes (λ x. Member q (panes_of x)) ns t.slot empty (λ w. own (subst (λ (x : Node). Member q (panes_of x)) h w)) i m
    where
      own : Member q (p ∷ []) → ⊥
      own (inl e) = n e
      own (inr w) = w
  removed-keeps (in_tabs g k) (b, a, ps, is, h, e) q n i m =
      set-passes (λ x. Member q (panes_of x)) ns g.slot (removed_from k (node_at ns g))
      (λ w. subst (λ (x : Node). Member q (panes_of (removed_from k x))) (sym is) (remove-keeps k ps 0 q (λ z. n (z ∙ e)) (subst (λ (x : Node). Member q (panes_of x)) is w))) i m

  pub removed-from : (l : PaneLocation) (q i : ℕ) → Member q (panes_of (get_or (remove_pane l ns) i empty)) → Member q (panes_of (get_or ns i empty))
  removed-from nowhere q i m = m
  removed-from (in_tile t) q i m = set-came (λ x. Member q (panes_of x)) ns t.slot empty (λ w. absurd w) i m
  removed-from (in_tabs g k) q i m = set-came (λ x. Member q (panes_of x)) ns g.slot (removed_from k (node_at ns g)) (removed-tabs k (node_at ns g) q) i m

  -- ---- what else the slots are

  pub removed-long : (l : PaneLocation) → length ns ≡ 64 → length (remove_pane l ns) ≡ 64
  removed-long nowhere e = e
  removed-long (in_tile t) e = length-set ns t.slot empty ∙ e
  removed-long (in_tabs g k) e = length-set ns g.slot (removed_from k (node_at ns g)) ∙ e

  pub removed-blank : (l : PaneLocation) (i : ℕ) → get_or ns i empty ≡ empty → get_or (remove_pane l ns) i empty ≡ empty
  removed-blank nowhere i e = e
  removed-blank (in_tile t) i e = set-passes (λ x. x ≡ empty) ns t.slot empty (λ w. refl) i e
  removed-blank (in_tabs g k) i e = set-passes (λ x. x ≡ empty) ns g.slot (removed_from k (node_at ns g)) (removed-empty k (node_at ns g)) i e

  pub removed-alike : (l : PaneLocation) → At ns p l → Alike ns (remove_pane l ns)
  removed-alike l h = alike-removed ns l (at-stands ns p l h)

  -- ---- the pane itself is gone

  module _ (r : TileId) (O : OneTree ns r) where
    -- it stands in one slot
    pub one-slot : (i j : ℕ) → Member p (panes_of (get_or ns i empty)) → Member p (panes_of (get_or ns j empty)) → i ≡ j
    one-slot i j m n =
        pane-once ns p (reading_from ns r) O.panes i j (O.covers i (panes-full (get_or ns i empty) p m)) (O.covers j (panes-full (get_or ns j empty) p n)) m n

    inside : (i : ℕ) → Member p (panes_of (get_or ns i empty)) → i < length ns
    inside i m = let h = full-inside ns O.size i (panes-full (get_or ns i empty) p m) in omega (arith, O.size)

    pub removed-gone : {A : Type 0} (l : PaneLocation) → At ns p l → is_somewhere l ≡ true → (i : ℕ) → Member p (panes_of (get_or (remove_pane l ns) i empty)) → A
    unfolding at_in
    removed-gone nowhere h s i m = never (sym s)
    removed-gone (in_tile t) h s i m =
        let (_, n) = at_in (in_tile t) h refl in
        let e = one-slot i t.slot (removed-from (in_tile t) p i m) n in
        absurd (subst (λ (x : Node). Member p (panes_of x)) (ap (λ (k : ℕ). get_or (remove_pane (in_tile t) ns) k empty) e ∙ get_or-set_same ns t.slot empty empty (inside t.slot n)) m)
    removed-gone (in_tabs g k) (b, a, ps, is, h, w) s i m =
        let (_, n) = at_in (in_tabs g k) (b, a, ps, is, h, w) refl in
        let e = one-slot i g.slot (removed-from (in_tabs g k) p i m) n in
        let left : Member p (remove_at k ps) =
        subst (λ (x : Node). Member p (panes_of (removed_from k x))) is
        (subst (λ (x : Node). Member p (panes_of x)) (ap (λ (j : ℕ). get_or (remove_pane (in_tabs g k) ns) j empty) e ∙ get_or-set_same ns g.slot (removed_from k (node_at ns g)) empty (inside g.slot n)) m) in
        let distinct = slot-distinct ns (reading_from ns r) O.panes g.slot (O.covers g.slot (panes-full (get_or ns g.slot empty) p n)) in
        remove-gone k ps 0 h (subst (λ (x : Node). Distinct (panes_of x)) is distinct) (subst (λ (q : ℕ). Member q (remove_at k ps)) (sym w) left)
