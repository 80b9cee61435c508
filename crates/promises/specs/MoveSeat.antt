-- A sound tree from which a found pane was taken out: which tiles stand in it still, and which do not. Assumes nothing.
use Rattle.std.specs.Prelude.{◌≡◌, refl, Bool, true, false, List, [], ◌∷◌, ◌++◌, ℕ, length, get_or, set}
use Rattle.std.proofs.Common.{sym, ap, subst, ◌∙◌, inl, inr, arith, get_or-set_same, get_or-set_other}
use Rattle.std.proofs.Math.Option.{none}
use Rattle.rules.specs.Tree.{Node, empty, pane, tabs, split, Arena, node_at, is_empty, kids_of, panes_of, reading, reading_from, Member}
use Rattle.rules.specs.Sound.{sound}
use Rattle.rules.specs.Target.{PaneLocation, nowhere, in_tile, in_tabs, is_somewhere, existing, panes_along, panes_in}
use Rattle.rules.specs.Insert.{removed_from, remove_pane}
use Rattle.rules.specs.declared.model.TileId.{TileId}
use Rattle.forest.specs.Lists.{never}
use Rattle.forest.specs.Settled.{slots}
use Rattle.forest.specs.Stays.{full-inside}
use Rattle.nodes.specs.Find.{OneTree}
use Rattle.docking.specs.Trees.{reading-like, sound-standing}
use Rattle.fates.specs.Spots.{set-passes}
use Rattle.fates.specs.Removal.{one-slot}
use Rattle.promises.specs.Stands.{Found}

slot-member : (t : TileId) (xs : List TileId) → Member t.slot (slots xs) → Member t xs
slot-member t [] m = absurd m
slot-member t (x ∷ xs) (inl e) = inl (λ z. record { slot = e z })
slot-member t (x ∷ xs) (inr m) = inr (slot-member t xs m)

-- a root that is empty shows no pane
pub bare-root : (ns : List Node) (r : TileId) → node_at ns r ≡ empty → panes_in r ns ≡ []
unfolding panes_along reading
bare-root ns r e = (λ z. panes_along ns (r ∷ reading 1024 ns (kids_of (e z) ++ []))) ∙ (λ z. panes_of (e z) ++ [])

full-exists : (n : Node) → is_empty n ≡ false → existing n ≡ none
full-exists empty e = never e
full-exists (pane p) e = refl
full-exists (tabs b k ps) e = refl
full-exists (split x cs ss ms) e = refl

module _ (a : Arena) (size : length a.nodes ≡ 64) (s : sound a ≡ true) (p : ℕ) where
  abbrev ns : List Node
  ns = a.nodes

  one : OneTree a.nodes a.root
  one = (sound-standing a size s).tree

  -- a tile that stands is read
  pub stands_read : (t : TileId) → is_empty (node_at ns t) ≡ false → Member t (reading_from ns a.root)
  stands_read t e = slot-member t (reading_from ns a.root) (one.covers t.slot e)

  shown-pane : (t : TileId) → node_at ns t ≡ pane p → Member p (panes_of (node_at ns t))
  shown-pane t e = subst (λ (n : Node). Member p (panes_of n)) (sym e) (inl refl)

  pub record Seat (l : PaneLocation) : Type 0 where
    -- a tile that stands, and is not the pane's own, stands still
    pub stays : (t : TileId) → is_empty (node_at ns t) ≡ false → (node_at ns t ≡ pane p → ⊥) → existing (node_at (remove_pane l ns) t) ≡ none
    -- the pane's own tile is gone
    pub goes : (t : TileId) → node_at ns t ≡ pane p → node_at (remove_pane l ns) t ≡ empty
    -- the reading order is as it was
    pub reads : reading_from (remove_pane l ns) a.root ≡ reading_from ns a.root

  kids-set : (k : ℕ) (n : Node) → kids_of n ≡ kids_of (get_or ns k empty) → (i : ℕ) → kids_of (get_or (set ns k n) i empty) ≡ kids_of (get_or ns i empty)
  kids-set k n e i = set-passes (λ x. kids_of x ≡ kids_of (get_or ns i empty)) ns k n (λ w. e ∙ w) i refl

  pub seat : (l : PaneLocation) → Found ns p (reading_from ns a.root) l → is_somewhere l ≡ true → Seat l
  seat nowhere f e = never (sym e)
  seat (in_tile i) (m, q) e =
      record {
        stays = λ t h n. ap existing (get_or-set_other ns i.slot t.slot empty empty (λ w. n (ap (λ (k : ℕ). get_or ns k empty) w ∙ q))) ∙ full-exists (node_at ns t) h;
        goes = λ t h.
            ap (λ (k : ℕ). get_or (set ns i.slot empty) k empty) (one-slot ns p a.root one t.slot i.slot (shown-pane t h) (shown-pane i q))
            ∙ get_or-set_same ns i.slot empty empty (let w = full-inside ns size i.slot (ap is_empty q) in omega (arith, w, size));
        reads = reading-like ns (remove_pane (in_tile i) ns) (kids-set i.slot empty (sym (ap kids_of q))) 1025 (a.root ∷ []);
      }
  seat (in_tabs g k) (m, b, n, qs, q, h) e =
      record {
        stays = λ t w v. set-passes (λ x. existing x ≡ none) ns g.slot (removed_from k (node_at ns g)) (λ u. ap (λ (x : Node). existing (removed_from k x)) q) t.slot (full-exists (node_at ns t) w);
        goes = λ t w. absurd (apart t w);
        reads = reading-like ns (remove_pane (in_tabs g k) ns) (kids-set g.slot (removed_from k (node_at ns g)) (ap (λ (x : Node). kids_of (removed_from k x)) q ∙ sym (ap kids_of q))) 1025 (a.root ∷ []);
      }
    where
      is_tabs : Node → Bool
      is_tabs empty = false
      is_tabs (pane r) = false
      is_tabs (tabs c j rs) = true
      is_tabs (split x cs ss ms) = false

      apart : (t : TileId) → node_at ns t ≡ pane p → ⊥
      apart t w =
          let z : t.slot ≡ g.slot = one-slot ns p a.root one t.slot g.slot (shown-pane t w) (subst (λ (x : Node). Member p (panes_of x)) (sym q) h) in
          never (sym (ap is_tabs q) ∙ ap (λ (j : ℕ). is_tabs (get_or ns j empty)) (sym z) ∙ ap is_tabs w)
