-- What each operation does to the panes of a sound tree, in the slots that it hands to the repair: which stay, which comes, and that no other is there.
-- Assumes nothing.
use Rattle.std.specs.Prelude.{◌≡◌, refl, ◌≢◌, ◌⊎◌, Bool, true, false, List, [], ◌∷◌, ℕ, ◌<◌, ltb, eqb, length, get_or, Float}
use Rattle.std.proofs.Common.{sym, ap, subst, ◌∙◌, inl, inr, eqb-true}
use Rattle.std.proofs.Math.Option.{Option, none, some}
use Rattle.std.proofs.Math.Decide.{ℕ_discrete}
use Rattle.std.proofs.Math.ListN.{get_elem?}
use Rattle.rules.specs.Lists.{insert_at, remove_at, position}
use Rattle.rules.specs.Tree.{Node, empty, pane, tabs, split, Arena, node_at, set_node, is_empty, kids_of, panes_of, empty_slots, Member, Reached}
use Rattle.rules.specs.Target.{PaneLocation, nowhere, in_tile, in_tabs, is_somewhere, contains_pane}
use Rattle.rules.specs.Insert.{Draft, draft, Beside, beside, remove_pane}
use Rattle.rules.specs.Operations as Rule
use Rattle.rules.specs.Operations.{Step, refuse, unchanged, changed, put_near, where_is}
use Rattle.rules.specs.declared.model.TileId.{TileId}
use Rattle.rules.specs.declared.model.Axis.{Axis}
use Rattle.rules.specs.declared.model.Placement.{Placement}
use Rattle.rules.specs.declared.operation.TileOp.{TileOp}
use Rattle.rules.specs.declared.operation.TileOp.TheVariants.{ActivatePane, ClosePane, SplitPane, MovePane, ReorderTab}
use Rattle.lists.specs.Find.{position-found}
use Rattle.forest.specs.Stays.{Shown, panes-full}
use Rattle.nodes.specs.Find.{OneTree}
use Rattle.docking.specs.Near.{alike_self, alike-kids}
use Rattle.fates.specs.Spots.{insert-has, insert-keeps, insert-from, remove-from, remove-keeps, place-has, set-passes, set-came, set-like, At}
use Rattle.fates.specs.Removal.{In, removed-keeps, removed-from, removed-alike, removed-gone}
use Rattle.fates.specs.Graft.{of, carry-like, Grafted, Ground}
use Rattle.fates.specs.GraftSplit.{Grafts, near-grafted}

-- ---- what is said of an operation: the panes that it spares, and the one that it brings

abbrev pub Spares : TileOp → ℕ → Type 0
Spares (ActivatePane q) p = Unit {0}
Spares (ClosePane q) p = p ≢ q
Spares (SplitPane q x new s r) p = Unit {0}
Spares (MovePane q t) p = Unit {0}
Spares (ReorderTab g q i) p = Unit {0}

abbrev pub Brings : TileOp → ℕ → Type 0
Brings (ActivatePane q) p = ⊥
Brings (ClosePane q) p = ⊥
Brings (SplitPane q x new s r) p = p ≡ new
Brings (MovePane q t) p = ⊥
Brings (ReorderTab g q i) p = ⊥

-- the draft d of the tree a: S says which panes are spared, N which are new
pub record Follows (a : Arena) (S N : ℕ → Type 0) (d : Draft) : Type 0 where
  pub kept : (p : ℕ) → In a.nodes p → S p → Shown (of d) p
  pub fresh : (p : ℕ) → N p → Shown (of d) p
  pub from : (p : ℕ) → In d.nodes p → (In a.nodes p × S p) ⊎ N p

abbrev pub Every : ℕ → Type 0
Every p = Unit {0}

abbrev pub NoOne : ℕ → Type 0
NoOne p = ⊥

module _ (a : Arena) (size : length a.nodes ≡ 64) (full : (i : ℕ) → is_empty (get_or a.nodes i empty) ≡ false → Reached a i) (O : OneTree a.nodes a.root) where
  abbrev ns : List Node
  ns = a.nodes

  abbrev pub Fate : (ℕ → Type 0) → (ℕ → Type 0) → Step → Type 0
  Fate S N (refuse e) = Unit {0}
  Fate S N unchanged = ((p : ℕ) → S p) × ((p : ℕ) → N p → ⊥)
  Fate S N (changed c) = ltb (length (empty_slots ns)) c.needed ≡ false → Follows a S N c.made

  same : Fate Every NoOne unchanged
  same = (λ p. tt, λ p e. e)

  -- a slot that shows a pane is reached
  pub shown-reached : (i p : ℕ) → Member p (panes_of (get_or ns i empty)) → Reached a i
  shown-reached i p m = full i (panes-full (get_or ns i empty) p m)

  -- ---- a group with the same panes: activate, reorder

  regrouped : (g : TileId) (n : Node) → kids_of n ≡ kids_of (node_at ns g) → ((p : ℕ) → Member p (panes_of (node_at ns g)) → Member p (panes_of n)) → ((p : ℕ) → Member p (panes_of n) → Member p (panes_of (node_at ns g)))
      → Follows a Every NoOne (draft a.root (set_node g n ns))
  regrouped g n e f h =
      record {
        kept = λ p m u. (m.0, carry-like a (set_node g n ns) (set-like kids_of ns g.slot n e) m.0 (shown-reached m.0 p m.1), set-passes (λ x. Member p (panes_of x)) ns g.slot n (f p) m.0 m.1);
        fresh = λ p u. absurd u;
        from = λ p m. inl ((m.0, set-came (λ x. Member p (panes_of x)) ns g.slot n (h p) m.0 m.1), tt);
      }

  active-kids : (k : ℕ) (n : Node) → kids_of (Rule.set_active k n) ≡ kids_of n
  active-kids k empty = refl
  active-kids k (pane p) = refl
  active-kids k (tabs b x ps) = refl
  active-kids k (split x cs ss ms) = refl

  active-panes : (k : ℕ) (n : Node) → panes_of (Rule.set_active k n) ≡ panes_of n
  active-panes k empty = refl
  active-panes k (pane p) = refl
  active-panes k (tabs b x ps) = refl
  active-panes k (split x cs ss ms) = refl

  pub activate-fate : (l : PaneLocation) → Fate Every NoOne (Rule.activate_at l a)
  activate-fate nowhere = tt
  activate-fate (in_tile t) = same
  activate-fate (in_tabs g i) = go (Rule.active_is i (node_at ns g))
    where
      go : (b : Bool) → Fate Every NoOne (Rule.activate_by b a g i)
      go true = same
      go false = λ h. regrouped g (Rule.set_active i (node_at ns g)) (active-kids i (node_at ns g)) (λ p m. subst (Member p) (sym (active-panes i (node_at ns g))) m) (λ p m. subst (Member p) (active-panes i (node_at ns g)) m)

  -- taken out and put in again
  reordered-keeps : (ps : List ℕ) (p from to : ℕ) → get_or ps from 0 ≡ p → (q : ℕ) → Member q ps → Member q (Rule.reordered ps p from to)
  reordered-keeps ps p from to e q m = go (ℕ_discrete q p)
    where
      go : Dec (q ≡ p) → Member q (insert_at to p (remove_at from ps))
      go (yes w) = subst (λ (x : ℕ). Member x (insert_at to p (remove_at from ps))) (sym w) (insert-has to p (remove_at from ps))
      go (no w) = insert-keeps to p (remove_at from ps) q (remove-keeps from ps 0 q (λ z. w (z ∙ e)) m)

  reordered-from : (ps : List ℕ) (p from to : ℕ) → from < length ps → get_or ps from 0 ≡ p → (q : ℕ) → Member q (Rule.reordered ps p from to) → Member q ps
  reordered-from ps p from to h e q m = go (insert-from to p (remove_at from ps) q m)
    where
      go : (q ≡ p) ⊎ Member q (remove_at from ps) → Member q ps
      go (inl w) = subst (λ (x : ℕ). Member x ps) (e ∙ sym w) (place-has from ps 0 h)
      go (inr n) = remove-from from ps q n

  pub reorder-fate : (n : Node) (g : TileId) (p i : ℕ) → node_at ns g ≡ n → Fate Every NoOne (Rule.reorder_in n a g p i)
  reorder-fate empty g p i is = tt
  reorder-fate (pane q) g p i is = tt
  reorder-fate (tabs b m ps) g p i is = go (position (eqb p) ps) refl
    where
      by : (c : Bool) (from to : ℕ) → from < length ps → get_or ps from 0 ≡ p → Fate Every NoOne (Rule.reorder_by c a g b m ps (Rule.reordered ps p from to))
      by true from to h e = same
      by false from to h e =
          λ w. regrouped g (tabs b (Rule.kept_active (get_elem? ps m) m (Rule.reordered ps p from to)) (Rule.reordered ps p from to)) (ap kids_of (sym is))
          (λ q k. reordered-keeps ps p from to e q (subst (λ (x : Node). Member q (panes_of x)) is k)) (λ q k. subst (λ (x : Node). Member q (panes_of x)) (sym is) (reordered-from ps p from to h e q k))

      go : (o : Option ℕ) → position (eqb p) ps ≡ o → Fate Every NoOne (Rule.reorder_from o a g b m ps p i)
      go none e = tt
      go (some from) e =
          let (h, t) = position-found (eqb p) ps from 0 e in
          by (eqb from (Rule.landing from i ps)) from (Rule.landing from i ps) h (sym (eqb-true p (get_or ps from 0) t))
  reorder-fate (split x cs ss ms) g p i is = tt

  -- ---- close

  close_follows : (p : ℕ) (l : PaneLocation) → At ns p l → is_somewhere l ≡ true → Follows a (λ q. q ≢ p) NoOne (draft a.root (remove_pane l ns))
  close_follows p l h s =
      record {
        kept = λ q m n. (m.0, carry-like a (remove_pane l ns) (alike-kids ns (remove_pane l ns) (removed-alike ns p l h)) m.0 (shown-reached m.0 q m.1), removed-keeps ns p l h q n m.0 m.1);
        fresh = λ q u. absurd u;
        from = λ q m. inl ((m.0, removed-from ns p l q m.0 m.1), λ e. removed-gone ns p a.root O l h s m.0 (subst (λ (x : ℕ). Member x (panes_of (get_or (remove_pane l ns) m.0 empty))) e m.1));
      }

  pub close-fate : (p : ℕ) (l : PaneLocation) → At ns p l → Fate (λ q. q ≢ p) NoOne (Rule.close_at l a)
  close-fate p nowhere h = tt
  close-fate p (in_tile t) h = λ w. close_follows p (in_tile t) h refl
  close-fate p (in_tabs g i) h = λ w. close_follows p (in_tabs g i) h refl

  -- ---- a tile put beside another

  pub grafts-fate : (S N : ℕ → Type 0) (ms : List Node) (new : Node) (G : Ground a ms new) (b : Beside) → ((d : Draft) → Grafted a ms new d → Follows a S N d) → (s : Step) → Grafts a ms new G b s → Fate S N s
  grafts-fate S N ms new G b f (refuse e) g = tt
  grafts-fate S N ms new G b f unchanged g = absurd g
  grafts-fate S N ms new G b f (changed c) g = λ h. f c.made (g h)

  -- ---- split pane: the tree's own slots, and a new pane

  split-ground : (p : ℕ) → Ground a ns (pane p)
  split-ground p = record { size = size; full = full; whole = size; alike = alike_self ns; blank = λ i e. e; leaf = refl }

  split-follows : (p : ℕ) (d : Draft) → Grafted a ns (pane p) d → Follows a Every (λ q. q ≡ p) d
  split-follows p d G =
      record {
        kept = λ q m u. (m.0, G.reach m.0 (shown-reached m.0 q m.1), G.keeps m.0 q m.1);
        fresh = λ q e. G.put q (inl e);
        from = λ q m. go q m.0 (G.from m.0 q m.1);
      }
    where
      go : (q i : ℕ) → Member q (panes_of (get_or ns i empty)) ⊎ Member q (p ∷ []) → (In ns q × Unit {0}) ⊎ (q ≡ p)
      go q i (inl m) = inl ((i, m), tt)
      go q i (inr (inl e)) = inr e
      go q i (inr (inr m)) = absurd m

  beside-fate : (p : ℕ) (b : Beside) → Fate Every (λ q. q ≡ p) (put_near a (pane p) b (draft a.root ns))
  beside-fate p b =
      grafts-fate Every (λ q. q ≡ p) ns (pane p) (split-ground p) b (split-follows p) (put_near a (pane p) b (draft a.root ns)) (near-grafted a ns (pane p) (split-ground p) b)

  split-fate : (l : PaneLocation) (x : Axis) (new : ℕ) (p : Placement) (s : Float) → Fate Every (λ q. q ≡ new) (Rule.split_at l a x new p s)
  split-fate nowhere x new p s = tt
  split-fate (in_tile t) x new p s = beside-fate new (beside t x p s)
  split-fate (in_tabs g i) x new p s = beside-fate new (beside g x p s)

  split-fresh : (c : Bool) (q : ℕ) (x : Axis) (new : ℕ) (p : Placement) (s : Float) → Fate Every (λ r. r ≡ new) (Rule.split_fresh c a q x new p s)
  split-fresh true q x new p s = tt
  split-fresh false q x new p s = split-fate (where_is a q) x new p s

  pub split_by : (c : Bool) (q : ℕ) (x : Axis) (new : ℕ) (p : Placement) (s : Float) → Fate Every (λ r. r ≡ new) (Rule.split_by c a q x new p s)
  split_by true q x new p s = split-fresh (contains_pane a.root ns new) q x new p s
  split_by false q x new p s = tt
