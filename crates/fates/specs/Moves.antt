-- What a move does to the panes of a sound tree: the pane taken out and put in again; and so every operation. Assumes nothing.
use Rattle.std.specs.Prelude.{◌≡◌, ◌⊎◌, true, false, List, [], ◌∷◌, ℕ, length, get_or}
use Rattle.std.proofs.Math.Path.{refl}
use Rattle.std.proofs.Common.{sym, ap, subst, ◌∙◌, inl, inr, arith, get_or-set_same}
use Rattle.std.proofs.Math.Option.{Option, none, some}
use Rattle.std.proofs.Math.Decide.{ℕ_discrete}
use Rattle.rules.specs.Numbers.{half-f, is_valid_split_fraction}
use Rattle.rules.specs.Tree.{Node, empty, pane, tabs, split, Arena, node_at, set_node, is_empty, kids_of, panes_of, reading_from, Member, Reached}
use Rattle.rules.specs.Target.{PaneLocation, nowhere, in_tile, in_tabs, is_somewhere, a_group, validate_target}
use Rattle.rules.specs.Insert.{Draft, draft, Beside, beside, removed_from, remove_pane}
use Rattle.rules.specs.Operations as Rule
use Rattle.rules.specs.Operations.{or_else, put_near, where_is, clamped, tabbed_in, apply_inner}
use Rattle.rules.specs.declared.model.TileId.{TileId}
use Rattle.rules.specs.declared.model.Axis.TheVariants.{Horizontal}
use Rattle.rules.specs.declared.model.Placement.TheVariants.{After}
use Rattle.rules.specs.declared.model.TabBarPlacement.TheVariants.{Top}
use Rattle.rules.specs.Operations.{TabIndex}
use Rattle.rules.specs.declared.operation.DockTarget.{DockTarget}
use Rattle.rules.specs.declared.operation.DockTarget.TheVariants.{Root, Split, TabInto}
use Rattle.rules.specs.declared.operation.TileOp.{TileOp}
use Rattle.rules.specs.declared.operation.TileOp.TheVariants.{ActivatePane, ClosePane, SplitPane, MovePane, ReorderTab}
use Rattle.rules.specs.declared.refusal.Refusal.{Refusal}
use Rattle.forest.specs.Stays.{Shown, full-inside}
use Rattle.nodes.specs.Find.{OneTree, is_split}
use Rattle.docking.specs.Near.{alike-kids}
use Rattle.fates.specs.Spots.{insert-has, insert-keeps, insert-from, set-passes, set-came, set-like, At, located-stands}
use Rattle.fates.specs.Removal.{In, at_in, removed-keeps, removed-from, removed-long, removed-blank, removed-alike}
use Rattle.fates.specs.Graft.{of, carry-like, Grafted, Ground}
use Rattle.fates.specs.GraftSplit.{near-grafted}
use Rattle.fates.specs.Fates.{Spares, Brings, Follows, Every, NoOne, Fate, shown-reached, activate-fate, reorder-fate, close-fate, grafts-fate, split_by}

-- ---- a pane put into a group

refused_none : {A : Type 0} {e : Refusal} → some e ≡ none → A
refused_none q = absurd (let z : ◌≡◌ {A = ℕ} 0 1 = cc in omega arith)

group-full : (n : Node) → a_group n ≡ none → is_empty n ≡ false
group-full empty e = refused_none e
group-full (pane p) e = refl
group-full (tabs b a ps) e = refl
group-full (split x cs ss ms) e = refl

removed-group : (k : ℕ) (n : Node) → a_group n ≡ none → a_group (removed_from k n) ≡ none
removed-group k empty e = e
removed-group k (pane p) e = e
removed-group k (tabs b a ps) e = refl
removed-group k (split x cs ss ms) e = e

-- a group stays one where a pane is taken out
still-group : (ns : List Node) (p : ℕ) (l : PaneLocation) → At ns p l → (i : ℕ) → a_group (get_or ns i empty) ≡ none → a_group (get_or (remove_pane l ns) i empty) ≡ none
still-group ns p nowhere h i e = e
still-group ns p (in_tile t) h i e = set-passes (λ x. a_group x ≡ none) ns t.slot empty (λ w. refused_none (ap a_group (sym h) ∙ w)) i e
still-group ns p (in_tabs g k) h i e = set-passes (λ x. a_group x ≡ none) ns g.slot (removed_from k (node_at ns g)) (removed-group k (node_at ns g)) i e

module _ (p : ℕ) (i : TabIndex) where
  tabbed-kids : (n : Node) → kids_of (tabbed_in p i n) ≡ kids_of n
  tabbed-kids empty = refl
  tabbed-kids (pane q) = refl
  tabbed-kids (tabs b a ps) = refl
  tabbed-kids (split x cs ss ms) = refl

  tabbed-has : (n : Node) → a_group n ≡ none → Member p (panes_of (tabbed_in p i n))
  tabbed-has empty e = refused_none e
  tabbed-has (pane q) e = refused_none e
  tabbed-has (tabs b a ps) e = insert-has (clamped i (length ps)) p ps
  tabbed-has (split x cs ss ms) e = refused_none e

  tabbed-keeps : (n : Node) (q : ℕ) → Member q (panes_of n) → Member q (panes_of (tabbed_in p i n))
  tabbed-keeps empty q m = m
  tabbed-keeps (pane r) q m = m
  tabbed-keeps (tabs b a ps) q m = insert-keeps (clamped i (length ps)) p ps q m
  tabbed-keeps (split x cs ss ms) q m = m

  tabbed-from : (n : Node) (q : ℕ) → Member q (panes_of (tabbed_in p i n)) → (q ≡ p) ⊎ Member q (panes_of n)
  tabbed-from empty q m = inr m
  tabbed-from (pane r) q m = inr m
  tabbed-from (tabs b a ps) q m = insert-from (clamped i (length ps)) p ps q m
  tabbed-from (split x cs ss ms) q m = inr m

module _ (a : Arena) (size : length a.nodes ≡ 64) (full : (i : ℕ) → is_empty (get_or a.nodes i empty) ≡ false → Reached a i) (O : OneTree a.nodes a.root) where
  abbrev ns : List Node
  ns = a.nodes

  -- ---- the pane, taken out

  module _ (p : ℕ) (l : PaneLocation) (h : At ns p l) (s : is_somewhere l ≡ true) where
    abbrev ms : List Node
    ms = remove_pane l ns

    -- it stood in the tree
    was : (q : ℕ) → q ≡ p → In ns q
    was q e = subst (In ns) (sym e) (at_in ns p l h s)

    -- ---- and put beside a tile

    grounds : (new : Node) → is_split new ≡ false → Ground a ms new
    grounds new e = record { size = size; full = full; whole = removed-long ns p l size; alike = removed-alike ns p l h; blank = removed-blank ns p l; leaf = e }

    beside-follows : (new : Node) → panes_of new ≡ p ∷ [] → (d : Draft) → Grafted a ms new d → Follows a Every NoOne d
    beside-follows new e d G =
        record {
          kept = λ q m u. stays q m (ℕ_discrete q p);
          fresh = λ q u. absurd u;
          from = λ q m. came q m.0 (G.from m.0 q m.1);
        }
      where
        stays : (q : ℕ) → In ns q → Dec (q ≡ p) → Shown (of d) q
        stays q m (yes w) = G.put q (subst (Member q) (sym e) (inl w))
        stays q m (no w) = (m.0, G.reach m.0 (shown-reached a size full O m.0 q m.1), G.keeps m.0 q (removed-keeps ns p l h q w m.0 m.1))

        own : (q : ℕ) → Member q (p ∷ []) → In ns q
        own q (inl w) = was q w
        own q (inr w) = absurd w

        came : (q i : ℕ) → Member q (panes_of (get_or ms i empty)) ⊎ Member q (panes_of new) → (In ns q × Unit {0}) ⊎ ⊥
        came q i (inl m) = inl ((i, removed-from ns p l q i m), tt)
        came q i (inr m) = inl (own q (subst (Member q) e m), tt)

    beside-fate : (new : Node) → panes_of new ≡ p ∷ [] → is_split new ≡ false → (b : Beside) → Fate a size full O Every NoOne (put_near a new b (draft a.root ms))
    beside-fate new e f b =
        grafts-fate a size full O Every NoOne ms new (grounds new f) b (beside-follows new e) (put_near a new b (draft a.root ms)) (near-grafted a ms new (grounds new f) b)

    -- ---- or into a group

    module _ (g : TileId) (i : TabIndex) (is : a_group (node_at ns g) ≡ none) where
      abbrev made : List Node
      made = set_node g (tabbed_in p i (node_at ms g)) ms

      made-reach : (j : ℕ) → Reached a j → Reached (of (draft a.root made)) j
      made-reach = carry-like a made (λ j. set-like kids_of ms g.slot (tabbed_in p i (node_at ms g)) (tabbed-kids p i (node_at ms g)) j ∙ alike-kids ns ms (removed-alike ns p l h) j)

      made_at : get_or made g.slot empty ≡ tabbed_in p i (node_at ms g)
      made_at =
          get_or-set_same ms g.slot (tabbed_in p i (node_at ms g)) empty
          (omega (arith, removed-long ns p l size, full-inside ns size g.slot (group-full (node_at ns g) is)))

      into-follows : Follows a Every NoOne (draft a.root made)
      into-follows =
          record {
            kept = λ q m u. stays q m (ℕ_discrete q p);
            fresh = λ q u. absurd u;
            from = λ q m. came q m.0 (set-came (λ x. (q ≡ p) ⊎ Member q (panes_of x)) ms g.slot (tabbed_in p i (node_at ms g)) (turn q) m.0 (inr m.1));
          }
        where
          stays : (q : ℕ) → In ns q → Dec (q ≡ p) → Shown (of (draft a.root made)) q
          stays q m (yes w) = (
            g.slot,
            made-reach g.slot (full g.slot (group-full (node_at ns g) is)),
            subst (λ (x : Node). Member q (panes_of x)) (sym made_at)
                (subst (λ (r : ℕ). Member r (panes_of (tabbed_in p i (node_at ms g)))) (sym w) (tabbed-has p i (node_at ms g) (still-group ns p l h g.slot is))),
          )
          stays q m (no w) = (
            m.0,
            made-reach m.0 (shown-reached a size full O m.0 q m.1),
            set-passes (λ x. Member q (panes_of x)) ms g.slot (tabbed_in p i (node_at ms g)) (tabbed-keeps p i (node_at ms g) q) m.0 (removed-keeps ns p l h q w m.0 m.1),
          )

          turn : (q : ℕ) → (q ≡ p) ⊎ Member q (panes_of (tabbed_in p i (node_at ms g))) → (q ≡ p) ⊎ Member q (panes_of (node_at ms g))
          turn q (inl e) = inl e
          turn q (inr m) = tabbed-from p i (node_at ms g) q m

          came : (q j : ℕ) → (q ≡ p) ⊎ Member q (panes_of (get_or ms j empty)) → (In ns q × Unit {0}) ⊎ ⊥
          came q j (inl e) = inl (was q e, tt)
          came q j (inr m) = inl ((j, removed-from ns p l q j m), tt)

    put-fate : (t : DockTarget) → validate_target ns t ≡ none → Fate a size full O Every NoOne (Rule.insert_tile_at_target a p t (draft a.root ms))
    unfolding validate_target
    put-fate Root e = beside-fate (tabs Top 0 (p ∷ [])) refl refl (beside a.root Horizontal After half-f)
    put-fate (Split t x side ratio) e = beside-fate (pane p) refl refl (beside t x side ratio)
    put-fate (TabInto g i) e = λ w. into-follows g i e

    move_in : (t : DockTarget) → Fate a size full O Every NoOne (Rule.move_in a p t l)
    move_in t = go (validate_target ns t) refl
      where
        go : (o : Option Refusal) → validate_target ns t ≡ o → Fate a size full O Every NoOne (or_else o (Rule.insert_tile_at_target a p t (draft a.root ms)))
        go (some e) w = tt
        go none w = put-fate t w

  move-fate : (p : ℕ) (l : PaneLocation) → At ns p l → (t : DockTarget) → Fate a size full O Every NoOne (Rule.move_at l a p t)
  move-fate p nowhere h t = tt
  move-fate p (in_tile i) h t = move_in p (in_tile i) h refl t
  move-fate p (in_tabs g i) h t = move_in p (in_tabs g i) h refl t

  -- ---- every operation

  pub inner-fate : (op : TileOp) → Fate a size full O (Spares op) (Brings op) (apply_inner a op)
  unfolding apply_inner
  inner-fate (ActivatePane p) = activate-fate a size full O (where_is a p)
  inner-fate (ClosePane p) = close-fate a size full O p (where_is a p) (located-stands ns p (reading_from ns a.root))
  inner-fate (SplitPane q x new p s) = split_by a size full O (is_valid_split_fraction s) q x new p s
  inner-fate (MovePane p t) = move-fate p (where_is a p) (located-stands ns p (reading_from ns a.root)) t
  inner-fate (ReorderTab g p i) = reorder-fate a size full O (node_at ns g) g p i refl
