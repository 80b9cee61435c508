-- Theorems about operations, of the rules alone: what `apply` hands back is the tree as given, or, accepted and changed, a sound tree whose revision is one higher.
-- Assumes nothing.
use Rattle.std.specs.Prelude.{◌≡◌, ◌⊎◌, ◌↔◌, Bool, List, [], ◌∷◌, ℕ, suc, ◌<◌, ltb, leb, eqb, length, drop, Float}
use Rattle.std.proofs.Math.Path.{refl, subst}
use Rattle.std.proofs.Common.{sym, ap, ◌∙◌, length-set}
use Rattle.std.proofs.Math.Logic.{inl, inr}
use Rattle.std.proofs.Math.Bool.{true, false}
use Rattle.std.proofs.Math.Option.{Option, none, some}
use Rattle.std.proofs.Math.ListN.{get_elem?}
use Rattle.rules.specs.Numbers.{half-f, is_valid_split_fraction}
use Rattle.rules.specs.Lists.{any_of, position}
use Rattle.rules.specs.Tree.{Node, empty, pane, tabs, split, Arena, view, node_at, set_node, empty_slots, wide_node, same_tile, Occupied, Reached}
use Rattle.rules.specs.Repair.{Normal, normalize}
use Rattle.rules.specs.Sound.{sound}
use Rattle.rules.specs.Target.{PaneLocation, nowhere, in_tile, in_tabs, Parent, contains_pane, validate_target}
use Rattle.rules.specs.Insert.{Draft, draft, Beside, beside, new_split, hang, same_axis_parent, insert_at_parent, parent_of, insert_tile_near, needed_near, refused_near, removed_from, remove_pane}
use Rattle.rules.specs.Operations as Rule
use Rattle.rules.specs.Operations.{Change, Step, refuse, unchanged, changed, change, change_only, or_else, start, taken, where_is, put_near, Applied, refused, accepted, normal_by, normal_as, last-revision, revised_by, inserted_by, room_by, finish, apply_inner, apply_by, apply}
use Rattle.rules.specs.declared.model.TileId.{TileId}
use Rattle.rules.specs.declared.model.TileTree.{TileTree}
use Rattle.rules.specs.declared.model.TabBarPlacement.TheVariants.{Top}
use Rattle.rules.specs.declared.model.Axis.{Axis}
use Rattle.rules.specs.declared.model.Axis.TheVariants.{Horizontal}
use Rattle.rules.specs.declared.model.Placement.{Placement}
use Rattle.rules.specs.declared.model.Placement.TheVariants.{After}
use Rattle.rules.specs.declared.operation.DockTarget.{DockTarget}
use Rattle.rules.specs.declared.operation.DockTarget.TheVariants.{Root, Split, TabInto}
use Rattle.rules.specs.declared.operation.TileOp.{TileOp}
use Rattle.rules.specs.declared.operation.TileOp.TheVariants.{ActivatePane, ClosePane, SplitPane, MovePane, ReorderTab}
use Rattle.rules.specs.Refusals.{Accepted}
use Rattle.rules.specs.declared.refusal.Refusal.{Refusal}
use Rattle.rules.specs.declared.refusal.Refusal.TheVariants.{ArenaFull, TooWide, NotSound, RevisionExhausted}
use Rattle.forest.specs.Lists.{All, all_drop}
use Rattle.forest.specs.Answers.{refused-not}
use Rattle.forest.specs.Settled.{settled}
use Rattle.forest.specs.Soundness.{Finished, finished-sound, finished-reached, slots-inside}
use Rattle.docking.specs.Steps.{applied}
use Rattle.docking.specs.declared.Applying.{Applying}

-- ---- a change keeps the number of slots, and its free slots are slots

module _ (a : Arena) (size : length a.nodes ≡ 64) where
  abbrev pub Shape : Step → Type 0
  Shape (refuse e) = Unit {0}
  Shape unchanged = Unit {0}
  Shape (changed c) = (length c.made.nodes ≡ 64) × All (λ i. i < 64) c.free

  abbrev Whole : List Node → Type 0
  Whole ns = length ns ≡ 64

  set-whole : (i : TileId) (n : Node) (ns : List Node) → Whole ns → Whole (set_node i n ns)
  set-whole i n ns h = length-set ns i.slot n ∙ h

  free_all : All (λ i. i < 64) (empty_slots a.nodes)
  free_all = slots-inside a.nodes size

  shape-only : (ns : List Node) → Whole ns → Shape (change_only a ns)
  shape-only ns h = (h, free_all)

  shape-else : (o : Option Refusal) (s : Step) → Shape s → Shape (or_else o s)
  shape-else (some e) s h = tt
  shape-else none s h = h

  removed-whole : (l : PaneLocation) → Whole (remove_pane l a.nodes)
  removed-whole nowhere = size
  removed-whole (in_tile t) = set-whole t empty a.nodes size
  removed-whole (in_tabs g i) = set-whole g (removed_from i (node_at a.nodes g)) a.nodes size

  -- ---- each operation

  hung-whole : (c : Bool) (s : TileId) (p : Option Parent) (d : Draft) → Whole d.nodes → Whole (hang c s p d).nodes
  hung-whole true s p d h = h
  hung-whole false s none d h = h
  hung-whole false s (some p) d h = set-whole p.split _ d.nodes h

  inserted-whole : (c : Bool) (b : Beside) (new s : TileId) (p : Option Parent) (d : Draft) → Whole d.nodes → Whole (insert_at_parent c b new s p d).nodes
  inserted-whole true b new s (some p) d h = set-whole p.split _ d.nodes h
  inserted-whole true b new s none d h = h
  inserted-whole false b new s p d h =
      hung-whole (same_tile b.target d.root) s p (draft d.root (set_node s (new_split b new b.placement) d.nodes)) (set-whole s (new_split b new b.placement) d.nodes h)

  near-shape : (new : Node) (b : Beside) (d : Draft) → Whole d.nodes → Shape (put_near a new b d)
  unfolding insert_tile_near
  near-shape new b d h =
      let f = draft d.root (set_node (taken 0 a) new d.nodes) in
      shape-else (refused_near b d) (change (insert_tile_near b (taken 0 a) (taken 1 a) f) (needed_near b d) (drop (needed_near b d) (empty_slots a.nodes))) (
        inserted-whole (same_axis_parent b.axis (parent_of b f) f.nodes) b (taken 0 a) (taken 1 a) (parent_of b f) f (set-whole (taken 0 a) new d.nodes h),
        all_drop (λ i. i < 64) (empty_slots a.nodes) free_all (needed_near b d),
      )

  activate-shape : (l : PaneLocation) → Shape (Rule.activate_at l a)
  activate-shape nowhere = tt
  activate-shape (in_tile t) = tt
  activate-shape (in_tabs g i) = go (Rule.active_is i (node_at a.nodes g))
    where
      go : (b : Bool) → Shape (Rule.activate_by b a g i)
      go true = tt
      go false = shape-only (set_node g (Rule.set_active i (node_at a.nodes g)) a.nodes) (set-whole g (Rule.set_active i (node_at a.nodes g)) a.nodes size)

  close-shape : (l : PaneLocation) → Shape (Rule.close_at l a)
  close-shape nowhere = tt
  close-shape (in_tile t) = (removed-whole (in_tile t), free_all)
  close-shape (in_tabs g i) = (removed-whole (in_tabs g i), free_all)

  split-shape : (l : PaneLocation) (x : Axis) (new : ℕ) (p : Placement) (s : Float) → Shape (Rule.split_at l a x new p s)
  split-shape nowhere x new p s = tt
  split-shape (in_tile t) x new p s = near-shape (pane new) (beside t x p s) (start a) size
  split-shape (in_tabs g i) x new p s = near-shape (pane new) (beside g x p s) (start a) size

  split-fresh : (c : Bool) (q : ℕ) (x : Axis) (new : ℕ) (p : Placement) (s : Float) → Shape (Rule.split_fresh c a q x new p s)
  split-fresh true q x new p s = tt
  split-fresh false q x new p s = split-shape (where_is a q) x new p s

  split_by : (c : Bool) (q : ℕ) (x : Axis) (new : ℕ) (p : Placement) (s : Float) → Shape (Rule.split_by c a q x new p s)
  split_by true q x new p s = split-fresh (contains_pane a.root a.nodes new) q x new p s
  split_by false q x new p s = tt

  put-shape : (p : ℕ) (t : DockTarget) (d : Draft) → Whole d.nodes → Shape (Rule.insert_tile_at_target a p t d)
  put-shape p Root d h = near-shape (tabs Top 0 (p ∷ [])) (beside d.root Horizontal After half-f) d h
  put-shape p (Split t x side ratio) d h = near-shape (pane p) (beside t x side ratio) d h
  put-shape p (TabInto g i) d h = shape-only (set_node g (Rule.tabbed_in p i (node_at d.nodes g)) d.nodes) (set-whole g (Rule.tabbed_in p i (node_at d.nodes g)) d.nodes h)

  move-shape : (l : PaneLocation) (p : ℕ) (t : DockTarget) → Shape (Rule.move_at l a p t)
  move-shape nowhere p t = tt
  move-shape (in_tile i) p t = shape-else (validate_target a.nodes t) _ (put-shape p t (draft a.root (remove_pane (in_tile i) a.nodes)) (removed-whole (in_tile i)))
  move-shape (in_tabs g i) p t = shape-else (validate_target a.nodes t) _ (put-shape p t (draft a.root (remove_pane (in_tabs g i) a.nodes)) (removed-whole (in_tabs g i)))

  reorder-shape : (n : Node) (g : TileId) (p i : ℕ) → Shape (Rule.reorder_in n a g p i)
  reorder-shape empty g p i = tt
  reorder-shape (pane q) g p i = tt
  reorder-shape (tabs b m ps) g p i = go (position (eqb p) ps)
    where
      by : (c : Bool) (qs : List ℕ) → Shape (Rule.reorder_by c a g b m ps qs)
      by true qs = tt
      by false qs = shape-only (set_node g (tabs b (Rule.kept_active (get_elem? ps m) m qs) qs) a.nodes) (set-whole g (tabs b (Rule.kept_active (get_elem? ps m) m qs) qs) a.nodes size)

      go : (o : Option ℕ) → Shape (Rule.reorder_from o a g b m ps p i)
      go none = tt
      go (some from) = by (eqb from (Rule.landing from i ps)) (Rule.reordered ps p from (Rule.landing from i ps))
  reorder-shape (split x cs ss ms) g p i = tt

  pub inner-shape : (op : TileOp) → Shape (apply_inner a op)
  unfolding apply_inner
  inner-shape (ActivatePane p) = activate-shape (where_is a p)
  inner-shape (ClosePane p) = close-shape (where_is a p)
  inner-shape (SplitPane q x new p s) = split_by (is_valid_split_fraction s) q x new p s
  inner-shape (MovePane p t) = move-shape (where_is a p) p t
  inner-shape (ReorderTab g p i) = reorder-shape (node_at a.nodes g) g p i

  -- ---- the ways a call may end

  -- refused with the tree as given
  abbrev pub Declined : Applied → Type 0
  Declined r = (e : Refusal) × (r ≡ refused e a)

  -- accepted, settled again and so sound, and one revision later
  pub record Advanced (r : Applied) : Type 0 where
    pub answer : r.answer ≡ Accepted
    pub finished : Finished r.tree
    pub later : r.tree.revision ≡ suc a.revision

  normal-ends : (c : Change) → (length c.made.nodes ≡ 64) × All (λ i. i < 64) c.free → (o : Option Normal) → normalize c.free c.made.root c.made.nodes ≡ o → Declined (normal_as a o) ⊎ Advanced (normal_as a o)
  normal-ends c s none e = inl (ArenaFull, refl)
  normal-ends c s (some n) e = go (any_of wide_node n.nodes) refl
    where
      go : (b : Bool) → any_of wide_node n.nodes ≡ b → Declined (normal_by b a n) ⊎ Advanced (normal_by b a n)
      go true w = inl (TooWide, refl)
      go false w =
          inr
          (record {
            answer = refl;
            finished = record { settled = settled c.made.nodes s.0 c.made.root c.free s.1 n e; narrow = w; whole = refl };
            later = refl;
          })

  changed-ends : (c : Change) → (length c.made.nodes ≡ 64) × All (λ i. i < 64) c.free → Declined (finish a (changed c)) ⊎ Advanced (finish a (changed c))
  changed-ends c s = room (ltb (length (empty_slots a.nodes)) c.needed)
    where
      revised : (b : Bool) → Declined (revised_by b a c) ⊎ Advanced (revised_by b a c)
      revised true = inl (RevisionExhausted, refl)
      revised false = normal-ends c s (normalize c.free c.made.root c.made.nodes) refl

      inserted : (b : Bool) → Declined (inserted_by b a c) ⊎ Advanced (inserted_by b a c)
      inserted true = inl (TooWide, refl)
      inserted false = revised (leb last-revision a.revision)

      room : (b : Bool) → Declined (room_by b a c) ⊎ Advanced (room_by b a c)
      room true = inl (ArenaFull, refl)
      room false = inserted (any_of wide_node c.made.nodes)

  -- nothing changed, and the tree is as given
  abbrev pub Idle : TileOp → Applied → Type 0
  Idle op r = (apply_inner a op ≡ unchanged) × (r ≡ accepted a)

  -- every call ends in one of these three ways
  pub ends : (op : TileOp) → Declined (apply a op) ⊎ (Idle op (apply a op) ⊎ Advanced (apply a op))
  unfolding apply
  ends op = go (sound a)
    where
      by : (s : Step) → apply_inner a op ≡ s → Shape s → Declined (finish a s) ⊎ (((apply_inner a op ≡ unchanged) × (finish a s ≡ accepted a)) ⊎ Advanced (finish a s))
      by (refuse e) q h = inl (e, refl)
      by unchanged q h = inr (inl (q, refl))
      by (changed c) q h = turn (changed-ends c h)
        where
          turn : Declined (finish a (changed c)) ⊎ Advanced (finish a (changed c)) → Declined (finish a (changed c)) ⊎ (((apply_inner a op ≡ unchanged) × (finish a (changed c) ≡ accepted a)) ⊎ Advanced (finish a (changed c)))
          turn (inl d) = inl d
          turn (inr v) = inr (inr v)

      go : (b : Bool) → Declined (apply_by b a op) ⊎ (Idle op (apply_by b a op) ⊎ Advanced (apply_by b a op))
      go true = by (apply_inner a op) refl (inner-shape op)
      go false = inl (NotSound, refl)

  -- after a change the occupied slots are exactly those that are reached from the root
  pub changed-reached : (op : TileOp) → Advanced (apply a op) → (i : ℕ) → Occupied (apply a op).tree i ↔ Reached (apply a op).tree i
  changed-reached op v = finished-reached (apply a op).tree v.finished

  -- so the tree of a sound tree stays sound, whatever is asked of it
  pub apply-sound : (op : TileOp) → sound a ≡ true → sound (apply a op).tree ≡ true
  apply-sound op s = go (ends op)
    where
      go : Declined (apply a op) ⊎ (Idle op (apply a op) ⊎ Advanced (apply a op)) → sound (apply a op).tree ≡ true
      go (inl (e, q)) = ap (λ (r : Applied). sound r.tree) q ∙ s
      go (inr (inl (u, q))) = ap (λ (r : Applied). sound r.tree) q ∙ s
      go (inr (inr v)) = finished-sound (apply a op).tree v.finished

  -- what is accepted is sound, whatever was given
  pub accepted-sound : (op : TileOp) → (apply a op).answer ≡ Accepted → sound (apply a op).tree ≡ true
  unfolding apply
  accepted-sound op e = go (sound a) refl e
    where
      go : (b : Bool) → sound a ≡ b → (apply_by b a op).answer ≡ Accepted → sound (apply_by b a op).tree ≡ true
      go true s q = subst (λ (c : Bool). sound (apply_by c a op).tree ≡ true) s (apply-sound op s)
      go false s q = refused-not q

-- ---- two answers that meet apply's contract agree, places past a list's length aside

pub one_answer : (t : TileTree) (op : TileOp) (r s : Applying) → applied r ≡ apply (view t) op → applied s ≡ apply (view t) op → (r.answer ≡ s.answer) × (view r.tree ≡ view s.tree)
one_answer t op r s x y = (ap (λ (z : Applied). z.answer) (x ∙ sym y), ap (λ (z : Applied). z.tree) (x ∙ sym y))
