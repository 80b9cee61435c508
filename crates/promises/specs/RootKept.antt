-- After a change of a sound arena with slots enough, repair has a root: something is kept, or a slot is free. So `apply` refuses with 2 exactly when new tiles needed exceed
-- the slots that were empty at the start. Assumes nothing.
use Rattle.std.specs.Prelude.{◌≡◌, ◌≢◌, ◌↔◌, Bool, List, [], ◌∷◌, ℕ, ◌<◌, eqb}
use Rattle.std.proofs.Math.Path.{refl, ap, subst}
use Rattle.std.proofs.Common.{sym, ◌∙◌, inl, inr, arith, leb-false, le-ltb}
use Rattle.std.proofs.Math.Bool.{true, false, cond}
use Rattle.std.proofs.Math.Option.{Option, none, some}
use Rattle.std.proofs.Math.Decide.{ℕ_discrete}
use Rattle.std.proofs.Math.Dec.{leb}
use Rattle.std.proofs.Math.ListN.{length}
use Rattle.rules.specs.Lists.{any_of, position, is_some}
use Rattle.rules.specs.Tree.{Node, empty, pane, tabs, split, Arena, tile, node_at, set_node, panes_of, empty_slots, empty_group, reading, reading_from, Member}
use Rattle.rules.specs.Repair.{Normal, swept, sweep, rooted, begin, normalize_node, normalize}
use Rattle.rules.specs.Sound.{sound}
use Rattle.rules.specs.Target.{PaneLocation, nowhere, in_tile, in_tabs, is_somewhere, panes_in}
use Rattle.rules.specs.Operations as Rule
use Rattle.rules.specs.Operations.{Change, Step, refuse, unchanged, changed, where_is, apply_inner, apply}
use Rattle.rules.specs.declared.model.TileId.{TileId}
use Rattle.rules.specs.declared.operation.TileOp.{TileOp}
use Rattle.rules.specs.declared.operation.TileOp.TheVariants.{ActivatePane, ClosePane, SplitPane, MovePane, ReorderTab}
use Rattle.forest.specs.Lists.{Distinct, never}
use Rattle.forest.specs.Grow.{tile-keeps}
use Rattle.forest.specs.Stays.{Shown, panes-reached}
use Rattle.forest.specs.Nodes.{root-shows}
use Rattle.nodes.specs.Find.{OneTree}
use Rattle.docking.specs.Trees.{sound-standing}
use Rattle.fates.specs.Theorems.{Shape, inner-shape}
use Rattle.fates.specs.Removal.{In}
use Rattle.fates.specs.Graft.{of}
use Rattle.fates.specs.Fates.{Spares, Brings, Follows, Fate}
use Rattle.fates.specs.Moves.{inner-fate}
use Rattle.fates.specs.PaneTheorems.{Has, along-slot, occupied-met}
use Rattle.promises.specs.Words.{Tells}
use Rattle.promises.specs.RepairExact.{no_room}
use Rattle.promises.specs.Stands.{contains-means, found-any, has-means}
use Rattle.promises.specs.LateExact.{Crowded, Room, Full, made, apply-full}

-- ---- a pane that is shown is kept

-- the root that is made where nothing is kept shows nothing
fresh-bare : (ns : List Node) → length ns ≡ 64 → let ms = set_node (tile 0) empty_group ns in panes_in (tile 0) (swept 0 (reading_from ms (tile 0)) ms) ≡ []
unfolding swept reading any_of
fresh-bare [] e = absurd (omega (arith, e))
fresh-bare (n ∷ ns) e = let ms = empty_group ∷ ns in root-shows (swept 0 (reading_from ms (tile 0)) ms) (tile 0) refl

-- where nothing is kept, a slot for a root would make a tree with no pane
pub bare-normal : (r : TileId) (ns : List Node) → length ns ≡ 64 → (normalize_node 64 r (begin ns)).kept ≡ none → (n : Normal) × (normalize (0 ∷ []) r ns ≡ some n) × (panes_in n.root n.nodes ≡ [])
unfolding normalize
bare-normal r ns size k =
    let (l, q, G) = tile-keeps 64 r (begin ns) (refl, size) in
    let w = (normalize_node 64 r (begin ns)).work in
    (sweep (tile 0) (set_node (tile 0) empty_group w.state.nodes) w.actions, ap (λ (o : Option TileId). rooted (0 ∷ []) o w) k, fresh-bare w.state.nodes (G.size ∙ size))

shown-kept : (t : Arena) → length t.nodes ≡ 64 → (p : ℕ) → Shown t p → (normalize_node 64 t.root (begin t.nodes)).kept ≡ none → ⊥
shown-kept t size p shown k =
    let (n, e, b) = bare-normal t.root t.nodes size k in
    subst (λ (l : List ℕ). Member p l) b ((panes-reached t size (0 ∷ []) (omega arith, tt) n e p).1 shown)

-- ---- what a change says of its step

is_change : Step → Bool
is_change (refuse e) = false
is_change unchanged = false
is_change (changed c) = true

needed_of : Step → ℕ
needed_of (refuse e) = 0
needed_of unchanged = 0
needed_of (changed c) = c.needed

free_of : Step → List ℕ
free_of (refuse e) = []
free_of unchanged = []
free_of (changed c) = c.free

-- of two distinct panes, one is another than p
other : (p : ℕ) (xs : List ℕ) → 1 < length xs → Distinct xs → (q : ℕ) × Member q xs × (q ≢ p)
other p [] h d = absurd (omega (arith, h))
other p (x ∷ []) h d = absurd (omega (arith, h))
other p (x ∷ y ∷ xs) h d = go (ℕ_discrete x p)
  where
    go : Dec (x ≡ p) → (q : ℕ) × Member q (x ∷ y ∷ xs) × (q ≢ p)
    go (yes e) = (y, inr (inl refl), λ f. d.0.0 (f ∙ sym e))
    go (no n) = (x, inl refl, n)

module _ (a : Arena) (size : length a.nodes ≡ 64) (s : sound a ≡ true) (c : Change) where
  abbrev ns : List Node
  ns = a.nodes

  one : OneTree a.nodes a.root
  one = (sound-standing a size s).tree

  -- a pane that is found by a step that changes is there
  found : (p : ℕ) (f : PaneLocation → Step) → is_change (f nowhere) ≡ false → f (where_is a p) ≡ changed c → Has a p
  unfolding is_change
  found p f e q = go (where_is a p) refl q
    where
      go : (l : PaneLocation) → where_is a p ≡ l → f l ≡ changed c → Has a p
      go nowhere w u = never (sym (ap is_change u) ∙ e)
      go (in_tile t) w u = (has-means a p).0 (ap is_somewhere w)
      go (in_tabs g i) w u = (has-means a p).0 (ap is_somewhere w)

  has-slot : (p : ℕ) → Has a p → In ns p
  has-slot p m = along-slot ns p (reading_from ns a.root) m

  regrouped : (g : TileId) (p i : ℕ) (n : Node) → node_at ns g ≡ n → Rule.reorder_in n a g p i ≡ changed c → In ns p
  unfolding is_change
  regrouped g p i empty e q = never (sym (ap is_change q))
  regrouped g p i (pane r) e q = never (sym (ap is_change q))
  regrouped g p i (split x cs ss ms) e q = never (sym (ap is_change q))
  regrouped g p i (tabs b k ps) e q = go (position (eqb p) ps) (found-any (eqb p) ps 0) q
    where
      go : (o : Option ℕ) → is_some o ≡ any_of (eqb p) ps → Rule.reorder_from o a g b k ps p i ≡ changed c → In ns p
      go none w u = never (sym (ap is_change u))
      go (some j) w u = (g.slot, subst (λ (n : Node). Member p (panes_of n)) (sym e) ((contains-means p ps).0 (sym w)))

  module _ (op : TileOp) (q : apply_inner a op ≡ changed c) (room : Room a c) where
    shape : Shape a size (changed c)
    shape = subst (Shape a size) q (inner-shape a size op)

    follows : Follows a (Spares op) (Brings op) c.made
    follows = subst (Fate a size (occupied-met a size one) one (Spares op) (Brings op)) q (inner-fate a size (occupied-met a size one) one op) (le-ltb (length (empty_slots ns)) c.needed room)

    kept_by : (p : ℕ) → Shown (of c.made) p → made a c ≡ none → ⊥
    kept_by p h e = shown-kept (of c.made) shape.0 p h ((no_room c.free c.made.root c.made.nodes).0 e).0

    spared : (p : ℕ) → In ns p → Spares op p → made a c ≡ none → ⊥
    spared p m u = kept_by p (follows.kept p m u)

  closes : (p : ℕ) (l : PaneLocation) → Rule.close_at l a ≡ changed c → (Rule.needed_to_close a ≡ c.needed) × (empty_slots ns ≡ c.free)
  unfolding is_change needed_of free_of
  closes p nowhere q = never (sym (ap is_change q))
  closes p (in_tile t) q = (ap needed_of q, ap free_of q)
  closes p (in_tabs g i) q = (ap needed_of q, ap free_of q)

  close-kept : (p : ℕ) → apply_inner a (ClosePane p) ≡ changed c → Room a c → made a c ≡ none → ⊥
  unfolding apply_inner
  close-kept p q room e = go (leb (length (panes_in a.root ns)) 1) refl (closes p (where_is a p) q)
    where
      go : (b : Bool) → leb (length (panes_in a.root ns)) 1 ≡ b → (Rule.needed_to_close a ≡ c.needed) × (empty_slots ns ≡ c.free) → ⊥
      go true w (n, f) =
          let k : 1 ≡ c.needed = ap (λ (b : Bool). cond b 1 0) (sym w) ∙ n in
          let z : length (empty_slots ns) ≡ 0 = ap length (f ∙ ((no_room c.free c.made.root c.made.nodes).0 e).1) in
          omega (arith, k, z, room)
      go false w (n, f) =
          let (r, m, d) = other p (panes_in a.root ns) (leb-false (length (panes_in a.root ns)) 1 w) one.panes in
          spared (ClosePane p) q room r (has-slot r m) d e

  pub root_kept : (op : TileOp) → apply_inner a op ≡ changed c → Room a c → made a c ≡ none → ⊥
  unfolding apply_inner is_change
  root_kept (ActivatePane p) q room e = spared (ActivatePane p) q room p (has-slot p (found p (λ l. Rule.activate_at l a) refl q)) tt e
  root_kept (ClosePane p) q room e = close-kept p q room e
  root_kept (SplitPane r x new p f) q room e = kept_by (SplitPane r x new p f) q room new ((follows (SplitPane r x new p f) q room).fresh new refl) e
  root_kept (MovePane p t) q room e = spared (MovePane p t) q room p (has-slot p (found p (λ l. Rule.move_at l a p t) refl q)) tt e
  root_kept (ReorderTab g p i) q room e = spared (ReorderTab g p i) q room p (regrouped g p i (node_at ns g) refl q) tt e

-- ---- 2 exactly when new tiles needed exceed the slots that were empty at the start

pub apply-crowded : (a : Arena) → length a.nodes ≡ 64 → (op : TileOp) → Tells (apply a op).answer 2 0 0 ↔ ((c : Change) × (sound a ≡ true) × (apply_inner a op ≡ changed c) × Crowded a c)
apply-crowded a size op = let f = apply-full a op in (λ t. there (f.0 t), λ (c, s, q, w). f.1 (c, s, q, inl w))
  where
    by : (c : Change) (s : sound a ≡ true) (q : apply_inner a op ≡ changed c) → Full a c → (d : Change) × (sound a ≡ true) × (apply_inner a op ≡ changed d) × Crowded a d
    by c s q (inl w) = (c, s, q, w)
    by c s q (inr (r, n, b, e)) = absurd (root_kept a size s c op q r e)

    there : (c : Change) × (sound a ≡ true) × (apply_inner a op ≡ changed c) × Full a c → (c : Change) × (sound a ≡ true) × (apply_inner a op ≡ changed c) × Crowded a c
    there (c, s, q, w) = by c s q w
