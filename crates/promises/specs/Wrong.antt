-- Operations, repair and is_sound that no contract lets through (document 01, 'How strong the promises must be'). Each statement takes any function that equals a call's rule for all inputs,
-- says what the wrong program would do, and gives an input on which the two cannot both be. Assumes nothing.
use Rattle.std.specs.Prelude.{◌≡◌, refl, Bool, true, false, List, [], ◌∷◌, ◌++◌, ℕ, ◌<◌, get_or, replicate, Float}
use Rattle.std.proofs.Common.{sym, ap, ◌∙◌, arith}
use Rattle.std.specs.Float.Ieee.{add, sub, mul, div, lt, le, eq, neg, is_nan, of_int}
use Rattle.rules.specs.Numbers.{zero-f, half-f, one-f, hundredth}
use Rattle.rules.specs.Lists.{all_of, any_of, same_list, insert_at, remove_at, position_from, tabulate}
use Rattle.rules.specs.Tree.{Node, empty, Arena, tile, view, is_empty, empty_from, reading}
use Rattle.rules.specs.Shares.{fix_share, repaired_shares}
use Rattle.rules.specs.Minima.{fix_minimum, aligned_constraints, compact_constraints}
use Rattle.rules.specs.Repair.{Repaired, added, retain, group_step, entries, kids_from, split_step, tile_step, normalize_node, swept, sweep_actions, normalize, repair}
use Rattle.rules.specs.Sound.{is_accepted, is_none, sound}
use Rattle.rules.specs.Target.{locate, seek_parent, panes_along, validate_target}
use Rattle.rules.specs.Insert.{insert_tile_near}
use Rattle.rules.specs.Operations.{Applied, apply_inner, apply}
use Rattle.rules.specs.Tree.{Reals}
use Rattle.rules.specs.declared.model.Axis.TheVariants.{Horizontal}
use Rattle.rules.specs.declared.model.Placement.TheVariants.{Before}
use Rattle.rules.specs.declared.model.Kind.{Kind}
use Rattle.rules.specs.declared.model.Kind.TheVariants.{Empty, Pane, Split}
use Rattle.rules.specs.declared.model.Slot.{Slot}
use Rattle.rules.specs.declared.model.TileTree.{TileTree}
use Rattle.rules.specs.declared.operation.TileOp.{TileOp}
use Rattle.rules.specs.declared.operation.TileOp.TheVariants.{ActivatePane, SplitPane}
use Rattle.rules.specs.Refusals.{Answer}
use Rattle.rules.specs.Refusals.{Accepted, Refused}
use Rattle.rules.specs.declared.refusal.Refusal.{Refusal}
use Rattle.forest.specs.Lists.{never}

-- ---- the inputs: E7's tree, as a TileTree, at a revision, its first pane and its ninth slot of choice

abbrev pub two : Float → Float → Reals
two x y = record { at = x ∷ y ∷ replicate 14 zero-f; len = 2 }

abbrev slot_of : Kind → Slot
slot_of k =
    record { kind = k; active = 0; panes = record { at = replicate 16 0; len = 0 }; children = record { at = tile 1 ∷ tile 2 ∷ replicate 14 (tile 0); len = 2 }; shares = two one-f one-f; minima = record { at = replicate 16 zero-f; len = 0 } }

abbrev pub tree : ℕ → ℕ → Kind → TileTree
tree v p k =
    record { root = tile 0; revision = v; slots = slot_of (Split Horizontal) ∷ slot_of (Pane p) ∷ slot_of (Pane 2) ∷ replicate 6 (slot_of Empty) ++ slot_of k ∷ replicate 54 (slot_of Empty) }

abbrev first : TileTree
first = tree 0 1 Empty

-- the same tree, a change later
abbrev next : TileTree
next = tree 1 1 Empty

-- a pane that is not reached
abbrev stray : TileTree
stray = tree 0 1 (Pane 9)

abbrev e7 : TileOp
e7 = SplitPane 1 Horizontal 3 Before half-f

-- an answer that is accepted is not refused
pub no-refusal : (x : Answer) → x ≡ Accepted → (e : Refusal) × (x ≡ Refused e) → ⊥
no-refusal x a (e, r) = never (sym (ap is_accepted a) ∙ ap is_accepted r)

-- ---- operations

changes : ((apply (view first) e7).answer ≡ Accepted) × ((apply (view first) e7).tree.revision ≡ 1)
unfolding add sub mul div lt le eq neg is_nan of_int hundredth all_of any_of same_list insert_at remove_at position_from tabulate empty_from reading fix_share repaired_shares fix_minimum aligned_constraints compact_constraints added retain group_step entries kids_from split_step tile_step normalize_node swept sweep_actions normalize repair sound locate seek_parent panes_along validate_target insert_tile_near apply_inner apply
changes = (refl, refl)

changes-next : ((apply (view next) e7).answer ≡ Accepted) × (is_empty (get_or (apply (view next) e7).tree.nodes 3 empty) ≡ false)
unfolding add sub mul div lt le eq neg is_nan of_int hundredth all_of any_of same_list insert_at remove_at position_from tabulate empty_from reading fix_share repaired_shares fix_minimum aligned_constraints compact_constraints added retain group_step entries kids_from split_step tile_step normalize_node swept sweep_actions normalize repair sound locate seek_parent panes_along validate_target insert_tile_near apply_inner apply
changes-next = (refl, refl)

idles : (apply (view first) (ActivatePane 1)).tree.revision ≡ 0
unfolding add sub mul div lt le eq neg is_nan of_int hundredth all_of any_of same_list insert_at remove_at position_from tabulate empty_from reading fix_share repaired_shares fix_minimum aligned_constraints compact_constraints added retain group_step entries kids_from split_step tile_step normalize_node swept sweep_actions normalize repair sound locate seek_parent panes_along validate_target insert_tile_near apply_inner apply
idles = refl

module _ (f : TileTree → TileOp → Applied) (meets : (t : TileTree) (op : TileOp) → f t op ≡ apply (view t) op) where
  -- it refuses everything
  pub apply-not-refusing : ((t : TileTree) (op : TileOp) → (e : Refusal) × ((f t op).answer ≡ Refused e)) → ⊥
  apply-not-refusing h = no-refusal (f first e7).answer (ap (λ (r : Applied). r.answer) (meets first e7) ∙ changes.0) (h first e7)

  -- it returns a fixed tree
  pub apply-not-fixed : (a : Arena) → ((t : TileTree) (op : TileOp) → (f t op).tree ≡ a) → ⊥
  apply-not-fixed a h =
      let x : 1 ≡ a.revision = sym changes.1 ∙ ap (λ (r : Applied). r.tree.revision) (sym (meets first e7)) ∙ ap (λ (y : Arena). y.revision) (h first e7) in
      let y : 0 ≡ a.revision = sym idles ∙ ap (λ (r : Applied). r.tree.revision) (sym (meets first (ActivatePane 1))) ∙ ap (λ (y : Arena). y.revision) (h first (ActivatePane 1)) in
      omega (arith, x, y)

  -- it returns the given tree
  pub apply-not-given : ((t : TileTree) (op : TileOp) → (f t op).tree ≡ view t) → ⊥
  apply-not-given h =
      let x : ◌≡◌ {A = ℕ} 1 0 = sym changes.1 ∙ ap (λ (r : Applied). r.tree.revision) (sym (meets first e7)) ∙ ap (λ (y : Arena). y.revision) (h first e7) in
      omega (arith, x)

  -- it changes the first tree, whatever it does there, and of a later one only the revision
  pub apply-not-bumping : ((t : TileTree) (op : TileOp) → 0 < t.revision → (f t op).answer ≡ Accepted → (f t op).tree.nodes ≡ (view t).nodes) → ⊥
  apply-not-bumping h =
      let q = h next e7 (omega arith) (ap (λ (r : Applied). r.answer) (meets next e7) ∙ changes-next.0) in
      never (sym (ap (λ (ns : List Node). is_empty (get_or ns 3 empty)) q) ∙ ap (λ (r : Applied). is_empty (get_or r.tree.nodes 3 empty)) (meets next e7) ∙ changes-next.1)

-- ---- repair and is_sound

repairs : ((repair (view first)).answer ≡ Accepted) × ((repair (view first)).tree.revision ≡ 0)
unfolding lt le eq is_nan any_of all_of same_list position_from empty_from reading fix_share repaired_shares fix_minimum aligned_constraints compact_constraints added retain group_step entries kids_from split_step tile_step normalize_node swept sweep_actions normalize repair
repairs = (refl, refl)

repairs-next : (repair (view next)).tree.revision ≡ 1
unfolding lt le eq is_nan any_of all_of same_list position_from empty_from reading fix_share repaired_shares fix_minimum aligned_constraints compact_constraints added retain group_step entries kids_from split_step tile_step normalize_node swept sweep_actions normalize repair
repairs-next = refl

repairs-stray : (is_empty (get_or (repair (view stray)).tree.nodes 9 empty) ≡ true) × (is_none (repair (view stray)).actions ≡ false)
unfolding lt le eq is_nan any_of all_of same_list position_from empty_from reading fix_share repaired_shares fix_minimum aligned_constraints compact_constraints added retain group_step entries kids_from split_step tile_step normalize_node swept sweep_actions normalize repair
repairs-stray = (refl, refl)

module _ (f : TileTree → Repaired) (meets : (t : TileTree) → f t ≡ repair (view t)) where
  pub repair-not-refusing : ((t : TileTree) → (e : Refusal) × ((f t).answer ≡ Refused e)) → ⊥
  repair-not-refusing h = no-refusal (f first).answer (ap (λ (r : Repaired). r.answer) (meets first) ∙ repairs.0) (h first)

  pub repair-not-fixed : (a : Arena) → ((t : TileTree) → (f t).tree ≡ a) → ⊥
  repair-not-fixed a h =
      let x : 0 ≡ a.revision = sym repairs.1 ∙ ap (λ (r : Repaired). r.tree.revision) (sym (meets first)) ∙ ap (λ (y : Arena). y.revision) (h first) in
      let y : 1 ≡ a.revision = sym repairs-next ∙ ap (λ (r : Repaired). r.tree.revision) (sym (meets next)) ∙ ap (λ (y : Arena). y.revision) (h next) in
      omega (arith, x, y)

  pub repair-not-given : ((t : TileTree) → (f t).tree ≡ view t) → ⊥
  repair-not-given h = never (sym repairs-stray.0 ∙ ap (λ (r : Repaired). is_empty (get_or r.tree.nodes 9 empty)) (sym (meets stray)) ∙ ap (λ (y : Arena). is_empty (get_or y.nodes 9 empty)) (h stray))

  -- it lists no action
  pub repair-not-silent : ((t : TileTree) → (f t).actions ≡ []) → ⊥
  repair-not-silent h = never (sym (ap is_none (sym (ap (λ (r : Repaired). r.actions) (meets stray)) ∙ h stray)) ∙ repairs-stray.1)

sounds : (sound (view first) ≡ true) × (sound (view stray) ≡ false)
unfolding lt le eq is_nan any_of all_of same_list position_from empty_from reading fix_share repaired_shares fix_minimum aligned_constraints compact_constraints added retain group_step entries kids_from split_step tile_step normalize_node swept sweep_actions normalize repair sound
sounds = (refl, refl)

-- it says the same of every tree
pub sound-not-fixed : (f : TileTree → Bool) → ((t : TileTree) → f t ≡ sound (view t)) → (b : Bool) → ((t : TileTree) → f t ≡ b) → ⊥
sound-not-fixed f meets b h = never (sym sounds.0 ∙ sym (meets first) ∙ h first ∙ sym (h stray) ∙ meets stray ∙ sounds.1)
