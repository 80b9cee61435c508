-- Solvers, layouts and readers of specs that no contract lets through (document 01, 'How strong the promises must be'), as in Wrong. Assumes nothing.
use Rattle.std.specs.Prelude.{◌≡◌, refl, true, false, List, ◌∷◌, map, ℕ, get_or, replicate, Float}
use Rattle.std.proofs.Common.{sym, ap, ◌∙◌, arith}
use Rattle.std.specs.Float.{binary64}
use Rattle.std.specs.Float.Ieee.{add, sub, mul, div, lt, le, eq, neg, is_nan, of_int}
use Rattle.rules.specs.Numbers.{zero-f, half-f, one-f}
use Rattle.rules.specs.Lists.{all_of, any_of, same_list, position_from, tabulate}
use Rattle.rules.specs.Tree.{empty, Arena, view, reals, panes_of, empty_from, reading}
use Rattle.rules.specs.Shares.{fix_share, repaired_shares}
use Rattle.rules.specs.Minima.{fix_minimum, aligned_constraints, compact_constraints, min_major, split_min_major}
use Rattle.rules.specs.Solver.{Solved, solve, solve_lengths_with_min, sum_by, pin, spread, any_short, run, start}
use Rattle.rules.specs.Tabs.{split_tab_bar, tab_rects}
use Rattle.rules.specs.Repair.{added, retain, group_step, entries, kids_from, split_step, tile_step, normalize_node, swept, sweep_actions, normalize, repair}
use Rattle.rules.specs.Sound.{sound}
use Rattle.rules.specs.Table.{little_endian, chunks, section, row_of, rows_of, sum_rows, preorder, read_table}
use Rattle.rules.specs.Spec.{Built, duplicate, validate, push_children, push_spec, from_spec}
use Rattle.rules.specs.Frame.{Frame, Laid, input_ok, plus_input, tabs_from, layout_tabs, layout_kids, layout_split, layout_tile, gather, layout}
use Rattle.rules.specs.Tree.{Reals}
use Rattle.rules.specs.declared.model.Kind.TheVariants.{Empty}
use Rattle.rules.specs.declared.model.TileTree.{TileTree}
use Rattle.rules.specs.declared.frame.LayoutInput.{LayoutInput}
use Rattle.rules.specs.Refusals.{Accepted, Refused}
use Rattle.rules.specs.declared.refusal.Refusal.{Refusal}
use Rattle.forest.specs.Lists.{never}
use Rattle.promises.specs.Wrong.{two, tree, no-refusal}

-- ---- solve: total 1, shares 1, 1, without minima and with a first minimum of 3/4

abbrev loose : Reals
loose = two zero-f zero-f

abbrev tight : Reals
tight = two (add binary64 half-f (mul binary64 half-f half-f)) zero-f

abbrev even : Reals
even = two one-f one-f

solves : ((solve one-f even loose).answer ≡ Accepted) × ((solve one-f even loose).passes ≡ 0) × (eq (get_or (solve one-f even loose).lengths 0 one-f) one-f ≡ false)
unfolding add sub mul div lt le eq neg is_nan of_int all_of sum_by pin spread any_short run start solve_lengths_with_min solve
solves = (refl, refl, refl)

solves-tight : (solve one-f even tight).passes ≡ 2
unfolding add sub mul div lt le eq neg is_nan of_int all_of sum_by pin spread any_short run start solve_lengths_with_min solve
solves-tight = refl

one-is : eq one-f one-f ≡ true
unfolding eq
one-is = refl

module _ (f : Float → Reals → Reals → Solved) (meets : (t : Float) (s m : Reals) → f t s m ≡ solve t s m) where
  -- it refuses everything
  pub solve-not-refusing : ((t : Float) (s m : Reals) → (e : Refusal) × ((f t s m).answer ≡ Refused e)) → ⊥
  solve-not-refusing h = no-refusal (f one-f even loose).answer (ap (λ (r : Solved). r.answer) (meets one-f even loose) ∙ solves.0) (h one-f even loose)

  -- it gives every child the full length
  pub solve-not-full : ((t : Float) (s m : Reals) → (f t s m).lengths ≡ map (λ x. t) (reals s)) → ⊥
  solve-not-full h =
      never (sym one-is ∙ ap (λ (xs : List Float). eq (get_or xs 0 one-f) one-f) (sym (h one-f even loose)) ∙ ap (λ (r : Solved). eq (get_or r.lengths 0 one-f) one-f) (meets one-f even loose) ∙ solves.2)

  -- it makes the pass count up, from the total and the shares
  pub solve-not-inventing : (g : Float → Reals → ℕ) → ((t : Float) (s m : Reals) → (f t s m).passes ≡ g t s) → ⊥
  solve-not-inventing g h =
      let x : 0 ≡ g one-f even = sym solves.1 ∙ ap (λ (r : Solved). r.passes) (sym (meets one-f even loose)) ∙ h one-f even loose in
      let y : 2 ≡ g one-f even = sym solves-tight ∙ ap (λ (r : Solved). r.passes) (sym (meets one-f even tight)) ∙ h one-f even tight in
      omega (arith, x, y)

-- ---- layout: two panes side by side in a square

abbrev square : LayoutInput
square =
    record { bounds = record { x0 = zero-f; y0 = zero-f; x1 = one-f; y1 = one-f }; tab_bar_thickness = zero-f; split_handle_thickness = zero-f; min_pane_size = record { width = zero-f; height = zero-f } }

-- the first pane in the focus order
abbrev leads : Frame → ℕ
leads r = get_or r.focus_order 0 0

lays : ((layout (view (tree 0 1 Empty)) square).answer ≡ Accepted) × (leads (layout (view (tree 0 1 Empty)) square).frame ≡ 1) × (leads (layout (view (tree 0 5 Empty)) square).frame ≡ 5)
unfolding add sub mul div lt le eq neg is_nan of_int any_of all_of same_list position_from tabulate empty_from reading fix_share repaired_shares fix_minimum aligned_constraints compact_constraints min_major split_min_major sum_by pin spread any_short run start solve_lengths_with_min split_tab_bar tab_rects added retain group_step entries kids_from split_step tile_step normalize_node swept sweep_actions normalize repair sound input_ok plus_input tabs_from layout_tabs layout_kids layout_split layout_tile gather layout
lays = (refl, refl, refl)

module _ (f : TileTree → LayoutInput → Laid) (meets : (t : TileTree) (i : LayoutInput) → f t i ≡ layout (view t) i) where
  -- it refuses everything
  pub layout-not-refusing : ((t : TileTree) (i : LayoutInput) → (e : Refusal) × ((f t i).answer ≡ Refused e)) → ⊥
  layout-not-refusing h = no-refusal (f (tree 0 1 Empty) square).answer (ap (λ (r : Laid). r.answer) (meets (tree 0 1 Empty) square) ∙ lays.0) (h (tree 0 1 Empty) square)

  -- it returns a fixed frame
  pub layout-not-fixed : (r : Frame) → ((t : TileTree) (i : LayoutInput) → (f t i).frame ≡ r) → ⊥
  layout-not-fixed r h =
      let x : 1 ≡ leads r = sym lays.1 ∙ ap (λ (l : Laid). leads l.frame) (sym (meets (tree 0 1 Empty) square)) ∙ ap leads (h (tree 0 1 Empty) square) in
      let y : 5 ≡ leads r = sym lays.2 ∙ ap (λ (l : Laid). leads l.frame) (sym (meets (tree 0 5 Empty) square)) ∙ ap leads (h (tree 0 5 Empty) square) in
      omega (arith, x, y)

-- ---- from_spec: a lone pane

abbrev lone : ℕ → List ℕ
lone p = 1 ∷ 0 ∷ 0 ∷ 0 ∷ 0 ∷ 0 ∷ 1 ∷ 0 ∷ 0 ∷ 0 ∷ 0 ∷ 0 ∷ 1 ∷ 0 ∷ 0 ∷ 0 ∷ p ∷ replicate 15 0

-- the pane in slot 0
abbrev shows : Arena → ℕ
shows a = get_or (panes_of (get_or a.nodes 0 empty)) 0 0

reads : ((from_spec (lone 1)).answer ≡ Accepted) × (shows (from_spec (lone 1)).tree ≡ 1) × (shows (from_spec (lone 2)).tree ≡ 2)
unfolding any_of all_of position_from empty_from reading added retain group_step entries kids_from split_step tile_step normalize_node swept sweep_actions normalize little_endian chunks section row_of rows_of sum_rows preorder read_table duplicate validate push_children push_spec from_spec
reads = (refl, refl, refl)

module _ (f : List ℕ → Built) (meets : (bs : List ℕ) → f bs ≡ from_spec bs) where
  -- it refuses everything
  pub spec-not-refusing : ((bs : List ℕ) → (e : Refusal) × ((f bs).answer ≡ Refused e)) → ⊥
  spec-not-refusing h = no-refusal (f (lone 1)).answer (ap (λ (r : Built). r.answer) (meets (lone 1)) ∙ reads.0) (h (lone 1))

  -- it returns a fixed tree
  pub spec-not-fixed : (a : Arena) → ((bs : List ℕ) → (f bs).tree ≡ a) → ⊥
  spec-not-fixed a h =
      let x : 1 ≡ shows a = sym reads.1 ∙ ap (λ (r : Built). shows r.tree) (sym (meets (lone 1))) ∙ ap shows (h (lone 1)) in
      let y : 2 ≡ shows a = sym reads.2 ∙ ap (λ (r : Built). shows r.tree) (sym (meets (lone 2))) ∙ ap shows (h (lone 2)) in
      omega (arith, x, y)
