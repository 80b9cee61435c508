-- When each operation refuses with the Rust's own numbers, in document 01's words ('Operations'): activate, close and reorder. Assumes nothing.
use Rattle.std.specs.Prelude.{◌≡◌, ◌↔◌, Bool, List, ℕ, eqb}
use Rattle.std.proofs.Math.Path.{refl}
use Rattle.std.proofs.Common.{sym, ap, subst, ◌∙◌, arith}
use Rattle.std.proofs.Math.Bool.{true, false}
use Rattle.std.proofs.Math.Option.{Option, none, some}
use Rattle.rules.specs.Lists.{any_of, position, is_some}
use Rattle.rules.specs.Tree.{Node, empty, pane, tabs, split, Arena, node_at, Member}
use Rattle.rules.specs.Sound.{sound}
use Rattle.rules.specs.Target.{PaneLocation, nowhere, in_tile, in_tabs}
use Rattle.rules.specs.Operations as Rule
use Rattle.rules.specs.Operations.{Step, refuse, where_is, apply_inner, apply}
use Rattle.rules.specs.Refusals.{Told, told}
use Rattle.rules.specs.declared.model.TileId.{TileId}
use Rattle.rules.specs.declared.model.TabBarPlacement.{TabBarPlacement}
use Rattle.rules.specs.declared.operation.TileOp.TheVariants.{ActivatePane, ClosePane, ReorderTab}
use Rattle.rules.specs.declared.refusal.Refusal.TheVariants.{InvalidPaneId}
use Rattle.forest.specs.Lists.{never}
use Rattle.promises.specs.Words.{Tells, both_ways, pair-iff, not-means}
use Rattle.promises.specs.Stands.{Absent, contains-means, found-any, nowhere-means}
use Rattle.promises.specs.StepNumbers.{step_told, step_number}
use Rattle.promises.specs.ApplyExact.{apply-own}

pub told-apart : {A : Type 0} {s t : Told} → s ≡ t → (s.number ≡ t.number → ⊥) → A
told-apart e n = absurd (n (ap (λ (x : Told). x.number) e))

-- a step of a found pane: 7 exactly when there is none
pub lost : (f : PaneLocation → Step) → f nowhere ≡ refuse InvalidPaneId → ((t : TileId) → step_number (f (in_tile t)) ≡ 7 → ⊥) → ((g : TileId) (i : ℕ) → step_number (f (in_tabs g i)) ≡ 7 → ⊥)
    → (l : PaneLocation) → (step_told (f l) ≡ told 7 0 0) ↔ (l ≡ nowhere)
lost f e t g nowhere = (λ q. refl, λ q. ap step_told e)
lost f e t g (in_tile i) = (λ q. told-apart q (t i), λ q. ap (λ (l : PaneLocation). step_told (f l)) q ∙ ap step_told e)
lost f e t g (in_tabs i n) = (λ q. told-apart q (g i n), λ q. ap (λ (l : PaneLocation). step_told (f l)) q ∙ ap step_told e)

-- ---- activate and close: 7 exactly when the pane is absent

module _ (a : Arena) (p : ℕ) where
  pub activate-absent : Tells (apply a (ActivatePane p)).answer 7 0 0 ↔ ((sound a ≡ true) × Absent a p)
  unfolding apply_inner any_of
  activate-absent =
      both_ways (apply-own a (ActivatePane p) 7 0 0 tt (λ z. omega (arith, z)))
      (pair-iff (λ e. e, λ e. e) (both_ways (lost (λ l. Rule.activate_at l a) refl (λ t z. omega (arith, z)) by (where_is a p)) (nowhere-means a p (where_is a p) refl)))
    where
      active : (b : Bool) (g : TileId) (i : ℕ) → step_number (Rule.activate_by b a g i) ≡ 7 → ⊥
      active true g i z = omega (arith, z)
      active false g i z = omega (arith, z)

      by : (g : TileId) (i : ℕ) → step_number (Rule.activate_at (in_tabs g i) a) ≡ 7 → ⊥
      by g i z = active (Rule.active_is i (node_at a.nodes g)) g i z

  pub close-absent : Tells (apply a (ClosePane p)).answer 7 0 0 ↔ ((sound a ≡ true) × Absent a p)
  unfolding apply_inner any_of
  close-absent =
      both_ways (apply-own a (ClosePane p) 7 0 0 tt (λ z. omega (arith, z)))
      (pair-iff (λ e. e, λ e. e)
      (both_ways (lost (λ l. Rule.close_at l a) refl (λ t z. omega (arith, z)) (λ g i z. omega (arith, z)) (where_is a p)) (nowhere-means a p (where_is a p) refl)))

-- ---- reorder: 6 exactly when the tile is no group, 7 exactly when it is one and the pane is not in it

abbrev pub IsGroup : Node → Type 0
IsGroup n = (ps : List ℕ) × (b : TabBarPlacement) × (k : ℕ) × (n ≡ tabs b k ps)

abbrev group_is : Node → Bool
group_is empty = false
group_is (pane p) = false
group_is (tabs b k ps) = true
group_is (split x cs ss ms) = false

no-group : (n : Node) → group_is n ≡ false → IsGroup n → ⊥
no-group n e (ps, b, k, q) = never (sym (ap group_is q) ∙ e)

module _ (a : Arena) (g : TileId) (p i : ℕ) where
  reorder-6 : (n : Node) → (step_told (Rule.reorder_in n a g p i) ≡ told 6 0 0) ↔ (IsGroup n → ⊥)
  reorder-6 empty = (λ t. no-group empty refl, λ t. refl)
  reorder-6 (pane q) = (λ t. no-group (pane q) refl, λ t. refl)
  reorder-6 (tabs b k ps) = (λ t. told-apart t (from (position (eqb p) ps)), λ n. absurd (n (ps, b, k, refl)))
    where
      by : (c : Bool) (qs : List ℕ) → step_number (Rule.reorder_by c a g b k ps qs) ≡ 6 → ⊥
      by true qs z = omega (arith, z)
      by false qs z = omega (arith, z)

      from : (o : Option ℕ) → step_number (Rule.reorder_from o a g b k ps p i) ≡ 6 → ⊥
      from none z = omega (arith, z)
      from (some j) z = by (eqb j (Rule.landing j i ps)) (Rule.reordered ps p j (Rule.landing j i ps)) z
  reorder-6 (split x cs ss ms) = (λ t. no-group (split x cs ss ms) refl, λ t. refl)

  pub reorder-no-group : Tells (apply a (ReorderTab g p i)).answer 6 0 0 ↔ ((sound a ≡ true) × (IsGroup (node_at a.nodes g) → ⊥))
  unfolding apply_inner any_of
  reorder-no-group = both_ways (apply-own a (ReorderTab g p i) 6 0 0 tt (λ z. omega (arith, z))) (pair-iff (λ e. e, λ e. e) (reorder-6 (node_at a.nodes g)))

  abbrev pub Lacks : Node → Type 0
  Lacks n = (ps : List ℕ) × (b : TabBarPlacement) × (k : ℕ) × (n ≡ tabs b k ps) × (Member p ps → ⊥)

  reorder-7 : (n : Node) → (step_told (Rule.reorder_in n a g p i) ≡ told 7 0 0) ↔ Lacks n
  reorder-7 empty = (λ t. told-apart t (λ z. omega (arith, z)), λ (ps, b, k, e, m). absurd (no-group empty refl (ps, b, k, e)))
  reorder-7 (pane q) = (λ t. told-apart t (λ z. omega (arith, z)), λ (ps, b, k, e, m). absurd (no-group (pane q) refl (ps, b, k, e)))
  reorder-7 (split x cs ss ms) = (λ t. told-apart t (λ z. omega (arith, z)), λ (ps, b, k, e, m). absurd (no-group (split x cs ss ms) refl (ps, b, k, e)))
  reorder-7 (tabs b k ps) = go (position (eqb p) ps) (found-any (eqb p) ps 0)
    where
      by : (c : Bool) (qs : List ℕ) → step_number (Rule.reorder_by c a g b k ps qs) ≡ 7 → ⊥
      by true qs z = omega (arith, z)
      by false qs z = omega (arith, z)

      same : (qs : List ℕ) (c : TabBarPlacement) (n : ℕ) → tabs b k ps ≡ tabs c n qs → ps ≡ qs
      same qs c n e = cc

      go : (o : Option ℕ) → is_some o ≡ any_of (eqb p) ps → (step_told (Rule.reorder_from o a g b k ps p i) ≡ told 7 0 0) ↔ Lacks (tabs b k ps)
      go none q = (λ t. (ps, b, k, refl, (not-means (any_of (eqb p) ps) (contains-means p ps)).0 (sym q)), λ l. refl)
      go (some j) q = (
        λ t. told-apart t (by (eqb j (Rule.landing j i ps)) (Rule.reordered ps p j (Rule.landing j i ps))),
        λ (qs, c, n, e, m). absurd (m (subst (Member p) (same qs c n e) ((contains-means p ps).0 (sym q)))),
      )

  pub reorder-absent : Tells (apply a (ReorderTab g p i)).answer 7 0 0 ↔ ((sound a ≡ true) × Lacks (node_at a.nodes g))
  unfolding apply_inner any_of
  reorder-absent = both_ways (apply-own a (ReorderTab g p i) 7 0 0 tt (λ z. omega (arith, z))) (pair-iff (λ e. e, λ e. e) (reorder-7 (node_at a.nodes g)))
