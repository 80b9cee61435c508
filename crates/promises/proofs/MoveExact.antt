-- When a move refuses, in document 01's words ('Operations'): 7 for a pane that is absent; then 8 for a target with a bad ratio or into what is no group; then 6 for a target that names
-- no tile, or that is gone once the pane is out, the root included. No other number of the Rust's. Assumes nothing.
use Rattle.std.specs.Prelude.{◌≡◌, ◌↔◌, ◌⊎◌, Bool, true, List, [], ◌∷◌, ℕ, length, Float}
use Rattle.std.proofs.Math.Path.{refl, ap}
use Rattle.std.proofs.Common.{sym, subst, ◌∙◌, arith}
use Rattle.std.proofs.Math.Logic.{inl, inr}
use Rattle.std.proofs.Math.Bool.{false}
use Rattle.std.proofs.Math.Decide.{ℕ_discrete}
use Rattle.rules.specs.Numbers.{half-f, is_valid_split_fraction}
use Rattle.rules.specs.Lists.{any_of}
use Rattle.rules.specs.Tree.{Node, empty, pane, tabs, split, Arena, node_at, is_empty, reading_from, Member}
use Rattle.rules.specs.Sound.{sound}
use Rattle.rules.specs.Target.{PaneLocation, nowhere, in_tile, in_tabs, is_somewhere, existing, a_group, beside_by, validate_target}
use Rattle.rules.specs.Insert.{Draft, draft, Beside, beside, remove_pane}
use Rattle.rules.specs.Operations as Rule
use Rattle.rules.specs.Operations.{or_else, where_is, put_near, apply_inner, apply}
use Rattle.rules.specs.Refusals.{Told, told}
use Rattle.rules.specs.declared.model.TileId.{TileId}
use Rattle.rules.specs.declared.model.Axis.{Axis}
use Rattle.rules.specs.declared.model.Axis.TheVariants.{Horizontal}
use Rattle.rules.specs.declared.model.Placement.{Placement}
use Rattle.rules.specs.declared.model.Placement.TheVariants.{After}
use Rattle.rules.specs.declared.model.TabBarPlacement.TheVariants.{Top}
use Rattle.rules.specs.Operations.{TabIndex}
use Rattle.rules.specs.declared.operation.DockTarget.{DockTarget}
use Rattle.rules.specs.declared.operation.DockTarget.TheVariants.{Root, Split, TabInto}
use Rattle.rules.specs.declared.operation.TileOp.TheVariants.{MovePane}
use Rattle.forest.specs.Lists.{never}
use Rattle.fates.specs.PaneTheorems.{Has}
use Rattle.promises.specs.Words.{Tells, both_ways, not-means}
use Rattle.promises.specs.Stands.{Absent, Found, nowhere-means, has-means, locate-found}
use Rattle.promises.specs.StepNumbers.{step_told}
use Rattle.promises.specs.ApplyExact.{apply-own}
use Rattle.promises.specs.OpsExact.{told-apart, IsGroup}
use Rattle.promises.specs.SplitExact.{Fraction, fraction-means, near-fine, put-fine, put-nowhere}
use Rattle.promises.specs.MoveSeat.{bare-root, stands_read, Seat, seat}
use Rattle.promises.specs.MoveExact.{Bad, Gone}

module _ (a : Arena) (size : length a.nodes ≡ 64) (s : sound a ≡ true) (p : ℕ) where
  abbrev ns : List Node
  ns = a.nodes

  abbrev without : PaneLocation → Draft
  without l = draft a.root (remove_pane l ns)

  -- ---- beside a tile, once the pane is out

  put-stays : (l : PaneLocation) → Seat a size s p l → (new : Node) (b : Beside) → is_empty (node_at ns b.target) ≡ false → (node_at ns b.target ≡ pane p → ⊥) → step_told (put_near a new b (without l)) ≡ told 0 0 0
  put-stays l S new b h n =
      put-fine a new b (without l)
      (near-fine b (without l) (subst (λ (xs : List TileId). Member b.target xs) (sym S.reads) (stands_read a size s p b.target h)) (S.stays b.target h n))

  put-goes : (l : PaneLocation) → Seat a size s p l → (new : Node) (b : Beside) → node_at ns b.target ≡ pane p → step_told (put_near a new b (without l)) ≡ told 6 0 0
  put-goes l S new b e = put-nowhere a new b (without l) (S.goes b.target e)

  -- ---- the ends of a move's step

  module _ (t : DockTarget) where
    abbrev pub step : Told
    step = step_told (Rule.move_pane a p t)

    pub data Ends : Type 0 where
      lost : Absent a p → step ≡ told 7 0 0 → Ends
      bad : Has a p → Bad a p t → step ≡ told 8 0 0 → Ends
      gone : Has a p → Gone a p t → (Bad a p t → ⊥) → step ≡ told 6 0 0 → Ends
      fine : Has a p → (Bad a p t → ⊥) → (Gone a p t → ⊥) → step ≡ told 0 0 0 → Ends

  -- told by the kind of a node
  abbrev kind : Node → ℕ
  kind empty = 0
  kind (pane q) = 1
  kind (tabs b k ps) = 2
  kind (split x cs ss ms) = 3

  own : (q : ℕ) (t : TileId) → node_at ns t ≡ pane q → Dec (q ≡ p) → (node_at ns t ≡ pane p) ⊎ (node_at ns t ≡ pane p → ⊥)
  own q t e (yes w) = inl (e ∙ ap pane w)
  own q t e (no n) = inr (λ f. n (let z : pane q ≡ pane p = sym e ∙ f in let w : q ≡ p = cc in w))

  mine : (t : TileId) (n : Node) → node_at ns t ≡ n → (node_at ns t ≡ pane p) ⊎ (node_at ns t ≡ pane p → ⊥)
  mine t (pane q) e = own q t e (ℕ_discrete q p)
  mine t empty e = inr (λ f. let z : ◌≡◌ {A = ℕ} 0 1 = ap kind (sym e ∙ f) in omega (arith, z))
  mine t (tabs b k ps) e = inr (λ f. let z : ◌≡◌ {A = ℕ} 2 1 = ap kind (sym e ∙ f) in omega (arith, z))
  mine t (split x cs ss ms) e = inr (λ f. let z : ◌≡◌ {A = ℕ} 3 1 = ap kind (sym e ∙ f) in omega (arith, z))

  module _ (h : Has a p) (l : PaneLocation) (S : Seat a size s p l) where
    abbrev put : DockTarget → Told
    put t = step_told (Rule.move_in a p t l)

    -- to root
    root-full : is_empty (node_at ns a.root) ≡ false
    root-full = go (node_at ns a.root) refl
      where
        go : (n : Node) → node_at ns a.root ≡ n → is_empty n ≡ false
        go empty e = absurd (subst (λ (xs : List ℕ). Member p xs) (bare-root ns a.root e) h)
        go (pane q) e = refl
        go (tabs b k ps) e = refl
        go (split x cs ss ms) e = refl

    at-root : step Root ≡ put Root → Ends Root
    unfolding validate_target
    at-root e = go (mine a.root (node_at ns a.root) refl)
      where
        go : (node_at ns a.root ≡ pane p) ⊎ (node_at ns a.root ≡ pane p → ⊥) → Ends Root
        go (inl q) = gone h q (λ x. x) (e ∙ put-goes l S (tabs Top 0 (p ∷ [])) (beside a.root Horizontal After half-f) q)
        go (inr n) = fine h (λ x. x) n (e ∙ put-stays l S (tabs Top 0 (p ∷ [])) (beside a.root Horizontal After half-f) root-full n)

    -- beside a tile
    at-tile : (t : TileId) (x : Axis) (side : Placement) (ratio : Float) → step (Split t x side ratio) ≡ put (Split t x side ratio) → Ends (Split t x side ratio)
    unfolding validate_target
    at-tile t x side ratio e = by (is_valid_split_fraction ratio) refl e
      where
        full : Fraction ratio → (node_at ns t ≡ pane p) ⊎ (node_at ns t ≡ pane p → ⊥) → is_empty (node_at ns t) ≡ false
            → step (Split t x side ratio) ≡ step_told (put_near a (pane p) (beside t x side ratio) (without l)) → Ends (Split t x side ratio)
        full f (inl q) w u = gone h (f, inr q) (λ n. n f) (u ∙ put-goes l S (pane p) (beside t x side ratio) q)
        full f (inr n) w u = fine h (λ m. m f) none-gone (u ∙ put-stays l S (pane p) (beside t x side ratio) w n)
          where
            none-gone : Gone a p (Split t x side ratio) → ⊥
            none-gone (g, inl q) = never (sym (ap is_empty q) ∙ w)
            none-gone (g, inr q) = n q

        by-node : Fraction ratio → (n : Node) → node_at ns t ≡ n → step (Split t x side ratio) ≡ step_told (or_else (existing n) (put_near a (pane p) (beside t x side ratio) (without l))) → Ends (Split t x side ratio)
        by-node f empty q u = gone h (f, inl q) (λ n. n f) u
        by-node f (pane r) q u = full f (mine t (pane r) q) (ap is_empty q) u
        by-node f (tabs c k ps) q u = full f (mine t (tabs c k ps) q) (ap is_empty q) u
        by-node f (split y cs ss ms) q u = full f (mine t (split y cs ss ms) q) (ap is_empty q) u

        by : (v : Bool) → is_valid_split_fraction ratio ≡ v → step (Split t x side ratio) ≡ step_told (or_else (beside_by v (node_at ns t)) (put_near a (pane p) (beside t x side ratio) (without l))) → Ends (Split t x side ratio)
        by false q u = bad h ((not-means (is_valid_split_fraction ratio) (fraction-means ratio)).0 q) u
        by true q u = by-node ((fraction-means ratio).0 q) (node_at ns t) refl u

    -- into a group
    at-group : (g : TileId) (i : TabIndex) → step (TabInto g i) ≡ put (TabInto g i) → Ends (TabInto g i)
    unfolding validate_target
    at-group g i e = by (node_at ns g) refl e
      where
        not-group : (n : Node) → node_at ns g ≡ n → (kind n ≡ 2 → ⊥) → IsGroup (node_at ns g) → ⊥
        not-group n q d (ps, b, k, w) = d (ap kind (sym q ∙ w))

        by : (n : Node) → node_at ns g ≡ n → step (TabInto g i) ≡ step_told (or_else (a_group n) (Rule.insert_tile_at_target a p (TabInto g i) (without l))) → Ends (TabInto g i)
        by empty q u = gone h q (λ (f, n). never (sym (ap is_empty q) ∙ f)) u
        by (pane r) q u = bad h (ap is_empty q, not-group (pane r) q (λ z. omega (arith, z))) u
        by (tabs b k ps) q u = fine h (λ (f, n). n (ps, b, k, q)) (λ f. never (sym (ap is_empty f) ∙ ap is_empty q)) u
        by (split y cs ss ms) q u = bad h (ap is_empty q, not-group (split y cs ss ms) q (λ z. omega (arith, z))) u

    at_target : (t : DockTarget) → step t ≡ put t → Ends t
    at_target Root e = at-root e
    at_target (Split t x side ratio) e = at-tile t x side ratio e
    at_target (TabInto g i) e = at-group g i e

  pub ends : (t : DockTarget) → Ends t
  ends t = go (where_is a p) refl (locate-found ns p (reading_from ns a.root)) refl
    where
      there : (l : PaneLocation) → where_is a p ≡ l → is_somewhere l ≡ true → Has a p
      there l e w = (has-means a p).0 (ap is_somewhere e ∙ w)

      go : (l : PaneLocation) → where_is a p ≡ l → Found ns p (reading_from ns a.root) l → step t ≡ step_told (Rule.move_at l a p t) → Ends t
      go nowhere e f u = lost ((nowhere-means a p nowhere e).0 refl) u
      go (in_tile i) e f u = at_target (there (in_tile i) e refl) (in_tile i) (seat a size s p (in_tile i) f refl) t u
      go (in_tabs g i) e f u = at_target (there (in_tabs g i) e refl) (in_tabs g i) (seat a size s p (in_tabs g i) f refl) t u

  -- ---- the numbers, both ways

  module _ (t : DockTarget) where
    clash : {A : Type 0} {x y : Told} → step t ≡ x → step t ≡ y → (x.number ≡ y.number → ⊥) → A
    clash e f n = told-apart (sym e ∙ f) n

    move-7 : (step t ≡ told 7 0 0) ↔ Absent a p
    move-7 = (there (ends t), back (ends t))
      where
        there : Ends t → step t ≡ told 7 0 0 → Absent a p
        there (lost n u) e = n
        there (bad h b u) e = clash u e (λ z. omega (arith, z))
        there (gone h g b u) e = clash u e (λ z. omega (arith, z))
        there (fine h b g u) e = clash u e (λ z. omega (arith, z))

        back : Ends t → Absent a p → step t ≡ told 7 0 0
        back (lost n u) m = u
        back (bad h b u) m = absurd (m h)
        back (gone h g b u) m = absurd (m h)
        back (fine h b g u) m = absurd (m h)

    move-8 : (step t ≡ told 8 0 0) ↔ (Has a p × Bad a p t)
    move-8 = (there (ends t), back (ends t))
      where
        there : Ends t → step t ≡ told 8 0 0 → Has a p × Bad a p t
        there (lost n u) e = clash u e (λ z. omega (arith, z))
        there (bad h b u) e = (h, b)
        there (gone h g b u) e = clash u e (λ z. omega (arith, z))
        there (fine h b g u) e = clash u e (λ z. omega (arith, z))

        back : Ends t → Has a p × Bad a p t → step t ≡ told 8 0 0
        back (lost n u) (h, b) = absurd (n h)
        back (bad h b u) w = u
        back (gone h g n u) (k, b) = absurd (n b)
        back (fine h n g u) (k, b) = absurd (n b)

    move-6 : (step t ≡ told 6 0 0) ↔ (Has a p × (Bad a p t → ⊥) × Gone a p t)
    move-6 = (there (ends t), back (ends t))
      where
        there : Ends t → step t ≡ told 6 0 0 → Has a p × (Bad a p t → ⊥) × Gone a p t
        there (lost n u) e = clash u e (λ z. omega (arith, z))
        there (bad h b u) e = clash u e (λ z. omega (arith, z))
        there (gone h g b u) e = (h, b, g)
        there (fine h b g u) e = clash u e (λ z. omega (arith, z))

        back : Ends t → Has a p × (Bad a p t → ⊥) × Gone a p t → step t ≡ told 6 0 0
        back (lost n u) (h, m, g) = absurd (n h)
        back (bad h b u) (k, m, g) = absurd (m b)
        back (gone h g n u) w = u
        back (fine h n m u) (k, b, g) = absurd (m g)

-- ---- the call, of an arena of 64 slots

module _ (a : Arena) (size : length a.nodes ≡ 64) (p : ℕ) (t : DockTarget) where
  -- a condition that is told of sound arenas
  of-sound : {P Q : Type 0} → ((s : sound a ≡ true) → P ↔ Q) → ((sound a ≡ true) × P) ↔ ((sound a ≡ true) × Q)
  of-sound f = (λ (s, x). (s, (f s).0 x), λ (s, y). (s, (f s).1 y))

  -- 7 exactly when the pane is absent
  pub move-absent : Tells (apply a (MovePane p t)).answer 7 0 0 ↔ ((sound a ≡ true) × Absent a p)
  unfolding apply_inner any_of
  move-absent = both_ways (apply-own a (MovePane p t) 7 0 0 tt (λ z. omega (arith, z))) (of-sound (λ s. move-7 a size s p t))

  -- 8 exactly when it is there, and the ratio is bad or the tile that stands there is no group
  pub move-bad : Tells (apply a (MovePane p t)).answer 8 0 0 ↔ ((sound a ≡ true) × (Has a p × Bad a p t))
  unfolding apply_inner any_of
  move-bad = both_ways (apply-own a (MovePane p t) 8 0 0 tt (λ z. omega (arith, z))) (of-sound (λ s. move-8 a size s p t))

  -- 6 exactly when it is there, the target is not bad, and it names no tile, or the pane's own; to root, the root is the pane's own
  pub move-gone : Tells (apply a (MovePane p t)).answer 6 0 0 ↔ ((sound a ≡ true) × (Has a p × (Bad a p t → ⊥) × Gone a p t))
  unfolding apply_inner any_of
  move-gone = both_ways (apply-own a (MovePane p t) 6 0 0 tt (λ z. omega (arith, z))) (of-sound (λ s. move-6 a size s p t))

  -- none of the Rust's other numbers
  pub move-numbers : sound a ≡ true → Member (step_told (apply_inner a (MovePane p t))).number (0 ∷ 6 ∷ 7 ∷ 8 ∷ [])
  unfolding apply_inner
  move-numbers s = go (ends a size s p t)
    where
      num : {x : Told} → step_told (Rule.move_pane a p t) ≡ x → (step_told (Rule.move_pane a p t)).number ≡ x.number
      num e = ap (λ (y : Told). y.number) e

      go : Ends a size s p t → Member (step_told (Rule.move_pane a p t)).number (0 ∷ 6 ∷ 7 ∷ 8 ∷ [])
      go (lost n u) = inr (inr (inl (num u)))
      go (bad h b u) = inr (inr (inr (inl (num u))))
      go (gone h g b u) = inr (inl (num u))
      go (fine h b g u) = inl (num u)
