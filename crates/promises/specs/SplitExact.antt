-- When a split refuses, in document 01's words ('Operations'): 9 for a bad fraction, then 10 for a new pane that is there, then 7 for a pane that is not; no other number of the Rust's.
-- Assumes nothing.
use Rattle.std.specs.Prelude.{◌≡◌, refl, ◌↔◌, ◌⊎◌, Bool, true, false, ◌&&◌, [], ◌∷◌, ℕ, drop, Float}
use Rattle.std.proofs.Common.{sym, ap, ◌∙◌, inl, inr, arith}
use Rattle.std.proofs.Math.Option.{Option, none, some}
use Rattle.std.specs.Float.Ieee.{lt}
use Rattle.std.specs.Float.Ieee.Scale.{finite}
use Rattle.rules.specs.Numbers.{zero-f, one-f, is_valid_split_fraction}
use Rattle.rules.specs.Lists.{any_of, is_some}
use Rattle.rules.specs.Tree.{Node, empty, pane, Arena, node_at, set_node, empty_slots, reading_from, same_tile, Member}
use Rattle.rules.specs.Sound.{sound}
use Rattle.rules.specs.Target.{PaneLocation, nowhere, in_tile, in_tabs, Parent, contains_pane, existing}
use Rattle.rules.specs.Insert.{Draft, draft, Beside, beside, hanging_by, near_by, parent_of, refused_near, insert_tile_near, needed_near}
use Rattle.rules.specs.Operations as Rule
use Rattle.rules.specs.Operations.{Step, or_else, start, where_is, put_near, apply_inner, apply}
use Rattle.rules.specs.Refusals.{Told, told}
use Rattle.rules.specs.declared.model.TileId.{TileId}
use Rattle.rules.specs.declared.model.Axis.{Axis}
use Rattle.rules.specs.declared.model.Placement.{Placement}
use Rattle.rules.specs.declared.operation.TileOp.{TileOp}
use Rattle.rules.specs.declared.operation.TileOp.TheVariants.{SplitPane}
use Rattle.rules.specs.declared.refusal.Refusal.{Refusal}
use Rattle.forest.specs.Lists.{never}
use Rattle.forest.specs.Soundness.{tile-self}
use Rattle.fates.specs.PaneTheorems.{Has}
use Rattle.promises.specs.Words.{Tells, both_ways, pair-iff, and-iff, and-means, not-means}
use Rattle.promises.specs.Stands.{Absent, Found, has-means, nowhere-means, locate-found, read-hangs}
use Rattle.promises.specs.StepNumbers.{step_told}
use Rattle.promises.specs.ApplyExact.{apply-own}
use Rattle.promises.specs.OpsExact.{told-apart}

-- finite, and strictly between 0 and 1
abbrev pub Fraction : Float → Type 0
Fraction x = ((finite x ≡ true) × (lt zero-f x ≡ true)) × (lt x one-f ≡ true)

pub fraction-means : (x : Float) → (is_valid_split_fraction x ≡ true) ↔ Fraction x
fraction-means x = and-means (finite x && lt zero-f x) (lt x one-f) (and-iff (finite x) (lt zero-f x)) (λ e. e, λ e. e)

-- ---- beside a tile that is read, and there, nothing is refused

hangs : (c : Bool) (p : Option Parent) → is_some p ≡ true → hanging_by c p ≡ none
hangs true p e = refl
hangs false (some p) e = refl
hangs false none e = never (sym e)

pub near-fine : (b : Beside) (d : Draft) → Member b.target (reading_from d.nodes d.root) → existing (node_at d.nodes b.target) ≡ none → refused_near b d ≡ none
near-fine b d m e = ap (λ (o : Option Refusal). near_by o b d) e ∙ go (read-hangs d.nodes d.root b.target m)
  where
    go : (b.target ≡ d.root) ⊎ (is_some (parent_of b d) ≡ true) → hanging_by (same_tile b.target d.root) (parent_of b d) ≡ none
    go (inl q) = ap (λ (c : Bool). hanging_by c (parent_of b d)) (ap (λ (t : TileId). same_tile b.target t) (sym q) ∙ tile-self b.target)
    go (inr q) = hangs (same_tile b.target d.root) (parent_of b d) q

-- what follows where nothing is refused
abbrev onward : Arena → Node → Beside → Draft → Step
onward a new b d =
    Rule.change (insert_tile_near b (Rule.taken 0 a) (Rule.taken 1 a) (draft d.root (set_node (Rule.taken 0 a) new d.nodes))) (needed_near b d) (drop (needed_near b d) (empty_slots a.nodes))

pub put-fine : (a : Arena) (new : Node) (b : Beside) (d : Draft) → refused_near b d ≡ none → step_told (put_near a new b d) ≡ told 0 0 0
put-fine a new b d e = ap (λ (o : Option Refusal). step_told (or_else o (onward a new b d))) e

-- beside no tile: 6
pub put-nowhere : (a : Arena) (new : Node) (b : Beside) (d : Draft) → node_at d.nodes b.target ≡ empty → step_told (put_near a new b d) ≡ told 6 0 0
put-nowhere a new b d e = ap (λ (n : Node). step_told (or_else (near_by (existing n) b d) (onward a new b d))) e

-- ---- the four ends of a split's step

module _ (a : Arena) (q : ℕ) (x : Axis) (new : ℕ) (p : Placement) (s : Float) where
  abbrev op : TileOp
  op = SplitPane q x new p s

  abbrev step : Told
  step = step_told (Rule.split_pane a q x new p s)

  data Ends : Type 0 where
    bad : (Fraction s → ⊥) → step ≡ told 9 0 0 → Ends
    twice : Fraction s → Has a new → step ≡ told 10 new 0 → Ends
    lost : Fraction s → Absent a new → Absent a q → step ≡ told 7 0 0 → Ends
    fine : Fraction s → Absent a new → (Absent a q → ⊥) → step ≡ told 0 0 0 → Ends

  by_place : Fraction s → Absent a new → (l : PaneLocation) → where_is a q ≡ l → Found a.nodes q (reading_from a.nodes a.root) l → step ≡ step_told (Rule.split_at l a x new p s) → Ends
  by_place f n nowhere e h t = lost f n ((nowhere-means a q nowhere e).0 refl) t
  by_place f n (in_tile i) e (m, k) t =
      fine f n (λ g. let z = (nowhere-means a q (in_tile i) e).1 g in elsewhere z)
      (t ∙ put-fine a (pane new) (beside i x p s) (start a) (near-fine (beside i x p s) (start a) m (ap existing k)))
    where
      elsewhere : in_tile i ≡ nowhere → ⊥
      elsewhere z = let w : ◌≡◌ {A = ℕ} 0 1 = cc in omega arith
  by_place f n (in_tabs g i) e (m, b, j, ps, k, _) t =
      fine f n (λ r. let z = (nowhere-means a q (in_tabs g i) e).1 r in elsewhere z)
      (t ∙ put-fine a (pane new) (beside g x p s) (start a) (near-fine (beside g x p s) (start a) m (ap existing k)))
    where
      elsewhere : in_tabs g i ≡ nowhere → ⊥
      elsewhere z = let w : ◌≡◌ {A = ℕ} 0 1 = cc in omega arith

  by-new : Fraction s → (c : Bool) → contains_pane a.root a.nodes new ≡ c → step ≡ step_told (Rule.split_fresh c a q x new p s) → Ends
  by-new f true e t = twice f ((has-means a new).0 e) t
  by-new f false e t = by_place f ((not-means (contains_pane a.root a.nodes new) (has-means a new)).0 e) (where_is a q) refl (locate-found a.nodes q (reading_from a.nodes a.root)) t

  by_fraction : (v : Bool) → is_valid_split_fraction s ≡ v → step ≡ step_told (Rule.split_by v a q x new p s) → Ends
  by_fraction false e t = bad ((not-means (is_valid_split_fraction s) (fraction-means s)).0 e) t
  by_fraction true e t = by-new ((fraction-means s).0 e) (contains_pane a.root a.nodes new) refl t

  ends : Ends
  ends = by_fraction (is_valid_split_fraction s) refl refl

  clash : {A : Type 0} {t u : Told} → step ≡ t → step ≡ u → (t.number ≡ u.number → ⊥) → A
  clash e f n = told-apart (sym e ∙ f) n

  -- 9 exactly when the fraction is bad
  pub split-fraction : Tells (apply a (SplitPane q x new p s)).answer 9 0 0 ↔ ((sound a ≡ true) × (Fraction s → ⊥))
  unfolding apply_inner any_of
  split-fraction = both_ways (apply-own a op 9 0 0 tt (λ z. omega (arith, z))) (pair-iff (λ e. e, λ e. e) (there ends, back ends))
    where
      there : Ends → step ≡ told 9 0 0 → Fraction s → ⊥
      there (bad f t) e = f
      there (twice f h t) e = clash t e (λ z. omega (arith, z))
      there (lost f n h t) e = clash t e (λ z. omega (arith, z))
      there (fine f n h t) e = clash t e (λ z. omega (arith, z))

      back : Ends → (Fraction s → ⊥) → step ≡ told 9 0 0
      back (bad f t) n = t
      back (twice f h t) n = absurd (n f)
      back (lost f m h t) n = absurd (n f)
      back (fine f m h t) n = absurd (n f)

  -- 10, with the pane, exactly when the fraction is good and the new pane is there
  pub split-twice : Tells (apply a (SplitPane q x new p s)).answer 10 new 0 ↔ ((sound a ≡ true) × Fraction s × Has a new)
  unfolding apply_inner any_of
  split-twice = let f = both_ways (apply-own a op 10 new 0 tt (λ z. omega (arith, z))) (pair-iff {A = sound a ≡ true} (λ e. e, λ e. e) (there ends, back ends)) in (λ t. let (s, w) = f.0 t in (s, w.0, w.1), λ (s, g, h). f.1 (s, (g, h)))
    where
      there : Ends → step ≡ told 10 new 0 → Fraction s × Has a new
      there (bad f t) e = clash t e (λ z. omega (arith, z))
      there (twice f h t) e = (f, h)
      there (lost f n h t) e = clash t e (λ z. omega (arith, z))
      there (fine f n h t) e = clash t e (λ z. omega (arith, z))

      back : Ends → Fraction s × Has a new → step ≡ told 10 new 0
      back (bad f t) (g, k) = absurd (f g)
      back (twice f h t) w = t
      back (lost f n h t) (g, k) = absurd (n k)
      back (fine f n h t) (g, k) = absurd (n k)

  -- 7 exactly when the fraction is good, the new pane is absent and so is the pane
  pub split-absent : Tells (apply a (SplitPane q x new p s)).answer 7 0 0 ↔ ((sound a ≡ true) × Fraction s × Absent a new × Absent a q)
  unfolding apply_inner any_of
  split-absent = let f = both_ways (apply-own a op 7 0 0 tt (λ z. omega (arith, z))) (pair-iff {A = sound a ≡ true} (λ e. e, λ e. e) (there ends, back ends)) in (λ t. let (s, w) = f.0 t in (s, w.0, w.1, w.2), λ (s, g, h, k). f.1 (s, (g, h, k)))
    where
      there : Ends → step ≡ told 7 0 0 → Fraction s × Absent a new × Absent a q
      there (bad f t) e = clash t e (λ z. omega (arith, z))
      there (twice f h t) e = clash t e (λ z. omega (arith, z))
      there (lost f n h t) e = (f, n, h)
      there (fine f n h t) e = clash t e (λ z. omega (arith, z))

      back : Ends → Fraction s × Absent a new × Absent a q → step ≡ told 7 0 0
      back (bad f t) (g, k, l) = absurd (f g)
      back (twice f h t) (g, k, l) = absurd (k h)
      back (lost f n h t) w = t
      back (fine f n h t) (g, k, l) = absurd (h l)

  -- none of the Rust's other numbers, and 10 with no other pane
  pub split-numbers : (k u v : ℕ) → step ≡ told k u v → Member k (0 ∷ 7 ∷ 9 ∷ 10 ∷ []) × (k ≡ 10 → u ≡ new)
  split-numbers k u v e = go ends
    where
      num : {t : Told} → step ≡ t → k ≡ t.number
      num t = sym (ap (λ (z : Told). z.number) (sym t ∙ e))

      go : Ends → Member k (0 ∷ 7 ∷ 9 ∷ 10 ∷ []) × (k ≡ 10 → u ≡ new)
      go (bad f t) = (inr (inr (inl (num t))), λ z. let w = num t in absurd (omega (arith, z, w)))
      go (twice f h t) = (inr (inr (inr (inl (num t)))), λ z. ap (λ (y : Told). y.first) (sym e ∙ t))
      go (lost f n h t) = (inr (inl (num t)), λ z. let w = num t in absurd (omega (arith, z, w)))
      go (fine f n h t) = (inl (num t), λ z. let w = num t in absurd (omega (arith, z, w)))
