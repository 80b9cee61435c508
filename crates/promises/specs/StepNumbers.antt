-- Which numbers an operation's own step can refuse with: 6 to 10, those of the Rust, for any arena. Assumes nothing.
use Rattle.std.specs.Prelude.{◌≡◌, Bool, List, [], ◌∷◌, ℕ, eqb, Float}
use Rattle.std.proofs.Math.Path.{refl}
use Rattle.std.proofs.Common.{sym, subst}
use Rattle.std.proofs.Math.Logic.{inl, inr}
use Rattle.std.proofs.Math.Bool.{true, false}
use Rattle.std.proofs.Math.Option.{Option, none, some}
use Rattle.rules.specs.Numbers.{half-f, is_valid_split_fraction}
use Rattle.rules.specs.Lists.{position}
use Rattle.rules.specs.Tree.{Node, empty, pane, tabs, split, Arena, node_at, same_tile, Member}
use Rattle.rules.specs.Target.{PaneLocation, nowhere, in_tile, in_tabs, Parent, contains_pane, existing, a_group, beside_by, validate_target}
use Rattle.rules.specs.Insert.{Draft, Beside, beside, hanging_by, near_by, parent_of, refused_near}
use Rattle.rules.specs.Operations as Rule
use Rattle.rules.specs.Operations.{Step, refuse, unchanged, changed, or_else, where_is, put_near, apply_inner}
use Rattle.rules.specs.Refusals.{Told, told, refusal_of}
use Rattle.rules.specs.declared.model.TileId.{TileId}
use Rattle.rules.specs.declared.model.Axis.{Axis}
use Rattle.rules.specs.declared.model.Axis.TheVariants.{Horizontal}
use Rattle.rules.specs.declared.model.Placement.{Placement}
use Rattle.rules.specs.declared.model.Placement.TheVariants.{After}
use Rattle.rules.specs.declared.model.TabBarPlacement.TheVariants.{Top}
use Rattle.rules.specs.declared.operation.DockTarget.{DockTarget}
use Rattle.rules.specs.declared.operation.DockTarget.TheVariants.{Root, Split, TabInto}
use Rattle.rules.specs.declared.operation.TileOp.{TileOp}
use Rattle.rules.specs.declared.operation.TileOp.TheVariants.{ActivatePane, ClosePane, SplitPane, MovePane, ReorderTab}
use Rattle.rules.specs.declared.refusal.Refusal.{Refusal}

-- ---- a step's own refusal

-- the number and details of the Rust's own refusal; 0 where it has none
abbrev pub step_told : Step → Told
step_told (refuse e) = refusal_of e
step_told unchanged = told 0 0 0
step_told (changed c) = told 0 0 0

abbrev pub step_number : Step → ℕ
step_number s = (step_told s).number

abbrev pub own : List ℕ
own = 0 ∷ 6 ∷ 7 ∷ 8 ∷ 9 ∷ 10 ∷ []

abbrev Own : Step → Type 0
Own s = Member (step_number s) own

abbrev option_number : Option Refusal → ℕ
option_number none = 0
option_number (some e) = (refusal_of e).number

own-else : (o : Option Refusal) (s : Step) → Member (option_number o) own → Own s → Own (or_else o s)
own-else none s m h = h
own-else (some e) s m h = m

module _ (a : Arena) where
  own-existing : (n : Node) → Member (option_number (existing n)) own
  own-existing empty = inr (inl refl)
  own-existing (pane p) = inl refl
  own-existing (tabs b k ps) = inl refl
  own-existing (split x cs ss ms) = inl refl

  own-hanging : (c : Bool) (p : Option Parent) → Member (option_number (hanging_by c p)) own
  own-hanging true p = inl refl
  own-hanging false (some p) = inl refl
  own-hanging false none = inr (inr (inr (inr (inl refl))))

  own-near : (n : Node) (b : Beside) (d : Draft) → Member (option_number (near_by (existing n) b d)) own
  own-near empty b d = inr (inl refl)
  own-near (pane p) b d = own-hanging (same_tile b.target d.root) (parent_of b d)
  own-near (tabs x k ps) b d = own-hanging (same_tile b.target d.root) (parent_of b d)
  own-near (split x cs ss ms) b d = own-hanging (same_tile b.target d.root) (parent_of b d)

  own_put : (new : Node) (b : Beside) (d : Draft) → Own (put_near a new b d)
  own_put new b d = own-else (refused_near b d) _ (own-near (node_at d.nodes b.target) b d) (inl refl)

  own-target : (ns : List Node) (t : DockTarget) → Member (option_number (validate_target ns t)) own
  unfolding validate_target
  own-target ns Root = inl refl
  own-target ns (Split t x side ratio) = go (is_valid_split_fraction ratio)
    where
      go : (b : Bool) → Member (option_number (beside_by b (node_at ns t))) own
      go true = own-existing (node_at ns t)
      go false = inr (inr (inr (inl refl)))
  own-target ns (TabInto g i) = go (node_at ns g)
    where
      go : (n : Node) → Member (option_number (a_group n)) own
      go empty = inr (inl refl)
      go (pane p) = inr (inr (inr (inl refl)))
      go (tabs b k ps) = inl refl
      go (split x cs ss ms) = inr (inr (inr (inl refl)))

  own-insert : (p : ℕ) (t : DockTarget) (d : Draft) → Own (Rule.insert_tile_at_target a p t d)
  own-insert p Root d = own_put (tabs Top 0 (p ∷ [])) (beside d.root Horizontal After half-f) d
  own-insert p (Split t x side ratio) d = own_put (pane p) (beside t x side ratio) d
  own-insert p (TabInto g i) d = inl refl

  own-activate : (l : PaneLocation) → Own (Rule.activate_at l a)
  own-activate nowhere = inr (inr (inl refl))
  own-activate (in_tile t) = inl refl
  own-activate (in_tabs g i) = go (Rule.active_is i (node_at a.nodes g))
    where
      go : (b : Bool) → Own (Rule.activate_by b a g i)
      go true = inl refl
      go false = inl refl

  own-close : (l : PaneLocation) → Own (Rule.close_at l a)
  own-close nowhere = inr (inr (inl refl))
  own-close (in_tile t) = inl refl
  own-close (in_tabs g i) = inl refl

  own-split-at : (l : PaneLocation) (x : Axis) (new : ℕ) (p : Placement) (s : Float) → Own (Rule.split_at l a x new p s)
  own-split-at nowhere x new p s = inr (inr (inl refl))
  own-split-at (in_tile t) x new p s = own_put (pane new) (beside t x p s) (Rule.start a)
  own-split-at (in_tabs g i) x new p s = own_put (pane new) (beside g x p s) (Rule.start a)

  own_split : (v c : Bool) (q : ℕ) (x : Axis) (new : ℕ) (p : Placement) (s : Float) → contains_pane a.root a.nodes new ≡ c → Own (Rule.split_by v a q x new p s)
  own_split false c q x new p s e = inr (inr (inr (inr (inl refl))))
  own_split true true q x new p s e = subst (λ (b : Bool). Own (Rule.split_fresh b a q x new p s)) (sym e) (inr (inr (inr (inr (inr (inl refl))))))
  own_split true false q x new p s e = subst (λ (b : Bool). Own (Rule.split_fresh b a q x new p s)) (sym e) (own-split-at (where_is a q) x new p s)

  own-move : (l : PaneLocation) (p : ℕ) (t : DockTarget) → Own (Rule.move_at l a p t)
  own-move nowhere p t = inr (inr (inl refl))
  own-move (in_tile i) p t = own-else (validate_target a.nodes t) _ (own-target a.nodes t) (own-insert p t _)
  own-move (in_tabs g i) p t = own-else (validate_target a.nodes t) _ (own-target a.nodes t) (own-insert p t _)

  own-reorder : (n : Node) (g : TileId) (p i : ℕ) → Own (Rule.reorder_in n a g p i)
  own-reorder empty g p i = inr (inl refl)
  own-reorder (pane q) g p i = inr (inl refl)
  own-reorder (tabs b n ps) g p i = from (position (eqb p) ps)
    where
      by : (c : Bool) (qs : List ℕ) → Own (Rule.reorder_by c a g b n ps qs)
      by true qs = inl refl
      by false qs = inl refl

      from : (o : Option ℕ) → Own (Rule.reorder_from o a g b n ps p i)
      from none = inr (inr (inl refl))
      from (some k) = by (eqb k (Rule.landing k i ps)) (Rule.reordered ps p k (Rule.landing k i ps))
  own-reorder (split x cs ss ms) g p i = inr (inl refl)

  pub inner-own : (op : TileOp) → Member (step_number (apply_inner a op)) own
  unfolding apply_inner
  inner-own (ActivatePane p) = own-activate (where_is a p)
  inner-own (ClosePane p) = own-close (where_is a p)
  inner-own (SplitPane q x new p s) = own_split (is_valid_split_fraction s) (contains_pane a.root a.nodes new) q x new p s refl
  inner-own (MovePane p t) = own-move (where_is a p) p t
  inner-own (ReorderTab g p i) = own-reorder (node_at a.nodes g) g p i
