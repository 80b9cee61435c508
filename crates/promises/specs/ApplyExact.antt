-- When `apply` refuses, for every operation: 4 exactly when the arena is not sound; of a sound one the Rust's own refusals are those of its step, and 2, 3 and 11 follow
-- in document 01's order ('Refusals'). No other number is ever given. Assumes nothing.
use Rattle.std.specs.Prelude.{◌≡◌, ◌↔◌, Bool, not, List, [], ◌∷◌, ℕ, T, ltb, leb, length}
use Rattle.std.proofs.Math.Path.{refl}
use Rattle.std.proofs.Common.{sym, ap, subst, arith}
use Rattle.std.proofs.Math.Logic.{inl, inr}
use Rattle.std.proofs.Math.Bool.{true, false}
use Rattle.std.proofs.Math.Option.{Option, none, some}
use Rattle.rules.specs.Lists.{any_of, contains}
use Rattle.rules.specs.Tree.{Arena, empty_slots, wide_node, Member}
use Rattle.rules.specs.Repair.{Normal, normalize}
use Rattle.rules.specs.Sound.{sound}
use Rattle.rules.specs.Operations.{Change, Step, refuse, unchanged, changed, normal_by, normal_as, last-revision, revised_by, inserted_by, room_by, finish, apply_inner, apply_by, apply}
use Rattle.rules.specs.Refusals.{Told, told, refusal_of}
use Rattle.rules.specs.declared.operation.TileOp.{TileOp}
use Rattle.forest.specs.Lists.{never}
use Rattle.promises.specs.Words.{Tells, number_of}
use Rattle.promises.specs.Stands.{contains-means}
use Rattle.promises.specs.StepNumbers.{step_told, step_number, own, inner-own}

-- ---- numbers in lists

-- a number of the list is not one that the list has not
pub unlike : (xs : List ℕ) (n k : ℕ) → Member n xs → n ≡ k → T (not (contains k xs)) → ⊥
unlike xs n k m e t = go (contains k xs) ((contains-means k xs).1 (subst (λ (j : ℕ). Member j xs) e m)) t
  where
    go : (b : Bool) → b ≡ true → T (not b) → ⊥
    go true q t = t
    go false q t = never (sym q)

-- ---- what follows a change: 2, 3, 11, 3

abbrev pub late : List ℕ
late = 0 ∷ 2 ∷ 3 ∷ 11 ∷ []

module _ (a : Arena) (c : Change) where
  normal-late : (o : Option Normal) → Member (number_of (normal_as a o).answer) late
  normal-late none = inr (inl refl)
  normal-late (some n) = go (any_of wide_node n.nodes)
    where
      go : (b : Bool) → Member (number_of (normal_by b a n).answer) late
      go true = inr (inr (inl refl))
      go false = inl refl

  revised-late : (b : Bool) → Member (number_of (revised_by b a c).answer) late
  revised-late true = inr (inr (inr (inl refl)))
  revised-late false = normal-late (normalize c.free c.made.root c.made.nodes)

  inserted-late : (b : Bool) → Member (number_of (inserted_by b a c).answer) late
  inserted-late true = inr (inr (inl refl))
  inserted-late false = revised-late (leb last-revision a.revision)

  room-late : (b : Bool) → Member (number_of (room_by b a c).answer) late
  room-late true = inr (inl refl)
  room-late false = inserted-late (any_of wide_node c.made.nodes)

  pub changed-late : Member (number_of (finish a (changed c)).answer) late
  changed-late = room-late (ltb (length (empty_slots a.nodes)) c.needed)

-- ---- every number of the call

abbrev pub numbers : List ℕ
numbers = 0 ∷ 2 ∷ 3 ∷ 4 ∷ 6 ∷ 7 ∷ 8 ∷ 9 ∷ 10 ∷ 11 ∷ []

module _ (a : Arena) (op : TileOp) where
  -- ---- 4

  no-four : (s : Step) → Member (step_number s) own → number_of (finish a s).answer ≡ 4 → ⊥
  unfolding any_of
  no-four (refuse e) m q = unlike own (refusal_of e).number 4 m q tt
  no-four unchanged m q = omega (arith, q)
  no-four (changed c) m q = unlike late (number_of (finish a (changed c)).answer) 4 (changed-late a c) q tt

  -- 4 exactly when the arena is not sound
  pub apply-unsound : Tells (apply a op).answer 4 0 0 ↔ (sound a ≡ false)
  unfolding apply
  apply-unsound = go (sound a)
    where
      go : (b : Bool) → Tells (apply_by b a op).answer 4 0 0 ↔ (b ≡ false)
      go true = (λ t. absurd (no-four (apply_inner a op) (inner-own a op) (ap (λ (x : Told). x.number) t)), λ e. never e)
      go false = (λ t. refl, λ e. refl)

  -- ---- 6 to 10

  finish-own : (s : Step) (k x y : ℕ) → T (not (contains k late)) → Tells (finish a s).answer k x y ↔ (step_told s ≡ told k x y)
  finish-own (refuse e) k x y f = (λ t. t, λ t. t)
  finish-own unchanged k x y f = (λ t. t, λ t. t)
  finish-own (changed c) k x y f = (
    λ t. absurd (unlike late (number_of (finish a (changed c)).answer) k (changed-late a c) (ap (λ (z : Told). z.number) t) f),
    λ t. absurd (unlike late 0 k (inl refl) (ap (λ (z : Told). z.number) t) f),
  )

  -- the Rust's own numbers: exactly when the arena is sound and the operation's step has it
  pub apply-own : (k x y : ℕ) → T (not (contains k late)) → (k ≡ 4 → ⊥) → Tells (apply a op).answer k x y ↔ ((sound a ≡ true) × (step_told (apply_inner a op) ≡ told k x y))
  unfolding apply
  apply-own k x y f g = go (sound a)
    where
      go : (b : Bool) → Tells (apply_by b a op).answer k x y ↔ ((b ≡ true) × (step_told (apply_inner a op) ≡ told k x y))
      go true = let h = finish-own (apply_inner a op) k x y f in (λ t. (refl, h.0 t), λ e. h.1 e.1)
      go false = (λ t. absurd (g (sym (ap (λ (z : Told). z.number) t))), λ e. never (sym e.0))
