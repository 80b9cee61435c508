-- Every number that an operation can answer with. Assumes nothing.
use Rattle.std.specs.Prelude.{◌≡◌, Bool, List, [], ◌∷◌, ℕ, T}
use Rattle.std.proofs.Math.Path.{refl}
use Rattle.std.proofs.Common.{ap, ◌∙◌}
use Rattle.std.proofs.Math.Logic.{inl, inr}
use Rattle.std.proofs.Math.Bool.{true, false}
use Rattle.std.specs.Float.Ieee.Fits.{and_l, and_r}
use Rattle.rules.specs.Lists.{any_of, all_of, contains}
use Rattle.rules.specs.Tree.{Arena, Member}
use Rattle.rules.specs.Sound.{sound}
use Rattle.rules.specs.Operations.{Step, refuse, unchanged, changed, finish, apply_inner, apply_by, apply}
use Rattle.rules.specs.Refusals.{refusal_of}
use Rattle.rules.specs.declared.operation.TileOp.{TileOp}
use Rattle.promises.specs.Words.{number_of}
use Rattle.promises.specs.Stands.{contains-means}
use Rattle.promises.specs.StepNumbers.{step_number, own, inner-own}
use Rattle.promises.specs.ApplyExact.{late, changed-late, numbers}

T_true : (b : Bool) → T b → b ≡ true
T_true true t = refl
T_true false t = absurd t

-- each of xs is one of ys: tested
within : (xs ys : List ℕ) → T (all_of (λ x. contains x ys) xs) → (n : ℕ) → Member n xs → Member n ys
unfolding all_of
within [] ys t n m = absurd m
within (x ∷ xs) ys t n (inl e) = (contains-means n ys).0 (ap (λ (k : ℕ). contains k ys) e ∙ T_true (contains x ys) (and_l (contains x ys) (all_of (λ x. contains x ys) xs) t))
within (x ∷ xs) ys t n (inr m) = within xs ys (and_r (contains x ys) (all_of (λ x. contains x ys) xs) t) n m

module _ (a : Arena) (op : TileOp) where
  finish-numbers : (s : Step) → Member (step_number s) own → Member (number_of (finish a s).answer) numbers
  unfolding all_of any_of
  finish-numbers (refuse e) m = within own numbers tt (refusal_of e).number m
  finish-numbers unchanged m = inl refl
  finish-numbers (changed c) m = within late numbers tt (number_of (finish a (changed c)).answer) (changed-late a c)

  pub apply-numbers : Member (number_of (apply a op).answer) numbers
  unfolding apply
  apply-numbers = go (sound a)
    where
      go : (b : Bool) → Member (number_of (apply_by b a op).answer) numbers
      go true = finish-numbers (apply_inner a op) (inner-own a op)
      go false = inr (inr (inr (inl refl)))
