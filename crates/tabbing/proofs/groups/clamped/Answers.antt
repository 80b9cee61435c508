-- `tabbing::groups::clamped` goes by the index. Assumes nothing.
use mathlib.Core.Path.{sym, ap, subst, ◌∙◌}
use Prim.Native.Nat.{ℕ, ◌≤◌}
use native.Mathlib.Nat.{min-le_right}
use Rattle.rules.specs.Operations.{clamped}
use Rattle.rules.specs.Operations.{TabIndex}
use Rattle.tabbing.proofs.groups.clamped.Goals as goal

pub returns-in-Some : goal.returns-in-Some
returns-in-Some c =
    let x = c.args in
    (c.lesser.ensures ∙ ap (λ (t : TabIndex). clamped t x.n) (sym c.in-Some.is), subst (λ (k : ℕ). k ≤ x.n) (sym c.lesser.ensures) (min-le_right _ x.n))
