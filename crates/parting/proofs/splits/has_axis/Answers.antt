-- `parting::splits::has_axis` goes by the slot's kind. Assumes nothing.
use mathlib.Core.Path.{◌≡◌, refl, sym, ap, ◌∙◌}
use denote.Enum.Bare.{sameb}
use Rattle.rules.specs.contracts.model.Axis.{the_type}
use Rattle.rules.specs.Tree.{node_of, same_axis}
use Rattle.rules.specs.Insert.{has_axis}
use Rattle.rules.specs.declared.model.Axis.{Axis}
use Rattle.rules.specs.declared.model.Axis.TheVariants.{Horizontal, Vertical}
use Rattle.rules.specs.declared.model.Kind.{Kind}
use Rattle.parting.proofs.splits.has_axis.Goals as goal

-- `==` of axes compares their numbers
axes : (a b : Axis) → sameb the_type a b ≡ same_axis a b
axes Horizontal Horizontal = refl
axes Horizontal Vertical = refl
axes Vertical Horizontal = refl
axes Vertical Vertical = refl

pub returns-in-Split : goal.returns-in-Split
returns-in-Split c = c.eq.ensures ∙ axes c.in-Split.own c.args.axis ∙ ap (λ (k : Kind). has_axis c.args.axis (node_of k c.args.s)) (sym c.in-Split.is)
