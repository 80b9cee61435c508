-- Laws of the codes: a slot's own mode passes. Assumes nothing.
use mathlib.Core.Path.{◌≡◌, refl}
use mathlib.Core.Bool.{true}
use lib.Dec.{ltb}
use Rattle.rules.specs.Tree.{bar_code, axis_code}
use Rattle.rules.specs.declared.model.Axis.{Axis}
use Rattle.rules.specs.declared.model.Axis.TheVariants.{Horizontal, Vertical}
use Rattle.rules.specs.declared.model.TabBarPlacement.{TabBarPlacement}
use Rattle.rules.specs.declared.model.TabBarPlacement.TheVariants.{Hidden, Top, Bottom, Left, Right}

pub bar-ok : (b : TabBarPlacement) → ltb (bar_code b) 5 ≡ true
bar-ok Hidden = refl
bar-ok Top = refl
bar-ok Bottom = refl
bar-ok Left = refl
bar-ok Right = refl

pub axis-ok : (a : Axis) → ltb (axis_code a) 2 ≡ true
axis-ok Horizontal = refl
axis-ok Vertical = refl
