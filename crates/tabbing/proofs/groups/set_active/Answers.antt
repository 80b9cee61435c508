-- `tabbing::groups::set_active` meets its contract. Assumes nothing.
use mathlib.Core.Path.{refl}
use Rattle.nodes.proofs.GroupLaws.{activated}
use Rattle.tabbing.proofs.groups.set_active.Goals as goal

pub returns : goal.returns
returns c = activated c.args.s _ c.args.index refl refl refl refl refl refl c.requires
