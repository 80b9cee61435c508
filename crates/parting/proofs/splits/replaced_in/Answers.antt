-- `parting::splits::replaced_in` meets its contract. Assumes nothing.
use mathlib.Core.Path.{refl}
use Rattle.nodes.proofs.SplitLaws.{replaced-is}
use Rattle.parting.proofs.splits.replaced_in.Goals as goal

pub returns : goal.returns
returns c =
    replaced-is c.args.s _ refl refl refl c.requires.whole c.args.other c.args.index c.requires.few refl refl c.replace-kids.ensures
