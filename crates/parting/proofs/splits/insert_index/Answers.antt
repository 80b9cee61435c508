-- `parting::splits::insert_index` goes by the placement. Assumes nothing.
use Rattle.nodes.proofs.SplitLaws.{index-after}
use Rattle.parting.proofs.splits.insert_index.Goals as goal

pub returns-in-After : goal.returns-in-After
returns-in-After c = let x = c.args in index-after x.placement x.index c.in-After.is
