-- An empty list is blanks alone. Assumes nothing.
use Rattle.lists.specs.Exact.{pad_to}
use Rattle.lists.specs.Build.{exactly-none}
use Rattle.lists.proofs.empty.Goals as goal

pub returns : goal.returns
unfolding pad_to
returns g c = exactly-none g.T.Blank.blank _ c.blank.ensures
