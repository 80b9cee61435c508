-- `build::slot::reals_of`: the reals that fill the list. Assumes nothing.
use Rattle.std.proofs.Common.{subst, List, Float}
use Rattle.std.specs.Float.Ieee.{of_bits}
use Rattle.rules.specs.Numbers.{zero-f}
use Rattle.lists.specs.Exact.{Exactly}
use Rattle.table.specs.Rows.{reals_at}
use Rattle.checks.specs.Entries.{reals-part}
use Rattle.build.specs.SlotLaws.{part-taken}
use Rattle.build.proofs.slot.reals_of.Goals as goal

pub returns : goal.returns
unfolding of_bits
returns c =
    let a = c.args in
    subst (λ (l : List Float). Exactly zero-f c.filled.result.at c.filled.result.len l) (part-taken (reals_at a.b.now a.reals) a.from a.n zero-f (reals-part a.b.now a.reals a.from a.n c.requires.inside)) c.filled.ensures
