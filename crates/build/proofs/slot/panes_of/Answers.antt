-- `build::slot::panes_of`: the panes that fill the list. Assumes nothing.
use Rattle.std.proofs.Common.{arith, subst, List, ℕ}
use Rattle.rules.specs.Table.{number}
use Rattle.lists.specs.Exact.{Exactly}
use Rattle.table.specs.Rows.{panes_at}
use Rattle.checks.specs.Entries.{length-entries}
use Rattle.build.specs.SlotLaws.{part-taken}
use Rattle.build.proofs.slot.panes_of.Goals as goal

pub returns : goal.returns
returns c =
    let a = c.args in
    subst (λ (l : List ℕ). Exactly 0 c.filled.result.at c.filled.result.len l) (part-taken (panes_at a.b.now a.t) a.p a.n 0 (omega (arith, length-entries a.b.now a.t.panes number))) c.filled.ensures
