-- An entry anew, in place. Assumes nothing.
use Rattle.std.proofs.Common.{rules}
use Rattle.lists.specs.Build.{replaced}
use Rattle.lists.proofs.replace.Goals as goal

pub returns : goal.returns
returns g c =
    let a = c.args in
    replaced a.i a.x a.l.at a.l.len (search rules)
