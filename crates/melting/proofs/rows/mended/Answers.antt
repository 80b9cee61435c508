-- `melting::rows::mended` hands its lists to util's functions. Assumes nothing.
use mathlib.Core.Path.{refl}
use native.Mathlib.Omega.{arith}
use Rattle.melting.specs.Splits.{Long}
use Rattle.melting.proofs.SplitLaws.{mends}
use borrow.Author.Rules.{rules}
use Rattle.melting.proofs.rows.mended.Goals as goal

pub returns : goal.returns
returns c =
    let k = c.args.k in
    let g : Long k = search rules in
    mends k _ g (omega arith) refl c.repaired_shares.ensures c.aligned_constraints.ensures
