-- `columns::pack::tiles_of` makes one tile after another. Assumes nothing.
use mathlib.Core.Path.{refl}
use native.Mathlib.Omega.{arith}
use Rattle.rules.specs.Tree.{tile}
use Rattle.columns.specs.PackLaws.{mapped-more}
use Rattle.columns.proofs.pack.tiles_of.Goals as goal

pub loop-i-preserved : goal.loop-i-preserved
loop-i-preserved c =
    let v = c.loop-i.invariant in (
      v.0,
      omega arith,
      mapped-more tile c.args.row 16 v.0 c.loop-i.at c.loop-i.i 0 (tile 0) _ v.2 (omega arith) refl,
    )
