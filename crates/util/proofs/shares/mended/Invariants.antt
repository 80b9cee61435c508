-- `util::shares::mended` fills a fresh list with mended shares. Assumes nothing.
use mathlib.Core.List.{map}
use Rattle.rules.specs.Numbers.{zero-f}
use Rattle.rules.specs.Tree.{reals}
use Rattle.rules.specs.Shares.{fix_share}
use Rattle.lists.specs.Build.{Building}
use Rattle.util.proofs.shares.mended.Given as goal

abbrev pub invariant-loop-j : goal.invariant-loop-j
invariant-loop-j l = Building zero-f (map fix_share (reals l.shares)) l.shares.len l.j l.at
