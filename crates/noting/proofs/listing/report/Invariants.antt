-- `noting::listing::report` makes one action after another. Assumes nothing.
use mathlib.Core.List.{map}
use Rattle.columns.specs.Pack.{action_from}
use Rattle.columns.specs.PackLaws.{Copied}
use Rattle.noting.proofs.listing.report.Given as goal

abbrev pub invariant-loop-i : goal.invariant-loop-i
invariant-loop-i l = Copied (map action_from l.acts) l.i l.at
