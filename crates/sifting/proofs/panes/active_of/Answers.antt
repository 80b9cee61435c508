-- `sifting::panes::active_of` looks the pane up, and then its place. Assumes nothing.
use mathlib.Core.Path.{◌≡◌, ◌∙◌}
use native.Mathlib.Omega.{arith}
use borrow.Author.Rules.{rules}
use lib.ListN.{length}
use Rattle.rules.specs.Tree.{ids}
use Rattle.sifting.proofs.LeafLaws.{active_past, first-or, active-at}
use Rattle.sifting.proofs.panes.active_of.Goals as goal

pub returns-then-panes-active : goal.returns-then-panes-active
returns-then-panes-active c = let a = c.args in active_past a.panes.len a.active a.panes.at (ids a.kept) c.if-panes-active.true

pub returns : goal.returns
returns c =
    let a = c.args in
    let s : length a.panes.at ≡ 16 = search (rules, c.well_formed) in
    c.unwrap_or.ensures ∙ first-or c.position.result
    ∙ active-at a.panes.len a.active a.panes.at (ids a.kept) c.get-pane.result c.position.result (omega (arith, c.requires.few))
    c.if-panes-active.false c.get-pane.ensures c.position.ensures
