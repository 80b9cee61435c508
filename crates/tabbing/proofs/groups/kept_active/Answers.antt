-- `tabbing::groups::kept_active` meets its contract. Assumes nothing.
use mathlib.Core.Path.{◌≡◌, ◌∙◌}
use borrow.Author.Rules.{rules}
use lib.ListN.{length}
use native.Mathlib.Omega.{arith}
use Rattle.rules.specs.Tree.{ids}
use Rattle.nodes.proofs.GroupLaws.{kept-past, kept_here}
use Rattle.tabbing.proofs.groups.kept_active.Goals as goal

pub returns-then-given-active : goal.returns-then-given-active
returns-then-given-active c = let x = c.args in kept-past x.given.len x.active x.given.at (ids x.moved) c.if-given-active.true

pub returns : goal.returns
returns c =
    let x = c.args in
    let long : length x.given.at ≡ 16 = search rules in
    c.active_of.ensures ∙ kept_here x.given.len x.active x.given.at (ids x.moved) c.if-given-active.false (omega (arith, c.requires.few, long))
