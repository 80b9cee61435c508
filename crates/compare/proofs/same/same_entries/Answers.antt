-- `compare::same::same_entries`: as many of each, and every pair the same. Assumes nothing.
use Rattle.std.proofs.Common.{rules, tests}
use Rattle.std.proofs.lemmas.Iterator.{YieldsList-from_slice, YieldsList-from_zip}
use Rattle.std.proofs.lemmas.Iterator.Search.{all_from_yields_List}
use mathlib.Core.Path.{◌∙◌}
use borrow.Author.Tests.{ne_eqb}
use Rattle.lists.specs.Tests.{unlike-lengths}
use Rattle.compare.proofs.Taken.{like-lengths}
use Rattle.compare.proofs.same.same_entries.Goals as goal

pub returns-then-xs-ys : goal.returns-then-xs-ys
returns-then-xs-ys g c =
    let a = c.args in
    let t = g.T.Same.same in
    all_from_yields_List (λ p. t p.0 p.1) c.all.new.self _ c.all.result c.all.ensures.ran (YieldsList-from_zip (YieldsList-from_slice a.xs.now cc) (YieldsList-from_slice a.ys.now cc)) (λ x b q k. search (rules, tests))
    ∙ like-lengths t a.xs.now a.ys.now c.if-xs-ys.true

pub returns-else-xs-ys : goal.returns-else-xs-ys
returns-else-xs-ys g c =
    let a = c.args in
    ne_eqb _ _ c.if-xs-ys.false ∙ unlike-lengths g.T.Same.same a.xs.now a.ys.now c.if-xs-ys.false
