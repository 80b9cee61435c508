-- `checks::validate::first_duplicate`: each pane is looked for among those before it. Assumes nothing.
use Rattle.std.proofs.Common.{arith, refl, sym, ◌∙◌}
use Rattle.checks.specs.CheckLaws.{seen, fresh_start, fresh-not, fresh-more, fresh-end}
use Rattle.checks.proofs.validate.first_duplicate.Goals as goal

pub loop-k-init : goal.loop-k-init
loop-k-init c = fresh_start _ _ _ (omega arith)

pub returns-then-contains : goal.returns-then-contains
returns-then-contains c =
    fresh-not c.args.panes.now c.args.p c.args.n (omega arith) c.loop-k.k c.loop-k.invariant (omega arith) _ refl (sym c.if-contains.true ∙ c.contains.ensures.value ∙ seen _ _)

pub loop-k-preserved : goal.loop-k-preserved
loop-k-preserved c =
    fresh-more c.args.panes.now c.args.p c.args.n (omega arith) c.loop-k.k c.loop-k.invariant (omega arith) _ refl (sym c.if-contains.false ∙ c.contains.ensures.value ∙ seen _ _)

pub returns : goal.returns
returns c = fresh-end c.args.panes.now c.args.p c.args.n (omega arith) c.loop-k.k c.loop-k.invariant (omega arith)
