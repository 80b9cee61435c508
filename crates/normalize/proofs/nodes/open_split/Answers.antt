-- `normalize::nodes::open_split` meets its contract, by the law `opens`. Assumes nothing.
use native.Mathlib.Omega.{arith}
use borrow.Author.Rules.{rules}
use Rattle.melting.specs.Splits.{Long}
use Rattle.normalize.proofs.WalkLaws.{opens}
use Rattle.normalize.proofs.nodes.open_split.Goals as goal

pub returns-clause-opens : goal.returns-clause-opens
returns-clause-opens c seen S =
    let p = c.requires in
    let x = c.args in
    let g : Long c.mended-rows.result = search rules in
    opens x.heads.now x.ids.now x.shares.now x.minima.now x.claimed.now seen x.acts.now x.c x.id
    S p.inside p.unclaimed p.listing (λ e. absurd (omega (arith, p.split, e))) (λ e. absurd (omega (arith, p.split, e))) (λ e. absurd (omega (arith, p.split, e))) c.load-row.result c.mended-rows.result c.load-row.ensures c.mended-rows.ensures c.split_noted-n.new.acts c.split_noted-n.result c.split_noted-n.ensures g
