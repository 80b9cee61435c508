-- `settling::lone::lone_empty_root` meets its contract: the root's head, then the others. Assumes nothing.
use mathlib.Core.Path.{sym, ◌∙◌}
use native.Mathlib.Omega.{arith}
use Rattle.settling.proofs.LoneLaws.{lone-out, lone-not, lone-by}
use Rattle.settling.proofs.lone.lone_empty_root.Goals as goal

pub returns-then-root-ge64 : goal.returns-then-root-ge64
returns-then-root-ge64 c =
    let x = c.args in
    λ v. lone-out x.root v x.heads.now x.ids.now x.shares.now x.minima.now c.requires c.if-root-ge64.true

pub returns-then-not-is_blank : goal.returns-then-not-is_blank
returns-then-not-is_blank c =
    let x = c.args in
    λ v. lone-not x.root v x.heads.now x.ids.now x.shares.now x.minima.now c.requires (c.root_row.ensures (omega (arith, c.if-root-ge64.false)))
    (sym c.is_blank.ensures ∙ c.if-not-is_blank.true)

pub returns : goal.returns
returns c =
    let x = c.args in
    λ v. lone-by x.root v x.heads.now x.ids.now x.shares.now x.minima.now c.requires (c.root_row.ensures (omega (arith, c.if-root-ge64.false)))
    (sym c.is_blank.ensures ∙ c.if-not-is_blank.false) c.none_lost.result c.none_lost.ensures
