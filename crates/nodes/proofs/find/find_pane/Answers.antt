-- `nodes::find::find_pane` passes one row after another until one has the pane. Assumes nothing.
use mathlib.Core.Path.{refl, sym, ◌∙◌}
use native.Mathlib.Omega.{arith}
use Rattle.columns.specs.RowLaws.{head-whole}
use Rattle.nodes.specs.Parts.{location_of}
use Rattle.nodes.proofs.FindLaws.{somewhere-some, rows-found, rows_more, rows-nowhere}
use Rattle.nodes.proofs.find.find_pane.Goals as goal

pub loop-i-init : goal.loop-i-init
loop-i-init c = λ ss ms ls lm. refl

pub pane_in-l-requires-clause-whole : goal.pane_in-l-requires-clause-whole
pane_in-l-requires-clause-whole c = head-whole c.args.heads.now c.loop-i.i c.requires

pub returns-then-is_some : goal.returns-then-is_some
returns-then-is_some c =
    let x = c.args in
    let f = c.pane_in-l in
    rows-found x.heads.now x.ids.now c.told-heads c.told-ids c.loop-i.i (omega arith) x.pane (location_of f.result) f.ensures (somewhere-some f.result ∙ sym c.is_some.ensures ∙ c.if-is_some.true) c.loop-i.invariant

pub loop-i-preserved : goal.loop-i-preserved
loop-i-preserved c =
    let x = c.args in
    let f = c.pane_in-l in
    rows_more x.heads.now x.ids.now c.told-heads c.told-ids c.loop-i.i (omega arith) x.pane (location_of f.result) f.ensures (somewhere-some f.result ∙ sym c.is_some.ensures ∙ c.if-is_some.false) c.loop-i.invariant

pub returns : goal.returns
returns c =
    let x = c.args in
    rows-nowhere x.heads.now x.ids.now c.told-heads c.told-ids x.pane c.loop-i.i (omega arith) c.loop-i.invariant
