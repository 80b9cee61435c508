-- `docking::near::same_axis_parent` reads the parent. Assumes nothing.
use mathlib.Core.Path.{sym, ap, ◌∙◌}
use Rattle.std.specs.Prelude.{Option}
use Rattle.rules.specs.Insert.{has_axis, same_axis_parent}
use Rattle.columns.specs.Columns.{nodes_from}
use Rattle.nodes.specs.Parts.{holder_of}
use Rattle.nodes.specs.declared.Holder.{Holder}
use Rattle.docking.proofs.near.same_axis_parent.Goals as goal

pub returns-in-None : goal.returns-in-None
returns-in-None c =
    let x = c.args in
    ap (λ (q : Option Holder). same_axis_parent x.axis (holder_of q) (nodes_from x.heads.now x.ids.now x.shares.now x.minima.now)) (sym c.in-None.is)

pub returns-in-Some : goal.returns-in-Some
returns-in-Some c =
    let x = c.args in
    c.has_axis.ensures ∙ ap (has_axis x.axis) c.get_node-s.ensures.0 ∙ ap (λ (q : Option Holder). same_axis_parent x.axis (holder_of q) (nodes_from x.heads.now x.ids.now x.shares.now x.minima.now)) (sym c.in-Some.is)
