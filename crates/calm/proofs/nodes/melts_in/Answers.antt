-- `calm::nodes::melts_in` is the rule's `melts`, of the child's slot. Assumes nothing.
use mathlib.Core.Path.{sym, ap, ◌∙◌}
use mathlib.Core.List.{[]}
use lib.ListN.{get_or}
use Rattle.rules.specs.Repair.{melts}
use Rattle.columns.specs.Columns.{axis_from}
use Rattle.columns.specs.ColumnLaws.{nodes-at}
use Rattle.calm.proofs.Laws.{past}
use Rattle.calm.proofs.nodes.melts_in.Goals as goal

pub returns-then-child-ge64 : goal.returns-then-child-ge64
returns-then-child-ge64 c = λ xs ss ms x s m. past c.args.heads.now xs ss ms c.told-heads x s m c.args.child c.if-child-ge64.true (axis_from c.args.mode) c.args.minimum

pub returns : goal.returns
returns c =
    let a = c.args in
    λ xs ss ms x s m. c.is_meltable.ensures (get_or xs a.child []) (get_or ss a.child []) (get_or ms a.child []) ∙ ap (melts (axis_from a.mode) a.minimum) (sym (nodes-at a.heads.now xs ss ms c.told-heads x s m a.child))
