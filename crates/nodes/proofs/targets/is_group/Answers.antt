-- `nodes::targets::is_group` goes by the slot's kind. Assumes nothing.
use Rattle.rules.specs.Tree.{node_of}
use Rattle.rules.specs.Target.{a_group}
use Rattle.rules.specs.declared.model.Kind.{Kind}
use mathlib.Core.Path.{sym, ap}
use Rattle.nodes.proofs.targets.is_group.Goals as goal

pub returns-in-Empty : goal.returns-in-Empty
returns-in-Empty c = let s = c.args.s in ap (λ (k : Kind). a_group (node_of k s)) (sym c.in-Empty.is)
