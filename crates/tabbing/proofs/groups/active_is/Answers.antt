-- `tabbing::groups::active_is` goes by the slot's kind. Assumes nothing.
use mathlib.Core.Path.{sym, ap}
use Rattle.rules.specs.Tree.{node_of}
use Rattle.rules.specs.Operations.{active_is}
use Rattle.rules.specs.declared.model.Kind.{Kind}
use Rattle.tabbing.proofs.groups.active_is.Goals as goal

pub returns-in-Tabs : goal.returns-in-Tabs
returns-in-Tabs c = let x = c.args in ap (λ (k : Kind). active_is x.index (node_of k x.s)) (sym c.in-Tabs.is)
