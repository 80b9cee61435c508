-- `tabbing::groups::is_full` goes by the slot's kind. Assumes nothing.
use mathlib.Core.Path.{sym, ap}
use Rattle.nodes.specs.Parts.{full_by}
use Rattle.rules.specs.declared.model.Kind.{Kind}
use Rattle.tabbing.proofs.groups.is_full.Goals as goal

pub returns-in-Tabs : goal.returns-in-Tabs
returns-in-Tabs c = let x = c.args in ap (λ (k : Kind). full_by k x.s) (sym c.in-Tabs.is)
