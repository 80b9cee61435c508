-- `nodes::take::active_after` goes by four tests. Assumes nothing.
use Rattle.nodes.proofs.SlotLaws.{active-none, active-last, active-before, active-front, active-down}
use Rattle.nodes.proofs.take.active_after.Goals as goal

pub returns-then-n-eq0 : goal.returns-then-n-eq0
returns-then-n-eq0 c = active-none _ _ _ c.if-n-eq0.true

pub returns-then-n-active : goal.returns-then-n-active
returns-then-n-active c = active-last _ _ _ c.if-n-eq0.false c.if-n-active.true

pub returns-then-active-index : goal.returns-then-active-index
returns-then-active-index c = active-before _ _ _ c.if-n-eq0.false c.if-n-active.false c.if-active-index.true

pub returns-then-active-eq0 : goal.returns-then-active-eq0
returns-then-active-eq0 c = active-front _ _ _ c.if-n-eq0.false c.if-n-active.false c.if-active-eq0.true

pub returns : goal.returns
returns c = active-down _ _ _ c.if-n-eq0.false c.if-n-active.false c.if-active-index.false c.if-active-eq0.false
