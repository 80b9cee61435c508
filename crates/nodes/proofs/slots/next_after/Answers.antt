-- `nodes::slots::next_after` goes on from the slot that it is given. Assumes nothing.
use mathlib.Core.Path.{sym, ◌∙◌}
use Rattle.columns.specs.Columns.{nodes_from}
use Rattle.nodes.proofs.SlotLaws.{after-some, after-none}
use Rattle.nodes.proofs.slots.next_after.Goals as goal

pub returns-in_err-t-clause-right : goal.returns-in_err-t-clause-right
returns-in_err-t-clause-right c = λ xs ss ms lx ls lm k q. c.from_residual.ensures ∙ after-none (nodes_from c.args.heads.now xs ss ms) k (sym c.in_err-t.was ∙ q)

pub returns-clause-right : goal.returns-clause-right
returns-clause-right c = λ xs ss ms lx ls lm k q. after-some (nodes_from c.args.heads.now xs ss ms) k _ _ (sym c.in_ok-t.was ∙ q) (c.next_empty.ensures.right xs ss ms lx ls lm)
