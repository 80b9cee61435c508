-- `lending::back::keep_columns` stores where the number is 0, and else puts all back as it was. Assumes nothing.
use Rattle.lending.proofs.back.keep_columns.Goals as goal

pub returns : goal.returns
returns c = record { stored = λ e. c.store.ensures _ _ _; left = λ n. absurd (n c.if-number-ne0.false) }
