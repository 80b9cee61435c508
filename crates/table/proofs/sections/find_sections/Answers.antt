-- `table::sections::find_sections`: the four sections one after another, and nothing after the last. Assumes nothing.
use Rattle.std.proofs.Common.{arith}
use Rattle.std.proofs.lemmas.Grind.{common_steps}
use Rattle.table.specs.SectionLaws.{bad-rows, bad-panes, bad-shares, bad-minima, trailing, no_more}
use Rattle.table.proofs.sections.find_sections.Goals as goal

pub returns-in_err-rows : goal.returns-in_err-rows
returns-in_err-rows c = grind (arith, common_steps, bad-rows)

pub returns-in_err-panes : goal.returns-in_err-panes
returns-in_err-panes c = grind (arith, common_steps, bad-panes)

pub returns-in_err-shares : goal.returns-in_err-shares
returns-in_err-shares c = grind (arith, common_steps, bad-shares)

pub returns-in_err-minima : goal.returns-in_err-minima
returns-in_err-minima c = grind (arith, common_steps, bad-minima)

pub returns-then-end-b : goal.returns-then-end-b
returns-then-end-b c = grind (arith, common_steps, trailing)

pub returns : goal.returns
returns c = grind (arith, common_steps, no_more)
