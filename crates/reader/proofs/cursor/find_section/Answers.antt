-- `reader::cursor::find_section`: the count and its entries are there, or the section is short. Assumes nothing.
use Rattle.std.proofs.Common.{arith}
use Rattle.std.proofs.lemmas.Grind.{common_steps}
use Rattle.reader.specs.SectionLaws.{short-count, short-entries, section-found}
use Rattle.reader.proofs.cursor.find_section.Goals as goal

pub returns-in_err-checked_sub : goal.returns-in_err-checked_sub
returns-in_err-checked_sub c = grind (arith, common_steps, short-count)

pub returns-in_err-left : goal.returns-in_err-left
returns-in_err-left c = grind (arith, common_steps, short-count)

pub returns-then-left-count : goal.returns-then-left-count
returns-then-left-count c = grind (arith, common_steps, short-entries)

pub returns : goal.returns
returns c = grind (arith, common_steps, section-found)
