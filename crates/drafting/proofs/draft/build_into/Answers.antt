-- `drafting::draft::build_into`: the refusals in their order. Assumes nothing.
use Rattle.std.proofs.Common.{arith}
use Rattle.std.proofs.lemmas.Grind.{common_steps}
use Rattle.checks.specs.LoadLaws.{panes-few}
use Rattle.rules.specs.declared.refusal.Refusal.TheVariants.{BadTable}
use Rattle.drafting.specs.DraftLaws.{built-refused, built-said, built-accepted, draft-bad, draft-full, draft-wide, draft-refused, draft-built, passed}
use Rattle.drafting.proofs.draft.build_into.Goals as goal

pub returns-in_err-t : goal.returns-in_err-t
returns-in_err-t c = built-said _ _ BadTable _ _ _ _ _ (grind (arith, common_steps)) (grind (arith, common_steps, draft-bad))

pub returns-then-t-gt64 : goal.returns-then-t-gt64
returns-then-t-gt64 c = built-refused _ _ _ _ _ _ _ (grind (arith, common_steps, draft-full))

pub returns-then-too_wide : goal.returns-then-too_wide
returns-then-too_wide c = built-refused _ _ _ _ _ _ _ (grind (arith, common_steps, draft-wide))

pub check_rows-requires-clause-few : goal.check_rows-requires-clause-few
check_rows-requires-clause-few c = grind (arith, common_steps, panes-few)

pub returns-in_err-check_rows : goal.returns-in_err-check_rows
returns-in_err-check_rows c = built-said _ _ c.in_err-check_rows.field-0.0 _ _ _ _ _ (grind (arith, common_steps)) (grind (arith, common_steps, draft-refused))

pub built_into-requires-clause-passed : goal.built_into-requires-clause-passed
built_into-requires-clause-passed c = grind (arith, common_steps, passed)

pub returns : goal.returns
returns c = built-accepted _ _ _ _ _ _ _ (grind (arith, common_steps, draft-built)) (c.built_into.ensures.shown, c.built_into.ensures.plain)
