-- `drafting::draft::built_into`: the columns show the rows that push_spec came to. Assumes nothing.
use Rattle.drafting.specs.DraftLaws.{slotted, built-shown}
use Rattle.drafting.proofs.draft.built_into.Goals as goal

pub slots_into-requires-clause-slotted : goal.slots_into-requires-clause-slotted
slots_into-requires-clause-slotted c = let push = c.push_spec-end in slotted c.args.b.now c.args.t c.requires.passed _ _ push.result push.ensures

pub returns : goal.returns
returns c =
    let push = c.push_spec-end in
    let made = built-shown c.args.b.now c.args.t c.requires.passed _ _ push.result _ _ _ _ push.ensures c.slots_into.ensures in
    record { shown = made.0; plain = made.1 }
