-- `repair::whole::sound_columns` meets its contract: the walk lists nothing, or it is the lone empty root. Assumes nothing.
use mathlib.Core.Path.{sym, ◌∙◌}
use mathlib.Core.Bool.{true, false}
use Rattle.repair.proofs.StillLaws.{still-sound}
use Rattle.repair.proofs.whole.sound_columns.Goals as goal

pub returns-then-is_still : goal.returns-then-is_still
returns-then-is_still c =
    let x = c.args in
    λ v. still-sound x.root v x.heads.now x.ids.now x.shares.now x.minima.now c.requires true (sym c.if-is_still.true ∙ c.is_still.ensures v)

pub returns : goal.returns
returns c =
    let x = c.args in
    λ v. c.lone_empty_root.ensures v
    ∙ still-sound x.root v x.heads.now x.ids.now x.shares.now x.minima.now c.requires false (sym c.if-is_still.false ∙ c.is_still.ensures v)
