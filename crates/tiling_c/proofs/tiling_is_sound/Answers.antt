-- `tiling_c::tiling_is_sound`: 5 for codes that are none, else 0 or 4. Assumes nothing.
use mathlib.Core.Path.{refl, sym, ◌∙◌}
use lib.ListN.{get_or}
use Rattle.coding.specs.Lent.{lot, lent}
use Rattle.tiling_c.proofs.CallLaws.{sound-is}
use Rattle.crossing.proofs.TidyLaws.{tidy-none, tidy-lent, tidy-plain}
use Rattle.tiling_c.proofs.tiling_is_sound.Goals as goal

pub sound_number-requires : goal.sound_number-requires
sound_number-requires c =
    let a = c.args in
    tidy-plain a.heads.now c.tidy-plain.result a.ids.now a.shares.now a.minima.now c.tidy-plain.ensures (c.told-heads, c.told-ids, c.told-shares, c.told-minima)

pub returns-then-heads_over : goal.returns-then-heads_over
returns-then-heads_over c =
    let a = c.args in
    sound-is (lot a.top.now a.heads.now a.ids.now a.shares.now a.minima.now) (lent (lot a.top.now c.tidy-plain.result a.ids.now a.shares.now a.minima.now)) c.sound_number.result (sym c.codes_ok.ensures ∙ c.if-not-codes_ok.false)
    (tidy-lent a.heads.now c.tidy-plain.result a.ids.now a.shares.now a.minima.now c.tidy-plain.ensures a.top.now) (c.sound_number.ensures (get_or a.top.now 1 0))

pub sound_number-requires-2 : goal.sound_number-requires-2
sound_number-requires-2 c =
    let a = c.args in
    tidy-plain a.heads.now a.heads.now a.ids.now a.shares.now a.minima.now (tidy-none a.heads.now c.heads_over.result c.heads_over.ensures c.if-heads_over.false) (c.told-heads, c.told-ids, c.told-shares, c.told-minima)

pub returns : goal.returns
returns c =
    let a = c.args in
    sound-is (lot a.top.now a.heads.now a.ids.now a.shares.now a.minima.now) (lent (lot a.top.now a.heads.now a.ids.now a.shares.now a.minima.now)) c.sound_number-2.result (sym c.codes_ok.ensures ∙ c.if-not-codes_ok.false) refl (c.sound_number-2.ensures (get_or a.top.now 1 0))
