-- `layout::whole::layout_columns`: refused, or the items of the rule. Assumes nothing.
use mathlib.Core.Path.{sym, ◌∙◌}
use Rattle.columns.specs.Shown.{arena_from}
use Rattle.settling.proofs.PlainLaws.{plain-long}
use Rattle.layout.proofs.WholeLaws.{not_sound, bad-input, accepted}
use Rattle.layout.proofs.whole.layout_columns.Goals as goal

pub returns-then-not-sound_columns : goal.returns-then-not-sound_columns
returns-then-not-sound_columns c =
    let x = c.args in
    not_sound (arena_from x.root x.revision x.heads.now x.ids.now x.shares.now x.minima.now) x.input x.items.now x.rects.now c.refused.result
    (sym (c.sound_columns.ensures x.revision) ∙ c.if-not-sound_columns.true) c.refused.ensures

pub returns-then-not-input_ok : goal.returns-then-not-input_ok
returns-then-not-input_ok c =
    let x = c.args in
    bad-input (arena_from x.root x.revision x.heads.now x.ids.now x.shares.now x.minima.now) x.input x.items.now x.rects.now c.refused-then-not-input_ok.result
    (sym (c.sound_columns.ensures x.revision) ∙ c.if-not-sound_columns.false)
    (sym c.input_ok.ensures ∙ c.if-not-input_ok.true) c.refused-then-not-input_ok.ensures

pub place-len-requires : goal.place-len-requires
place-len-requires c =
    record { plain = c.requires; sound = sym (c.sound_columns.ensures 0) ∙ c.if-not-sound_columns.false }

pub returns : goal.returns
returns c =
    let x = c.args in
    accepted (arena_from x.root x.revision x.heads.now x.ids.now x.shares.now x.minima.now) x.input x.items.now x.rects.now
    (plain-long x.heads.now x.ids.now x.shares.now x.minima.now c.requires) (sym (c.sound_columns.ensures x.revision) ∙ c.if-not-sound_columns.false)
    (sym c.input_ok.ensures ∙ c.if-not-input_ok.false) c.told-items c.told-rects c.plus_input-plain.result c.plus_input-plain.ensures
    _ _ c.place-len.result c.place-len.ensures
