-- `tiling_c::tiling_layout_into`: codes that are none, or what the layout answered. Assumes nothing.
use mathlib.Core.Path.{refl, sym, ◌∙◌}
use Rattle.coding.specs.Lent.{lot, lent}
use Rattle.tiling_c.proofs.CallLaws.{lays-good}
use Rattle.crossing.proofs.TidyLaws.{tidy-none, tidy-lent, tidy-plain}
use Rattle.tiling_c.proofs.tiling_layout_into.Goals as goal

pub lay-requires : goal.lay-requires
lay-requires c =
    let a = c.args in
    tidy-plain a.heads.now c.tidy-plain.result a.ids.now a.shares.now a.minima.now c.tidy-plain.ensures (c.told-heads, c.told-ids, c.told-shares, c.told-minima)

pub returns-then-heads_over : goal.returns-then-heads_over
returns-then-heads_over c =
    let a = c.args in
    lays-good (lot a.top.now a.heads.now a.ids.now a.shares.now a.minima.now) a.input.now a.items.now a.rects.now a.out.now (lent (lot a.top.now c.tidy-plain.result a.ids.now a.shares.now a.minima.now)) c.input_of-given.result _ _ _ c.lay.result
    (sym c.codes_ok.ensures ∙ c.if-not-codes_ok.false) (tidy-lent a.heads.now c.tidy-plain.result a.ids.now a.shares.now a.minima.now c.tidy-plain.ensures a.top.now) c.input_of-given.ensures c.lay.ensures

pub lay-requires-2 : goal.lay-requires-2
lay-requires-2 c =
    let a = c.args in
    tidy-plain a.heads.now a.heads.now a.ids.now a.shares.now a.minima.now (tidy-none a.heads.now c.heads_over.result c.heads_over.ensures c.if-heads_over.false) (c.told-heads, c.told-ids, c.told-shares, c.told-minima)

pub returns : goal.returns
returns c =
    let a = c.args in
    lays-good (lot a.top.now a.heads.now a.ids.now a.shares.now a.minima.now) a.input.now a.items.now a.rects.now a.out.now (lent (lot a.top.now a.heads.now a.ids.now a.shares.now a.minima.now)) c.input_of-given.result _ _ _ c.lay-2.result
    (sym c.codes_ok.ensures ∙ c.if-not-codes_ok.false) refl c.input_of-given.ensures c.lay-2.ensures
