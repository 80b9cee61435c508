-- `settling::settle::settle` meets its contract: the walk from the root, and what each of its ends is made into. Assumes nothing.
use Rattle.std.specs.Prelude.{Ok, Err}
use Rattle.rules.specs.declared.refusal.Refusal.TheVariants.{TooWide}
use mathlib.Core.Path.{refl}
use native.Mathlib.Omega.{arith}
use Rattle.settling.proofs.StartLaws.{start-sized}
use Rattle.settling.proofs.PlainLaws.{slim-heads}
use Rattle.settling.proofs.SettleLaws.{room-left, ends-kept, ends-gone, ends-wide}
use Rattle.settling.proofs.settle.settle.Goals as goal

pub normalize_node-w-requires : goal.normalize_node-w-requires
normalize_node-w-requires c =
    let x = c.args in
    record { sized = start-sized x.heads.now x.ids.now x.shares.now x.minima.now _ _ c.told-heads c.told-ids c.told-shares c.told-minima (slim-heads x.heads.now c.requires.whole); listing = omega arith }

pub finish-requires : goal.finish-requires
finish-requires c =
    room-left _ c.normalize_node-w.ensures.sized

pub plant-requires : goal.plant-requires
plant-requires c =
    room-left _ c.normalize_node-w.ensures.sized

pub returns-in-At : goal.returns-in-At
returns-in-At c =
    let x = c.args in
    ends-kept x.root x.heads.now x.ids.now x.shares.now x.minima.now c.requires.plain _ _ _ c.normalize_node-w.result.kept c.normalize_node-w.ensures x.spare _ _ (Ok c.finish.result) c.in-At.top c.in-At.is c.finish.ensures

pub returns-in-Gone : goal.returns-in-Gone
returns-in-Gone c =
    let x = c.args in
    ends-gone x.root x.heads.now x.ids.now x.shares.now x.minima.now c.requires.plain _ _ _ c.normalize_node-w.result.kept c.normalize_node-w.ensures x.spare _ _ c.plant.result c.in-Gone.is c.plant.ensures

pub returns-in-Wide : goal.returns-in-Wide
returns-in-Wide c =
    let x = c.args in
    ends-wide x.root x.heads.now x.ids.now x.shares.now x.minima.now c.requires.plain _ _ _ c.normalize_node-w.result.kept c.normalize_node-w.ensures x.spare _ _ (Err TooWide) c.in-Wide.is (record { answer = refl; count = refl })
