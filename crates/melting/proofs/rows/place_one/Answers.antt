-- `melting::rows::place_one` pushes a child where there is room. Assumes nothing.
use mathlib.Core.Path.{refl}
use mathlib.Core.List.{[], ◌∷◌}
use native.Mathlib.Omega.{arith}
use Rattle.rules.specs.Tree.{tile}
use Rattle.rules.specs.Repair.{entry}
use Rattle.melting.specs.Splits.{kids_in}
use Rattle.melting.proofs.SplitLaws.{lent-in, grown-one, fits-over, fits-grown}
use Rattle.melting.proofs.rows.place_one.Goals as goal

pub returns-then-n-ge16 : goal.returns-then-n-ge16
returns-then-n-ge16 c =
    let a = c.args in
    fits-over (entry (tile a.id) a.share a.minimum ∷ []) a.t.moved (kids_in a.cs.now a.ss.now a.ms.now a.t.len a.t.moved) (lent-in a.cs.now a.ss.now a.ms.now a.t.len a.t.moved c.told-cs c.told-ss c.told-ms c.requires) (omega arith)

pub returns : goal.returns
returns c =
    let a = c.args in
    let p = c.push3 in
    fits-grown (entry (tile a.id) a.share a.minimum ∷ []) a.t.moved (kids_in a.cs.now a.ss.now a.ms.now a.t.len a.t.moved)
    (kids_in p.new.cs p.new.ss p.new.ms _ a.t.moved)
    (grown-one a.cs.now a.ss.now a.ms.now a.t.len a.t.moved a.t.moved (lent-in a.cs.now a.ss.now a.ms.now a.t.len a.t.moved c.told-cs c.told-ss c.told-ms c.requires) c.if-n-ge16.false a.id a.share a.minimum
    p.new.cs p.new.ss p.new.ms p.ensures.0 p.ensures.1 p.ensures.2) refl
