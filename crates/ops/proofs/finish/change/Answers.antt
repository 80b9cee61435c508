-- `ops::finish::change` adds one to the revision and repairs, or refuses. Assumes nothing.
use mathlib.Core.Path.{refl, sym, ap, ◌∙◌}
use Prim.Native.Nat.{suc, ◌<◌}
use native.Mathlib.Omega.{arith}
use native.Mathlib.Numerals.{add-one}
use Rattle.rules.specs.Tree.{Arena}
use Rattle.rules.specs.Operations.{accepted, last-revision}
use Rattle.docking.proofs.FinishLaws.{last-refused, change-taken, change-refused}
use Rattle.columns.specs.Shown.{arena_from}
use Rattle.columns.specs.RowLaws.{even-plain, plain-even}
use Rattle.docking.proofs.TakenLaws.{exits}
use Rattle.ops.proofs.WholeLaws.{comes-on}
use Rattle.ops.proofs.finish.change.Goals as goal

pub returns-then-revision-eq18446744073709551615 : goal.returns-then-revision-eq18446744073709551615
returns-then-revision-eq18446744073709551615 c =
    let x = c.args in
    λ a s e M. last-refused x.heads.now x.ids.now x.shares.now x.minima.now c.requires a s x.to.root x.to.spare M (e ∙ c.if-revision-eq18446744073709551615.true)

pub settle-requires : goal.settle-requires
settle-requires c =
    let x = c.args in
    record { plain = even-plain x.heads.now x.ids.now x.shares.now x.minima.now c.requires; whole = c.requires.whole }

pub returns : goal.returns
returns c =
    let x = c.args in
    let S = c.in_ok-done.ensures in
    let lt : x.revision < last-revision = omega (arith, c.if-revision-eq18446744073709551615.false) in
    λ a s e M.
    let k = S.right (suc a.revision) M.change.free M.inside (c.number_of-spare.ensures M.change.free M.first) in
    let F = change-taken x.heads.now x.ids.now x.shares.now x.minima.now c.requires a s x.to.root x.to.spare M (omega (arith, lt, e)) (sym k.answer) in
    (F ∙ ap (λ (b : Arena). accepted b) (k.tree refl ∙ (λ z. arena_from c.in_ok-done.done.root ((ap suc e ∙ sym (add-one x.revision)) z) c.settle.new.heads c.settle.new.ids c.settle.new.shares c.settle.new.minima)), plain-even _ _ _ _ (S.left.plain refl) (S.left.whole refl))

pub returns-in_err-done : goal.returns-in_err-done
returns-in_err-done c =
    let x = c.args in
    let S = c.in_err-done.ensures in
    let lt : x.revision < last-revision = omega (arith, c.if-revision-eq18446744073709551615.false) in
    λ a s e M.
    let k = S.right (suc a.revision) M.change.free M.inside (c.number_of-spare.ensures M.change.free M.first) in
    comes-on a _ _ _ _ _ c.from_residual.result _ (exits c.from_residual.result c.from_residual.ensures.1) (change-refused x.heads.now x.ids.now x.shares.now x.minima.now c.requires a s x.to.root x.to.spare M (omega (arith, lt, e)) _ (sym k.answer))
