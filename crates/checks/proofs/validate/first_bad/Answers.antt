-- `checks::validate::first_bad`: a search for a real that is not good. Assumes nothing.
use Rattle.std.proofs.Common.{arith, Float, not, sym, ap, ◌∙◌, take, drop}
use Rattle.rules.specs.Numbers.{zero-f}
use Rattle.lists.specs.Find.{passed_none}
use Rattle.table.specs.Rows.{reals_at}
use Rattle.checks.specs.Entries.{reals-part}
use Rattle.checks.specs.CheckLaws.{part-found, part-more, part_none}
use Rattle.checks.proofs.validate.first_bad.Goals as goal

pub loop-i-init : goal.loop-i-init
loop-i-init g c = let a = c.args in (omega arith, passed_none (λ (x : Float). not (g.test x)) (take a.n (drop a.from (reals_at a.b.now a.reals))))

pub returns-then-not-good : goal.returns-then-not-good
returns-then-not-good g c =
    let a = c.args in
    let r = c.requires.1.1 in
    part-found (λ (x : Float). not (g.test x)) (reals_at a.b.now a.reals) a.from a.n (reals-part a.b.now a.reals a.from a.n r.0) zero-f c.loop-i.i c.loop-i-test.true _ c.real_at.ensures
    (ap not (sym (r.1.1 _ _ c.good.ensures) ∙ c.if-not-good.true)) c.loop-i.invariant.1

pub loop-i-preserved : goal.loop-i-preserved
loop-i-preserved g c =
    let a = c.args in
    let r = c.requires.1.1 in (
      omega arith,
      part-more (λ (x : Float). not (g.test x)) (reals_at a.b.now a.reals) a.from a.n (reals-part a.b.now a.reals a.from a.n r.0) zero-f c.loop-i.i c.loop-i-test.true _ c.real_at.ensures
          (ap not (sym (r.1.1 _ _ c.good.ensures) ∙ c.if-not-good.false)) c.loop-i.invariant.1,
    )

pub returns : goal.returns
returns g c =
    let a = c.args in
    part_none (λ (x : Float). not (g.test x)) (reals_at a.b.now a.reals) a.from a.n (reals-part a.b.now a.reals a.from a.n c.requires.1.1.0) zero-f c.loop-i.i c.loop-i-test.false c.loop-i.invariant.1
