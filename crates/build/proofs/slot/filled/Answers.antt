-- `build::slot::filled`: a fresh list is filled from its front. Assumes nothing.
use Rattle.std.proofs.Common.{arith, ap, replicate, sym, ◌∙◌}
use Rattle.rules.specs.Lists.{tabulate}
use Rattle.lists.specs.Exact.{pad_to}
use Rattle.lists.specs.Places.{length-tabulate, tabulate-at}
use Rattle.lists.specs.Build.{building-start, building-more, building-done}
use Rattle.build.proofs.slot.filled.Goals as goal

pub loop-j-init : goal.loop-j-init
unfolding pad_to
loop-j-init g c = building-start g.T.Blank.blank (tabulate g.nth c.args.n) _ c.args.n (sym (length-tabulate g.nth c.args.n)) (omega arith) (ap (λ x. replicate 16 x) c.blank-at.ensures)

pub loop-j-preserved : goal.loop-j-preserved
loop-j-preserved g c =
    building-more g.T.Blank.blank (tabulate g.nth c.args.n) _ c.args.n c.loop-j.j _ c.loop-j.invariant c.loop-j-test.true
    (c.requires.1.1.1.1.1 _ _ c.loop-j-test.true c.entry.ensures ∙ sym (tabulate-at g.nth c.args.n c.loop-j.j g.T.Blank.blank c.loop-j-test.true))

pub returns : goal.returns
returns g c = building-done g.T.Blank.blank (tabulate g.nth c.args.n) _ c.args.n c.loop-j.j c.loop-j.invariant (omega arith)
