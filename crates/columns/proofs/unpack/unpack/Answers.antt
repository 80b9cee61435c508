-- `columns::unpack::unpack` fills the four columns slot by slot. Assumes nothing.
use native.Mathlib.Omega.{arith}
use mathlib.Core.Path.{◌≡◌}
use lib.ListN.{length}
use Rattle.columns.specs.PackLaws.{unpacking-none, unpacking-more, unpacking-all}
use borrow.Author.Rules.{rules}
use Rattle.columns.proofs.unpack.unpack.Goals as goal

pub loop-i-init : goal.loop-i-init
loop-i-init c =
    let l : length c.args.slots ≡ 64 = search rules in
    unpacking-none c.args.slots l c.args.heads.now c.args.ids.now c.args.shares.now c.args.minima.now c.told-heads c.told-ids c.told-shares c.told-minima

pub loop-i-preserved : goal.loop-i-preserved
loop-i-preserved c =
    let v = c.loop-i.invariant in
    let n = c.put.new in
    unpacking-more c.args.slots v.size c.loop-i.heads c.loop-i.ids c.loop-i.shares c.loop-i.minima c.loop-i.i _ n.heads n.ids n.shares n.minima v (omega arith) c.put.ensures

pub returns : goal.returns
returns c =
    let v = c.loop-i.invariant in
    unpacking-all c.args.slots v.size c.loop-i.heads c.loop-i.ids c.loop-i.shares c.loop-i.minima c.loop-i.i v (omega arith)
