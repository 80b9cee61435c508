-- `melting::rows::melt_kids` mends the lists, and melts them in where there is room. Assumes nothing.
use Rattle.melting.proofs.SplitLaws.{lent-in, melt-over, melt-fits}
use Rattle.melting.proofs.rows.melt_kids.Goals as goal

pub returns-then-n-m-gt16 : goal.returns-then-n-m-gt16
returns-then-n-m-gt16 c =
    let m = c.mended-sub in
    let a = c.args in
    melt-over a.cs.now a.ss.now a.ms.now a.t.len a.t.moved a.given m.result a.share (lent-in a.cs.now a.ss.now a.ms.now a.t.len a.t.moved c.told-cs c.told-ss c.told-ms c.requires.tally) m.ensures c.if-n-m-gt16.true

pub returns : goal.returns
returns c =
    let m = c.mended-sub in
    let a = c.args in
    melt-fits a.cs.now a.ss.now a.ms.now a.t.len a.t.moved a.given m.result a.share (lent-in a.cs.now a.ss.now a.ms.now a.t.len a.t.moved c.told-cs c.told-ss c.told-ms c.requires.tally) m.ensures
    c.melt_all.new.cs c.melt_all.new.ss c.melt_all.new.ms c.melt_all.ensures
