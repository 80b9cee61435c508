-- `build::push::push_spec`: the measure is the rows left; the loop has built so many of the children, and says what the rules still do. Assumes nothing.
use Rattle.std.proofs.Common.{ap, arith, ◌<◌, length}
use Rattle.std.proofs.Math.ListN.{length-set}
use Rattle.rules.specs.Table.{pane_row, children_used}
use Rattle.table.specs.Row.{row_is}
use Rattle.table.specs.Rows.{row_from, rows_at}
use Rattle.checks.specs.Entries.{length-entries}
use Rattle.build.specs.PushLaws.{pushed_none, row-narrow}
use Rattle.build.specs.PushLoop.{fill_start, fill_more, fill_end}
use Rattle.build.proofs.push.+push_spec.Goals as goal

pub returns-then-t-at : goal.returns-then-t-at
returns-then-t-at t c = grind (arith, pushed_none, length-entries c.args.b.now c.args.t.rows row_from)

pub loop-j-init : goal.loop-j-init
loop-j-init t c =
    let a = c.args in
    let rows = rows_at a.b.now a.t in
    let there : a.at < length rows = omega (arith, length-entries a.b.now a.t.rows row_from) in
    (omega (arith, row-narrow rows a.at pane_row there c.requires.narrow, ap children_used c.known_row.ensures), fill_start rows a.at c.children_used-n.result a.kids.now there c.requires.size)

pub push_spec-next-requires : goal.push_spec-next-requires
push_spec-next-requires t c =
    let pre = c.requires in
    let w = c.loop-j.invariant.1 in
    let rows = length-entries c.args.b.now c.args.t.rows row_from in
    (omega (arith, rows, w.low, w.high), record { placed = pre.placed; few = pre.few; narrow = pre.narrow; within = omega (arith, rows, w.high); size = simp length-set w.size })

pub loop-j-preserved : goal.loop-j-preserved
loop-j-preserved t c =
    let a = c.args in
    let l = c.loop-j in
    (l.invariant.0, fill_more (rows_at a.b.now a.t) a.at c.children_used-n.result a.kids.now l.kids _ l.j l.next c.push_spec-next.result l.invariant.1 c.loop-j-test.true l.invariant.0 (omega arith) c.requires.narrow c.push_spec-next.ensures)

pub returns : goal.returns
returns t c =
    let a = c.args in
    let l = c.loop-j in
    let there : a.at < length (rows_at a.b.now a.t) = omega (arith, length-entries a.b.now a.t.rows row_from) in
    fill_end (rows_at a.b.now a.t) a.at c.children_used-n.result a.kids.now l.kids l.j l.next (row_is c.known_row.result) l.invariant.1 (omega arith) there c.known_row.ensures c.children_used-n.ensures
