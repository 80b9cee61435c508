-- `frame::sorting::sorted`: the items passed, one by one. Assumes nothing.
use mathlib.Core.Path.{◌≡◌, sym, ap, ◌∙◌}
use mathlib.Core.List.{List, []}
use Prim.Native.Nat.{◌≤◌}
use native.Mathlib.Omega.{arith}
use lib.ListN.{length, get_or, replicate, length-replicate}
use Rattle.std.proofs.Common.{Option}
use Rattle.rules.specs.Frame.{Item}
use Rattle.streaming.specs.declared.stream.Entry.{Entry}
use Rattle.streaming.specs.Stream.{item_of, item_from}
use Rattle.items.specs.Lists.{taken}
use Rattle.items.proofs.Laws.{going-none, going-pass, going-full, going-put, going_done}
use Rattle.frame.proofs.sorting.sorted.Goals as goal
use Rattle.frame.proofs.sorting.sorted.Goals.{in-Some+then-len, in-Some+else-len, in_default}

-- what the rule finds in an item, by the entry that was read
found_here : {A : Type 0} (f : Item → List A) (e : Entry) (x : Item) (r : Option A) → item_of e ≡ x → taken r ≡ f (item_of e) → f x ≡ taken r
found_here f e x r p q = ap f (sym p) ∙ sym q

pub loop-i-init : goal.loop-i-init
loop-i-init g c = λ f h. going-none f g.row.N c.args.items.now c.args.rects.now c.args.n (replicate g.row.N c.args.none)

pub loop-i-preserved : goal.loop-i-preserved
loop-i-preserved g c =
    let a = c.args in
    let l = c.loop-i in
    let li : a.n ≤ length a.items.now = omega (arith, c.requires.within) in
    let lr : a.n ≤ length a.rects.now = omega (arith, c.requires.within) in
    let at₀ = replicate g.row.N a.none in λ f h.
    let G = l.invariant f h in
    let found : f (item_from (get_or a.items.now l.i []) (get_or a.rects.now l.i [])) ≡ taken c.pick.result = found_here f c.entry_of-e.result (item_from (get_or a.items.now l.i []) (get_or a.rects.now l.i [])) c.pick.result c.entry_of-e.ensures (h c.entry_of-e.result c.pick.result c.pick.ensures) in
    elim c.match-pick.branch [
      | in-Some+then-len w ↦
          rw (w.at-is, w.len-is) (going-put f g.row.N a.items.now a.rects.now a.n li lr at₀ l.at l.len l.i c.loop-i-test.true G w.in-Some.x (found ∙ ap taken w.in-Some.is) w.if-len.true)
      | in-Some+else-len w ↦
          rw (w.at-is, w.len-is) (going-full f g.row.N a.items.now a.rects.now a.n li lr at₀ l.at l.len l.i c.loop-i-test.true G w.if-len.false)
      | in_default w ↦
          rw (w.at-is, w.len-is) (going-pass f g.row.N a.items.now a.rects.now a.n li lr at₀ l.at l.len l.i c.loop-i-test.true G (found ∙ ap taken w.in_default.is))
    ]

pub returns : goal.returns
returns g c = λ f h.
    let a = c.args in
    let l = c.loop-i in
    going_done f g.row.N a.items.now a.rects.now a.n (replicate g.row.N a.none) l.at l.len l.i (length-replicate g.row.N a.none) c.loop-i-test.false (l.invariant f h)
