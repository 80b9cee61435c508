-- `frame::sorting::sorted`: the items passed, one by one. Assumes nothing.
use mathlib.Core.Path.{◌≡◌}
use mathlib.Core.List.{List}
use Rattle.std.proofs.Common.{Option}
use Rattle.rules.specs.Frame.{Item}
use Rattle.streaming.specs.declared.stream.Entry.{Entry}
use Rattle.streaming.specs.Stream.{item_of}
use Rattle.items.specs.Lists.{taken}
use Rattle.items.proofs.Laws.{Going}
use Rattle.frame.proofs.sorting.sorted.Given as goal

abbrev pub invariant-loop-i : goal.invariant-loop-i
invariant-loop-i g l =
    (f : Item → List g.row.T.Denot) → ((e : Entry) (r : Option g.row.T.Denot) → goal.F-post g l.pick e r → taken r ≡ f (item_of e)) → Going f g.row.N l.items l.rects l.n l.initial.at l.at l.len l.i
