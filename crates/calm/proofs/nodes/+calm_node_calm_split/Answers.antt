-- `calm::nodes::calm_node` is the rule `calm`, and `calm_split` the rule of its name: fuel falls from tile to tile. Assumes nothing.
use mathlib.Core.Path.{ap, subst, ◌∙◌}
use mathlib.Core.List.{[]}
use Prim.Native.Nat.{ℕ}
use native.Mathlib.Nat.{pos_of_ne-zero}
use native.Mathlib.Omega.{arith}
use lib.ListN.{take, get_or}
use Rattle.std.specs.Prelude.{Result}
use Rattle.rules.specs.Tree.{Node, empty, pane, tile}
use Rattle.columns.specs.Columns.{axis_from, node_by, nodes_from}
use Rattle.columns.specs.ColumnLaws.{nodes-at, split-of}
use Rattle.calm.specs.Calm.{look, calm}
use Rattle.calm.specs.Reads.{Reads}
use Rattle.calm.proofs.Laws.{hands-on}
use Rattle.calm.proofs.NodeLaws.{calm-zero, calm-out, calm-claimed, calm-at, ends, one_less, pane-read, group-read, split-read, split-mends, kid-stops, kid-melts, kid-stays, kids-done}
use Rattle.calm.proofs.nodes.+calm_node_calm_split.Goals as goal

pub calm_node-returns-then-depth-eq0 : goal.calm_node-returns-then-depth-eq0
calm_node-returns-then-depth-eq0 t c =
    let x = c.args in
    ends _ x.claimed.now x.claimed.now x.n x.seen.now x.n (calm-zero (nodes_from x.heads.now x.ids.now x.shares.now x.minima.now) x.id x.claimed.now (take x.n x.seen.now) x.depth c.if-depth-eq0.true) c.told-claimed (omega arith)

pub calm_node-returns-then-id-ge64 : goal.calm_node-returns-then-id-ge64
calm_node-returns-then-id-ge64 t c =
    let x = c.args in
    ends _ x.claimed.now x.claimed.now x.n x.seen.now x.n (calm-out (nodes_from x.heads.now x.ids.now x.shares.now x.minima.now) x.id x.claimed.now (take x.n x.seen.now) c.if-id-ge64.true x.depth) c.told-claimed (omega arith)

pub calm_node-returns-then-claimed-i : goal.calm_node-returns-then-claimed-i
calm_node-returns-then-claimed-i t c =
    let x = c.args in
    ends _ x.claimed.now x.claimed.now x.n x.seen.now x.n (calm-claimed (nodes_from x.heads.now x.ids.now x.shares.now x.minima.now) x.id x.claimed.now (take x.n x.seen.now) c.if-id-ge64.false c.if-claimed-i.true x.depth) c.told-claimed (omega arith)

pub calm_node-returns-then-kind-eq0 : goal.calm_node-returns-then-kind-eq0
calm_node-returns-then-kind-eq0 t c =
    let x = c.args in
    let ns = nodes_from x.heads.now x.ids.now x.shares.now x.minima.now in
    let h = get_or x.heads.now x.id [] in
    let inside = c.if-id-ge64.false in
    let open-yet = c.if-claimed-i.false in
    let deep = pos_of_ne-zero c.if-depth-eq0.false in
    let is = nodes-at x.heads.now x.ids.now x.shares.now x.minima.now c.told-heads c.told-ids c.told-shares c.told-minima x.id in
    let by : ℕ → Node = λ k. node_by k h (get_or x.ids.now x.id []) (get_or x.shares.now x.id []) (get_or x.minima.now x.id []) in
    ends _ x.claimed.now x.claimed.now x.n x.seen.now x.n (calm-at ns x.id x.claimed.now (take x.n x.seen.now) inside open-yet empty (is ∙ ap by c.if-kind-eq0.true) x.depth deep) c.told-claimed (omega arith)

pub calm_node-calm_pane-requires : goal.calm_node-calm_pane-requires
calm_node-calm_pane-requires t c =
    let x = c.args in
    omega (arith, c.requires.room, one_less x.claimed.now x.id c.told-claimed c.if-id-ge64.false c.if-claimed-i.false x.seen.now x.n)

pub calm_node-returns-then-kind-eq1 : goal.calm_node-returns-then-kind-eq1
calm_node-returns-then-kind-eq1 t c =
    let x = c.args in
    let ns = nodes_from x.heads.now x.ids.now x.shares.now x.minima.now in
    let h = get_or x.heads.now x.id [] in
    let inside = c.if-id-ge64.false in
    let open-yet = c.if-claimed-i.false in
    let deep = pos_of_ne-zero c.if-depth-eq0.false in
    let is = nodes-at x.heads.now x.ids.now x.shares.now x.minima.now c.told-heads c.told-ids c.told-shares c.told-minima x.id in
    let by : ℕ → Node = λ k. node_by k h (get_or x.ids.now x.id []) (get_or x.shares.now x.id []) (get_or x.minima.now x.id []) in
    pane-read x.claimed.now x.id c.told-claimed inside open-yet x.seen.now x.n (get_or h 2 0) c.calm_pane.new.seen c.calm_pane.result c.calm_pane.ensures _
    (calm-at ns x.id x.claimed.now (take x.n x.seen.now) inside open-yet (pane (get_or h 2 0)) (is ∙ ap by c.if-kind-eq1.true) x.depth deep)

pub calm_node-calm_group-requires-clause-room : goal.calm_node-calm_group-requires-clause-room
calm_node-calm_group-requires-clause-room t c =
    let x = c.args in
    omega (arith, c.requires.room, one_less x.claimed.now x.id c.told-claimed c.if-id-ge64.false c.if-claimed-i.false x.seen.now x.n)

pub calm_node-returns-then-kind-eq2 : goal.calm_node-returns-then-kind-eq2
calm_node-returns-then-kind-eq2 t c =
    let x = c.args in
    let ns = nodes_from x.heads.now x.ids.now x.shares.now x.minima.now in
    let h = get_or x.heads.now x.id [] in
    let inside = c.if-id-ge64.false in
    let open-yet = c.if-claimed-i.false in
    let deep = pos_of_ne-zero c.if-depth-eq0.false in
    let is = nodes-at x.heads.now x.ids.now x.shares.now x.minima.now c.told-heads c.told-ids c.told-shares c.told-minima x.id in
    let by : ℕ → Node = λ k. node_by k h (get_or x.ids.now x.id []) (get_or x.shares.now x.id []) (get_or x.minima.now x.id []) in
    group-read x.claimed.now x.id c.told-claimed inside open-yet x.seen.now x.n h (get_or x.ids.now x.id []) c.calm_group.new.seen c.calm_group.result c.calm_group.ensures _
    (calm-at ns x.id x.claimed.now (take x.n x.seen.now) inside open-yet _ (is ∙ ap by c.if-kind-eq2.true) x.depth deep)

pub calm_node-calm_split-requires : goal.calm_node-calm_split-requires
calm_node-calm_split-requires t c =
    let x = c.args in
    let deep = pos_of_ne-zero c.if-depth-eq0.false in
    let less = one_less x.claimed.now x.id c.told-claimed c.if-id-ge64.false c.if-claimed-i.false x.seen.now x.n in
    (omega (arith, deep), (c.requires.slim, (omega (arith, c.requires.room, less), c.if-id-ge64.false)))

pub calm_node-returns : goal.calm_node-returns
calm_node-returns t c =
    let x = c.args in
    let ns = nodes_from x.heads.now x.ids.now x.shares.now x.minima.now in
    let h = get_or x.heads.now x.id [] in
    let inside = c.if-id-ge64.false in
    let open-yet = c.if-claimed-i.false in
    let deep = pos_of_ne-zero c.if-depth-eq0.false in
    let is = nodes-at x.heads.now x.ids.now x.shares.now x.minima.now c.told-heads c.told-ids c.told-shares c.told-minima x.id in
    let by : ℕ → Node = λ k. node_by k h (get_or x.ids.now x.id []) (get_or x.shares.now x.id []) (get_or x.minima.now x.id []) in
    split-read x.claimed.now x.id c.told-claimed inside open-yet x.seen.now x.n _ _ _ c.calm_split.result c.calm_split.ensures _
    (calm-at ns x.id x.claimed.now (take x.n x.seen.now) inside open-yet _ (is ∙ split-of (get_or h 0 0) h (get_or x.ids.now x.id []) (get_or x.shares.now x.id []) (get_or x.minima.now x.id []) c.if-kind-eq0.false c.if-kind-eq1.false c.if-kind-eq2.false) x.depth deep)

pub calm_split-returns-then-not-lists_calm : goal.calm_split-returns-then-not-lists_calm
calm_split-returns-then-not-lists_calm t c =
    let x = c.args in
    let ns = nodes_from x.heads.now x.ids.now x.shares.now x.minima.now in
    let h = get_or x.heads.now x.id [] in
    let xs = x.kids.now in
    let ss = get_or x.shares.now x.id [] in
    let ms = get_or x.minima.now x.id [] in
    let a = axis_from (get_or h 1 0) in
    let again = calm x.depth ns in
    let few = (c.requires.slim x.id).0 in
    let ok = c.lists_calm.result in
    let told = c.lists_calm.ensures in
    ends _ x.claimed.now x.claimed.now x.n x.seen.now x.n (split-mends again ns a h xs ss ms few c.told-kids x.claimed.now x.seen.now x.n ok told c.if-not-lists_calm.true) c.told-claimed (omega arith)

pub calm_split-returns-in_err-m : goal.calm_split-returns-in_err-m
calm_split-returns-in_err-m t c =
    let x = c.args in
    let ns = nodes_from x.heads.now x.ids.now x.shares.now x.minima.now in
    let h = get_or x.heads.now x.id [] in
    let xs = x.kids.now in
    let ss = get_or x.shares.now x.id [] in
    let ms = get_or x.minima.now x.id [] in
    let a = axis_from (get_or h 1 0) in
    let again = calm x.depth ns in
    let few = (c.requires.slim x.id).0 in
    let ok = c.lists_calm.result in
    let told = c.lists_calm.ensures in
    let yes = c.if-not-lists_calm.false in
    let w = c.calm_node in
    let k = c.in_err-m.field-0.0 in
    let W = subst (λ (r : Result ℕ ℕ). Reads (again (tile (get_or xs c.loop-j.j 0)) (look c.loop-j.claimed (take c.loop-j.m c.loop-j.seen))) c.loop-j.claimed c.loop-j.m w.new.claimed w.new.seen r) c.in_err-m.was w.ensures in
    kid-stops again ns a h xs ss ms few c.told-kids x.claimed.now x.seen.now x.n ok told yes c.loop-j.claimed c.loop-j.seen c.loop-j.m c.loop-j.j c.loop-j.invariant c.loop-j-test.true w.new.claimed w.new.seen k W c.from_residual.result (hands-on k c.from_residual.result c.from_residual.ensures.1)

pub calm_split-returns-then-melts_in : goal.calm_split-returns-then-melts_in
calm_split-returns-then-melts_in t c =
    let x = c.args in
    let ns = nodes_from x.heads.now x.ids.now x.shares.now x.minima.now in
    let h = get_or x.heads.now x.id [] in
    let xs = x.kids.now in
    let ss = get_or x.shares.now x.id [] in
    let ms = get_or x.minima.now x.id [] in
    let a = axis_from (get_or h 1 0) in
    let again = calm x.depth ns in
    let few = (c.requires.slim x.id).0 in
    let ok = c.lists_calm.result in
    let told = c.lists_calm.ensures in
    let yes = c.if-not-lists_calm.false in
    let w = c.calm_node in
    let W = subst (λ (r : Result ℕ ℕ). Reads (again (tile (get_or xs c.loop-j.j 0)) (look c.loop-j.claimed (take c.loop-j.m c.loop-j.seen))) c.loop-j.claimed c.loop-j.m w.new.claimed w.new.seen r) c.in_ok-m.was w.ensures in
    kid-melts again ns a h xs ss ms few c.told-kids x.claimed.now x.seen.now x.n ok told yes c.loop-j.claimed c.loop-j.seen c.loop-j.m c.loop-j.j c.loop-j.invariant c.loop-j-test.true w.new.claimed w.new.seen c.in_ok-m.m W
    c.minimum_at-minimum.result c.minimum_at-minimum.ensures c.melts_in.result (c.melts_in.ensures x.ids.now x.shares.now x.minima.now c.told-ids c.told-shares c.told-minima) c.if-melts_in.true

pub calm_split-loop-j-preserved : goal.calm_split-loop-j-preserved
calm_split-loop-j-preserved t c =
    let x = c.args in
    let ns = nodes_from x.heads.now x.ids.now x.shares.now x.minima.now in
    let h = get_or x.heads.now x.id [] in
    let xs = x.kids.now in
    let ss = get_or x.shares.now x.id [] in
    let ms = get_or x.minima.now x.id [] in
    let a = axis_from (get_or h 1 0) in
    let again = calm x.depth ns in
    let few = (c.requires.slim x.id).0 in
    let ok = c.lists_calm.result in
    let told = c.lists_calm.ensures in
    let yes = c.if-not-lists_calm.false in
    let w = c.calm_node in
    let W = subst (λ (r : Result ℕ ℕ). Reads (again (tile (get_or xs c.loop-j.j 0)) (look c.loop-j.claimed (take c.loop-j.m c.loop-j.seen))) c.loop-j.claimed c.loop-j.m w.new.claimed w.new.seen r) c.in_ok-m.was w.ensures in
    kid-stays again ns a h xs ss ms few c.told-kids x.claimed.now x.seen.now x.n ok told yes c.loop-j.claimed c.loop-j.seen c.loop-j.m c.loop-j.j c.loop-j.invariant c.loop-j-test.true w.new.claimed w.new.seen c.in_ok-m.m W
    c.minimum_at-minimum.result c.minimum_at-minimum.ensures c.melts_in.result (c.melts_in.ensures x.ids.now x.shares.now x.minima.now c.told-ids c.told-shares c.told-minima) c.if-melts_in.false

pub calm_split-returns : goal.calm_split-returns
calm_split-returns t c =
    let x = c.args in
    let ns = nodes_from x.heads.now x.ids.now x.shares.now x.minima.now in
    let h = get_or x.heads.now x.id [] in
    let xs = x.kids.now in
    let ss = get_or x.shares.now x.id [] in
    let ms = get_or x.minima.now x.id [] in
    let a = axis_from (get_or h 1 0) in
    let again = calm x.depth ns in
    let few = (c.requires.slim x.id).0 in
    let ok = c.lists_calm.result in
    let told = c.lists_calm.ensures in
    let yes = c.if-not-lists_calm.false in
    kids-done again ns a h xs ss ms few c.told-kids x.claimed.now x.seen.now x.n ok told yes c.loop-j.claimed c.loop-j.seen c.loop-j.m c.loop-j.j c.loop-j.invariant c.loop-j-test.false
