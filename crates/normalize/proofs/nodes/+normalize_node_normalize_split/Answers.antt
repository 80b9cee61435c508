-- The cycle of `normalize::nodes::normalize_node` and `normalize_split`. Each answer hands paths to a law of WalkLaws. Assumes nothing.
use mathlib.Core.Path.{refl, sym, ap, ◌∙◌}
use mathlib.Core.Bool.{Bool, true, false}
use mathlib.Core.List.{List, []}
use Prim.Native.Nat.{ℕ}
use native.Mathlib.Omega.{arith}
use lib.ListN.{get_or}
use Rattle.rules.specs.Numbers.{zero-f}
use Rattle.rules.specs.Repair.{entry}
use Rattle.rules.specs.Tree.{tile, ids, reals}
use Rattle.sifting.specs.Work.{cols}
use Rattle.columns.specs.Columns.{node_by}
use Rattle.melting.specs.Splits.{kids_in}
use Rattle.normalize.proofs.WalkLaws.{slot_is, gone-out, gone-claimed, gone-empty, dropped, context, start, child-read, share-read, minimum-read, falls-by, room_for, room-end, too_wide, room-placed, too_many, one_more, all_done}
use Rattle.normalize.proofs.nodes.+normalize_node_normalize_split.Goals as goal

pub normalize_node-gone-requires : goal.normalize_node-gone-requires
normalize_node-gone-requires t c = omega (arith, c.requires.listing)

pub normalize_node-returns-then-id-ge64 : goal.normalize_node-returns-then-id-ge64
normalize_node-returns-then-id-ge64 t c =
    let x = c.args in
    dropped x.heads.now x.ids.now x.shares.now x.minima.now x.claimed.now x.seen.now x.acts.now x.c x.id
    c.requires.sized c.requires.listing c.gone.new.acts c.gone.result.kept c.gone.result.counts c.gone.ensures
    (λ w W f. gone-out (tile x.id) w c.if-id-ge64.true f)

pub normalize_node-gone-requires-then-claimed-i : goal.normalize_node-gone-requires-then-claimed-i
normalize_node-gone-requires-then-claimed-i t c = omega (arith, c.requires.listing)

pub normalize_node-returns-then-claimed-i : goal.normalize_node-returns-then-claimed-i
normalize_node-returns-then-claimed-i t c =
    let x = c.args in
    dropped x.heads.now x.ids.now x.shares.now x.minima.now x.claimed.now x.seen.now x.acts.now x.c x.id
    c.requires.sized c.requires.listing c.gone-then-claimed-i.new.acts c.gone-then-claimed-i.result.kept c.gone-then-claimed-i.result.counts c.gone-then-claimed-i.ensures
    (λ w W f. gone-claimed (tile x.id) w c.if-id-ge64.false (ap (λ (fs : List Bool). get_or fs x.id false) W.claimed ∙ c.if-claimed-i.true) f)

pub normalize_node-gone-requires-in-0 : goal.normalize_node-gone-requires-in-0
normalize_node-gone-requires-in-0 t c = omega (arith, c.requires.listing)

pub normalize_node-returns-in-0 : goal.normalize_node-returns-in-0
normalize_node-returns-in-0 t c =
    let x = c.args in
    let h = get_or x.heads.now x.id [] in
    let here = cols x.heads.now x.ids.now x.shares.now x.minima.now x.claimed.now x.seen.now x.acts.now x.c in
    dropped x.heads.now x.ids.now x.shares.now x.minima.now x.claimed.now x.seen.now x.acts.now x.c x.id
    c.requires.sized c.requires.listing c.gone-in-0.new.acts c.gone-in-0.result.kept c.gone-in-0.result.counts c.gone-in-0.ensures
    (λ w W f. gone-empty (tile x.id) w c.if-id-ge64.false (ap (λ (fs : List Bool). get_or fs x.id false) W.claimed ∙ c.if-claimed-i.false)
    (slot_is here c.requires.sized w W x.id ∙ ap (λ (i : ℕ). node_by i h (get_or x.ids.now x.id []) (get_or x.shares.now x.id []) (get_or x.minima.now x.id [])) c.in-0.is) f)

pub normalize_node-pane_step-requires : goal.normalize_node-pane_step-requires
normalize_node-pane_step-requires t c =
    let S = c.requires.sized in
    record {
      slot = record { inside = c.if-id-ge64.false; heads = S.heads; flags = S.flags; unclaimed = c.if-claimed-i.false; panes = S.panes; listing = c.requires.listing };
      pane = c.in-1.is;
    }

pub normalize_node-returns-in-1 : goal.normalize_node-returns-in-1
normalize_node-returns-in-1 t c =
    c.pane_step.ensures c.args.ids.now c.args.shares.now c.args.minima.now c.requires.sized

pub normalize_node-group_step-requires : goal.normalize_node-group_step-requires
normalize_node-group_step-requires t c =
    let S = c.requires.sized in
    record {
      slot = record { inside = c.if-id-ge64.false; heads = S.heads; flags = S.flags; unclaimed = c.if-claimed-i.false; panes = S.panes; listing = c.requires.listing };
      group = c.in-2.is;
      few = (S.slim c.args.id).0;
    }

pub normalize_node-returns-in-2 : goal.normalize_node-returns-in-2
normalize_node-returns-in-2 t c =
    c.group_step.ensures c.args.shares.now c.args.minima.now c.requires.sized

pub normalize_node-normalize_split-requires : goal.normalize_node-normalize_split-requires
normalize_node-normalize_split-requires t c =
    (omega arith, (c.requires.sized, (c.requires.listing, (c.if-id-ge64.false, (c.if-claimed-i.false, omega arith)))))

pub normalize_node-returns-in_default : goal.normalize_node-returns-in_default
normalize_node-returns-in_default t c = c.normalize_split.ensures

pub normalize_split-open_split-o-requires : goal.normalize_split-open_split-o-requires
normalize_split-open_split-o-requires t c =
    let p = c.requires in
    record { inside = p.inside; slim = p.sized.slim c.args.id; unclaimed = p.unclaimed; listing = p.listing; split = p.split }

pub normalize_split-loop-j-init : goal.normalize_split-loop-j-init
normalize_split-loop-j-init t c = λ C₀ X. start X _ _ _

pub normalize_split-normalize_node-w-requires : goal.normalize_split-normalize_node-w-requires
normalize_split-normalize_node-w-requires t c =
    let x = c.args in
    let p = c.requires in
    let X = context p.sized p.listing p.inside p.unclaimed (c.open_split-o.ensures.opens x.seen.now p.sized) in
    let G = c.loop-j.invariant _ X in
    (omega (arith, falls-by X G), (G.sized, omega (arith, room_for X G c.loop-j-test.true)))

pub normalize_split-returns-then-is_wide : goal.normalize_split-returns-then-is_wide
normalize_split-returns-then-is_wide t c =
    let x = c.args in
    let p = c.requires in
    let X = context p.sized p.listing p.inside p.unclaimed (c.open_split-o.ensures.opens x.seen.now p.sized) in
    let G = c.loop-j.invariant _ X in
    let r = c.normalize_node-w in
    let E₁ = cols r.new.heads r.new.ids r.new.shares r.new.minima r.new.claimed r.new.seen r.new.acts r.result.counts in
    too_wide X G c.loop-j-test.true (get_or c.open_split-o.result.rows.children.at c.loop-j.j 0) (child-read X c.loop-j.j c.loop-j-test.true) E₁ r.result.kept r.ensures (sym c.is_wide.ensures ∙ c.if-is_wide.true)

pub normalize_split-place-requires-clause-tally : goal.normalize_split-place-requires-clause-tally
normalize_split-place-requires-clause-tally t c =
    let x = c.args in
    let p = c.requires in
    let X = context p.sized p.listing p.inside p.unclaimed (c.open_split-o.ensures.opens x.seen.now p.sized) in
    (c.loop-j.invariant _ X).even.few

pub normalize_split-returns-in_default : goal.normalize_split-returns-in_default
normalize_split-returns-in_default t c =
    let x = c.args in
    let p = c.requires in
    let X = context p.sized p.listing p.inside p.unclaimed (c.open_split-o.ensures.opens x.seen.now p.sized) in
    let G = c.loop-j.invariant _ X in
    let r = c.normalize_node-w in
    let lt = c.loop-j-test.true in
    let narrow = sym c.is_wide.ensures ∙ c.if-is_wide.false in
    let E₁ = cols r.new.heads r.new.ids r.new.shares r.new.minima r.new.claimed r.new.seen r.new.acts r.result.counts in
    let q = c.place.new in
    let u = c.loop-j.tally in
    let o = c.open_split-o.result in
    let E = rw c.in_default.is at c.place.ensures in
    too_many X G lt (get_or o.rows.children.at c.loop-j.j 0) (child-read X c.loop-j.j lt) E₁ r.result.kept r.ensures narrow (cols q.heads r.new.ids r.new.shares r.new.minima r.new.claimed r.new.seen q.acts r.result.counts) (kids_in q.cs q.ss q.ms u.len u.moved) true
    (E.1 r.new.claimed r.new.seen
    (entry (tile (get_or (ids o.rows.children) c.loop-j.j 0)) (get_or (reals o.rows.shares) c.loop-j.j zero-f) (get_or (reals o.rows.minima) c.loop-j.j zero-f))
    (share-read X c.loop-j.j lt) (minimum-read X c.loop-j.j lt) r.ensures.sized
    (room-placed X G lt (get_or o.rows.children.at c.loop-j.j 0) (child-read X c.loop-j.j lt) E₁ r.result.kept r.ensures)) refl

pub normalize_split-loop-j-preserved : goal.normalize_split-loop-j-preserved
normalize_split-loop-j-preserved t c =
    λ C₀ X.
    let G = c.loop-j.invariant _ X in
    let r = c.normalize_node-w in
    let lt = c.loop-j-test.true in
    let narrow = sym c.is_wide.ensures ∙ c.if-is_wide.false in
    let E₁ = cols r.new.heads r.new.ids r.new.shares r.new.minima r.new.claimed r.new.seen r.new.acts r.result.counts in
    let q = c.place.new in
    let u = c.in-Some.p in
    let o = c.open_split-o.result in
    one_more X G lt (get_or o.rows.children.at c.loop-j.j 0) (child-read X c.loop-j.j lt) E₁ r.result.kept r.ensures narrow (cols q.heads r.new.ids r.new.shares r.new.minima r.new.claimed r.new.seen q.acts u.counts) (kids_in q.cs q.ss q.ms u.tally.len u.tally.moved) false
    (c.in-Some.ensures.1 r.new.claimed r.new.seen
    (entry (tile (get_or (ids o.rows.children) c.loop-j.j 0)) (get_or (reals o.rows.shares) c.loop-j.j zero-f) (get_or (reals o.rows.minima) c.loop-j.j zero-f))
    (share-read X c.loop-j.j lt) (minimum-read X c.loop-j.j lt) r.ensures.sized
    (room-placed X G lt (get_or o.rows.children.at c.loop-j.j 0) (child-read X c.loop-j.j lt) E₁ r.result.kept r.ensures)) refl

pub normalize_split-split_done-requires : goal.normalize_split-split_done-requires
normalize_split-split_done-requires t c =
    let x = c.args in
    let p = c.requires in
    let X = context p.sized p.listing p.inside p.unclaimed (c.open_split-o.ensures.opens x.seen.now p.sized) in
    let G = c.loop-j.invariant _ X in
    let Z = G.sized in
    record { inside = p.inside; tally = G.even.few; given = X.opens.few; listing = omega (arith, Z.listing) }

pub normalize_split-returns : goal.normalize_split-returns
normalize_split-returns t c =
    let x = c.args in
    let p = c.requires in
    let X = context p.sized p.listing p.inside p.unclaimed (c.open_split-o.ensures.opens x.seen.now p.sized) in
    let G = c.loop-j.invariant _ X in
    let r = c.split_done in
    let l = c.loop-j in
    all_done X G c.loop-j-test.false
    (cols r.new.heads r.new.ids r.new.shares r.new.minima l.claimed l.seen r.new.acts r.result.counts) r.result.kept
    (r.ensures l.claimed l.seen G.sized (room-end X G))
