-- `util::shares::mended` fills a fresh list with mended shares. Assumes nothing.
use mathlib.Core.Path.{◌≡◌, refl, sym, ap, ◌∙◌}
use mathlib.Core.List.{map}
use Prim.Native.Nat.{◌≤◌, ◌<◌}
use native.Mathlib.Omega.{arith}
use borrow.Author.Rules.{rules}
use lib.ListN.{length, get_or, length-map}
use lib.Ieee.{of_bits, nan}
use Rattle.rules.specs.Numbers.{zero-f}
use Rattle.rules.specs.Tree.{reals}
use Rattle.rules.specs.Shares.{fix_share}
use Rattle.lists.specs.Exact.{pad_to}
use Rattle.lists.specs.Places.{used-length, get_d-used, get_d_map}
use Rattle.lists.specs.Build.{building-start, building-more, building-done}
use Rattle.util.proofs.shares.mended.Goals as goal

pub loop-j-init : goal.loop-j-init
unfolding pad_to of_bits
loop-j-init c =
    let l = c.args.shares in
    let s : length l.at ≡ 16 = search rules in
    let h : l.len ≤ length l.at = omega arith in
    let u = used-length l.len l.at h in
    building-start zero-f (map fix_share (reals l)) _ l.len (sym (length-map (reals l) fix_share ∙ u)) (omega arith) refl

pub loop-j-preserved : goal.loop-j-preserved
loop-j-preserved c =
    let l = c.args.shares in
    let k = c.loop-j in
    let h = c.loop-j-test.true in
    let s : length l.at ≡ 16 = search rules in
    let x : get_or l.at k.j nan ≡ get_or (reals l) k.j zero-f = get_d-used l.len l.at k.j zero-f nan h (omega arith) in
    let u : length (map fix_share (reals l)) ≡ length (reals l) = length-map (reals l) fix_share in
    let i : k.j < length (reals l) = omega (arith, u, k.invariant.size) in
    building-more zero-f (map fix_share (reals l)) k.at l.len k.j c.fix_share.result k.invariant h
    (c.fix_share.ensures ∙ ap fix_share x ∙ sym (get_d_map fix_share (reals l) k.j zero-f zero-f i))

pub returns : goal.returns
returns c =
    let l = c.args.shares in
    let k = c.loop-j in
    building-done zero-f (map fix_share (reals l)) k.at l.len k.j k.invariant c.loop-j-test.false
