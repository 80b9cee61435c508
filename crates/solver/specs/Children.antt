-- What holds of each child in the loop, on good numbers: its length is from zero to the total, and after a run it has its minimum. Assumes nothing.
use Rattle.std.specs.Prelude.{◌≡◌, refl, Bool, true, false, not, ◌&&◌, cond, List, [], ◌∷◌, map, T, Float}
use Rattle.std.proofs.Common.{sym, subst}
use Rattle.std.specs.Float.{binary64}
use Rattle.std.specs.Float.Ieee.{sub, div, lt, le}
use Rattle.std.specs.Float.Ieee.Fits.{mul-fits, sub-fits, cond-fits}
use Rattle.std.specs.Float.Ieee.Scale.{finite}
use Rattle.rules.specs.Numbers.{zero-f, larger}
use Rattle.rules.specs.Solver.{part, resized, short, flexible, pin, spread, fixed_total, flexible_share_total, remaining, respread}
use Rattle.rules.specs.declared.solving.Kid.{Kid}
use Rattle.number.specs.Each.{All, all_map, all_both, all-weak}
use Rattle.number.specs.Order.{nonneg, le-self, le-chain, not-lt→le, not-le→lt}
use Rattle.number.specs.Arithmetic.{zero-fits, zero-least, finite-below, div-le-one, mul-le-left, room-le}
use Rattle.number.specs.Sums.{Good, good-zero, sum-good, sum-each}

-- ---- a part of a total
pub part-le : (t s w : Float) → Good t → T (finite t) → T (nonneg s) → T (finite s) → T (lt zero-f w) → T (le s w) → T (nonneg (part t s w)) × T (le (part t s w) t)
part-le t s w g n p m q h = mul-le-left binary64 t (div binary64 s w) g.here g.sign n (div-le-one binary64 s w p m q h)

-- ---- what holds of each child in the loop
pub record Ok (total : Float) (k : Kid) : Type 0 where
  pub share-good : Good k.share
  pub share-finite : T (finite k.share)
  pub share-above : T (lt zero-f k.share)
  pub minimum-good : Good k.minimum
  pub minimum-le : T (le k.minimum total)
  pub size-good : Good k.size
  pub size-le : T (le k.size total)
  pub at_least : T k.fixed → k.size ≡ k.minimum

pub pin-ok : (total : Float) (k : Kid) → Ok total k → Ok total (pin k)
unfolding pin
pin-ok total k o = go (short k)
  where
    go : (b : Bool) → Ok total (cond b (resized k k.minimum true) k)
    go true = record { share-good = o.share-good; share-finite = o.share-finite; share-above = o.share-above; minimum-good = o.minimum-good; minimum-le = o.minimum-le; size-good = o.minimum-good; size-le = o.minimum-le; at_least = λ t. refl }
    go false = o

-- after it a child has its minimum
pin-fine : (total : Float) (k : Kid) → Ok total k → T (le (pin k).minimum (pin k).size)
unfolding pin
pin-fine total k o = go (short k) (λ t. t)
  where
    rest : (h : Bool) → (T h → k.size ≡ k.minimum) → T (not (not h && lt k.size k.minimum)) → T (le k.minimum k.size)
    rest true e n = subst (λ (z : Float). T (le k.minimum z)) (sym (e tt)) (le-self k.minimum o.minimum-good.sign)
    rest false e n = not-lt→le k.size k.minimum o.size-good.sign o.minimum-good.sign n

    go : (b : Bool) → (T (not b) → T (not (short k))) → T (le (cond b (resized k k.minimum true) k).minimum (cond b (resized k k.minimum true) k).size)
    go true n = le-self k.minimum o.minimum-good.sign
    go false n = rest k.fixed o.at_least (n tt)

spread-ok : (total room flex : Float) (k : Kid) → Good total → Good room → T (finite room) → T (le room total) → T (lt zero-f flex) → Ok total k → (T (flexible k) → T (le k.share flex)) → Ok total (spread room flex k)
unfolding spread
spread-ok total room flex k g r n l q o h = go k.fixed (λ t. t)
  where
    go : (b : Bool) → (T (not b) → T (not k.fixed)) → Ok total (cond b k (resized k (part room k.share flex) false))
    go true m = o
    go false m =
        let p = part-le room k.share flex r n o.share-good.sign o.share-finite q (h (m tt)) in
        record {
          share-good = o.share-good;
          share-finite = o.share-finite;
          share-above = o.share-above;
          minimum-good = o.minimum-good;
          minimum-le = o.minimum-le;
          size-good = record { here = mul-fits binary64 room (div binary64 k.share flex); sign = p.0 };
          size-le = le-chain (part room k.share flex) room total p.0 r.sign g.sign p.1 l;
          at_least = λ t. absurd t;
        }

-- what a child is after the last run
pub record Fine (total : Float) (k : Kid) : Type 0 where
  pub above : T (le zero-f k.size)
  pub within : T (le k.size total)
  pub enough : T (le k.minimum k.size)

pub pin-all-fine : (total : Float) (ks : List Kid) → All (Ok total) ks → All (Fine total) (map pin ks)
pin-all-fine total ks os = all_map pin ks (λ (k : Kid) (o : Ok total k). let q = pin-ok total k o in record { above = zero-least (pin k).size q.size-good.sign; within = q.size-le; enough = pin-fine total k o }) os

-- ---- minima stay as they are
unfoldable pub minima_of : List Kid → List Float
minima_of ks = map (λ (k : Kid). k.minimum) ks

minimum-kept : (g : Kid → Kid) → ((k : Kid) → (g k).minimum ≡ k.minimum) → (ks : List Kid) → minima_of (map g ks) ≡ minima_of ks
unfolding minima_of
minimum-kept g h [] = refl
minimum-kept g h (k ∷ ks) = λ i. h k i ∷ minimum-kept g h ks i

pin-minimum : (k : Kid) → (pin k).minimum ≡ k.minimum
unfolding pin
pin-minimum k = go (short k)
  where
    go : (b : Bool) → (cond b (resized k k.minimum true) k).minimum ≡ k.minimum
    go true = refl
    go false = refl

spread-minimum : (room flex : Float) (k : Kid) → (spread room flex k).minimum ≡ k.minimum
unfolding spread
spread-minimum room flex k = go k.fixed
  where
    go : (b : Bool) → (cond b k (resized k (part room k.share flex) false)).minimum ≡ k.minimum
    go true = refl
    go false = refl

pub pinned-minima : (ks : List Kid) → minima_of (map pin ks) ≡ minima_of ks
pinned-minima ks = minimum-kept pin pin-minimum ks

pub respread-minima : (total : Float) (ks : List Kid) → minima_of (respread total ks) ≡ minima_of ks
respread-minima total ks = minimum-kept (spread (remaining total ks) (flexible_share_total ks)) (spread-minimum (remaining total ks) (flexible_share_total ks)) ks

-- ---- what remains, spread over the flexible children
room_of : Float → Float → Float
room_of total h = larger (sub binary64 total h) zero-f

room-good : (total h : Float) → Good total → T (finite total) → Good h → Good (room_of total h) × T (finite (room_of total h)) × T (le (room_of total h) total)
unfolding room_of
room-good total h g n q =
    let r = room-le binary64 total h g.here g.sign n q.sign in (
      record { here = cond-fits binary64 (lt zero-f (sub binary64 total h)) (sub binary64 total h) zero-f (sub-fits binary64 total h) (zero-fits binary64); sign = r.0 },
      finite-below (room_of total h) total r.0 n r.1,
      r.1,
    )

pub respread-ok : (total : Float) (ks : List Kid) → Good total → T (finite total) → All (Ok total) ks → T (not (le (flexible_share_total ks) zero-f)) → All (Ok total) (respread total ks)
unfolding room_of
respread-ok total ks g n os t =
    let shares = all-weak ks (λ (k : Kid) (o : Ok total k). o.share-good) os in
    let r = room-good total (fixed_total ks) g n (sum-good (λ (k : Kid). k.fixed) (λ (k : Kid). k.size) zero-f ks good-zero (all-weak ks (λ (k : Kid) (o : Ok total k). o.size-good) os)) in
    let s = sum-good flexible (λ (k : Kid). k.share) zero-f ks good-zero shares in
    all_map {P = λ (k : Kid). Ok total k × (T (flexible k) → T (le k.share (flexible_share_total ks)))} (spread (room_of total (fixed_total ks)) (flexible_share_total ks)) ks
    (λ (k : Kid) p. spread-ok total (room_of total (fixed_total ks)) (flexible_share_total ks) k g r.0 r.1 r.2 (not-le→lt (flexible_share_total ks) zero-f s.sign tt t) p.0 p.1)
    (all_both ks os (sum-each flexible (λ (k : Kid). k.share) zero-f ks good-zero shares))
