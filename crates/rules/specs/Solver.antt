-- The lengths of a split's children. From util.rs, 95 to 172 (`solve_lengths_with_min`), in its order of operations, and document 01,
-- 'Solver and frame': the input's limits, and the pass count.
-- A child's share, minimum, length so far and whether it is fixed stand together, as a Kid; the Rust has four lists.
-- Sums start from +0. The Rust's `sum` may start from -0, which nothing shows: a sum here is only compared, or divides where it is above zero.
-- Definitions only.
use Rattle.std.specs.Prelude.{Bool, true, false, not, ◌&&◌, cond, List, [], ◌∷◌, map, ℕ, zero, suc, eqb, leb, length, Float}
use Rattle.std.specs.Float.{binary64}
use Rattle.std.specs.Float.Ieee.{add, sub, mul, div, lt, le, eq}
use Rattle.rules.specs.Numbers.{zero-f, whole, larger, plus, minimum_ok, share_ok}
use Rattle.rules.specs.Lists.{all_of}
use Rattle.rules.specs.Tree.{reals}
use Rattle.rules.specs.Tree.{Reals}
use Rattle.rules.specs.declared.solving.Kid.{Kid}
use Rattle.rules.specs.declared.solving.Solution.{Solution}
use Rattle.rules.specs.Refusals.{Answer}
use Rattle.rules.specs.Refusals.{Accepted, Refused}
use Rattle.rules.specs.declared.refusal.Refusal.TheVariants.{BadInput}

-- ---- sums and parts

-- what `val` gives of those that `on` picks, added from left to right
unfoldable pub sum_by : {A : Type 0} → (A → Bool) → (A → Float) → Float → List A → Float
sum_by on val a [] = a
sum_by on val a (x ∷ xs) = sum_by on val (cond (on x) (add binary64 a (val x)) a) xs

abbrev pub sum_of : List Float → Float
sum_of xs = sum_by (λ x. true) (λ x. x) zero-f xs

-- `total * (x / whole)`
abbrev pub part : Float → Float → Float → Float
part t s w = mul binary64 t (div binary64 s w)

-- ---- a child

abbrev pub resized : Kid → Float → Bool → Kid
resized k x b = record { share = k.share; minimum = k.minimum; size = x; fixed = b }

abbrev pub short : Kid → Bool
short k = not k.fixed && lt k.size k.minimum

abbrev pub flexible : Kid → Bool
flexible k = not k.fixed

-- held at its minimum where it is below it
unfoldable pub pin : Kid → Kid
pin k = cond (short k) (resized k k.minimum true) k

-- a flexible child's part of what remains
unfoldable pub spread : Float → Float → Kid → Kid
spread room flex k = cond k.fixed k (resized k (part room k.share flex) false)

-- ---- one run of the outer loop

-- `changed`: some child is held in this run
unfoldable pub any_short : List Kid → Bool
any_short [] = false
any_short (k ∷ ks) = cond (short k) true (any_short ks)

-- `fixed_total` and `flexible_share_total`, after the children were held
abbrev pub fixed_total : List Kid → Float
fixed_total ks = sum_by (λ k. k.fixed) (λ k. k.size) zero-f ks

abbrev pub flexible_share_total : List Kid → Float
flexible_share_total ks = sum_by flexible (λ k. k.share) zero-f ks

-- the run is not the last: it held a child, and leaves a share to spread
abbrev pub again : List Kid → Bool
again ks = any_short ks && not (le (flexible_share_total (map pin ks)) zero-f)

abbrev pub remaining : Float → List Kid → Float
remaining total ks = larger (sub binary64 total (fixed_total ks)) zero-f

abbrev pub respread : Float → List Kid → List Kid
respread total ks = map (spread (remaining total ks) (flexible_share_total ks)) ks

-- a run that begins with every child held at its minimum is not counted (document 01)
abbrev pub tick : List Kid → ℕ → ℕ
tick ks p = cond (all_of (λ k. k.fixed) ks) p (suc p)

pub record Run : Type 0 where
  pub kids : List Kid
  pub passes : ℕ

abbrev pub ran : List Kid → ℕ → Run
ran ks p = record { kids = ks; passes = p }

-- The outer loop. Every run but the last holds one child more, so fuel for each child is enough.
unfoldable pub run : ℕ → Float → ℕ → List Kid → Run
run zero total p ks = ran ks p
run (suc fuel) total p ks =
    let pinned = map pin ks in
    let count = tick ks p in
    let more = run fuel total count (respread total pinned) in
    cond (again ks) more (ran pinned count)

-- ---- the whole

unfoldable pub start : Float → Float → List Float → List Float → List Kid
start total w [] ms = []
start total w (s ∷ ss) [] = []
start total w (s ∷ ss) (m ∷ ms) = record { share = s; minimum = m; size = part total s w; fixed = false } ∷ start total w ss ms

pub record Lengths : Type 0 where
  pub lengths : List Float
  pub passes : ℕ

abbrev pub still : List Float → Lengths
still xs = record { lengths = xs; passes = 0 }

abbrev pub sizes : List Kid → List Float
sizes ks = map (λ k. k.size) ks

abbrev pub sized : Run → Lengths
sized r = record { lengths = sizes r.kids; passes = r.passes }

-- the minima take all: parts by the minima; where they are all zero, equal parts
abbrev pub tight : Float → Float → List Float → List Float
tight total least ms = cond (lt zero-f least) (map (λ m. part total m least) ms) (map (λ m. div binary64 total (whole (length ms))) ms)

abbrev pub loose : Float → Float → List Kid → Lengths
loose total least ks =
    let looped = sized (run (length ks) total 0 ks) in
    cond (le least zero-f) (still (sizes ks)) looped

-- no child: no length. No total: all zero. Then by whether the minima leave anything
unfoldable pub solve_lengths_with_min : Float → List Float → List Float → Lengths
solve_lengths_with_min total [] minima = still []
solve_lengths_with_min total (s ∷ ss) minima =
    cond (eq total zero-f) (still (map (λ m. zero-f) minima))
    (cond (le total (sum_of minima)) (still (tight total (sum_of minima) minima))
    (loose total (sum_of minima) (start total (sum_of (s ∷ ss)) (s ∷ ss) minima)))

-- ---- the public call: 0 to 16 shares, finite and positive; as many minima, finite and not negative; a total finite, not negative; else 5

pub record Solved : Type 0 where
  pub answer : Answer
  pub lengths : List Float
  pub passes : ℕ

-- n and m are the lists' lengths as given, which may pass 16
abbrev pub solver_ok : ℕ → ℕ → Float → List Float → List Float → Bool
solver_ok n m total shares minima = leb n 16 && eqb m n && minimum_ok total && all_of share_ok shares && all_of minimum_ok minima

abbrev pub solved : Lengths → Solved
solved l = record { answer = Accepted; lengths = l.lengths; passes = l.passes }

abbrev pub solve_by : Bool → Float → List Float → List Float → Solved
solve_by true total shares minima = solved (solve_lengths_with_min (plus total) shares (map plus minima))
solve_by false total shares minima = record { answer = Refused BadInput; lengths = []; passes = 0 }

unfoldable pub solve : Float → Reals → Reals → Solved
solve total shares minima =
    solve_by (solver_ok shares.len minima.len total (reals shares) (reals minima)) total (reals shares) (reals minima)

-- what the call hands back, read as the rule's
abbrev pub view_solution : Solution → Solved
view_solution s = record { answer = s.answer; lengths = reals s.lengths; passes = s.passes }
