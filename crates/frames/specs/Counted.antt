-- A split has a solved length for each child, whatever its numbers are. Assumes nothing.
use Rattle.std.specs.Prelude.{◌≡◌, refl, Bool, true, false, cond, List, [], ◌∷◌, map, ℕ, zero, suc, length, Float}
use Rattle.std.proofs.Common.{sym, ◌∙◌}
use Rattle.std.proofs.lemmas.List.{length-map}
use Rattle.std.specs.Float.Ieee.{le, lt, eq, div}
use Rattle.std.specs.Float.{binary64}
use Rattle.rules.specs.Numbers.{zero-f, whole}
use Rattle.rules.specs.Shares.{repaired_shares}
use Rattle.rules.specs.Solver.{sum_of, part, pin, again, tick, ran, respread, run, start, still, sizes, sized, tight, loose, solve_lengths_with_min}
use Rattle.rules.specs.Frame.{child_total, child_minima, split_lengths}
use Rattle.rules.specs.declared.solving.Kid.{Kid}
use Rattle.rules.specs.declared.model.Axis.{Axis}
use Rattle.rules.specs.declared.frame.Rect.{Rect}
use Rattle.rules.specs.declared.frame.LayoutInput.{LayoutInput}
use Rattle.rules.specs.Tabs.{major_size}
use Rattle.forest.specs.Lengths.{repaired-length, minima-length}
use Rattle.solver.specs.Loop.{start-length}

run_length : (fuel : ℕ) (total : Float) (p : ℕ) (ks : List Kid) → length (run fuel total p ks).kids ≡ length ks
unfolding run
run_length zero total p ks = refl
run_length (suc fuel) total p ks = go (again ks) (run_length fuel total (tick ks p) (respread total (map pin ks)) ∙ length-map (map pin ks) _ ∙ length-map ks pin)
  where
    go : (b : Bool) → length (run fuel total (tick ks p) (respread total (map pin ks))).kids ≡ length ks
        → length (cond b (run fuel total (tick ks p) (respread total (map pin ks))) (ran (map pin ks) (tick ks p))).kids ≡ length ks
    go true h = h
    go false h = length-map ks pin

module _ (total : Float) (s : Float) (ss ms : List Float) (e : length (s ∷ ss) ≡ length ms) where
  abbrev ks : List Kid
  ks = start total (sum_of (s ∷ ss)) (s ∷ ss) ms

  by_loop : (b : Bool) → length (cond b (still (sizes ks)) (sized (run (length ks) total 0 ks))).lengths ≡ length ms
  by_loop true = length-map ks _ ∙ start-length total (sum_of (s ∷ ss)) (s ∷ ss) ms e
  by_loop false = length-map (run (length ks) total 0 ks).kids _ ∙ run_length (length ks) total 0 ks ∙ start-length total (sum_of (s ∷ ss)) (s ∷ ss) ms e

  by-minima : (b : Bool) → length (cond b (map (λ m. part total m (sum_of ms)) ms) (map (λ m. div binary64 total (whole (length ms))) ms)) ≡ length ms
  by-minima true = length-map ms _
  by-minima false = length-map ms _

  tight-or : (b : Bool) → length (cond b (still (tight total (sum_of ms) ms)) (loose total (sum_of ms) ks)).lengths ≡ length ms
  tight-or true = by-minima (lt zero-f (sum_of ms))
  tight-or false = by_loop (le (sum_of ms) zero-f)

  zero-total : (b : Bool) → length (cond b (still (map (λ m. zero-f) ms)) (cond (le total (sum_of ms)) (still (tight total (sum_of ms) ms)) (loose total (sum_of ms) ks))).lengths ≡ length ms
  zero-total true = length-map ms _
  zero-total false = tight-or (le total (sum_of ms))

solve-length : (total : Float) (ss ms : List Float) → length ss ≡ length ms → length (solve_lengths_with_min total ss ms).lengths ≡ length ms
unfolding solve_lengths_with_min
solve-length total [] ms e = e
solve-length total (s ∷ ss) ms e = zero-total total s ss ms e (eq total zero-f)

pub lengths-counted : (a : Axis) (n : ℕ) (ss ms : List Float) (r : Rect) (i : LayoutInput) → length (split_lengths a n ss ms r i).lengths ≡ n
lengths-counted a n ss ms r i =
    let d = major_size i.min_pane_size a in
    solve-length (child_total a n r i) (repaired_shares n ss) (child_minima a n ms i) (repaired-length n ss ∙ sym (minima-length n ms d)) ∙ minima-length n ms d
