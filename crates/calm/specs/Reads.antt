-- What the steps of the walk promise, each of the arrays that it is lent. Definitions only.
use Rattle.std.specs.Prelude.{◌≡◌, Bool, ◌&&◌, List, ℕ, ◌+◌, ◌*◌, ◌≤◌, leb, length, take, get_or, Float, Result, Ok, Err}
use Rattle.std.proofs.Math.Option.{Option, none, some}
use Rattle.rules.specs.Shares.{repaired_shares, eq_reals}
use Rattle.rules.specs.Minima.{aligned_constraints, compact_constraints}
use Rattle.forest.specs.Lists.{free}
use Rattle.calm.specs.Calm.{Look, look, calm_panes, calm_group}

-- the panes that were met, also where the walk ended early
abbrev pub met : Result ℕ ℕ → ℕ
met (Ok m) = m
met (Err m) = m

-- the first so many panes were seen, or the walk ended
abbrev pub sighted : Result ℕ ℕ → List ℕ → Option (List ℕ)
sighted (Ok m) seen = some (take m seen)
sighted (Err m) seen = none

abbrev pub looked : Result ℕ ℕ → List Bool → List ℕ → Option Look
looked (Ok m) cs seen = some (look cs (take m seen))
looked (Err m) cs seen = none

-- panes were looked at, from the n seen so far
pub record Sights (ps : List ℕ) (seen : List ℕ) (n : ℕ) (seen' : List ℕ) (r : Result ℕ ℕ) : Type 0 where
  pub most : met r ≤ n + length ps
  pub right : sighted r seen' ≡ calm_panes ps (take n seen)

-- a group was looked at, whatever is claimed
pub record Groups (h row : List ℕ) (seen : List ℕ) (n : ℕ) (seen' : List ℕ) (r : Result ℕ ℕ) : Type 0 where
  pub most : met r ≤ n + 16
  pub right : (cs : List Bool) → looked r cs seen' ≡ calm_group (get_or h 3 0) (take (get_or h 4 0) row) (look cs (take n seen))

-- a tile was read: with room for 16 panes in each slot that is not claimed
pub record Reads (o : Option Look) (cs : List Bool) (n : ℕ) (cs' : List Bool) (seen' : List ℕ) (r : Result ℕ ℕ) : Type 0 where
  pub flags : length cs' ≡ 64
  pub room : met r + 16 * free cs' ≤ n + 16 * free cs
  pub right : looked r cs' seen' ≡ o

-- the lists of a split of n children need no mending, and the children are two or more
abbrev pub lists_calm : ℕ → List Float → List Float → Bool
lists_calm n ss ms = leb 2 n && (eq_reals (repaired_shares n ss) ss && eq_reals (compact_constraints (aligned_constraints n ms)) ms)
