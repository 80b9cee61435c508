-- The children in the solver's work as the code has them, four lists side by side as in the Rust, and the rule's list of children that they show. Definitions only.
use Rattle.std.specs.Prelude.{◌≡◌, Bool, true, false, cond, List, [], ◌∷◌, map, ℕ, length, take, drop, replicate, Float}
use Rattle.std.specs.Float.{binary64}
use Rattle.std.specs.Float.Ieee.{add}
use Rattle.rules.specs.Solver.{short, flexible, pin, any_short, fixed_total, flexible_share_total}
use Rattle.rules.specs.declared.solving.Kid.{Kid}
use Rattle.loops.specs.declared.kids.Held.{Held}

abbrev pub kid : Float → Float → Float → Bool → Kid
kid s m x f = record { share = s; minimum = m; size = x; fixed = f }

-- shares, minima, lengths so far, and whether each is fixed
unfoldable pub kids_shown : List Float → List Float → List Float → List Bool → List Kid
kids_shown [] ms xs fs = []
kids_shown (s ∷ ss) [] xs fs = []
kids_shown (s ∷ ss) (m ∷ ms) [] fs = []
kids_shown (s ∷ ss) (m ∷ ms) (x ∷ xs) [] = []
kids_shown (s ∷ ss) (m ∷ ms) (x ∷ xs) (f ∷ fs) = kid s m x f ∷ kids_shown ss ms xs fs

-- none is fixed yet
abbrev pub unfixed : List Bool
unfixed = replicate 16 false

pub record Long (ss ms xs : List Float) (fs : List Bool) : Type 0 where
  pub shares : length ss ≡ 16
  pub minima : length ms ≡ 16
  pub sizes : length xs ≡ 16
  pub fixed : length fs ≡ 16

-- the first n children are changed by g, and nothing past them
pub record Worked (g : Kid → Kid) (n : ℕ) (ss ms xs : List Float) (fs : List Bool) (xs' : List Float) (fs' : List Bool) : Type 0 where
  pub kids : take n (kids_shown ss ms xs' fs') ≡ map g (take n (kids_shown ss ms xs fs))
  pub sizes-past : drop n xs' ≡ drop n xs
  pub fixed-past : drop n fs' ≡ drop n fs
  pub long : Long ss ms xs' fs'

-- `changed`, `fixed_total` and `flexible_share_total` of a run that begins with these children
pub record Tallied (ks : List Kid) (r : Held) : Type 0 where
  pub changed : r.changed ≡ any_short ks
  pub held : r.held ≡ fixed_total (map pin ks)
  pub flexible : r.flexible ≡ flexible_share_total (map pin ks)

-- one child of that run
pub record Turned (k : Kid) (before : Held) (kid : Kid) (r : Held) : Type 0 where
  pub pinned : kid ≡ pin k
  pub moved : r.changed ≡ cond (short k) true before.changed
  pub held : r.held ≡ cond (pin k).fixed (add binary64 before.held (pin k).size) before.held
  pub flexible : r.flexible ≡ cond (flexible (pin k)) (add binary64 before.flexible (pin k).share) before.flexible
