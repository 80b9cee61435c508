-- A settled tree is nested within 64. Assumes nothing.
use Rattle.std.specs.Prelude.{List, ℕ, zero, suc, ◌≤◌, length}
use Rattle.std.proofs.Common.{arith, length-append}
use Rattle.rules.specs.Tree.{Node}
use Rattle.rules.specs.declared.model.TileId.{TileId}
use Rattle.forest.specs.Forest.{Forest, nil, leaf, node, tiles}
use Rattle.forest.specs.Grow.{Left, stem}
use Rattle.forest.specs.Settled.{Tidy}

-- nested within n: a leaf takes one, a split one more than what is under it
abbrev pub Within : ℕ → Forest → Type 0
Within n nil = Unit {0}
Within n (leaf i s m ps r) = (1 ≤ n) × Within n r
Within zero (node i s m a c r) = ⊥
Within (suc n) (node i s m a c r) = Within n c × Within (suc n) r

-- no deeper than it has tiles
pub tiles-within : (f : Forest) (n : ℕ) → length (tiles f) ≤ n → Within n f
tiles-within nil n h = tt
tiles-within (leaf i s m ps r) n h = (omega arith, tiles-within r n (omega arith))
tiles-within (node i s m a c r) zero h = absurd (omega arith)
tiles-within (node i s m a c r) (suc n) h =
    (tiles-within c n (omega (arith, length-append (tiles c) (tiles r))), tiles-within r (suc n) (omega (arith, length-append (tiles c) (tiles r))))

pub nested-within : (ns : List Node) (r : TileId) (l : Left) → Tidy ns r l → Within 64 (stem l)
nested-within ns r l T = tiles-within (stem l) 64 T.room
