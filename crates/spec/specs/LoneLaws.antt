-- The tree of a refused spec, in columns. Assumes nothing.
use Rattle.std.specs.Prelude.{◌≡◌, refl, List, ◌∷◌, ℕ, replicate, set, Float}
use Rattle.rules.specs.Lists.{any_of}
use Rattle.rules.specs.Tree.{arena, tile, empty, empty_group}
use Rattle.columns.specs.Columns.{nodes_from}
use Rattle.columns.specs.Shown.{arena_from, Plain}
use Rattle.settling.specs.Settle.{blank_head}

-- columns of zeros but for the head of an empty Hidden group in row 0
abbrev pub lone_heads : List (List ℕ)
lone_heads = set (replicate 64 (replicate 8 0)) 0 blank_head

pub lone-shown : (x y : Float) → (arena_from 0 0 lone_heads (replicate 64 (replicate 16 0)) (replicate 64 (replicate 16 x)) (replicate 64 (replicate 16 y)) ≡ arena (tile 0) 0 (empty_group ∷ replicate 63 empty))
    × Plain lone_heads (replicate 64 (replicate 16 0)) (replicate 64 (replicate 16 x)) (replicate 64 (replicate 16 y))
unfolding nodes_from any_of
lone-shown x y = (refl, record { heads = refl; ids = refl; shares = refl; minima = refl; unused = refl })
