-- Columns of zeros show no tile. Assumes nothing.
use Rattle.std.specs.Prelude.{refl, Float, replicate}
use Rattle.rules.specs.Lists.{any_of}
use Rattle.lists.specs.Exact.{pad_to}
use Rattle.columns.specs.Columns.{nodes_from}
use Rattle.build.specs.Slots.{Bare}

pub bare : (x y : Float) → Bare (replicate 64 (replicate 8 0)) (replicate 64 (replicate 16 0)) (replicate 64 (replicate 16 x)) (replicate 64 (replicate 16 y))
unfolding nodes_from pad_to any_of
bare x y = record { even = record { heads = refl; ids = refl; shares = refl; minima = refl; whole = refl }; none = refl }
