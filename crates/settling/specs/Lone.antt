-- The head of the lone empty root. Definition only.
use Rattle.std.specs.Prelude.{Bool, ◌&&◌, List, ℕ, eqb, get_or}

-- the head of an empty Hidden group with active 0
abbrev pub is_blank : List ℕ → Bool
is_blank h = eqb (get_or h 0 0) 2 && eqb (get_or h 1 0) 0 && eqb (get_or h 3 0) 0 && eqb (get_or h 4 0) 0
