-- The arena that columns show, and columns that are fit to be read. Definitions only.
use Rattle.std.specs.Prelude.{◌≡◌, List, map, ℕ, length, Float}
use Rattle.rules.specs.Lists.{any_of}
use Rattle.rules.specs.Tree.{Arena, tile}
use Rattle.rules.specs.declared.model.TileTree.{TileTree}
use Rattle.columns.specs.Columns.{nodes_from}
use Rattle.columns.specs.Pack.{over_head, over_of, Unpacks}

-- the columns of a tree
pub record Columned (t : TileTree) (hs xs : List (List ℕ)) (ss ms : List (List Float)) : Type 0 where
  pub size : length t.slots ≡ 64
  pub columns : Unpacks t.slots hs xs ss ms

-- the arena that columns show under a root
abbrev pub arena_from : ℕ → ℕ → List (List ℕ) → List (List ℕ) → List (List Float) → List (List Float) → Arena
arena_from r v hs xs ss ms = record { root = tile r; revision = v; nodes = nodes_from hs xs ss ms; over = any_of over_of hs }

-- columns of 64 rows, in whose heads a length over 16 stands only where the kind uses that list
pub record Plain (hs xs : List (List ℕ)) (ss ms : List (List Float)) : Type 0 where
  pub heads : length hs ≡ 64
  pub ids : length xs ≡ 64
  pub shares : length ss ≡ 64
  pub minima : length ms ≡ 64
  pub unused : map over_head hs ≡ map over_of hs
