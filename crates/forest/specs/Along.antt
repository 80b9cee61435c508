-- What each tile of a list has, one after the other. Assumes nothing.
use Rattle.std.specs.Prelude.{◌≡◌, refl, List, [], ◌∷◌, ◌++◌, ℕ}
use Rattle.std.proofs.Common.{ap}
use Rattle.rules.specs.Tree.{Node, node_at, panes_of}
use Rattle.rules.specs.Target.{panes_along}
use Rattle.rules.specs.declared.model.TileId.{TileId}

-- what h gives of each tile's node, in order
unfoldable pub along : {A : Type 0} → (Node → List A) → List Node → List TileId → List A
along h ns [] = []
along h ns (x ∷ xs) = h (node_at ns x) ++ along h ns xs

pub panes-along : (ns : List Node) (xs : List TileId) → along panes_of ns xs ≡ panes_along ns xs
unfolding along panes_along
panes-along ns [] = refl
panes-along ns (x ∷ xs) = ap (λ (l : List ℕ). panes_of (node_at ns x) ++ l) (panes-along ns xs)
