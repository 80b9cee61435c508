-- Laws of one node, and of a place among nodes. Assumes nothing.
use Rattle.std.specs.Prelude.{◌≡◌, refl, true, false, List, [], ◌∷◌, ◌++◌, ℕ, zero, suc, ◌≤◌, ◌<◌, length, get_or}
use Rattle.std.proofs.Common.{sym, ◌∙◌, arith}
use Rattle.rules.specs.Tree.{Node, empty, pane, tabs, split, node_at, is_empty, kids_of, panes_of, empty_group, reading, Member}
use Rattle.rules.specs.Target.{panes_along, panes_in}
use Rattle.rules.specs.declared.model.TileId.{TileId}
use Rattle.forest.specs.Lists.{never}
use Rattle.forest.specs.Forest.{Leafy}
use Rattle.forest.specs.Settled.{slots}

pub empty-is : (n : Node) → is_empty n ≡ true → n ≡ empty
empty-is empty e = refl
empty-is (pane p) e = never (sym e)
empty-is (tabs b a ps) e = never (sym e)
empty-is (split a cs ss ms) e = never (sym e)

-- what has a child is not empty
pub parent-full : (n : Node) (t : ℕ) → Member t (slots (kids_of n)) → is_empty n ≡ false
parent-full empty p m = absurd m
parent-full (pane q) p m = absurd m
parent-full (tabs b a qs) p m = absurd m
parent-full (split a cs ss ms) p m = refl

-- a slot that is not empty is one of the slots
pub full-below : (ns : List Node) (i : ℕ) → is_empty (get_or ns i empty) ≡ false → i < length ns
full-below [] i e = never e
full-below (n ∷ ns) zero e = omega arith
full-below (n ∷ ns) (suc i) e = let h = full-below ns i e in omega arith

pub past : (ns : List Node) (i : ℕ) → length ns ≤ i → get_or ns i empty ≡ empty
past [] i h = refl
past (n ∷ ns) zero h = absurd (omega arith)
past (n ∷ ns) (suc i) h = past ns i (omega arith)

pub leafy-panes : (n : Node) (ps : List ℕ) → Leafy n ps → panes_of n ≡ ps
leafy-panes empty ps l = absurd l
leafy-panes (pane p) ps l = sym l
leafy-panes (tabs b a qs) ps l = sym l.0
leafy-panes (split a cs ss ms) ps l = absurd l

-- a root that is an empty group shows nothing
pub root-shows : (ns : List Node) (r : TileId) → node_at ns r ≡ empty_group → panes_in r ns ≡ []
unfolding panes_along reading
root-shows ns r e = (λ z. panes_along ns (r ∷ reading 1024 ns (kids_of (e z) ++ []))) ∙ (λ z. panes_of (e z) ++ [])
