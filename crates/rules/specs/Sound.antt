-- Soundness, exactly as document 01 has it ('The arena'): the arena's repair is accepted, lists no action and returns an equal tree;
-- or its only occupied slot is the root, an empty Hidden group with active 0.
-- Definitions only.
use Rattle.std.specs.Prelude.{Bool, true, false, ◌&&◌, ◌||◌, List, [], ◌∷◌, Ok, Err}
use Rattle.rules.specs.Lists.{all_of}
use Rattle.rules.specs.Tree.{Arena, node_at, clear_node, is_empty, same_node, same_tree, empty_group}
use Rattle.rules.specs.Repair.{Repaired, repair}
use Rattle.rules.specs.Refusals.{Answer}

abbrev pub is_accepted : Answer → Bool
is_accepted (Ok _) = true
is_accepted (Err e) = false

abbrev pub is_none : {A : Type 0} → List A → Bool
is_none [] = true
is_none (x ∷ xs) = false

abbrev pub untouched : Arena → Repaired → Bool
untouched a r = is_accepted r.answer && is_none r.actions && same_tree r.tree a

abbrev pub lone_empty_root : Arena → Bool
lone_empty_root a = same_node (node_at a.nodes a.root) empty_group && all_of is_empty (clear_node a.root a.nodes)

unfoldable pub sound : Arena → Bool
sound a = untouched a (repair a) || lone_empty_root a
