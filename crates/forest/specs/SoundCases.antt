-- The two kinds of sound arena: one given whole that is settled and narrow but for the signs of zeros, and the lone empty root. Assumes nothing.
use Rattle.std.specs.Prelude.{◌≡◌, refl, ◌⊎◌, Bool, true, false, ◌&&◌, ◌||◌, List, [], ◌∷◌, ℕ, zero, suc, ◌<◌, eqb, length, get_or}
use Rattle.std.proofs.Common.{sym, ◌∙◌, inl, inr, arith, eqb-true, get_or-set_other}
use Rattle.rules.specs.Lists.{all_of, same_list}
use Rattle.rules.specs.Tree.{Node, empty, pane, tabs, split, Arena, node_at, clear_node, is_empty, empty_group, bar_code, same_node}
use Rattle.rules.specs.Sound.{is_accepted, is_none, lone_empty_root, sound}
use Rattle.rules.specs.Repair.{repair}
use Rattle.rules.specs.declared.model.TabBarPlacement.{TabBarPlacement}
use Rattle.rules.specs.declared.model.TabBarPlacement.TheVariants.{Hidden, Top, Bottom, Left, Right}
use Rattle.forest.specs.Lists.{never}
use Rattle.forest.specs.Settled.{Lone, Settled}
use Rattle.forest.specs.Quiet.{plain_nodes}
use Rattle.forest.specs.SoundIs.{quiet-repair, sound-is}
use Rattle.forest.specs.Nodes.{empty-is}
use Rattle.rules.specs.Lists.{any_of}
use Rattle.rules.specs.Tree.{wide_node}
use Rattle.forest.specs.Bools.{and_both}

bar-hidden : (b : TabBarPlacement) → bar_code b ≡ 0 → b ≡ Hidden
bar-hidden Hidden e = refl
bar-hidden Top e = absurd (omega arith)
bar-hidden Bottom e = absurd (omega arith)
bar-hidden Left e = absurd (omega arith)
bar-hidden Right e = absurd (omega arith)

none-same : (ps : List ℕ) → same_list eqb ps [] ≡ true → ps ≡ []
unfolding same_list
none-same [] e = refl
none-same (p ∷ ps) e = never (sym e)

pub group-is : (n : Node) → same_node n empty_group ≡ true → n ≡ empty_group
group-is empty e = never (sym e)
group-is (pane p) e = never (sym e)
group-is (tabs b a ps) e =
    let (x, y) = and_both (eqb (bar_code b) 0 && eqb a 0) (same_list eqb ps []) e in
    let (u, v) = and_both (eqb (bar_code b) 0) (eqb a 0) x in
    λ z. tabs (bar-hidden b (eqb-true (bar_code b) 0 u) z) (eqb-true a 0 v z) (none-same ps y z)
group-is (split x cs ss ms) e = never (sym e)

all-empty : (ns : List Node) → all_of is_empty ns ≡ true → (i : ℕ) → get_or ns i empty ≡ empty
unfolding all_of
all-empty [] e i = refl
all-empty (n ∷ ns) e zero = empty-is n (and_both (is_empty n) (all_of is_empty ns) e).0
all-empty (n ∷ ns) e (suc i) = all-empty ns (and_both (is_empty n) (all_of is_empty ns) e).1 i

below : (ns : List Node) (i : ℕ) → get_or ns i empty ≡ empty_group → i < length ns
below [] i e = absurd (let z : ◌≡◌ {A = ℕ} 0 1 = cc in omega arith)
below (n ∷ ns) zero e = omega arith
below (n ∷ ns) (suc i) e = let h = below ns i e in omega arith

pub lone_is : (a : Arena) → length a.nodes ≡ 64 → lone_empty_root a ≡ true → Lone a.nodes a.root
lone_is a size e =
    let (x, y) = and_both (same_node (node_at a.nodes a.root) empty_group) (all_of is_empty (clear_node a.root a.nodes)) e in
    let is = group-is (node_at a.nodes a.root) x in
    record {
      size = size;
      inside = let h = below a.nodes a.root.slot is in omega arith;
      is = is;
      rest = λ i n. sym (get_or-set_other a.nodes a.root.slot i empty empty n) ∙ all-empty (clear_node a.root a.nodes) y i;
    }

-- settled and narrow, once minus zero is read as zero; and given whole
pub record Plain (a : Arena) : Type 0 where
  pub settled : Settled (plain_nodes a.nodes) a.root
  pub narrow : any_of wide_node (plain_nodes a.nodes) ≡ false
  pub whole : a.over ≡ false

pub sound-cases : (a : Arena) → length a.nodes ≡ 64 → sound a ≡ true → Plain a ⊎ Lone a.nodes a.root
sound-cases a size e = go (is_accepted (repair a).answer) (is_none (repair a).actions) refl refl (sym (sound-is a size) ∙ e)
  where
    go : (t n : Bool) → is_accepted (repair a).answer ≡ t → is_none (repair a).actions ≡ n → ((is_accepted (repair a).answer && is_none (repair a).actions) || lone_empty_root a) ≡ true
        → Plain a ⊎ Lone a.nodes a.root
    go true true p q w = let (x, y, z, o) = quiet-repair a size p q in inl (record { settled = z; narrow = y; whole = o })
    go true false p q w = inr (lone_is a size ((λ z. (sym p z && sym q z) || lone_empty_root a) ∙ w))
    go false n p q w = inr (lone_is a size ((λ z. (sym p z && is_none (repair a).actions) || lone_empty_root a) ∙ w))
