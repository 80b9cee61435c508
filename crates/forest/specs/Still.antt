-- When a repair lists nothing, told by the walk alone: it noted no action, and every occupied slot was claimed. Assumes nothing.
use Rattle.std.specs.Prelude.{◌≡◌, Bool, ◌&&◌, ◌||◌, List, [], ◌∷◌, ℕ, suc, length}
use Rattle.std.proofs.Math.Path.{refl, ap}
use Rattle.std.proofs.Common.{sym, ◌∙◌, arith}
use Rattle.std.proofs.Math.Bool.{true, false}
use Rattle.std.proofs.Math.Option.{Option, none, some}
use Rattle.rules.specs.Lists.{any_of}
use Rattle.rules.specs.Tree.{Node, Arena, tile, is_empty, set_node, empty_group, wide_node, empty_slots, reading_from}
use Rattle.rules.specs.Repair.{Normal, is_reached, swept, sweep, sweep_actions, normalize, Work, Out, sweep_note, added, added_by, same_action, begin, normalize_node, rooted, Repaired, repaired_by, repaired_as, repair}
use Rattle.rules.specs.Sound.{is_accepted, is_none}
use Rattle.rules.specs.declared.model.TileId.{TileId}
use Rattle.rules.specs.declared.model.RepairAction.{RepairAction}
use Rattle.rules.specs.declared.model.RepairAction.TheVariants.{RemovedInvalidNode}
use Rattle.forest.specs.Quiet.{walk-hushed}
use Rattle.forest.specs.Sweep.{actions_by}
use Rattle.forest.specs.Finish.{repair-whole, normalized-kept}

-- every node is claimed or empty
unfoldable pub none_lost : List Bool → List Node → Bool
none_lost cs [] = true
none_lost [] (n ∷ ns) = true
none_lost (c ∷ cs) (n ∷ ns) = (c || is_empty n) && none_lost cs ns

and-true : (b : Bool) → (b && true) ≡ b
and-true true = refl
and-true false = refl

and-false : (b : Bool) → (b && false) ≡ false
and-false true = refl
and-false false = refl

-- ---- a list of actions with one in it keeps one

added-some : (a : RepairAction) (l : List RepairAction) → is_none (added a l) ≡ false
unfolding added any_of
added-some a [] = refl
added-some a (x ∷ l) = go (any_of (same_action a) (x ∷ l))
  where
    go : (b : Bool) → is_none (added_by b a (x ∷ l)) ≡ false
    go true = refl
    go false = refl

actions-none : (k : ℕ) (cs : List Bool) (ns : List Node) (l : List RepairAction) → is_none (actions_by k cs ns l) ≡ (is_none l && none_lost cs ns)
unfolding actions_by none_lost
actions-none k cs [] l = sym (and-true (is_none l))
actions-none k [] (n ∷ ns) l = sym (and-true (is_none l))
actions-none k (c ∷ cs) (n ∷ ns) l = go (c || is_empty n) (λ x. actions-none (suc k) cs ns x)
  where
    go : (b : Bool) → ((x : List RepairAction) → is_none (actions_by (suc k) cs ns x) ≡ (is_none x && none_lost cs ns)) → is_none (actions_by (suc k) cs ns (sweep_note b k l)) ≡ (is_none l && (b && none_lost cs ns))
    go true h = h l
    go false h = h (added (RemovedInvalidNode (tile k)) l) ∙ ap (λ (b : Bool). b && none_lost cs ns) (added-some (RemovedInvalidNode (tile k)) l) ∙ sym (and-false (is_none l))

sweep-some : (xs : List TileId) (ns : List Node) (k : ℕ) (l : List RepairAction) → is_none l ≡ false → is_none (sweep_actions k xs ns l) ≡ false
unfolding sweep_actions
sweep-some xs [] k l e = e
sweep-some xs (n ∷ ns) k l e = go (is_reached k xs || is_empty n) (λ x h. sweep-some xs ns (suc k) x h)
  where
    go : (b : Bool) → ((x : List RepairAction) → is_none x ≡ false → is_none (sweep_actions (suc k) xs ns x) ≡ false) → is_none (sweep_actions (suc k) xs ns (sweep_note b k l)) ≡ false
    go true h = h l e
    go false h = h (added (RemovedInvalidNode (tile k)) l) (added-some (RemovedInvalidNode (tile k)) l)

-- ---- accepted with no action, by how the walk ended

abbrev pub is_still : Repaired → Bool
is_still r = is_accepted r.answer && is_none r.actions

module _ (a : Arena) (size : length a.nodes ≡ 64) (whole : a.over ≡ false) where
  abbrev o : Out
  o = normalize_node 64 a.root (begin a.nodes)

  abbrev left : Work
  left = o.work

  abbrev free : List ℕ
  free = empty_slots a.nodes

  -- a tile was kept
  pub still_kept : (s : TileId) → o.kept ≡ some s → any_of wide_node left.state.nodes ≡ false
      → is_still (repair a) ≡ (is_none left.actions && none_lost left.state.claimed left.state.nodes)
  still_kept s k e = ap is_still (repair-whole a whole ∙ normalized-kept a size free s k e) ∙ actions-none 0 left.state.claimed left.state.nodes left.actions

  some-done : o.kept ≡ none → is_none left.actions ≡ false
  some-done k = go left.actions refl
    where
      go : (l : List RepairAction) → left.actions ≡ l → is_none l ≡ false
      go [] e = absurd (let z = sym k ∙ (walk-hushed 64 a.root (begin a.nodes) (refl, size) e).0 in nothing z)
        where
          nothing : none ≡ some a.root → ⊥
          nothing z = let w : ◌≡◌ {A = ℕ} 0 1 = cc in omega arith
      go (x ∷ l) e = refl

  -- nothing was kept
  pub still-gone : o.kept ≡ none → is_still (repair a) ≡ false
  unfolding normalize
  still-gone k = ap is_still (repair-whole a whole ∙ ap (λ (x : Option TileId). repaired_as a (rooted free x left)) k) ∙ go free
    where
      by : (b : Bool) (n : Normal) → is_none n.actions ≡ false → is_still (repaired_by b a n) ≡ false
      by true n e = refl
      by false n e = e

      go : (is : List ℕ) → is_still (repaired_as a (rooted is none left)) ≡ false
      go [] = refl
      go (i ∷ is) =
          let ns = set_node (tile i) empty_group left.state.nodes in
          by (any_of wide_node (swept 0 (reading_from ns (tile i)) ns)) (sweep (tile i) ns left.actions) (sweep-some (reading_from ns (tile i)) ns 0 left.actions (some-done k))
