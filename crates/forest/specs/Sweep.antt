-- After a walk the slots that are reached from what it kept are those that are claimed and not empty. So the sweep may go by the claims, with no walk
-- of its own. Assumes nothing.
use Rattle.std.specs.Prelude.{◌≡◌, ◌≢◌, ◌⊎◌, Bool, true, false, ◌||◌, length, get_or, set}
use Rattle.std.proofs.Math.Path.{refl, ap}
use Rattle.std.proofs.Common.{sym, subst, ◌∙◌, inl, inr, length-set, get_or-set_same, get_or-set_other}
use mathlib.Core.List.{List, [], ◌∷◌}
use Rattle.std.proofs.Math.Option.{some}
use Prim.Native.Nat.{ℕ, suc, ◌+◌, ◌<◌}
use native.Mathlib.Omega.{arith}
use Rattle.std.proofs.Math.Decide.{ℕ_discrete}
use Rattle.rules.specs.Tree.{Node, empty, tile, set_node, is_empty, empty_group, reading_from, Member}
use Rattle.rules.specs.Repair.{State, Out, is_reached, sweep_by, swept, sweep_note, sweep_actions, begin, normalize_node}
use Rattle.rules.specs.declared.model.TileId.{TileId}
use Rattle.rules.specs.declared.model.RepairAction.{RepairAction}
use Rattle.forest.specs.Lists.{All, member-all, find, none-at}
use Rattle.forest.specs.Forest.{tiles}
use Rattle.forest.specs.Grow.{Grown, Left, nothing, kept_of, stem}
use Rattle.forest.specs.Settled.{reached-in, reached-out, slots-are, slots, few, fresh-reads}

-- ---- the sweep by flags

unfoldable pub swept_by : List Bool → List Node → List Node
swept_by cs [] = []
swept_by [] (n ∷ ns) = []
swept_by (c ∷ cs) (n ∷ ns) = sweep_by c n ∷ swept_by cs ns

unfoldable pub actions_by : ℕ → List Bool → List Node → List RepairAction → List RepairAction
actions_by i cs [] l = l
actions_by i [] (n ∷ ns) l = l
actions_by i (c ∷ cs) (n ∷ ns) l = actions_by (suc i) cs ns (sweep_note (c || is_empty n) i l)

-- the flags tell what is reached, but for slots that are empty
pub record Tells (xs : List TileId) (cs : List Bool) (ns : List Node) : Type 0 where
  pub long : length cs ≡ length ns
  pub node : (i : ℕ) → sweep_by (is_reached i xs) (get_or ns i empty) ≡ sweep_by (get_or cs i false) (get_or ns i empty)
  pub noted : (i : ℕ) → (is_reached i xs || is_empty (get_or ns i empty)) ≡ (get_or cs i false || is_empty (get_or ns i empty))

module _ (xs : List TileId) where
  swept-from : (k : ℕ) (cs : List Bool) (ns : List Node) → length cs ≡ length ns
      → ((i : ℕ) → sweep_by (is_reached (k + i) xs) (get_or ns i empty) ≡ sweep_by (get_or cs i false) (get_or ns i empty)) → swept k xs ns ≡ swept_by cs ns
  unfolding swept swept_by
  swept-from k [] [] l h = refl
  swept-from k [] (n ∷ ns) l h = absurd (omega arith)
  swept-from k (c ∷ cs) [] l h = refl
  swept-from k (c ∷ cs) (n ∷ ns) l h =
      λ z. (ap (λ (j : ℕ). sweep_by (is_reached j xs) n) (let q : k ≡ k + 0 = omega arith in q) ∙ h 0) z
      ∷ swept-from (suc k) cs ns (omega arith) (λ i. ap (λ (j : ℕ). sweep_by (is_reached j xs) (get_or ns i empty)) (let q : suc k + i ≡ k + suc i = omega arith in q) ∙ h (suc i)) z

  actions-from : (k : ℕ) (cs : List Bool) (ns : List Node) (l : List RepairAction) → length cs ≡ length ns
      → ((i : ℕ) → (is_reached (k + i) xs || is_empty (get_or ns i empty)) ≡ (get_or cs i false || is_empty (get_or ns i empty))) → sweep_actions k xs ns l ≡ actions_by k cs ns l
  unfolding sweep_actions actions_by
  actions-from k [] [] l e h = refl
  actions-from k [] (n ∷ ns) l e h = absurd (omega arith)
  actions-from k (c ∷ cs) [] l e h = refl
  actions-from k (c ∷ cs) (n ∷ ns) l e h =
      ap (λ (b : Bool). sweep_actions (suc k) xs ns (sweep_note b k l)) (ap (λ (j : ℕ). is_reached j xs || is_empty n) (let q : k ≡ k + 0 = omega arith in q) ∙ h 0)
      ∙ actions-from (suc k) cs ns (sweep_note (c || is_empty n) k l) (omega arith)
      (λ i. ap (λ (j : ℕ). is_reached j xs || is_empty (get_or ns i empty)) (let q : suc k + i ≡ k + suc i = omega arith in q) ∙ h (suc i))

  pub swept-tells : (cs : List Bool) (ns : List Node) → Tells xs cs ns → swept 0 xs ns ≡ swept_by cs ns
  swept-tells cs ns t = swept-from 0 cs ns t.long (λ i. ap (λ (j : ℕ). sweep_by (is_reached j xs) (get_or ns i empty)) (let q : 0 + i ≡ i = omega arith in q) ∙ t.node i)

  pub actions-tell : (cs : List Bool) (ns : List Node) (l : List RepairAction) → Tells xs cs ns → sweep_actions 0 xs ns l ≡ actions_by 0 cs ns l
  actions-tell cs ns l t = actions-from 0 cs ns l t.long (λ i. ap (λ (j : ℕ). is_reached j xs || is_empty (get_or ns i empty)) (let q : 0 + i ≡ i = omega arith in q) ∙ t.noted i)

-- ---- one slot: reached and claimed alike, or empty

either : (a b : Bool) (n : Node) → (a ≡ b) ⊎ (n ≡ empty) → (sweep_by a n ≡ sweep_by b n) × ((a || is_empty n) ≡ (b || is_empty n))
either a b n (inl e) = (ap (λ (c : Bool). sweep_by c n) e, ap (λ (c : Bool). c || is_empty n) e)
either a b n (inr e) = (subst (λ (m : Node). sweep_by a m ≡ sweep_by b m) (sym e) (both a ∙ sym (both b)), subst (λ (m : Node). (a || is_empty m) ≡ (b || is_empty m)) (sym e) (yes-or a ∙ sym (yes-or b)))
  where
    both : (c : Bool) → sweep_by c empty ≡ empty
    both true = refl
    both false = refl

    yes-or : (c : Bool) → (c || true) ≡ true
    yes-or true = refl
    yes-or false = refl

tells : (xs : List TileId) (cs : List Bool) (ns : List Node) → length cs ≡ length ns → ((i : ℕ) → (is_reached i xs ≡ get_or cs i false) ⊎ (get_or ns i empty ≡ empty)) → Tells xs cs ns
tells xs cs ns l h =
    record { long = l; node = λ i. (either (is_reached i xs) (get_or cs i false) (get_or ns i empty) (h i)).0; noted = λ i. (either (is_reached i xs) (get_or cs i false) (get_or ns i empty) (h i)).1 }

-- ---- after a walk that kept something, and after one that kept nothing

module _ (ns : List Node) (size : length ns ≡ 64) (r : TileId) where
  abbrev o : Out
  o = normalize_node 64 r (begin ns)

  abbrev left : State
  left = o.work.state

  module _ (l : Left) (G : Grown (begin ns).state left (stem l)) where
    flags_long : length left.claimed ≡ length left.nodes
    flags_long = G.long ∙ sym (G.size ∙ size)

    pub kept-tells : (s : TileId) → kept_of l ≡ some s → Tells (reading_from left.nodes s) left.claimed left.nodes
    kept-tells s k =
        let q = slots-are left.nodes s l k G.holds (few ns size r l G) in
        tells (reading_from left.nodes s) left.claimed left.nodes flags_long (λ i. slot i q (find i (tiles (stem l))) (get_or left.claimed i false) refl)
      where
        slot : (i : ℕ) → slots (reading_from left.nodes s) ≡ tiles (stem l) → Member i (tiles (stem l)) ⊎ All (λ j. i ≢ j) (tiles (stem l)) → (b : Bool) → get_or left.claimed i false ≡ b
            → (is_reached i (reading_from left.nodes s) ≡ get_or left.claimed i false) ⊎ (get_or left.nodes i empty ≡ empty)
        slot i q (inl m) b e = inl (reached-in i (reading_from left.nodes s) (subst (Member i) (sym q) m) ∙ sym (member-all (λ j. get_or left.claimed j false ≡ true) i (tiles (stem l)) m G.taken))
        slot i q (inr a) true e = inr (G.spent i (none-at 64 i) e a)
        slot i q (inr a) false e = inl (reached-out i (reading_from left.nodes s) (subst (All (λ j. i ≢ j)) (sym q) a) ∙ sym e)

  -- a fresh root's slot is marked as claimed
  pub fresh-tells : Grown (begin ns).state left (stem nothing) → (i : ℕ) (h : i < 64)
      → Tells (reading_from (set_node (tile i) empty_group left.nodes) (tile i)) (set left.claimed i true) (set_node (tile i) empty_group left.nodes)
  fresh-tells G i h =
      let long : length left.nodes ≡ 64 = G.size ∙ size in
      let flags : length left.claimed ≡ 64 = G.long in
      subst (λ (xs : List TileId). Tells xs (set left.claimed i true) (set_node (tile i) empty_group left.nodes)) (sym (fresh-reads left.nodes long i h))
      (tells (tile i ∷ []) (set left.claimed i true) (set_node (tile i) empty_group left.nodes)
      (length-set left.claimed i true ∙ flags ∙ sym long ∙ sym (length-set left.nodes i empty_group))
      (λ j. slot j (ℕ_discrete j i) (get_or left.claimed j false) refl flags))
    where
      slot : (j : ℕ) → Dec (j ≡ i) → (b : Bool) → get_or left.claimed j false ≡ b → length left.claimed ≡ 64
          → (is_reached j (tile i ∷ []) ≡ get_or (set left.claimed i true) j false) ⊎ (get_or (set_node (tile i) empty_group left.nodes) j empty ≡ empty)
      slot j (yes q) b e f =
          inl (reached-in j (tile i ∷ []) (inl q) ∙ sym (ap (λ (k : ℕ). get_or (set left.claimed i true) k false) q ∙ get_or-set_same left.claimed i true false (omega (arith, f))))
      slot j (no n) true e f = inr (get_or-set_other left.nodes i j empty_group empty n ∙ G.spent j (none-at 64 j) e tt)
      slot j (no n) false e f = inl (reached-out j (tile i ∷ []) (n, tt) ∙ sym (get_or-set_other left.claimed i j true false n ∙ e))
