-- No operation loses a pane or makes one up: after an accepted call the panes are those that were there and were not closed, and the new one of a split; no other.
-- Of the rules alone, for every arena. Assumes nothing.
use Rattle.std.specs.Prelude.{◌≡◌, ◌≢◌, ◌↔◌, ◌⊎◌, Bool, ltb, leb, length, get_or, Float}
use Rattle.std.proofs.Math.Path.{refl}
use Rattle.std.proofs.Common.{sym, ap, subst, inl, inr, arith}
use Rattle.std.proofs.Math.Bool.{true, false}
use mathlib.Core.List.{List, [], ◌∷◌, ◌++◌}
use Rattle.std.proofs.Math.Option.{Option, none, some}
use Prim.Native.Nat.{ℕ, zero, suc, ◌<◌}
use Rattle.rules.specs.Lists.{any_of}
use Rattle.rules.specs.Tree.{Node, empty, Arena, arena, node_at, is_empty, kids_of, panes_of, empty_slots, wide_node, reading, reading_from, Member, Reached}
use Rattle.rules.specs.Repair.{Normal, normalize}
use Rattle.rules.specs.Sound.{sound}
use Rattle.rules.specs.Target.{panes_along, panes_in}
use Rattle.rules.specs.Operations.{Change, Step, refuse, unchanged, changed, Applied, normal_by, normal_as, last-revision, revised_by, inserted_by, room_by, finish, apply_inner, apply_by, apply}
use Rattle.rules.specs.declared.model.TileId.{TileId}
use Rattle.rules.specs.declared.model.Axis.{Axis}
use Rattle.rules.specs.declared.model.Placement.{Placement}
use Rattle.rules.specs.declared.operation.TileOp.{TileOp}
use Rattle.rules.specs.declared.operation.TileOp.TheVariants.{ActivatePane, ClosePane, SplitPane, MovePane, ReorderTab}
use Rattle.rules.specs.Refusals.{Accepted}
use Rattle.forest.specs.Lists.{All, all_map, all_append, all-member, member-cases}
use Rattle.forest.specs.Answers.{refused-not}
use Rattle.forest.specs.Settled.{slots}
use Rattle.forest.specs.Stays.{Shown, panes-full, kids-full, full-inside, panes-reached}
use Rattle.nodes.specs.Find.{OneTree, along-in}
use Rattle.docking.specs.Trees.{sound-standing}
use Rattle.fates.specs.Theorems.{Shape, inner-shape}
use Rattle.fates.specs.Removal.{In}
use Rattle.fates.specs.Graft.{of}
use Rattle.fates.specs.Fates.{Spares, Brings, Follows, Fate}
use Rattle.fates.specs.Moves.{inner-fate}

-- the pane is in the tree
abbrev pub Has : Arena → ℕ → Type 0
Has t p = Member p (panes_in t.root t.nodes)

-- ---- in the tree, and in some slot

pub along-slot : (ns : List Node) (p : ℕ) (xs : List TileId) → Member p (panes_along ns xs) → In ns p
unfolding panes_along
along-slot ns p [] m = absurd m
along-slot ns p (x ∷ xs) m = go (member-cases p (panes_of (node_at ns x)) (panes_along ns xs) m) (λ n. along-slot ns p xs n)
  where
    go : Member p (panes_of (node_at ns x)) ⊎ Member p (panes_along ns xs) → (Member p (panes_along ns xs) → In ns p) → In ns p
    go (inl n) f = (x.slot, n)
    go (inr n) f = f n

-- what is read is reached
module _ (a : Arena) (size : length a.nodes ≡ 64) where
  abbrev Met : TileId → Type 0
  Met x = x.slot < 64 → Reached a x.slot

  read-reached : (f : ℕ) (xs : List TileId) → All Met xs → All Met (reading f a.nodes xs)
  unfolding reading
  read-reached zero xs h = tt
  read-reached (suc f) [] h = tt
  read-reached (suc f) (x ∷ xs) (q, qs) =
      let ks = kids_of (node_at a.nodes x) in (
        q,
        read-reached f (ks ++ xs)
            (all_append Met ks xs
            (all_map (λ j m h. Reached.child (q (full-inside a.nodes size x.slot (kids-full (node_at a.nodes x) j m))) m) ks (all-member ks)) qs),
      )

  slot-met : (xs : List TileId) → All Met xs → (i : ℕ) → i < 64 → Member i (slots xs) → Reached a i
  slot-met [] h i k m = absurd m
  slot-met (x ∷ xs) (q, qs) i k (inl e) = subst (Reached a) (sym e) (q (omega arith))
  slot-met (x ∷ xs) (q, qs) i k (inr m) = slot-met xs qs i k m

  module _ (O : OneTree a.nodes a.root) where
    pub occupied-met : (i : ℕ) → is_empty (get_or a.nodes i empty) ≡ false → Reached a i
    occupied-met i e =
        slot-met (reading_from a.nodes a.root) (read-reached 1025 (a.root ∷ []) (λ h. Reached.root h, tt)) i (full-inside a.nodes size i e) (O.covers i e)

    slot_has : (p : ℕ) → In a.nodes p → Has a p
    slot_has p (i, m) = along-in a.nodes p (reading_from a.nodes a.root) i (O.covers i (panes-full (get_or a.nodes i empty) p m)) m

-- ---- a call that is accepted

-- a change that is accepted: there were slots enough, and the tree is what the repair made
record Made (a : Arena) (c : Change) (r : Applied) : Type 0 where
  room : ltb (length (empty_slots a.nodes)) c.needed ≡ false
  normal : Normal
  is : normalize c.free c.made.root c.made.nodes ≡ some normal
  tree : r.tree ≡ arena normal.root (suc a.revision) normal.nodes

module _ (a : Arena) (c : Change) where
  changed-made : (finish a (changed c)).answer ≡ Accepted → Made a c (finish a (changed c))
  changed-made = go (ltb (length (empty_slots a.nodes)) c.needed) refl
    where
      narrow : (b : Bool) (n : Normal) → ltb (length (empty_slots a.nodes)) c.needed ≡ false → normalize c.free c.made.root c.made.nodes ≡ some n → (normal_by b a n).answer ≡ Accepted → Made a c (normal_by b a n)
      narrow true n h q e = refused-not e
      narrow false n h q e = record { room = h; normal = n; is = q; tree = refl }

      kept : (o : Option Normal) → ltb (length (empty_slots a.nodes)) c.needed ≡ false → normalize c.free c.made.root c.made.nodes ≡ o → (normal_as a o).answer ≡ Accepted → Made a c (normal_as a o)
      kept none h q e = refused-not e
      kept (some n) h q e = narrow (any_of wide_node n.nodes) n h q e

      revised : (b : Bool) → ltb (length (empty_slots a.nodes)) c.needed ≡ false → (revised_by b a c).answer ≡ Accepted → Made a c (revised_by b a c)
      revised true h e = refused-not e
      revised false h e = kept (normalize c.free c.made.root c.made.nodes) h refl e

      inserted : (b : Bool) → ltb (length (empty_slots a.nodes)) c.needed ≡ false → (inserted_by b a c).answer ≡ Accepted → Made a c (inserted_by b a c)
      inserted true h e = refused-not e
      inserted false h e = revised (leb last-revision a.revision) h e

      go : (b : Bool) → ltb (length (empty_slots a.nodes)) c.needed ≡ b → (room_by b a c).answer ≡ Accepted → Made a c (room_by b a c)
      go true h e = refused-not e
      go false h e = inserted (any_of wide_node c.made.nodes) h e

-- ---- the theorem

module _ (a : Arena) (size : length a.nodes ≡ 64) where
  -- there before and spared, or brought
  abbrev pub Due : TileOp → ℕ → Type 0
  Due op p = (Has a p × Spares op p) ⊎ Brings op p

  module _ (O : OneTree a.nodes a.root) (op : TileOp) where
    changed-panes : (c : Change) → Shape a size (changed c) → Follows a (Spares op) (Brings op) c.made → (r : Applied) → Made a c r → (p : ℕ) → Has r.tree p ↔ Due op p
    changed-panes c s F r M p =
        let iff = panes-reached (of c.made) s.0 c.free s.1 M.normal M.is p in
        subst (λ (t : Arena). Has t p ↔ Due op p) (sym M.tree) (λ m. there (F.from p (slot (iff.0 m))), λ d. iff.1 (back d))
      where
        slot : Shown (of c.made) p → In c.made.nodes p
        slot (i, q, m) = (i, m)

        there : (In a.nodes p × Spares op p) ⊎ Brings op p → Due op p
        there (inl (m, u)) = inl (slot_has a size O p m, u)
        there (inr u) = inr u

        back : Due op p → Shown (of c.made) p
        back (inl (m, u)) = F.kept p (along-slot a.nodes p (reading_from a.nodes a.root) m) u
        back (inr u) = F.fresh p u

    step-panes : (s : Step) → Shape a size s → Fate a size (occupied-met a size O) O (Spares op) (Brings op) s → (finish a s).answer ≡ Accepted → (p : ℕ) → Has (finish a s).tree p ↔ Due op p
    step-panes (refuse e) h f q p = refused-not q
    step-panes unchanged h f q p = (λ m. inl (m, f.0 p), back)
      where
        back : Due op p → Has a p
        back (inl (m, u)) = m
        back (inr u) = absurd (f.1 p u)
    step-panes (changed c) h f q p = let M = changed-made a c q in changed-panes c h (f M.room) (finish a (changed c)) M p

  -- after an accepted call a pane is in the tree exactly where it was before and was not closed, or is the new one
  pub panes-after : (op : TileOp) → (apply a op).answer ≡ Accepted → (p : ℕ) → Has (apply a op).tree p ↔ Due op p
  unfolding apply
  panes-after op = go (sound a) refl
    where
      go : (b : Bool) → sound a ≡ b → (apply_by b a op).answer ≡ Accepted → (p : ℕ) → Has (apply_by b a op).tree p ↔ Due op p
      go true s q p =
          let O = (sound-standing a size s).tree in step-panes O op (apply_inner a op) (inner-shape a size op) (inner-fate a size (occupied-met a size O) O op) q p
      go false s q p = refused-not q

  -- a pane that was there and was not closed is there still
  pub kept-panes : (op : TileOp) → (apply a op).answer ≡ Accepted → (p : ℕ) → Has a p → op ≢ ClosePane p → Has (apply a op).tree p
  kept-panes op e p m n = (panes-after op e p).1 (inl (m, spared op n))
    where
      spared : (o : TileOp) → o ≢ ClosePane p → Spares o p
      spared (ActivatePane q) k = tt
      spared (ClosePane q) k = λ w. k (ap ClosePane (sym w))
      spared (SplitPane q x new s r) k = tt
      spared (MovePane q t) k = tt
      spared (ReorderTab g q i) k = tt

  -- the call splits a pane, and p is the new one
  abbrev pub Adds : TileOp → ℕ → Type 0
  Adds op p = (q : ℕ) × (x : Axis) × (s : Placement) × (r : Float) × (op ≡ SplitPane q x p s r)

  -- no other pane appears but the new one
  pub no-stranger : (op : TileOp) → (apply a op).answer ≡ Accepted → (p : ℕ) → Has (apply a op).tree p → Has a p ⊎ Adds op p
  no-stranger op e p m = go ((panes-after op e p).0 m)
    where
      brought : (o : TileOp) → Brings o p → Adds o p
      brought (ActivatePane q) u = absurd u
      brought (ClosePane q) u = absurd u
      brought (SplitPane q x new s r) u = (q, x, s, r, ap (λ (k : ℕ). SplitPane q x k s r) (sym u))
      brought (MovePane q t) u = absurd u
      brought (ReorderTab g q i) u = absurd u

      go : Due op p → Has a p ⊎ Adds op p
      go (inl (k, u)) = inl k
      go (inr u) = inr (brought op u)

  -- a pane that was closed is gone
  pub closed-gone : (p : ℕ) → (apply a (ClosePane p)).answer ≡ Accepted → Has (apply a (ClosePane p)).tree p → ⊥
  closed-gone p e m = go ((panes-after (ClosePane p) e p).0 m)
    where
      go : Due (ClosePane p) p → ⊥
      go (inl (k, n)) = n refl
      go (inr u) = u

  -- the new pane is there
  pub new-there : (q : ℕ) (x : Axis) (p : ℕ) (s : Placement) (r : Float) → (apply a (SplitPane q x p s r)).answer ≡ Accepted → Has (apply a (SplitPane q x p s r)).tree p
  new-there q x p s r e = (panes-after (SplitPane q x p s r) e p).1 (inr refl)
