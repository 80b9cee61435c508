-- The panes of a normalized arena are those of the slots that were reached in the arena as given: none is lost and none is made up. Of any arena.
-- Assumes nothing.
use Rattle.std.specs.Prelude.{◌≡◌, refl, ◌↔◌, Bool, true, false, List, ℕ, ◌<◌, length, get_or, replicate}
use Rattle.std.proofs.Common.{sym, subst, ◌∙◌, arith}
use Rattle.std.proofs.Math.Option.{Option, none, some}
use Rattle.rules.specs.Lists.{any_of}
use Rattle.rules.specs.Tree.{Node, empty, pane, tabs, split, Arena, is_empty, kids_of, panes_of, empty_slots, wide_node, Member, Reached}
use Rattle.rules.specs.Target.{panes_in}
use Rattle.rules.specs.Repair.{Normal, Out, begin, normalize_node, normalize, Repaired, repaired_by, repaired_as, repair_by, repair}
use Rattle.rules.specs.declared.model.TileId.{TileId}
use Rattle.rules.specs.Refusals.{Accepted}
use Rattle.forest.specs.Lists.{All, never, none-at}
use Rattle.forest.specs.Answers.{refused-not}
use Rattle.forest.specs.Soundness.{slots-inside}
use Rattle.forest.specs.Seen.{panes-seen}
use Rattle.forest.specs.Closed.{Met, Stood, Closed, Fair, walk-closed}
use Rattle.forest.specs.Nodes.{full-below}

-- ---- a slot with panes or children is occupied, and so it is one of the slots

pub panes-full : (n : Node) (p : ℕ) → Member p (panes_of n) → is_empty n ≡ false
panes-full empty p m = absurd m
panes-full (pane q) p m = refl
panes-full (tabs b a qs) p m = refl
panes-full (split a cs ss ms) p m = absurd m

pub kids-full : (n : Node) (k : TileId) → Member k (kids_of n) → is_empty n ≡ false
kids-full empty k m = absurd m
kids-full (pane q) k m = absurd m
kids-full (tabs b a qs) k m = absurd m
kids-full (split a cs ss ms) k m = refl

pub full-inside : (ns : List Node) → length ns ≡ 64 → (i : ℕ) → is_empty (get_or ns i empty) ≡ false → i < 64
full-inside ns size i e = let h = full-below ns i e in omega (arith, size)

-- a slot that is reached shows the pane
abbrev pub Shown : Arena → ℕ → Type 0
Shown t p = Stood t.nodes (Reached t) p

-- ---- the walk from the root

module _ (t : Arena) (size : length t.nodes ≡ 64) where
  abbrev ns : List Node
  ns = t.nodes

  -- reached, if it is a slot at all
  abbrev R : ℕ → Type 0
  R i = i < 64 → Reached t i

  step : (i : ℕ) (j : TileId) → R i → Member j (kids_of (get_or ns i empty)) → R j.slot
  step i j q m h = Reached.child (q (full-inside ns size i (kids-full (get_or ns i empty) j m))) m

  fair : Fair ns R (begin ns).state
  fair = record { good = (refl, size); agrees = λ j q. refl; shows = λ j q p m. never (sym q ∙ none-at 64 j); stood = λ p m. absurd m }

  abbrev o : Out
  o = normalize_node 64 t.root (begin ns)

  walk : Closed ns R (replicate 64 false) o.work.state.claimed o.work.state.panes × Met ns o.work.state.claimed t.root
  walk = walk-closed ns R step 64 t.root (begin ns) (λ h. Reached.root h) fair (omega arith)

  -- what is reached and occupied is claimed
  reached-claimed : (i : ℕ) → Reached t i → is_empty (get_or ns i empty) ≡ false → get_or o.work.state.claimed i false ≡ true
  reached-claimed i (Reached.root h) e = walk.1 h e
  reached-claimed i (Reached.child {i = x} {j = j} q m) e =
      walk.0.kids x (none-at 64 x) (reached-claimed x q (kids-full (get_or ns x empty) j m)) j m (full-inside ns size i e) e

  seen-shown : (p : ℕ) → Member p o.work.state.panes ↔ Shown t p
  seen-shown p = (λ m. go (walk.0.stood p m), λ s. walk.0.shows s.0 (reached-claimed s.0 s.1 (panes-full (get_or ns s.0 empty) p s.2)) p s.2)
    where
      go : Stood ns R p → Shown t p
      go (i, q, m) = (i, q (full-inside ns size i (panes-full (get_or ns i empty) p m)), m)

  -- ---- the theorem

  pub panes-reached : (free : List ℕ) → All (λ i. i < 64) free → (n : Normal) → normalize free t.root ns ≡ some n → (p : ℕ) → Member p (panes_in n.root n.nodes) ↔ Shown t p
  panes-reached free h n e p = subst (λ (l : List ℕ). Member p l ↔ Shown t p) (sym (panes-seen ns size t.root free h n e)) (seen-shown p)

  -- ---- and of the public call

  abbrev Has : Repaired → ℕ → Type 0
  Has r p = Member p (panes_in r.tree.root r.tree.nodes)

  shown_by : (b : Bool) (n : Normal) (p : ℕ) → Member p (panes_in n.root n.nodes) ↔ Shown t p → (repaired_by b t n).answer ≡ Accepted → Has (repaired_by b t n) p ↔ Shown t p
  shown_by true n p f e = refused-not e
  shown_by false n p f e = f

  shown-as : (w : Option Normal) → normalize (empty_slots ns) t.root ns ≡ w → (repaired_as t w).answer ≡ Accepted → (p : ℕ) → Has (repaired_as t w) p ↔ Shown t p
  shown-as none q e p = refused-not e
  shown-as (some n) q e p = shown_by (any_of wide_node n.nodes) n p (panes-reached (empty_slots ns) (slots-inside ns size) n q p) e

  shown-if : (b : Bool) → (repair_by b t).answer ≡ Accepted → (p : ℕ) → Has (repair_by b t) p ↔ Shown t p
  shown-if true e p = refused-not e
  shown-if false e p = shown-as (normalize (empty_slots ns) t.root ns) refl e p

  -- an accepted repair's tree has exactly the panes that were reached
  pub repair-shown : (repair t).answer ≡ Accepted → (p : ℕ) → Has (repair t) p ↔ Shown t p
  unfolding repair
  repair-shown e p = shown-if t.over e p
