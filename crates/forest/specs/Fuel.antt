-- More fuel gives the same answer, once there is fuel for each slot that is not claimed. By induction on the fuel. Assumes nothing.
use Rattle.std.specs.Prelude.{◌≡◌, Bool, true, ℕ, zero, suc, ◌≤◌, ◌<◌, leb, length, get_or, Float}
use Rattle.std.proofs.Math.Path.{refl, ap}
use Rattle.std.proofs.Common.{◌∙◌, arith, leb-false, length-set}
use Rattle.std.proofs.Math.Bool.{false}
use mathlib.Core.List.{List, [], ◌∷◌}
use Rattle.rules.specs.Tree.{Node, empty, pane, tabs, split, node_at}
use Rattle.rules.specs.Shares.{repaired_shares}
use Rattle.rules.specs.Minima.{aligned_constraints}
use Rattle.rules.specs.Repair.{Work, Out, gone, claim, Entry, entries, Run, run, place_out, kids_from, split_done, split_noted, split_step, by_node, by_claimed, by_range, tile_step, normalize_node}
use Rattle.rules.specs.declared.model.TileId.{TileId}
use Rattle.rules.specs.declared.model.Axis.{Axis}
use Rattle.forest.specs.Lists.{All, free, free-set}
use Rattle.forest.specs.Codec.{Least, start-least}
use Rattle.forest.specs.Grow.{Good, Works, good-after, kid-keeps, tile-keeps}

-- two walks that agree wherever f slots at most are not claimed
abbrev Agree : ℕ → (TileId → Work → Out) → (TileId → Work → Out) → Type 0
Agree f again more = (i : TileId) (w : Work) → Good w.state → free w.state.claimed ≤ f → again i w ≡ more i w

module _ (again more : TileId → Work → Out) (g : Works again) (f : ℕ) (same : Agree f again more) where
  kids-same : (a : Axis) (es : List Entry) (r : Run) → Good r.left.state → free r.left.state.claimed ≤ f → All Least es → kids_from again a es r ≡ kids_from more a es r
  unfolding kids_from
  kids-same a [] r good h le = refl
  kids-same a (e ∷ es) r good h le =
      let t = place_out a e r (again e.child r.left) in
      let (k, p, B, s) = kid-keeps again g a e r good le.0 in
      kids-same a es t (good-after r.left.state t.left.state k good B) (omega (arith, B.room)) le.1
      ∙ ap (λ (o : Out). kids_from more a es (place_out a e r o)) (same e.child r.left good h)

  split-same : (i : TileId) (a : Axis) (cs : List TileId) (ss ms : List Float) (w : Work) → Good w.state → free w.state.claimed ≤ f
      → split_step again i a cs ss ms w ≡ split_step more i a cs ss ms w
  unfolding split_step
  split-same i a cs ss ms w good h =
      let old = repaired_shares (length cs) ss in
      let mins = aligned_constraints (length cs) ms in
      ap (split_done i a ss) (kids-same a (entries cs old mins) (run [] false (split_noted i ss ms old mins w)) good h (start-least cs old ms (length cs)))

  module _ (i : TileId) (w : Work) (good : Good w.state) (h : free w.state.claimed ≤ suc f) where
    node-same : (n : Node) → i.slot < 64 → get_or w.state.claimed i.slot false ≡ false → by_node n again i w ≡ by_node n more i w
    node-same empty k e = refl
    node-same (pane p) k e = refl
    node-same (tabs b a ps) k e = refl
    node-same (split a cs ss ms) k e =
        split-same i a cs ss ms (claim i w) (length-set w.state.claimed i.slot true ∙ good.0, good.1)
        (omega (arith, free-set w.state.claimed i.slot (omega (arith, good.0)) e))

    claimed-same : (b : Bool) → i.slot < 64 → get_or w.state.claimed i.slot false ≡ b → by_claimed b again i w ≡ by_claimed b more i w
    claimed-same true k e = refl
    claimed-same false k e = node-same (node_at w.state.nodes i) k e

    range_same : (b : Bool) → leb 64 i.slot ≡ b → by_range b again i w ≡ by_range b more i w
    range_same true q = refl
    range_same false q = claimed-same (get_or w.state.claimed i.slot false) (leb-false 64 i.slot q) refl

    tile-same : tile_step again i w ≡ tile_step more i w
    unfolding tile_step
    tile-same = range_same (leb 64 i.slot) refl

-- with no slot left that is not claimed, a tile is no good
module _ (more : TileId → Work → Out) (i : TileId) (w : Work) (good : Good w.state) (h : free w.state.claimed ≤ 0) where
  none-claimed : (b : Bool) → i.slot < 64 → get_or w.state.claimed i.slot false ≡ b → gone i w ≡ by_claimed b more i w
  none-claimed true k e = refl
  none-claimed false k e = absurd (omega (arith, free-set w.state.claimed i.slot (omega (arith, good.0)) e))

  none-range : (b : Bool) → leb 64 i.slot ≡ b → gone i w ≡ by_range b more i w
  none-range true q = refl
  none-range false q = none-claimed (get_or w.state.claimed i.slot false) (leb-false 64 i.slot q) refl

  none-tile : gone i w ≡ tile_step more i w
  unfolding tile_step
  none-tile = none-range (leb 64 i.slot) refl

pub more-fuel : (f g : ℕ) → f ≤ g → (i : TileId) (w : Work) → Good w.state → free w.state.claimed ≤ f → normalize_node f i w ≡ normalize_node g i w
unfolding normalize_node
more-fuel zero zero le i w good h = refl
more-fuel zero (suc g) le i w good h = none-tile (normalize_node g) i w good h
more-fuel (suc f) zero le i w good h = absurd (omega arith)
more-fuel (suc f) (suc g) le i w good h = tile-same (normalize_node f) (normalize_node g) (tile-keeps f) f (more-fuel f g (omega arith)) i w good h
