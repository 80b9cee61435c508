-- Repair lists nothing exactly where the walk that only reads comes to its end and leaves no occupied slot out. Assumes nothing.
use Rattle.std.specs.Prelude.{◌≡◌, Bool, true, ◌&&◌, ◌||◌, ℕ, suc, length, get_or, replicate}
use Rattle.std.proofs.Math.Path.{refl}
use Rattle.std.proofs.Common.{sym, ap, ◌∙◌, arith}
use Rattle.std.proofs.Math.Bool.{false}
use mathlib.Core.List.{List, [], ◌∷◌}
use Rattle.std.proofs.Math.Option.{Option, none, some}
use Rattle.rules.specs.Lists.{any_of}
use Rattle.rules.specs.Tree.{Node, empty, Arena, is_empty, wide_node, empty_slots, reading_from}
use Rattle.rules.specs.Repair.{Normal, Work, Out, begin, normalize_node, sweep, sweep_actions, swept, rooted, normalize, repaired_by, repaired_as, repair}
use Rattle.rules.specs.Sound.{is_none}
use Rattle.rules.specs.declared.model.TileId.{TileId}
use Rattle.rules.specs.declared.model.RepairAction.{RepairAction}
use Rattle.forest.specs.Actions.{all-narrow}
use Rattle.forest.specs.Grow.{tile-keeps}
use Rattle.forest.specs.Finish.{repair-whole}
use Rattle.forest.specs.Quiet.{passed, Silent, Mono, sweep-grows, walk-hushed, wide-plain}
use Rattle.forest.specs.Still.{is_still, none_lost, still_kept, still-gone}
use Rattle.calm.specs.Calm.{Look, look, calm, calm_end, calm_arena}
use Rattle.calm.specs.Tracks.{Tracks, Shown, shown-after, walk-tracks}

-- ---- lists of nodes, place by place

none-wide : (xs : List Node) → ((j : ℕ) → wide_node (get_or xs j empty) ≡ false) → any_of wide_node xs ≡ false
unfolding any_of
none-wide [] f = refl
none-wide (x ∷ xs) f = ap (λ (b : Bool). b || any_of wide_node xs) (f 0) ∙ none-wide xs (λ j. f (suc j))

none-same : (cs : List Bool) (xs ys : List Node) → length xs ≡ length ys → ((j : ℕ) → get_or cs j false ≡ false → get_or xs j empty ≡ get_or ys j empty) → length cs ≡ length ys → none_lost cs xs ≡ none_lost cs ys
unfolding none_lost
none-same cs [] [] l f k = refl
none-same cs [] (y ∷ ys) l f k = absurd (omega arith)
none-same cs (x ∷ xs) [] l f k = absurd (omega arith)
none-same [] (x ∷ xs) (y ∷ ys) l f k = absurd (omega arith)
none-same (c ∷ cs) (x ∷ xs) (y ∷ ys) l f k =
    (λ z. head c (f 0) z && none_lost cs xs) ∙ ap (λ (b : Bool). (c || is_empty y) && b) (none-same cs xs ys (omega arith) (λ j. f (suc j)) (omega arith))
  where
    head : (c : Bool) → (c ≡ false → x ≡ y) → (c || is_empty x) ≡ (c || is_empty y)
    head true g = refl
    head false g = ap is_empty (g refl)

module _ (a : Arena) (size : length a.nodes ≡ 64) (whole : a.over ≡ false) (narrow : any_of wide_node a.nodes ≡ false) where
  abbrev o : Out
  o = normalize_node 64 a.root (begin a.nodes)

  abbrev left : Work
  left = o.work

  abbrev free : List ℕ
  free = empty_slots a.nodes

  -- something was noted: it is listed, if the repair is accepted at all
  loud : (left.actions ≡ [] → ⊥) → is_still (repair a) ≡ false
  unfolding normalize
  loud n = go o.kept refl
    where
      some_left : (xs : List TileId) (ns : List Node) (l : List RepairAction) → sweep_actions 0 xs ns left.actions ≡ l → is_none l ≡ false
      some_left xs ns [] e = absurd (n (sweep-grows xs ns 0 left.actions e))
      some_left xs ns (x ∷ l) e = refl

      by : (b : Bool) (m : Normal) → is_none m.actions ≡ false → is_still (repaired_by b a m) ≡ false
      by true m e = refl
      by false m e = e

      go : (k : Option TileId) → o.kept ≡ k → is_still (repair a) ≡ false
      go none e = still-gone a size whole e
      go (some s) e =
          ap is_still (repair-whole a whole ∙ ap (λ (x : Option TileId). repaired_as a (rooted free x left)) e)
          ∙ by (any_of wide_node (swept 0 (reading_from left.state.nodes s) left.state.nodes)) (sweep s left.state.nodes left.actions) (some_left (reading_from left.state.nodes s) left.state.nodes _ refl)

  shown-first : Shown a.nodes (begin a.nodes).state
  shown-first j = (λ z. refl, λ x m. refl)

  module _ (l : Look) (quiet : left.actions ≡ []) (flags : left.state.claimed ≡ l.claimed) where
    hushed : (o.kept ≡ some a.root) × Silent (begin a.nodes).state left.state
    hushed = walk-hushed 64 a.root (begin a.nodes) (refl, size) quiet

    mono : Mono (begin a.nodes).state left.state
    mono j e = let (_, _, G) = tile-keeps 64 a.root (begin a.nodes) (refl, size) in (G.keep j e).0

    long : (length left.state.nodes ≡ length a.nodes) × (length left.state.claimed ≡ 64)
    long = let (_, _, G) = tile-keeps 64 a.root (begin a.nodes) (refl, size) in (G.size, G.long)

    slim : any_of wide_node left.state.nodes ≡ false
    slim = none-wide left.state.nodes at
      where
        by : (b c : Bool) (n : Node) → wide_node (passed b c n) ≡ wide_node n
        by false true n = wide-plain n
        by false false n = refl
        by true c n = refl

        at : (j : ℕ) → wide_node (get_or left.state.nodes j empty) ≡ false
        at j = ap wide_node (hushed.1 j) ∙ by (get_or (replicate 64 false) j false) (get_or left.state.claimed j false) (get_or a.nodes j empty) ∙ all-narrow a.nodes narrow j

    kept : is_still (repair a) ≡ none_lost l.claimed a.nodes
    kept =
        still_kept a size whole a.root hushed.0 slim ∙ ap (λ (x : List RepairAction). is_none x && none_lost left.state.claimed left.state.nodes) quiet
        ∙ none-same left.state.claimed left.state.nodes a.nodes long.0 (λ j e. (shown-after a.nodes (begin a.nodes).state left.state mono shown-first hushed.1 j).0 e) (long.1 ∙ sym size)
        ∙ ap (λ (cs : List Bool). none_lost cs a.nodes) flags

  pub calm-still : is_still (repair a) ≡ calm_arena a
  calm-still = go (calm 64 a.nodes a.root (look (replicate 64 false) [])) (walk-tracks a.nodes 64 a.root (begin a.nodes) (refl, size) shown-first refl)
    where
      go : (r : Option Look) → Tracks r left → is_still (repair a) ≡ calm_end a.nodes r
      go none n = loud n
      go (some l) (quiet, flags, _) = kept l quiet flags
