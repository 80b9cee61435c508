-- A walk that only reads: repair's walk (rules, Repair) up to the first thing that it would note. Definitions only.
use Rattle.std.specs.Prelude.{Bool, true, false, cond, List, [], ◌∷◌, ◌++◌, ℕ, zero, suc, leb, ltb, length, get_or, set, replicate, Float}
use Rattle.std.proofs.Math.Option.{Option, none, some}
use Rattle.rules.specs.Lists.{contains}
use Rattle.rules.specs.Shares.{repaired_shares, eq_reals}
use Rattle.rules.specs.Minima.{aligned_constraints, compact_constraints}
use Rattle.rules.specs.Tree.{Node, empty, pane, tabs, split, Arena, node_at}
use Rattle.rules.specs.Repair.{Entry, entries, melts}
use Rattle.rules.specs.declared.model.TileId.{TileId}
use Rattle.rules.specs.declared.model.Axis.{Axis}
use Rattle.forest.specs.Still.{none_lost}

-- what the walk knows: which slots are claimed, and which panes were seen
pub record Look : Type 0 where
  pub claimed : List Bool
  pub panes : List ℕ

abbrev pub look : List Bool → List ℕ → Look
look cs ps = record { claimed = cs; panes = ps }

abbrev pub taking : TileId → Look → Look
taking i l = look (set l.claimed i.slot true) l.panes

-- panes, each at its first sight
unfoldable pub calm_panes : List ℕ → List ℕ → Option (List ℕ)
calm_panes [] seen = some seen
calm_panes (p ∷ ps) seen = cond (contains p seen) none (calm_panes ps (seen ++ p ∷ []))

abbrev pub seeing : List Bool → Option (List ℕ) → Option Look
seeing cs none = none
seeing cs (some ps) = some (look cs ps)

abbrev pub calm_group : ℕ → List ℕ → Look → Option Look
calm_group a ps l = cond (ltb a (length ps)) (seeing l.claimed (calm_panes ps l.panes)) none

-- a child that repair would melt in is none
abbrev pub unmelted : List Node → Axis → Entry → Option Look → Option Look
unmelted ns a e none = none
unmelted ns a e (some l) = cond (melts a e.minimum (node_at ns e.child)) none (some l)

abbrev pub and_then : Option Look → (Look → Option Look) → Option Look
and_then none f = none
and_then (some l) f = f l

-- the children in order, `again` reading each
unfoldable pub calm_kids : (TileId → Look → Option Look) → List Node → Axis → List Entry → Option Look → Option Look
calm_kids again ns a [] o = o
calm_kids again ns a (e ∷ es) o = calm_kids again ns a es (unmelted ns a e (and_then o (again e.child)))

-- a split whose lists need no mending, of two children or more
abbrev pub calm_split : (TileId → Look → Option Look) → List Node → Axis → List TileId → List Float → List Float → Look → Option Look
calm_split again ns a cs ss ms l =
    cond (eq_reals (repaired_shares (length cs) ss) ss)
    (cond (eq_reals (compact_constraints (aligned_constraints (length cs) ms)) ms)
    (cond (leb 2 (length cs)) (calm_kids again ns a (entries cs (repaired_shares (length cs) ss) (aligned_constraints (length cs) ms)) (some l)) none) none) none

abbrev pub calm_node : Node → (TileId → Look → Option Look) → List Node → Look → Option Look
calm_node empty again ns l = none
calm_node (pane p) again ns l = seeing l.claimed (calm_panes (p ∷ []) l.panes)
calm_node (tabs b a ps) again ns l = calm_group a ps l
calm_node (split a cs ss ms) again ns l = calm_split again ns a cs ss ms l

unfoldable pub calm_tile : (TileId → Look → Option Look) → List Node → TileId → Look → Option Look
calm_tile again ns i l = cond (leb 64 i.slot) none (cond (get_or l.claimed i.slot false) none (calm_node (node_at ns i) again ns (taking i l)))

-- fuel falls from tile to tile, as in repair
unfoldable pub calm : ℕ → List Node → TileId → Look → Option Look
calm zero ns i l = none
calm (suc f) ns i l = calm_tile (calm f ns) ns i l

-- the whole: the walk ends well, and leaves no occupied slot out
abbrev pub calm_end : List Node → Option Look → Bool
calm_end ns none = false
calm_end ns (some l) = none_lost l.claimed ns

abbrev pub calm_arena : Arena → Bool
calm_arena a = calm_end a.nodes (calm 64 a.nodes a.root (look (replicate 64 false) []))
