-- The words for a move's target, as document 01 has them ('Operations'). When a move refuses is proved in proofs/MoveExact. Definitions only.
use Rattle.std.specs.Prelude.{◌≡◌, ◌⊎◌, ℕ}
use Rattle.std.proofs.Math.Bool.{false}
use Rattle.rules.specs.Tree.{empty, pane, Arena, node_at, is_empty}
use Rattle.rules.specs.declared.operation.DockTarget.{DockTarget}
use Rattle.rules.specs.declared.operation.DockTarget.TheVariants.{Root, Split, TabInto}
use Rattle.promises.specs.OpsExact.{IsGroup}
use Rattle.promises.specs.SplitExact.{Fraction}

-- ---- the targets' words

module _ (a : Arena) (p : ℕ) where
  -- a bad ratio, or into what stands and is no group
  abbrev pub Bad : DockTarget → Type 0
  Bad Root = ⊥
  Bad (Split t x side ratio) = Fraction ratio → ⊥
  Bad (TabInto g i) = (is_empty (node_at a.nodes g) ≡ false) × (IsGroup (node_at a.nodes g) → ⊥)

  -- no tile, or the pane's own
  abbrev pub Gone : DockTarget → Type 0
  Gone Root = node_at a.nodes a.root ≡ pane p
  Gone (Split t x side ratio) = Fraction ratio × ((node_at a.nodes t ≡ empty) ⊎ (node_at a.nodes t ≡ pane p))
  Gone (TabInto g i) = node_at a.nodes g ≡ empty
