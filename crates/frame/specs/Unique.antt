-- The answer is one: two frames that meet the contract of a layout by value are equal, places past a list's length aside. Assumes nothing.
use Rattle.std.specs.Prelude.{◌≡◌}
use Rattle.std.proofs.Common.{sym, ◌∙◌}
use Rattle.rules.specs.Tree.{view}
use Rattle.rules.specs.Frame.{layout}
use Rattle.rules.specs.declared.model.TileTree.{TileTree}
use Rattle.rules.specs.declared.frame.LayoutInput.{LayoutInput}
use Rattle.frame.specs.Frames.{view_layout}
use Rattle.frame.specs.declared.Layout.{Layout}

pub layout-unique : (t : TileTree) (i : LayoutInput) (a b : Layout) → view_layout a ≡ layout (view t) i → view_layout b ≡ layout (view t) i → view_layout a ≡ view_layout b
layout-unique t i a b p q = p ∙ sym q
