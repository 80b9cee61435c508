-- Layout does not see the sign of a zero minimum: slots are laid out as they are with minus zero read as zero. Assumes nothing.
use Rattle.std.specs.Prelude.{◌≡◌, refl, Bool, true, false, ◌&&◌, ◌||◌, cond, List, [], ◌∷◌, map, ℕ, zero, suc, length, Float}
use Rattle.std.proofs.Common.{sym, ap, ◌∙◌}
use Rattle.std.proofs.Math.ListN.{get_or-map}
use Rattle.std.specs.Float.{nan, inf, fin}
use Rattle.std.specs.Float.Ieee.{lt, le, eq}
use Rattle.std.specs.Float.Ieee.Scale.{finite}
use Rattle.rules.specs.Numbers.{zero-f, larger, plus, minimum_ok}
use Rattle.rules.specs.Tree.{Node, empty, pane, tabs, split, node_at}
use Rattle.rules.specs.Minima.{least_of, min_major, min_major_by, split_min_major}
use Rattle.rules.specs.Shares.{repaired_shares}
use Rattle.rules.specs.Solver.{solve_lengths_with_min}
use Rattle.rules.specs.Tabs.{major_size}
use Rattle.rules.specs.Frame.{Item, along_start, child_total, layout_kids, layout_node, layout_split, layout_tile}
use Rattle.rules.specs.declared.model.TileId.{TileId}
use Rattle.rules.specs.declared.frame.Rect.{Rect}
use Rattle.rules.specs.declared.frame.LayoutInput.{LayoutInput}
use Rattle.forest.specs.Lists.{never}
use Rattle.forest.specs.Quiet.{plain_node, plain_nodes}
use Rattle.forest.specs.Equal.{zero-flip}

-- ---- a minimum

zero-finite : (x : Float) → eq x zero-f ≡ true → finite x ≡ true
unfolding eq
zero-finite nan e = never (sym e)
zero-finite (inf s) e = never (sym e)
zero-finite (fin s m d) e = refl

-- minus zero is a good minimum
zero-good : (x : Float) → eq x zero-f ≡ true → minimum_ok x ≡ true
unfolding le
zero-good x e = (λ z. zero-finite x e z && (lt zero-f x || zero-flip x e z)) ∙ or-true (lt zero-f x)
  where
    or-true : (b : Bool) → (b || true) ≡ true
    or-true true = refl
    or-true false = refl

-- whether a minimum is good, and what it comes to, does not hang on a zero's sign
least-plus : (d m : Float) → least_of d (plus m) ≡ least_of d m
unfolding eq lt le
least-plus d m = go (eq m zero-f) refl
  where
    go : (b : Bool) → eq m zero-f ≡ b → least_of d (cond b zero-f m) ≡ least_of d m
    go true e = λ z. cond (sym (zero-good m e) z) (larger (plus d) (cond (sym e z) zero-f m)) (plus d)
    go false e = refl

major-plus : (n : ℕ) (ms : List Float) (d : Float) → min_major n (map plus ms) d ≡ min_major n ms d
unfolding min_major
major-plus zero ms d = refl
major-plus (suc n) [] d = refl
major-plus (suc n) (m ∷ ms) d = λ z. least-plus d m z ∷ major-plus n ms d z

pub minima-plus : (n : ℕ) (ms : List Float) (d : Float) → split_min_major n (map plus ms) d ≡ split_min_major n ms d
unfolding split_min_major
minima-plus n ms d = go (minimum_ok d)
  where
    go : (b : Bool) → min_major_by b n (map plus ms) d ≡ min_major_by b n ms d
    go true = major-plus n ms d
    go false = refl

-- ---- a node, and the whole

node-plain : (again : TileId → Rect → List Item) (n : Node) (t : TileId) (r : Rect) (i : LayoutInput) → layout_node again (plain_node n) t r i ≡ layout_node again n t r i
unfolding layout_split
node-plain again empty t r i = refl
node-plain again (pane p) t r i = refl
node-plain again (tabs b a ps) t r i = refl
node-plain again (split a cs ss ms) t r i =
    ap (λ (ls : List Float). layout_kids again t a r i.split_handle_thickness 0 cs (solve_lengths_with_min (child_total a (length cs) r i) (repaired_shares (length cs) ss) ls).lengths (along_start a r))
    (minima-plus (length cs) ms (major_size i.min_pane_size a))

pub layout-plain : (f : ℕ) (ns : List Node) (i : LayoutInput) (t : TileId) (r : Rect) → layout_tile f (plain_nodes ns) i t r ≡ layout_tile f ns i t r
unfolding layout_tile
layout-plain zero ns i t r = refl
layout-plain (suc f) ns i t r =
    (λ z. layout_node (λ (u : TileId) (q : Rect). layout-plain f ns i u q z) (get_or-map plain_node ns t.slot empty z) t r i)
    ∙ node-plain (layout_tile f ns i) (node_at ns t) t r i
