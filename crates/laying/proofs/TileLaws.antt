-- Laws that the cycle cites, over plain values: what a tile writes by what stands in its slot, and how a split's children end. Assumes nothing.
use mathlib.Core.Path.{◌≡◌, refl, sym, ap, ◌∙◌}
use mathlib.Core.List.{List, [], ◌∷◌, map}
use Prim.Native.Nat.{ℕ, zero, suc, ◌-◌, ◌≤◌}
use native.Mathlib.Numerals.{sub-one}
use native.Mathlib.Omega.{arith}
use lib.ListN.{length, take, get_or, length-map}
use lib.Seq.{length-take-le}
use lib.Ieee.{Float}
use Rattle.rules.specs.Tree.{Node, empty, pane, tabs, split, tile, node_at}
use Rattle.rules.specs.Frame.{Item, focus_item, a_pane, layout_tabs, layout_kids, split_lengths, layout_split, along_start, layout_node, layout_tile}
use Rattle.rules.specs.declared.model.TileId.{TileId}
use Rattle.rules.specs.declared.model.Axis.{Axis}
use Rattle.rules.specs.declared.frame.Rect.{Rect}
use Rattle.rules.specs.declared.frame.LayoutInput.{LayoutInput}
use Rattle.columns.specs.Columns.{bar_from, axis_from, node_by, node_from, nodes_from}
use Rattle.columns.specs.ColumnLaws.{nodes-at, split-of}
use Rattle.streaming.specs.Stream.{Stream, push_item, push_all}
use Rattle.laying.specs.Grid.{Grid}
use Rattle.streaming.proofs.Laws.{push-none, push-one, push-cons}

past_end : {A : Type 0} (xs : List A) (i : ℕ) (d : A) → length xs ≤ i → get_or xs i d ≡ d
past_end [] i d h = refl
past_end (x ∷ xs) zero d h = absurd (omega arith)
past_end (x ∷ xs) (suc i) d h = past_end xs i d (omega arith)

module _ (hs xs : List (List ℕ)) (ss ms : List (List Float)) (G : Grid hs xs ss ms) (i : LayoutInput) (id : ℕ) (r : Rect) (s : Stream) where
  abbrev ns : List Node
  ns = nodes_from hs xs ss ms

  abbrev h : List ℕ
  h = get_or hs id []

  slot_is : node_at ns (tile id) ≡ node_from h (get_or xs id []) (get_or ss id []) (get_or ms id [])
  slot_is = nodes-at hs xs ss ms G.heads G.ids G.shares G.minima id

  pub tile-zero : (d : ℕ) → d ≡ 0 → s ≡ push_all (layout_tile d ns i (tile id) r) s
  unfolding layout_tile
  tile-zero d e = sym (push-none s) ∙ ap (λ (k : ℕ). push_all (layout_tile k ns i (tile id) r) s) (sym e)

  -- one level, by what stands in the slot
  step : (d : ℕ) (n : Node) → (d ≡ 0 → ⊥) → node_at ns (tile id) ≡ n → layout_tile d ns i (tile id) r ≡ layout_node (layout_tile (d - 1) ns i) n (tile id) r i
  unfolding layout_tile
  step zero n z e = absurd (z refl)
  step (suc d) n z e = λ k. layout_node (layout_tile (sym (sub-one (suc d)) k) ns i) (e k) (tile id) r i

  nothing : (d : ℕ) → (d ≡ 0 → ⊥) → node_at ns (tile id) ≡ empty → s ≡ push_all (layout_tile d ns i (tile id) r) s
  nothing d z e = sym (push-none s) ∙ ap (λ (l : List Item). push_all l s) (sym (step d empty z e))

  pub tile-past : (d : ℕ) → (d ≡ 0 → ⊥) → 64 ≤ id → s ≡ push_all (layout_tile d ns i (tile id) r) s
  tile-past d z p = nothing d z (slot_is ∙ ap (λ (c : List ℕ). node_from c (get_or xs id []) (get_or ss id []) (get_or ms id [])) (past_end hs id [] (omega (arith, G.heads))))

  pub tile-empty : (d : ℕ) → (d ≡ 0 → ⊥) → get_or h 0 0 ≡ 0 → s ≡ push_all (layout_tile d ns i (tile id) r) s
  tile-empty d z k = nothing d z (slot_is ∙ ap (λ (x : ℕ). node_by x h (get_or xs id []) (get_or ss id []) (get_or ms id [])) k)

  module _ (d : ℕ) (z : d ≡ 0 → ⊥) (s' : Stream) where
    wrote : (n : Node) → node_at ns (tile id) ≡ n → s' ≡ push_all (layout_node (layout_tile (d - 1) ns i) n (tile id) r i) s → s' ≡ push_all (layout_tile d ns i (tile id) r) s
    wrote n e p = p ∙ ap (λ (l : List Item). push_all l s) (sym (step d n z e))

    pub tile-pane : get_or h 0 0 ≡ 1 → s' ≡ push_item (a_pane (get_or h 2 0) (tile id) r) (push_item (focus_item (get_or h 2 0)) s) → s' ≡ push_all (layout_tile d ns i (tile id) r) s
    tile-pane k p =
        wrote (pane (get_or h 2 0)) (slot_is ∙ ap (λ (x : ℕ). node_by x h (get_or xs id []) (get_or ss id []) (get_or ms id [])) k)
        (p ∙ sym (push-cons (focus_item (get_or h 2 0)) (a_pane (get_or h 2 0) (tile id) r ∷ []) s ∙ push-one (a_pane (get_or h 2 0) (tile id) r) (push_item (focus_item (get_or h 2 0)) s)))

    pub tile-tabs : get_or h 0 0 ≡ 2 → s' ≡ push_all (layout_tabs (tile id) (bar_from (get_or h 1 0)) (get_or h 3 0) (take (get_or h 4 0) (get_or xs id [])) r i) s → s' ≡ push_all (layout_tile d ns i (tile id) r) s
    tile-tabs k p =
        wrote (tabs (bar_from (get_or h 1 0)) (get_or h 3 0) (take (get_or h 4 0) (get_or xs id []))) (slot_is ∙ ap (λ (x : ℕ). node_by x h (get_or xs id []) (get_or ss id []) (get_or ms id [])) k) p

    pub tile-split : (get_or h 0 0 ≡ 0 → ⊥) → (get_or h 0 0 ≡ 1 → ⊥) → (get_or h 0 0 ≡ 2 → ⊥)
        → s' ≡ push_all (layout_split (layout_tile (d - 1) ns i) (tile id) (axis_from (get_or h 1 0)) (map tile (take (get_or h 4 0) (get_or xs id []))) (take (get_or h 5 0) (get_or ss id [])) (take (get_or h 6 0) (get_or ms id [])) r i) s
        → s' ≡ push_all (layout_tile d ns i (tile id) r) s
    tile-split a b c p =
        wrote (split (axis_from (get_or h 1 0)) (map tile (take (get_or h 4 0) (get_or xs id []))) (take (get_or h 5 0) (get_or ss id [])) (take (get_or h 6 0) (get_or ms id [])))
        (slot_is ∙ split-of (get_or h 0 0) h (get_or xs id []) (get_or ss id []) (get_or ms id []) a b c) p

-- a split's children, all written, are the split
pub split_done : (again : TileId → Rect → List Item) (g : TileId) (axis : Axis) (mode : ℕ) (row : List ℕ) (n : ℕ) (ss ms ls : List Float) (r : Rect) (i : LayoutInput) (at : Float) (s s' : Stream)
    → n ≤ length row → axis ≡ axis_from mode → ls ≡ (split_lengths axis n ss ms r i).lengths → at ≡ along_start axis r
    → s' ≡ push_all (layout_kids again g axis r i.split_handle_thickness 0 (map tile (take n row)) ls at) s
    → s' ≡ push_all (layout_split again g (axis_from mode) (map tile (take n row)) ss ms r i) s
unfolding layout_split
split_done again g axis mode row n ss ms ls r i at s s' few ea el es p =
    let cs = map tile (take n row) in
    let long : length cs ≡ n = length-map (take n row) tile ∙ length-take-le n row few in
    p ∙ (λ k. push_all (layout_kids again g axis r i.split_handle_thickness 0 cs ((el ∙ ap (λ (x : ℕ). (split_lengths axis x ss ms r i).lengths) (sym long)) k) (es k)) s)
    ∙ ap (λ (a : Axis). push_all (layout_split again g a cs ss ms r i) s) ea
