-- Document 01's marked examples, E1 to E12, as one table, and one statement: the rules, computed over all of it, give what it says.
-- Numbers of the table are quarters where they need not be whole. Trees are compared slot by slot; lengths and rectangles bit by bit.
-- Assumes nothing.
use Rattle.std.specs.Prelude.{Bool, true, false, ◌&&◌, List, [], ◌∷◌, ◌++◌, map, ℕ, ◌-◌, negsuc, T, eqb, length, replicate, Float}
use Rattle.std.specs.Float.{fin, binary64}
use Rattle.std.specs.Float.Ieee.{to_bits, add, sub, mul, div, lt, le, eq, neg, is_nan, of_int}
use Rattle.rules.specs.Numbers.{zero-f, half-f, one-f, whole, hundredth}
use Rattle.rules.specs.Lists.{all_of, any_of, same_list, insert_at, remove_at, position_from, tabulate}
use Rattle.rules.specs.Tree.{Node, empty, pane, tabs, split, Arena, arena, tile, empty_from, reading, same_tree}
use Rattle.rules.specs.Shares.{fix_share, repaired_shares}
use Rattle.rules.specs.Minima.{fix_minimum, aligned_constraints, compact_constraints, min_major, split_min_major}
use Rattle.rules.specs.Solver.{Lengths, solve_lengths_with_min, sum_by, pin, spread, any_short, run, start}
use Rattle.rules.specs.Tabs.{split_tab_bar, tab_rects}
use Rattle.rules.specs.Repair.{added, retain, group_step, entries, kids_from, split_step, tile_step, normalize_node, swept, sweep_actions, normalize, repair}
use Rattle.rules.specs.Sound.{sound}
use Rattle.rules.specs.Target.{locate, seek_parent, panes_along, validate_target}
use Rattle.rules.specs.Insert.{insert_tile_near}
use Rattle.rules.specs.Operations.{Applied, apply_inner, apply}
use Rattle.rules.specs.Frame.{Laid, input_ok, plus_input, tabs_from, layout_tabs, layout_kids, layout_split, layout_tile, gather, layout}
use Rattle.rules.specs.Refusals.{Told, told, answer_of}
use Rattle.rules.specs.declared.model.Axis.TheVariants.{Horizontal, Vertical}
use Rattle.rules.specs.declared.model.Placement.TheVariants.{Before, After}
use Rattle.rules.specs.declared.model.TabBarPlacement.TheVariants.{Top}
use Rattle.rules.specs.declared.frame.Rect.{Rect}
use Rattle.rules.specs.declared.frame.LayoutInput.{LayoutInput}
use Rattle.rules.specs.declared.frame.PaneFrame.{PaneFrame}
use Rattle.rules.specs.declared.operation.DockTarget.TheVariants.{Root}
use Rattle.rules.specs.declared.operation.TileOp.{TileOp}
use Rattle.rules.specs.declared.operation.TileOp.TheVariants.{SplitPane, MovePane}

-- ---- how a row is written

-- n quarters
abbrev quarters : ℕ → Float
quarters n = mul binary64 (whole n) (fin false 1 (negsuc 1))

-- the first slots, the rest empty; tiles of panes 1, 2, .. stand in slots 1, 2, ..
abbrev tree : ℕ → ℕ → List Node → Arena
tree root revision ns = arena (tile root) revision (ns ++ replicate (64 - length ns) empty)

pub record Box : Type 0 where
  pub x0 : ℕ
  pub y0 : ℕ
  pub x1 : ℕ
  pub y1 : ℕ

abbrev box : ℕ → ℕ → ℕ → ℕ → Box
box a b c d = record { x0 = a; y0 = b; x1 = c; y1 = d }

pub record Shown : Type 0 where
  pub pane : ℕ
  pub at : Box

abbrev shown : ℕ → Box → Shown
shown p b = record { pane = p; at = b }

abbrev input : Box → ℕ → ℕ → LayoutInput
input b handle bar =
    record { bounds = record { x0 = whole b.x0; y0 = whole b.y0; x1 = whole b.x1; y1 = whole b.y1 }; tab_bar_thickness = whole bar; split_handle_thickness = whole handle; min_pane_size = record { width = zero-f; height = zero-f } }

pub data Example : Type 0 where
  -- total, shares, minima, all in quarters; lengths in quarters, passes
  solves : ℕ → List ℕ → List ℕ → List ℕ → ℕ → Example
  -- the tree and the operation; the answer and the tree
  applies : Arena → TileOp → Told → Arena → Example
  -- the tree and the input; panes, handles and tabs
  lays : Arena → LayoutInput → List Shown → List Box → List Box → Example

-- ---- the table

pub rows : List Example
rows =
    -- E1
    solves 400 (4 ∷ 12 ∷ []) (0 ∷ 0 ∷ []) (100 ∷ 300 ∷ []) 0 ∷
    -- E2
    solves 400 (4 ∷ 12 ∷ []) (160 ∷ 0 ∷ []) (160 ∷ 240 ∷ []) 2 ∷
    -- E3
    solves 400 (4 ∷ 4 ∷ 8 ∷ []) (160 ∷ 100 ∷ 0 ∷ []) (160 ∷ 100 ∷ 140 ∷ []) 3 ∷
    -- E4
    solves 200 (4 ∷ 4 ∷ []) (300 ∷ 100 ∷ []) (150 ∷ 50 ∷ []) 0 ∷
    -- E5
    solves 400 (4 ∷ 4 ∷ []) (300 ∷ 100 ∷ []) (300 ∷ 100 ∷ []) 0 ∷
    -- E6
    solves 0 (4 ∷ 4 ∷ []) (300 ∷ 100 ∷ []) (0 ∷ 0 ∷ []) 0 ∷
    -- E7
    applies (tree 0 0 (split Horizontal (tile 1 ∷ tile 2 ∷ []) (one-f ∷ one-f ∷ []) [] ∷ pane 1 ∷ pane 2 ∷ []))
    (SplitPane 1 Horizontal 3 Before (quarters 1))
    (told 0 0 0)
    (tree 0 1 (split Horizontal (tile 3 ∷ tile 1 ∷ tile 2 ∷ []) (quarters 1 ∷ quarters 3 ∷ one-f ∷ []) [] ∷ pane 1 ∷ pane 2 ∷ pane 3 ∷ [])) ∷
    -- E8
    applies (tree 0 0 (split Horizontal (tile 1 ∷ tile 2 ∷ []) (one-f ∷ one-f ∷ []) [] ∷ pane 1 ∷ pane 2 ∷ []))
    (SplitPane 1 Vertical 3 After (quarters 1))
    (told 0 0 0)
    (tree 0 1 (split Horizontal (tile 4 ∷ tile 2 ∷ []) (one-f ∷ one-f ∷ []) [] ∷ pane 1 ∷ pane 2 ∷ pane 3 ∷ split Vertical (tile 1 ∷ tile 3 ∷ []) (quarters 3 ∷ quarters 1 ∷ []) [] ∷ [])) ∷
    -- E9
    applies (tree 0 0 (split Horizontal (tile 1 ∷ tile 2 ∷ tile 3 ∷ []) (one-f ∷ one-f ∷ one-f ∷ []) [] ∷ pane 1 ∷ pane 2 ∷ pane 3 ∷ []))
    (MovePane 3 Root)
    (told 0 0 0)
    (tree 5 1 (empty ∷ pane 1 ∷ pane 2 ∷ empty ∷ tabs Top 0 (3 ∷ []) ∷ split Horizontal (tile 1 ∷ tile 2 ∷ tile 4 ∷ []) (half-f ∷ half-f ∷ half-f ∷ []) [] ∷ [])) ∷
    -- E10
    applies (tree 1 0 (empty ∷ pane 1 ∷ []))
    (MovePane 1 Root)
    (told 6 0 0)
    (tree 1 0 (empty ∷ pane 1 ∷ [])) ∷
    -- E11
    lays (tree 0 0 (split Horizontal (tile 1 ∷ tile 2 ∷ []) (one-f ∷ one-f ∷ []) [] ∷ pane 1 ∷ pane 2 ∷ []))
    (input (box 0 0 100 50) 4 0)
    (shown 1 (box 0 0 48 50) ∷ shown 2 (box 52 0 100 50) ∷ [])
    (box 48 0 52 50 ∷ [])
    [] ∷
    -- E12
    lays (tree 0 0 (tabs Top 0 (1 ∷ 2 ∷ 3 ∷ []) ∷ []))
    (input (box 0 0 90 40) 0 10)
    (shown 1 (box 0 10 90 40) ∷ [])
    []
    (box 0 0 30 10 ∷ box 30 0 60 10 ∷ box 60 0 90 10 ∷ []) ∷
    []

-- ---- how a row is tested

abbrev same_bits : Float → Float → Bool
same_bits x y = eqb (to_bits binary64 x) (to_bits binary64 y)

abbrev is_box : Rect → Box → Bool
is_box r b = same_bits r.x0 (whole b.x0) && same_bits r.y0 (whole b.y0) && same_bits r.x1 (whole b.x1) && same_bits r.y1 (whole b.y1)

all_boxes : List Rect → List Box → Bool
all_boxes [] [] = true
all_boxes [] (b ∷ bs) = false
all_boxes (r ∷ rs) [] = false
all_boxes (r ∷ rs) (b ∷ bs) = is_box r b && all_boxes rs bs

all_shown : List PaneFrame → List Shown → Bool
all_shown [] [] = true
all_shown [] (s ∷ ss) = false
all_shown (f ∷ fs) [] = false
all_shown (f ∷ fs) (s ∷ ss) = eqb f.pane s.pane && is_box f.rect s.at && all_shown fs ss

abbrev same_told : Told → Told → Bool
same_told a b = eqb a.number b.number && eqb a.first b.first && eqb a.second b.second

abbrev right_lengths : Lengths → List ℕ → ℕ → Bool
right_lengths l xs n = same_list same_bits l.lengths (map quarters xs) && eqb l.passes n

abbrev right_change : Applied → Told → Arena → Bool
right_change r e t = same_told (answer_of r.answer) e && same_tree r.tree t

abbrev right_frame : Laid → List Shown → List Box → List Box → Bool
right_frame r ps hs ts =
    same_told (answer_of r.answer) (told 0 0 0) && all_shown r.frame.panes ps && all_boxes (map (λ f. f.rect) r.frame.split_handles) hs && all_boxes (map (λ f. f.rect) r.frame.tabs) ts

pub right : Example → Bool
right (solves total shares minima lengths passes) = right_lengths (solve_lengths_with_min (quarters total) (map quarters shares) (map quarters minima)) lengths passes
right (applies a op e t) = right_change (apply a op) e t
right (lays a i ps hs ts) = right_frame (layout a i) ps hs ts

-- ---- the statement

pub marked-examples : T (all_of right rows)
unfolding rows right all_shown all_boxes to_bits add sub mul div lt le eq neg is_nan of_int hundredth all_of any_of same_list insert_at remove_at position_from tabulate empty_from reading fix_share repaired_shares fix_minimum aligned_constraints compact_constraints min_major split_min_major sum_by pin spread any_short run start solve_lengths_with_min split_tab_bar tab_rects added retain group_step entries kids_from split_step tile_step normalize_node swept sweep_actions normalize repair sound locate seek_parent panes_along validate_target insert_tile_near apply_inner apply input_ok plus_input tabs_from layout_tabs layout_kids layout_split layout_tile gather layout
marked-examples = tt
