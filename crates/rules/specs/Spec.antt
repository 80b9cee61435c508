-- A spec made a tree. From spec.rs, 95 to 172 (`validate_spec`, `validate_pane`), tree.rs, 182 to 192 and 370 to 408 (`from_spec`, `push_spec`),
-- and document 01, 'Spec bytes' and 'Refusals': 1, then 2 (over 64 rows), then 3 (a row over 16 children or panes), then the Rust's checks
-- in preorder, then 3 after repair.
-- Rows stand in preorder, so the Rust's recursion over a spec is a walk along the rows, each taking its entries off the other sections.
-- Definitions only.
use Rattle.std.specs.Prelude.{Bool, true, false, not, List, [], ◌∷◌, ◌++◌, ℕ, zero, suc, ◌-◌, leb, ltb, eqb, length, get_or, take, drop, set, replicate, Float}
use Rattle.std.proofs.Math.Option.{Option, none, some}
use Rattle.rules.specs.Numbers.{share_ok, minimum_ok}
use Rattle.rules.specs.Lists.{any_of, contains, position}
use Rattle.rules.specs.Tree.{Node, empty, pane, tabs, split, Arena, arena, tile, empty_slots, empty_group, wide_node}
use Rattle.rules.specs.Repair.{Normal, normalize}
use Rattle.rules.specs.Table.{Row, pane_row, tabs_row, split_row, panes_used, shares_used, minima_used, Table, read_table}
use Rattle.rules.specs.declared.model.TileId.{TileId}
use Rattle.rules.specs.Refusals.{Answer}
use Rattle.rules.specs.Refusals.{Accepted, Refused}
use Rattle.rules.specs.declared.refusal.Refusal.{Refusal}
use Rattle.rules.specs.declared.refusal.Refusal.TheVariants.{BadTable, ArenaFull, TooWide, DuplicatePane, EmptyTabs, TooFewSplitChildren, ShareCountMismatch, InvalidShare, TooManySplitConstraints, InvalidSplitConstraint, InvalidActiveTab}

-- ---- what is left of the sections at a row

pub record Left : Type 0 where
  pub panes : List ℕ
  pub shares : List Float
  pub minima : List Float

abbrev pub after : Row → Left → Left
after r l = record { panes = drop (panes_used r) l.panes; shares = drop (shares_used r) l.shares; minima = drop (minima_used r) l.minima }

abbrev pub row_panes : Row → Left → List ℕ
row_panes r l = take (panes_used r) l.panes

abbrev pub row_shares : Row → Left → List Float
row_shares r l = take (shares_used r) l.shares

abbrev pub row_minima : Row → Left → List Float
row_minima r l = take (minima_used r) l.minima

abbrev pub left_of : Table → Left
left_of t = record { panes = t.panes; shares = t.shares; minima = t.minima }

-- ---- validation

abbrev pub refuse_if : Bool → Refusal → Option Refusal → Option Refusal
refuse_if true e rest = some e
refuse_if false e rest = rest

abbrev pub refuse_at : Option ℕ → (ℕ → Refusal) → Option Refusal → Option Refusal
refuse_at (some i) e rest = some (e i)
refuse_at none e rest = rest

-- `validate_pane` of each: the first that was there before
unfoldable pub duplicate : List ℕ → List ℕ → Option Refusal
duplicate seen [] = none
duplicate seen (p ∷ ps) = refuse_if (contains p seen) (DuplicatePane p) (duplicate (seen ++ p ∷ []) ps)

abbrev pub split_refusal : ℕ → List Float → List Float → Option Refusal
split_refusal n ss ms =
    refuse_if (ltb n 2) (TooFewSplitChildren n)
    (refuse_if (not (eqb n (length ss))) (ShareCountMismatch n (length ss))
    (refuse_at (position (λ x. not (share_ok x)) ss) InvalidShare
    (refuse_if (ltb n (length ms)) (TooManySplitConstraints n (length ms))
    (refuse_at (position (λ x. not (minimum_ok x)) ms) InvalidSplitConstraint none))))

abbrev pub tabs_refusal : ℕ → List ℕ → List ℕ → Option Refusal
tabs_refusal a ps seen = refuse_if (eqb (length ps) 0) EmptyTabs (refuse_if (leb (length ps) a) (InvalidActiveTab a (length ps)) (duplicate seen ps))

abbrev pub row_refusal : Row → Left → List ℕ → Option Refusal
row_refusal pane_row l seen = duplicate seen (row_panes pane_row l)
row_refusal (tabs_row b n a) l seen = tabs_refusal a (row_panes (tabs_row b n a) l) seen
row_refusal (split_row x n s m) l seen = split_refusal n (row_shares (split_row x n s m) l) (row_minima (split_row x n s m) l)

abbrev pub first_refusal : Option Refusal → Option Refusal → Option Refusal
first_refusal (some e) rest = some e
first_refusal none rest = rest

-- the rows in order, with what is left of the sections and the panes seen
unfoldable pub validate : List Row → Left → List ℕ → Option Refusal
validate [] l seen = none
validate (r ∷ rs) l seen = first_refusal (row_refusal r l seen) (validate rs (after r l) (seen ++ row_panes r l))

-- ---- building: a row's tile is the next one, and its children's rows follow it

pub record Build : Type 0 where
  pub rows : List Row
  pub left : Left
  pub nodes : List Node

abbrev pub build : List Row → Left → List Node → Build
build rs l ns = record { rows = rs; left = l; nodes = ns }

pub record Children : Type 0 where
  pub ids : List TileId
  pub done : Build

abbrev pub pushed : Build → List Row → Row → Node → Build
pushed b rs r n = build rs (after r b.left) (b.nodes ++ n ∷ [])

-- `again` builds a child; its tile is the next one
unfoldable pub push_children : (Build → Build) → ℕ → List TileId → Build → Children
push_children again zero is b = record { ids = is; done = b }
push_children again (suc n) is b = push_children again n (is ++ tile (length b.nodes) ∷ []) (again b)

abbrev pub set_split : ℕ → Row → Left → Children → Build
set_split i pane_row l c = c.done
set_split i (tabs_row b n a) l c = c.done
set_split i (split_row x n s m) l c =
    build c.done.rows c.done.left
    (set c.done.nodes i (split x c.ids (row_shares (split_row x n s m) l) (row_minima (split_row x n s m) l)))

abbrev pub push_row : (Build → Build) → Row → List Row → Build → Build
push_row again pane_row rs b = pushed b rs pane_row (pane (get_or b.left.panes 0 0))
push_row again (tabs_row p n a) rs b = pushed b rs (tabs_row p n a) (tabs p a (row_panes (tabs_row p n a) b.left))
push_row again (split_row x n s m) rs b =
    set_split (length b.nodes) (split_row x n s m) b.left (push_children again n [] (pushed b rs (split_row x n s m) empty_group))

abbrev pub push_next : (Build → Build) → List Row → Build → Build
push_next again [] b = b
push_next again (r ∷ rs) b = push_row again r rs b

-- fuel for each row: rows are nested no deeper
unfoldable pub push_spec : ℕ → Build → Build
push_spec zero b = b
push_spec (suc f) b = push_next (push_spec f) b.rows b

abbrev pub padded : List Node → List Node
padded ns = ns ++ replicate (64 - length ns) empty

abbrev pub built_nodes : Table → List Node
built_nodes t = padded (push_spec (length t.rows) (build t.rows (left_of t) [])).nodes

-- ---- the public call

pub record Built : Type 0 where
  pub answer : Answer
  pub tree : Arena

-- a refused spec is an empty Hidden group as root in slot 0, nothing else, revision 0
abbrev pub refused_spec : Refusal → Built
refused_spec e = record { answer = Refused e; tree = arena (tile 0) 0 (empty_group ∷ replicate 63 empty) }

abbrev pub wide_row : Row → Bool
wide_row pane_row = false
wide_row (tabs_row b n a) = ltb 16 n
wide_row (split_row a n s m) = ltb 16 n

abbrev pub built_by : Bool → Normal → Built
built_by true n = refused_spec TooWide
built_by false n = record { answer = Accepted; tree = arena n.root 0 n.nodes }

abbrev pub built_as : Option Normal → Built
built_as none = refused_spec ArenaFull
built_as (some n) = built_by (any_of wide_node n.nodes) n

abbrev pub built_from : List Node → Built
built_from ns = built_as (normalize (empty_slots ns) (tile 0) ns)

abbrev pub validated : Option Refusal → Table → Built
validated (some e) t = refused_spec e
validated none t = built_from (built_nodes t)

abbrev pub narrow : Bool → Table → Built
narrow true t = refused_spec TooWide
narrow false t = validated (validate t.rows (left_of t) []) t

abbrev pub within : Bool → Table → Built
within true t = refused_spec ArenaFull
within false t = narrow (any_of wide_row t.rows) t

abbrev pub tabled : Option Table → Built
tabled none = refused_spec BadTable
tabled (some t) = within (ltb 64 (length t.rows)) t

unfoldable pub from_spec : List ℕ → Built
from_spec bs = tabled (read_table bs)
