-- Repair of an arena. From tree.rs, 154 to 160 (`record`), 265 to 308 (`normalize_with_report`, `repair`), 763 to 933 (`normalize_node`,
-- `normalize_split`, `mark_reachable`), and document 01, 'Repair' and 'The arena'.
-- The Rust's `visiting` has no part: a tile that is being visited is claimed. Fuel falls from tile to tile; where it is used up every slot is claimed.
-- Definitions only.
use Rattle.std.specs.Prelude.{Bool, true, false, not, ◌&&◌, ◌||◌, List, [], ◌∷◌, ◌++◌, map, ℕ, zero, suc, leb, eqb, length, get_or, set, replicate, Float}
use Rattle.std.proofs.Math.Option.{Option, none, some}
use Rattle.std.proofs.Math.ListN.{get_elem?}
use Rattle.std.specs.Float.{binary64}
use Rattle.std.specs.Float.Ieee.{mul, eq}
use Rattle.rules.specs.Numbers.{zero-f}
use Rattle.rules.specs.Lists.{any_of, contains, position}
use Rattle.rules.specs.Tree.{Node, empty, pane, tabs, split, Arena, arena, tile, node_at, set_node, is_empty, empty_slots, empty_group, wide_node, reading_from, same_tile, same_axis}
use Rattle.rules.specs.Shares.{repaired_shares, eq_reals}
use Rattle.rules.specs.Minima.{aligned_constraints, compact_constraints}
use Rattle.rules.specs.declared.model.TileId.{TileId}
use Rattle.rules.specs.declared.model.Axis.{Axis}
use Rattle.rules.specs.declared.model.TabBarPlacement.{TabBarPlacement}
use Rattle.rules.specs.declared.model.RepairAction.{RepairAction}
use Rattle.rules.specs.declared.model.RepairAction.TheVariants.{RemovedInvalidNode, RepairedActiveTab, RepairedShares, RepairedConstraints, CollapsedSplit, RemovedDuplicatePane}
use Rattle.rules.specs.Refusals.{Answer}
use Rattle.rules.specs.Refusals.{Accepted, Refused}
use Rattle.rules.specs.declared.refusal.Refusal.{Refusal}
use Rattle.rules.specs.declared.refusal.Refusal.TheVariants.{ArenaFull, TooWide}

-- ---- actions: one that is in the list already is not added

abbrev pub action_code : RepairAction → ℕ
action_code (RemovedInvalidNode i) = 0
action_code (RepairedActiveTab i) = 1
action_code (RepairedShares i) = 2
action_code (RepairedConstraints i) = 3
action_code (CollapsedSplit i) = 4
action_code (RemovedDuplicatePane p i) = 5

abbrev pub action_tile : RepairAction → TileId
action_tile (RemovedInvalidNode i) = i
action_tile (RepairedActiveTab i) = i
action_tile (RepairedShares i) = i
action_tile (RepairedConstraints i) = i
action_tile (CollapsedSplit i) = i
action_tile (RemovedDuplicatePane p i) = i

abbrev pub action_pane : RepairAction → ℕ
action_pane (RemovedInvalidNode i) = 0
action_pane (RepairedActiveTab i) = 0
action_pane (RepairedShares i) = 0
action_pane (RepairedConstraints i) = 0
action_pane (CollapsedSplit i) = 0
action_pane (RemovedDuplicatePane p i) = p

abbrev pub same_action : RepairAction → RepairAction → Bool
same_action a b = eqb (action_code a) (action_code b) && same_tile (action_tile a) (action_tile b) && eqb (action_pane a) (action_pane b)

abbrev pub added_by : Bool → RepairAction → List RepairAction → List RepairAction
added_by true a l = l
added_by false a l = l ++ a ∷ []

unfoldable pub added : RepairAction → List RepairAction → List RepairAction
added a l = added_by (any_of (same_action a) l) a l

abbrev pub added_if : Bool → RepairAction → List RepairAction → List RepairAction
added_if true a l = added a l
added_if false a l = l

-- ---- the walk's state: the slots, which are claimed, which panes were seen; beside it the actions

pub record State : Type 0 where
  pub nodes : List Node
  pub claimed : List Bool
  pub panes : List ℕ

pub record Work : Type 0 where
  pub state : State
  pub actions : List RepairAction

pub record Out : Type 0 where
  pub kept : Option TileId
  pub work : Work

abbrev pub state : List Node → List Bool → List ℕ → State
state ns cs ps = record { nodes = ns; claimed = cs; panes = ps }

abbrev pub work : State → List RepairAction → Work
work s l = record { state = s; actions = l }

abbrev pub out : Option TileId → Work → Out
out k w = record { kept = k; work = w }

abbrev pub note : RepairAction → Work → Work
note a w = work w.state (added a w.actions)

abbrev pub note_if : Bool → RepairAction → Work → Work
note_if b a w = work w.state (added_if b a w.actions)

abbrev pub store : TileId → Node → Work → Work
store i n w = work (state (set_node i n w.state.nodes) w.state.claimed w.state.panes) w.actions

abbrev pub clear : TileId → Work → Work
clear i w = store i empty w

abbrev pub claim : TileId → Work → Work
claim i w = work (state w.state.nodes (set w.state.claimed i.slot true) w.state.panes) w.actions

abbrev pub see : ℕ → Work → Work
see p w = work (state w.state.nodes w.state.claimed (w.state.panes ++ p ∷ [])) w.actions

abbrev pub seen : ℕ → Work → Bool
seen p w = contains p w.state.panes

-- ---- a tile that is no good, and a plain pane: its first sight wins

abbrev pub gone : TileId → Work → Out
gone i w = out none (note (RemovedInvalidNode i) w)

abbrev pub pane_by : Bool → TileId → ℕ → Work → Out
pane_by true i p w = out none (clear i (note (RemovedDuplicatePane p i) w))
pane_by false i p w = out (some i) (see p w)

abbrev pub pane_step : TileId → ℕ → Work → Out
pane_step i p w = pane_by (seen p w) i p w

-- ---- a group: the panes not seen before are kept, and the active one is found again by its pane

pub record Sifted : Type 0 where
  pub list : List ℕ
  pub left : Work

abbrev pub sifted : List ℕ → Work → Sifted
sifted ps w = record { list = ps; left = w }

abbrev pub sift_by : Bool → TileId → ℕ → Sifted → Sifted
sift_by true i p s = sifted s.list (note (RemovedDuplicatePane p i) s.left)
sift_by false i p s = sifted (s.list ++ p ∷ []) (see p s.left)

abbrev pub sift_pane : TileId → ℕ → Sifted → Sifted
sift_pane i p s = sift_by (seen p s.left) i p s

unfoldable pub retain : TileId → List ℕ → Sifted → Sifted
retain i [] s = s
retain i (p ∷ ps) s = retain i ps (sift_pane i p s)

abbrev pub or_first : Option ℕ → ℕ
or_first none = 0
or_first (some n) = n

-- the place of the pane that was active, and 0 where there was none or it is gone
abbrev pub active_of : Option ℕ → List ℕ → ℕ
active_of none ps = 0
active_of (some p) ps = or_first (position (eqb p) ps)

abbrev pub group_done : TileId → TabBarPlacement → ℕ → ℕ → List ℕ → Work → Out
group_done i b old new ps w = out (some i) (store i (tabs b new ps) (note_if (not (eqb old new)) (RepairedActiveTab i) w))

abbrev pub group_left : TileId → TabBarPlacement → ℕ → List ℕ → List ℕ → Work → Out
group_left i b a ps [] w = out none (clear i (note (RemovedInvalidNode i) w))
group_left i b a ps (q ∷ qs) w = group_done i b a (active_of (get_elem? ps a) (q ∷ qs)) (q ∷ qs) w

unfoldable pub group_step : TileId → TabBarPlacement → ℕ → List ℕ → Work → Out
group_step i b a ps w = let s = retain i ps (sifted [] w) in group_left i b a ps s.list s.left

-- ---- a split: its children with their shares and minima

pub record Entry : Type 0 where
  pub child : TileId
  pub share : Float
  pub minimum : Float

abbrev pub entry : TileId → Float → Float → Entry
entry c s m = record { child = c; share = s; minimum = m }

unfoldable pub entries : List TileId → List Float → List Float → List Entry
entries [] ss ms = []
entries (c ∷ cs) [] ms = []
entries (c ∷ cs) (s ∷ ss) [] = []
entries (c ∷ cs) (s ∷ ss) (m ∷ ms) = entry c s m ∷ entries cs ss ms

-- what is kept so far, whether the structure changed, and the work
pub record Run : Type 0 where
  pub list : List Entry
  pub moved : Bool
  pub left : Work

abbrev pub run : List Entry → Bool → Work → Run
run l b w = record { list = l; moved = b; left = w }

-- a child split of the same axis whose own minimum is zero is melted in
abbrev pub melts : Axis → Float → Node → Bool
melts a m empty = false
melts a m (pane p) = false
melts a m (tabs b x ps) = false
melts a m (split b cs ss ms) = same_axis b a && eq m zero-f

abbrev pub scaled : Float → Entry → Entry
scaled s e = entry e.child (mul binary64 s e.share) e.minimum

-- its children, each share multiplied by its own
abbrev pub melted : Float → Node → List Entry
melted s empty = []
melted s (pane p) = []
melted s (tabs b x ps) = []
melted s (split b cs ss ms) = map (scaled s) (entries cs (repaired_shares (length cs) ss) (aligned_constraints (length cs) ms))

abbrev pub place_by : Bool → Entry → TileId → Node → Run → Work → Run
place_by true e c n r w = run (r.list ++ melted e.share n) true (clear c (note (CollapsedSplit c) w))
place_by false e c n r w = run (r.list ++ entry c e.share e.minimum ∷ []) r.moved w

-- a child's repair came back: dropped, melted in, or placed as it is
abbrev pub place : Axis → Entry → Option TileId → Run → Work → Run
place a e none r w = run r.list true w
place a e (some c) r w = let n = node_at w.state.nodes c in place_by (melts a e.minimum n) e c n r w

abbrev pub place_out : Axis → Entry → Run → Out → Run
place_out a e r o = place a e o.kept r o.work

-- the children in order, `again` repairing each
unfoldable pub kids_from : (TileId → Work → Out) → Axis → List Entry → Run → Run
kids_from again a [] r = r
kids_from again a (e ∷ es) r = kids_from again a es (place_out a e r (again e.child r.left))

abbrev pub children_of : List Entry → List TileId
children_of es = map (λ e. e.child) es

abbrev pub shares_of : List Entry → List Float
shares_of es = map (λ e. e.share) es

abbrev pub minima_of : List Entry → List Float
minima_of es = map (λ e. e.minimum) es

abbrev pub kept_split : TileId → Axis → List Float → List Float → Run → Out
kept_split i a old ss r =
    out (some i)
    (store i (split a (children_of r.list) ss (compact_constraints (minima_of r.list)))
    (note_if (r.moved || not (eq_reals ss old)) (RepairedShares i) r.left))

-- none left: the split goes; one: it takes the split's place; else the split stays, with its shares repaired
abbrev pub split_left : TileId → Axis → List Float → List Entry → Run → Out
split_left i a old [] r = out none (clear i (note (RemovedInvalidNode i) r.left))
split_left i a old (e ∷ []) r = out (some e.child) (clear i (note (CollapsedSplit i) r.left))
split_left i a old (e ∷ f ∷ es) r = kept_split i a old (repaired_shares (length (e ∷ f ∷ es)) (shares_of (e ∷ f ∷ es))) r

abbrev pub split_done : TileId → Axis → List Float → Run → Out
split_done i a old r = split_left i a old r.list r

-- bad lists are noted before the children are repaired
abbrev pub split_noted : TileId → List Float → List Float → List Float → List Float → Work → Work
split_noted i ss ms old mins w =
    note_if (not (eq_reals old ss)) (RepairedShares i) (note_if (not (eq_reals (compact_constraints mins) ms)) (RepairedConstraints i) w)

unfoldable pub split_step : (TileId → Work → Out) → TileId → Axis → List TileId → List Float → List Float → Work → Out
split_step again i a cs ss ms w =
    let old = repaired_shares (length cs) ss in
    let mins = aligned_constraints (length cs) ms in
    split_done i a ss (kids_from again a (entries cs old mins) (run [] false (split_noted i ss ms old mins w)))

-- ---- a tile: out of range, claimed or empty it is no good; else it is claimed, and goes by its kind

abbrev pub by_node : Node → (TileId → Work → Out) → TileId → Work → Out
by_node empty again i w = gone i w
by_node (pane p) again i w = pane_step i p (claim i w)
by_node (tabs b a ps) again i w = group_step i b a ps (claim i w)
by_node (split a cs ss ms) again i w = split_step again i a cs ss ms (claim i w)

abbrev pub by_claimed : Bool → (TileId → Work → Out) → TileId → Work → Out
by_claimed true again i w = gone i w
by_claimed false again i w = by_node (node_at w.state.nodes i) again i w

abbrev pub by_range : Bool → (TileId → Work → Out) → TileId → Work → Out
by_range true again i w = gone i w
by_range false again i w = by_claimed (get_or w.state.claimed i.slot false) again i w

unfoldable pub tile_step : (TileId → Work → Out) → TileId → Work → Out
tile_step again i w = by_range (leb 64 i.slot) again i w

unfoldable pub normalize_node : ℕ → TileId → Work → Out
normalize_node zero = λ i w. gone i w
normalize_node (suc f) = tile_step (normalize_node f)

-- ---- the sweep: what is not reached is emptied, and listed where it was occupied

abbrev pub is_reached : ℕ → List TileId → Bool
is_reached i xs = any_of (same_tile (tile i)) xs

abbrev pub sweep_by : Bool → Node → Node
sweep_by true n = n
sweep_by false n = empty

unfoldable pub swept : ℕ → List TileId → List Node → List Node
swept i xs [] = []
swept i xs (n ∷ ns) = sweep_by (is_reached i xs) n ∷ swept (suc i) xs ns

abbrev pub sweep_note : Bool → ℕ → List RepairAction → List RepairAction
sweep_note true i l = l
sweep_note false i l = added (RemovedInvalidNode (tile i)) l

unfoldable pub sweep_actions : ℕ → List TileId → List Node → List RepairAction → List RepairAction
sweep_actions i xs [] l = l
sweep_actions i xs (n ∷ ns) l = sweep_actions (suc i) xs ns (sweep_note (is_reached i xs || is_empty n) i l)

-- ---- the whole. `free`: the slots that were empty when the call began, and are not taken

pub record Normal : Type 0 where
  pub root : TileId
  pub nodes : List Node
  pub actions : List RepairAction

abbrev pub sweep : TileId → List Node → List RepairAction → Normal
sweep r ns l =
    let xs = reading_from ns r in
    record { root = r; nodes = swept 0 xs ns; actions = sweep_actions 0 xs ns l }

-- nothing kept: a fresh empty Hidden group in the lowest free slot, if there is one
abbrev pub rooted : List ℕ → Option TileId → Work → Option Normal
rooted free (some r) w = some (sweep r w.state.nodes w.actions)
rooted [] none w = none
rooted (i ∷ is) none w = some (sweep (tile i) (set_node (tile i) empty_group w.state.nodes) w.actions)

abbrev pub begin : List Node → Work
begin ns = work (state ns (replicate 64 false) []) []

abbrev pub rooted_out : List ℕ → Out → Option Normal
rooted_out free o = rooted free o.kept o.work

unfoldable pub normalize : List ℕ → TileId → List Node → Option Normal
normalize free r ns = rooted_out free (normalize_node 64 r (begin ns))

-- ---- the public call: 3 for a list given too long, before anything else; 2 where there is no room for a root; 3 for a list made too long

pub record Repaired : Type 0 where
  pub answer : Answer
  pub tree : Arena
  pub actions : List RepairAction

abbrev pub refused_repair : Refusal → Arena → Repaired
refused_repair e a = record { answer = Refused e; tree = a; actions = [] }

abbrev pub repaired_by : Bool → Arena → Normal → Repaired
repaired_by true a n = refused_repair TooWide a
repaired_by false a n = record { answer = Accepted; tree = arena n.root a.revision n.nodes; actions = n.actions }

abbrev pub repaired_as : Arena → Option Normal → Repaired
repaired_as a none = refused_repair ArenaFull a
repaired_as a (some n) = repaired_by (any_of wide_node n.nodes) a n

abbrev pub repair_by : Bool → Arena → Repaired
repair_by true a = refused_repair TooWide a
repair_by false a = repaired_as a (normalize (empty_slots a.nodes) a.root a.nodes)

unfoldable pub repair : Arena → Repaired
repair a = repair_by a.over a
