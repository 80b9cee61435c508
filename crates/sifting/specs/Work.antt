-- What the walk's arrays hold: the columns, which slots are claimed, the panes seen, and the actions. Definitions only.
use Rattle.std.specs.Prelude.{◌≡◌, Bool, List, [], ℕ, ◌+◌, ◌*◌, ◌≤◌, length, get_or, take, Float}
use Rattle.rules.specs.Tree.{Node}
use Rattle.rules.specs.Repair.{Work}
use Rattle.forest.specs.Lists.{free}
use Rattle.columns.specs.Columns.{nodes_from, Lists, Slim}
use Rattle.sifting.specs.declared.Counts.{Counts}

-- ---- all of the walk's arrays, and how far the last two are in use

pub record Cols : Type 0 where
  pub heads : List (List ℕ)
  pub ids : List (List ℕ)
  pub shares : List (List Float)
  pub minima : List (List Float)
  pub claimed : List Bool
  pub seen : List ℕ
  pub acts : List (List ℕ)
  pub counts : Counts

abbrev pub cols : List (List ℕ) → List (List ℕ) → List (List Float) → List (List Float) → List Bool → List ℕ → List (List ℕ) → Counts → Cols
cols hs xs ss ms cs seen acts c = record { heads = hs; ids = xs; shares = ss; minima = ms; claimed = cs; seen = seen; acts = acts; counts = c }

abbrev pub nodes_in : Cols → List Node
nodes_in C = nodes_from C.heads C.ids C.shares C.minima

-- every slot has its row in each column, no list is too long, and there is room for what each slot that is not claimed may yet add:
-- 16 panes, and 19 actions
pub record Sized (C : Cols) : Type 0 where
  pub heads : length C.heads ≡ 64
  pub ids : length C.ids ≡ 64
  pub shares : length C.shares ≡ 64
  pub minima : length C.minima ≡ 64
  pub flags : length C.claimed ≡ 64
  pub slim : (i : ℕ) → Slim (get_or C.heads i [])
  pub panes : C.counts.seen + 16 * free C.claimed ≤ 1024
  pub listing : C.counts.acts + 19 * free C.claimed ≤ 1217

-- the arrays show the rule's work
pub record Shows (C : Cols) (w : Work) : Type 0 where
  pub nodes : w.state.nodes ≡ nodes_in C
  pub claimed : w.state.claimed ≡ C.claimed
  pub panes : w.state.panes ≡ take C.counts.seen C.seen
  pub actions : Lists C.acts C.counts.acts w.actions
