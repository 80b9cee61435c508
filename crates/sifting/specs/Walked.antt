-- What a step of the walk promises: the arrays after it show the rule's work after it. Definitions only.
use Rattle.std.specs.Prelude.{◌≡◌, Bool, true, false, List, map, ℕ, ◌+◌, ◌*◌, ◌≤◌, ◌<◌, length}
use Rattle.std.proofs.Math.Option.{Option, none, some}
use Rattle.rules.specs.Tree.{tile, ids, reals}
use Rattle.rules.specs.Repair.{State, Work, Out, Entry, entries, run, place, normalize_node}
use Rattle.rules.specs.declared.model.TileId.{TileId}
use Rattle.forest.specs.Lists.{free}
use Rattle.forest.specs.Wide.{Swollen}
use Rattle.sifting.specs.Work.{Cols, Sized, Shows}
use Rattle.columns.specs.Columns.{axis_from}
use Rattle.sifting.specs.declared.Kept.{Kept}
use Rattle.sifting.specs.declared.Kept.TheVariants.{At, Gone, Wide}
use Rattle.sifting.specs.declared.Kids.{Kids}

-- what is kept, as the rule has it; a list that passed 16 has no word there
abbrev pub kept_as : Kept → Option TileId
kept_as (At i) = some (tile i)
kept_as Gone = none
kept_as Wide = none

-- a tile that is kept may yet be melted, which is one action more
abbrev pub reserve : Kept → ℕ
reserve (At i) = 1
reserve Gone = 0
reserve Wide = 0

-- the rule's answer, where the arrays after are known to show a work by S
abbrev pub Answers : Kept → (Work → Type 0) → State → Out → Type 0
Answers (At i) S w o = (o.kept ≡ some (tile i)) × S o.work
Answers Gone S w o = (o.kept ≡ none) × S o.work
Answers Wide S w o = Swollen w o

-- from the arrays C to the arrays D, the tile `id` was repaired
pub record Walked (C D : Cols) (k : Kept) (id : ℕ) : Type 0 where
  pub sized : Sized D
  pub fewer : free D.claimed ≤ free C.claimed
  pub panes : D.counts.seen + 16 * free D.claimed ≤ C.counts.seen + 16 * free C.claimed
  pub listing : D.counts.acts + reserve k + 19 * free D.claimed ≤ C.counts.acts + 19 * free C.claimed + 1
  pub right : (w : Work) → Shows C w → (f : ℕ) → free C.claimed ≤ f → Answers k (Shows D) w.state (normalize_node f (tile id) w)

-- ---- the children of a split that are kept so far

-- as many shares and minima as children, and no more than 16
pub record Even (k : Kids) : Type 0 where
  pub shares : k.shares.len ≡ k.children.len
  pub minima : k.minima.len ≡ k.children.len
  pub few : k.children.len ≤ 16

abbrev pub entries_of : Kids → List Entry
entries_of k = entries (map tile (ids k.children)) (reals k.shares) (reals k.minima)

-- from the arrays C and the children k to the arrays D and the children l, one child was placed, or there were too many
pub record Placed (C D : Cols) (mode : ℕ) (e : Entry) (kept : Kept) (k l : Kids) (wide : Bool) : Type 0 where
  pub sized : Sized D
  pub flags : D.claimed ≡ C.claimed
  pub seen : D.counts.seen ≡ C.counts.seen
  pub listing : D.counts.acts ≤ C.counts.acts + reserve kept
  pub even : Even l
  pub right : wide ≡ false → (w : Work) → Shows C w → let t = place (axis_from mode) e (kept_as kept) (run (entries_of k) k.moved w) w in
      (t.list ≡ entries_of l) × (t.moved ≡ l.moved) × Shows D t.left
  pub over : wide ≡ true → (w : Work) → Shows C w → 16 < length (place (axis_from mode) e (kept_as kept) (run (entries_of k) k.moved w) w).list
