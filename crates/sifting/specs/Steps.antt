-- What the steps that call nothing back promise, each of the arrays that it is lent. Definitions only.
use Rattle.std.specs.Prelude.{◌≡◌, Bool, true, false, List, [], ℕ, ◌+◌, ◌*◌, ◌≤◌, ◌<◌, length, get_or, take, Float}
use Rattle.rules.specs.Tree.{tile}
use Rattle.rules.specs.Repair.{Work, Sifted, sifted, sift_pane, retain}
use Rattle.rules.specs.Tree.{Ids}
use Rattle.rules.specs.declared.model.RepairAction.TheVariants.{RemovedInvalidNode}
use Rattle.lists.specs.Exact.{IsIds}
use Rattle.forest.specs.Lists.{free}
use Rattle.sifting.specs.Work.{cols, Sized}
use Rattle.columns.specs.Columns.{Lists, Noted}
use Rattle.sifting.specs.Walked.{Walked}
use Rattle.sifting.specs.declared.Counts.{Counts}
use Rattle.sifting.specs.declared.panes.Sift.{Sift}
use Rattle.sifting.specs.declared.Kept.{Kept}
use Rattle.sifting.specs.declared.Kept.TheVariants.{Gone}

-- the panes of a group kept so far, with the panes seen and the actions, are what the rule has
pub record SiftIs (seen : List ℕ) (acts : List (List ℕ)) (s : Sift) (q : Sifted) : Type 0 where
  pub list : IsIds s.list q.list
  pub panes : q.left.state.panes ≡ take s.counts.seen seen
  pub actions : Lists acts s.counts.acts q.left.actions

-- one pane more was looked at: the rule's `sift_pane`
pub record Sifts (id p : ℕ) (seen : List ℕ) (acts : List (List ℕ)) (s : Sift) (seen' : List ℕ) (acts' : List (List ℕ)) (r : Sift) : Type 0 where
  pub longer : r.list.len ≤ s.list.len + 1
  pub seen_most : r.counts.seen ≤ s.counts.seen + 1
  pub acts-most : r.counts.acts ≤ s.counts.acts + 1
  pub step : (q : Sifted) → SiftIs seen acts s q → SiftIs seen' acts' r (sift_pane (tile id) p q)

-- the panes of a group that are kept, from the counts c to d: the rule's `retain`
pub record Retains (id : ℕ) (ps : List ℕ) (seen : List ℕ) (acts : List (List ℕ)) (c : Counts) (seen' : List ℕ) (acts' : List (List ℕ)) (l : Ids) (d : Counts) : Type 0 where
  pub seen_most : d.seen ≤ c.seen + length ps
  pub acts-most : d.acts ≤ c.acts + length ps
  pub fewer : l.len ≤ length ps
  pub list : (w : Work) → w.state.panes ≡ take c.seen seen → Lists acts c.acts w.actions → IsIds l (retain (tile id) ps (sifted [] w)).list
  pub panes : (w : Work) → w.state.panes ≡ take c.seen seen → Lists acts c.acts w.actions → (retain (tile id) ps (sifted [] w)).left.state.panes ≡ take d.seen seen'
  pub actions : (w : Work) → w.state.panes ≡ take c.seen seen → Lists acts c.acts w.actions → Lists acts' d.acts (retain (tile id) ps (sifted [] w)).left.actions

-- a slot that is in range and not claimed, with room for what it may add
pub record Open (hs : List (List ℕ)) (cs : List Bool) (c : Counts) (id : ℕ) : Type 0 where
  pub inside : id < 64
  pub heads : length hs ≡ 64
  pub flags : length cs ≡ 64
  pub unclaimed : get_or cs id false ≡ false
  pub panes : c.seen + 16 * free cs ≤ 1024
  pub listing : c.acts + 19 * free cs ≤ 1216

-- an id was noted as invalid, and nothing else was done
pub record Dropped (id : ℕ) (acts : List (List ℕ)) (c : Counts) (acts' : List (List ℕ)) (k : Kept) (d : Counts) : Type 0 where
  pub kept : k ≡ Gone
  pub seen : d.seen ≡ c.seen
  pub noted : Noted true (RemovedInvalidNode (tile id)) acts c.acts acts' d.acts

-- a tile was repaired, whatever stands in the columns that the step is not lent
abbrev pub LeafWalked : List (List ℕ) → List Bool → List ℕ → List (List ℕ) → Counts → List (List ℕ) → List Bool → List ℕ → List (List ℕ) → Counts → Kept → ℕ → Type 0
LeafWalked hs cs seen acts c hs' cs' seen' acts' d k id =
    (xs : List (List ℕ)) (ss ms : List (List Float)) → Sized (cols hs xs ss ms cs seen acts c) → Walked (cols hs xs ss ms cs seen acts c) (cols hs' xs ss ms cs' seen' acts' d) k id

abbrev pub GroupWalked : List (List ℕ) → List (List ℕ) → List Bool → List ℕ → List (List ℕ) → Counts → List (List ℕ) → List (List ℕ) → List Bool → List ℕ → List (List ℕ) → Counts → Kept → ℕ → Type 0
GroupWalked hs xs cs seen acts c hs' xs' cs' seen' acts' d k id =
    (ss ms : List (List Float)) → Sized (cols hs xs ss ms cs seen acts c) → Walked (cols hs xs ss ms cs seen acts c) (cols hs' xs' ss ms cs' seen' acts' d) k id
