-- A loose forest, and what it means that slots hold it. Loose: its tiles are distinct and in range and its panes are distinct, and no more.
-- Splits may have any number of children, of any axis, with any shares and minima; groups any active index, or no pane; and among the
-- children may stand ids that lead nowhere: out of range, to an empty slot, or to a tile that was met before. Assumes nothing.
use Rattle.std.specs.Prelude.{◌≡◌, refl, ◌⊎◌, List, [], ◌∷◌, ◌++◌, ℕ, ◌≤◌, ◌<◌, length}
use Rattle.std.proofs.Common.{ap, subst, sym}
use Rattle.rules.specs.Tree.{Node, empty, pane, tabs, split, node_at, Member}
use Rattle.rules.specs.declared.model.TileId.{TileId}
use Rattle.forest.specs.Lists.{All, Distinct, all_append}
use Rattle.forest.specs.Forest.{Forest, nil, leaf, node, Leafy, Holds}
use Rattle.forest.specs.Again as Again

-- an id that leads nowhere, a tile that shows panes, a split with what is under it; and what stands beside each
pub data Loose : Type 0 where
  end : Loose
  lost : TileId → Loose → Loose
  shows : TileId → List ℕ → Loose → Loose
  parts : TileId → Loose → Loose → Loose

abbrev pub heads : Loose → List TileId
heads end = []
heads (lost i r) = i ∷ heads r
heads (shows i ps r) = i ∷ heads r
heads (parts i c r) = i ∷ heads r

-- the slots of its tiles, in reading order
abbrev pub tiles : Loose → List ℕ
tiles end = []
tiles (lost i r) = tiles r
tiles (shows i ps r) = i.slot ∷ tiles r
tiles (parts i c r) = i.slot ∷ (tiles c ++ tiles r)

-- its panes, in reading order
abbrev pub shown : Loose → List ℕ
shown end = []
shown (lost i r) = shown r
shown (shows i ps r) = ps ++ shown r
shown (parts i c r) = shown c ++ shown r

-- ---- the slots hold it. `before`: the tiles met before

abbrev pub Lost : List Node → List ℕ → TileId → Type 0
Lost ns before i = (64 ≤ i.slot) ⊎ ((node_at ns i ≡ empty) ⊎ Member i.slot before)

abbrev pub Shows : Node → List ℕ → Type 0
Shows empty ps = ⊥
Shows (pane p) ps = ps ≡ p ∷ []
Shows (tabs b a qs) ps = ps ≡ qs
Shows (split a cs ss ms) ps = ⊥

abbrev pub Parts : Node → List TileId → Type 0
Parts empty ks = ⊥
Parts (pane p) ks = ⊥
Parts (tabs b a qs) ks = ⊥
Parts (split a cs ss ms) ks = cs ≡ ks

abbrev pub Loosely : List Node → List ℕ → Loose → Type 0
Loosely ns before end = Unit {0}
Loosely ns before (lost i r) = Lost ns before i × Loosely ns before r
Loosely ns before (shows i ps r) = ((i.slot < 64) × Shows (node_at ns i) ps) × Loosely ns (i.slot ∷ before) r
Loosely ns before (parts i c r) = ((i.slot < 64) × Parts (node_at ns i) (heads c)) × Loosely ns (i.slot ∷ before) c × Loosely ns (i.slot ∷ (tiles c ++ before)) r

pub loosely-inside : (ns : List Node) (before : List ℕ) (f : Loose) → Loosely ns before f → All (λ i. i < 64) (tiles f)
loosely-inside ns before end h = tt
loosely-inside ns before (lost i r) h = loosely-inside ns before r h.1
loosely-inside ns before (shows i ps r) h = (h.0.0, loosely-inside ns (i.slot ∷ before) r h.1)
loosely-inside ns before (parts i c r) h =
    (h.0.0, all_append (λ j. j < 64) (tiles c) (tiles r) (loosely-inside ns (i.slot ∷ before) c h.1) (loosely-inside ns (i.slot ∷ (tiles c ++ before)) r h.2))

-- the slots hold a loose forest whose one root is r
pub record Held (ns : List Node) (r : TileId) (f : Loose) : Type 0 where
  pub size : length ns ≡ 64
  pub root_is : heads f ≡ r ∷ []
  pub holds : Loosely ns [] f
  pub apart : Distinct (tiles f)
  pub panes : Distinct (shown f)

-- ---- a normal forest is a loose one, of the same tiles and panes

abbrev pub loosen : Forest → Loose
loosen nil = end
loosen (leaf i s m ps r) = shows i ps (loosen r)
loosen (node i s m a c r) = parts i (loosen c) (loosen r)

pub loosen-heads : (f : Forest) → heads (loosen f) ≡ Again.heads f
loosen-heads nil = refl
loosen-heads (leaf i s m ps r) = ap (λ (l : List TileId). i ∷ l) (loosen-heads r)
loosen-heads (node i s m a c r) = ap (λ (l : List TileId). i ∷ l) (loosen-heads r)

leafy-shows : (n : Node) (ps : List ℕ) → Leafy n ps → Shows n ps
leafy-shows empty ps l = l
leafy-shows (pane p) ps l = l
leafy-shows (tabs b a qs) ps l = l.0
leafy-shows (split a cs ss ms) ps l = l

pub loosen-holds : (ns : List Node) (before : List ℕ) (f : Forest) → Holds ns f → Loosely ns before (loosen f)
loosen-holds ns before nil h = tt
loosen-holds ns before (leaf i s m ps r) h = ((h.0.inside, leafy-shows (node_at ns i) ps h.0.leafy), loosen-holds ns (i.slot ∷ before) r h.1)
loosen-holds ns before (node i s m a c r) h = (
  (h.0.inside, subst (λ (n : Node). Parts n (heads (loosen c))) (sym h.0.is) (sym (loosen-heads c))),
  loosen-holds ns (i.slot ∷ before) c h.1,
  loosen-holds ns (i.slot ∷ (tiles (loosen c) ++ before)) r h.2,
)
