-- What repair and normalize answer, with the sweep by the claims: one equation for each way that the walk may end. Assumes nothing.
use Rattle.std.specs.Prelude.{◌≡◌, Bool, true, false, ◌||◌, List, [], ◌∷◌, ℕ, ◌<◌, length, set}
use Rattle.std.proofs.Math.Path.{refl}
use Rattle.std.proofs.Common.{sym, ap, ◌∙◌, arith}
use Rattle.std.proofs.Math.Option.{Option, none, some}
use Rattle.rules.specs.Lists.{any_of}
use Rattle.rules.specs.Tree.{Node, Arena, arena, tile, set_node, empty_slots, empty_group, wide_node, reading_from}
use Rattle.rules.specs.Repair.{Work, Out, sweep_by, sweep, rooted, begin, normalize_node, normalize, Repaired, refused_repair, repaired_by, repaired_as, repair_by, repair}
use Rattle.rules.specs.declared.model.TileId.{TileId}
use Rattle.rules.specs.declared.model.RepairAction.{RepairAction}
use Rattle.rules.specs.Refusals.{Accepted}
use Rattle.rules.specs.declared.refusal.Refusal.TheVariants.{ArenaFull, TooWide}
use Rattle.forest.specs.Lists.{never}
use Rattle.forest.specs.Grow.{Grown, Left, nothing, group, branch, kept_of, stem, tile-keeps}
use Rattle.forest.specs.Sweep.{swept_by, actions_by, Tells, swept-tells, actions-tell, kept-tells, fresh-tells}
use Rattle.forest.specs.Wide.{Swollen, swollen-wide}

-- a sweep widens nothing
narrow-by : (c : Bool) (n : Node) (t u : Bool) → (wide_node n || t) ≡ false → (t ≡ false → u ≡ false) → (wide_node (sweep_by c n) || u) ≡ false
narrow-by c n t u e f = go c (wide_node n) refl
  where
    go : (c : Bool) (w : Bool) → wide_node n ≡ w → (wide_node (sweep_by c n) || u) ≡ false
    go c true q = never (sym (ap (λ (x : Bool). x || t) q) ∙ e)
    go true false q = ap (λ (x : Bool). x || u) q ∙ f (sym (ap (λ (x : Bool). x || t) q) ∙ e)
    go false false q = f (sym (ap (λ (x : Bool). x || t) q) ∙ e)

pub narrow-swept : (cs : List Bool) (ns : List Node) → any_of wide_node ns ≡ false → any_of wide_node (swept_by cs ns) ≡ false
unfolding any_of swept_by
narrow-swept cs [] e = refl
narrow-swept [] (n ∷ ns) e = refl
narrow-swept (c ∷ cs) (n ∷ ns) e = narrow-by c n (any_of wide_node ns) (any_of wide_node (swept_by cs ns)) e (narrow-swept cs ns)

-- the repaired arena: its root, its slots swept by the claims, and the actions with those of the sweep
abbrev pub finished_as : Arena → TileId → List Bool → List Node → List RepairAction → Repaired
finished_as a r cs ns l = record { answer = Accepted; tree = arena r a.revision (swept_by cs ns); actions = actions_by 0 cs ns l }

-- normalize, with a list of free slots for a fresh root, and the tests that follow it
abbrev pub normalized : Arena → List ℕ → Repaired
normalized a free = repaired_as a (normalize free a.root a.nodes)

pub repair-over : (a : Arena) → a.over ≡ true → repair a ≡ refused_repair TooWide a
unfolding repair
repair-over a e = ap (λ (b : Bool). repair_by b a) e

pub repair-whole : (a : Arena) → a.over ≡ false → repair a ≡ normalized a (empty_slots a.nodes)
unfolding repair
repair-whole a e = ap (λ (b : Bool). repair_by b a) e

module _ (a : Arena) (size : length a.nodes ≡ 64) (free : List ℕ) where
  abbrev o : Out
  o = normalize_node 64 a.root (begin a.nodes)

  abbrev left : Work
  left = o.work

  normalized-is : normalized a free ≡ repaired_as a (rooted free o.kept left)
  unfolding normalize
  normalized-is = refl

  finished : (r : TileId) (cs : List Bool) (ns : List Node) (l : List RepairAction) → Tells (reading_from ns r) cs ns → any_of wide_node ns ≡ false
      → repaired_as a (some (sweep r ns l)) ≡ finished_as a r cs ns l
  finished r cs ns l t e =
      (λ z. repaired_as a (some (record { root = r; nodes = swept-tells (reading_from ns r) cs ns t z; actions = actions-tell (reading_from ns r) cs ns l t z })))
      ∙ ap (λ (b : Bool). repaired_by b a (record { root = r; nodes = swept_by cs ns; actions = actions_by 0 cs ns l })) (narrow-swept cs ns e)

  -- a tile was kept
  pub normalized-kept : (s : TileId) → o.kept ≡ some s → any_of wide_node left.state.nodes ≡ false → normalized a free ≡ finished_as a s left.state.claimed left.state.nodes left.actions
  normalized-kept s k e =
      let (l, q, G) = tile-keeps 64 a.root (begin a.nodes) (refl, size) in
      normalized-is ∙ ap (λ (x : Option TileId). repaired_as a (rooted free x left)) k
      ∙ finished s left.state.claimed left.state.nodes left.actions (kept-tells a.nodes size a.root l G s (sym q ∙ k)) e

  -- a list passed 16
  pub normalized-wide : Swollen (begin a.nodes).state o → normalized a free ≡ refused_repair TooWide a
  normalized-wide s =
      let (n, e, w) = swollen-wide a.nodes size a.root free s in
      ap (repaired_as a) e ∙ ap (λ (b : Bool). repaired_by b a n) w

  -- nothing was kept, and no slot is free
  pub normalized-full : o.kept ≡ none → free ≡ [] → normalized a free ≡ refused_repair ArenaFull a
  normalized-full k e = normalized-is ∙ (λ z. repaired_as a (rooted (e z) (k z) left))

  grown-nothing : o.kept ≡ none → Grown (begin a.nodes).state left.state (stem nothing)
  grown-nothing k = let (l, q, G) = tile-keeps 64 a.root (begin a.nodes) (refl, size) in go l (sym q ∙ k) G
    where
      go : (l : Left) → kept_of l ≡ none → Grown (begin a.nodes).state left.state (stem l) → Grown (begin a.nodes).state left.state (stem nothing)
      go nothing e G = G
      go (group i ps) e G = absurd (let z : ◌≡◌ {A = ℕ} 0 1 = cc in omega arith)
      go (branch i x c) e G = absurd (let z : ◌≡◌ {A = ℕ} 0 1 = cc in omega arith)

  -- nothing was kept: a fresh root in the first free slot
  pub normalized-fresh : o.kept ≡ none → (i : ℕ) (is : List ℕ) → free ≡ i ∷ is → i < 64 → any_of wide_node (set_node (tile i) empty_group left.state.nodes) ≡ false
      → normalized a free ≡ finished_as a (tile i) (set left.state.claimed i true) (set_node (tile i) empty_group left.state.nodes) left.actions
  normalized-fresh k i is e inside w =
      normalized-is ∙ (λ z. repaired_as a (rooted (e z) (k z) left))
      ∙ finished (tile i) (set left.state.claimed i true) (set_node (tile i) empty_group left.state.nodes) left.actions
      (fresh-tells a.nodes size a.root (grown-nothing k) i inside) w
