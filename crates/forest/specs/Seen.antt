-- The panes of a normalized arena, in reading order, are those that the walk saw, in the order in which it saw them. Assumes nothing.
use Rattle.std.specs.Prelude.{◌≡◌, refl, Bool, List, [], ◌∷◌, ℕ, ◌<◌, length, get_or}
use Rattle.std.proofs.Common.{sym, ap, subst, ◌∙◌, inl, arith, get_or-set_same}
use Rattle.std.proofs.Math.Option.{Option, none, some}
use Rattle.rules.specs.Tree.{Node, empty, empty_group, tile, set_node, reading_from}
use Rattle.rules.specs.Target.{panes_in}
use Rattle.rules.specs.Repair.{Out, sweep_by, swept, sweep, Normal, rooted, begin, normalize_node, normalize}
use Rattle.rules.specs.declared.model.TileId.{TileId}
use Rattle.forest.specs.Lists.{All}
use Rattle.forest.specs.Forest.{shown}
use Rattle.forest.specs.Grow.{Grown, Left, nothing, group, branch, kept_of, stem, tile-keeps}
use Rattle.forest.specs.Settled.{reached-in, swept_at, fresh-reads, tidied}
use Rattle.forest.specs.Reach.{tidy-panes}
use Rattle.forest.specs.Nodes.{root-shows}

module _ (ns : List Node) (size : length ns ≡ 64) (r : TileId) where
  abbrev o : Out
  o = normalize_node 64 r (begin ns)

  -- nothing was kept: nothing was seen, and the fresh root shows nothing
  fresh-shows : length o.work.state.nodes ≡ 64 → (i : ℕ) → i < 64
      → panes_in (tile i) (swept 0 (reading_from (set_node (tile i) empty_group o.work.state.nodes) (tile i)) (set_node (tile i) empty_group o.work.state.nodes)) ≡ []
  fresh-shows long i h =
      let fresh = set_node (tile i) empty_group o.work.state.nodes in
      subst (λ (xs : List TileId). panes_in (tile i) (swept 0 xs fresh) ≡ []) (sym (fresh-reads o.work.state.nodes long i h))
      (root-shows (swept 0 (tile i ∷ []) fresh) (tile i)
      (swept_at (tile i ∷ []) fresh 0 i i (omega arith) ∙ ap (λ (b : Bool). sweep_by b (get_or fresh i empty)) (reached-in i (tile i ∷ []) (inl refl))
      ∙ get_or-set_same o.work.state.nodes i empty_group empty (omega (arith, long))))

  nothing-shown : (l : Left) → none ≡ kept_of l → shown (stem l) ≡ []
  nothing-shown nothing e = refl
  nothing-shown (group i ps) e = absurd (let z : ◌≡◌ {A = ℕ} 0 1 = cc in omega arith)
  nothing-shown (branch i a c) e = absurd (let z : ◌≡◌ {A = ℕ} 0 1 = cc in omega arith)

  seen_by : (free : List ℕ) → All (λ i. i < 64) free → (k : Option TileId) (l : Left) → k ≡ kept_of l → Grown (begin ns).state o.work.state (stem l)
      → (n : Normal) → rooted free k o.work ≡ some n → panes_in n.root n.nodes ≡ o.work.state.panes
  seen_by free h (some s) l q G n e =
      let x = sweep s o.work.state.nodes o.work.actions in
      let same : x ≡ n = cc in
      subst (λ (m : Normal). panes_in m.root m.nodes ≡ o.work.state.panes) same (tidy-panes x.nodes s 0 l (tidied ns size r l G s (sym q)) ∙ sym G.sees)
  seen_by [] h none l q G n e = absurd (let z : ◌≡◌ {A = ℕ} 0 1 = cc in omega arith)
  seen_by (i ∷ is) h none l q G n e =
      let x = sweep (tile i) (set_node (tile i) empty_group o.work.state.nodes) o.work.actions in
      let same : x ≡ n = cc in
      subst (λ (m : Normal). panes_in m.root m.nodes ≡ o.work.state.panes) same (fresh-shows (G.size ∙ size) i h.0 ∙ sym (G.sees ∙ nothing-shown l q))

  pub panes-seen : (free : List ℕ) → All (λ i. i < 64) free → (n : Normal) → normalize free r ns ≡ some n → panes_in n.root n.nodes ≡ o.work.state.panes
  unfolding normalize
  panes-seen free h n e = let (l, q, G) = tile-keeps 64 r (begin ns) (refl, size) in seen_by free h o.kept l q G n e
