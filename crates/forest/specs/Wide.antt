-- A list that passes 16 on the way of a repair still passes it at the end: what a tile's repair returns is kept, melted or handed up. So to stop at the
-- first such list, or to ask at the end, is the same. Assumes nothing.
use Rattle.std.specs.Prelude.{◌≡◌, refl, ◌⊎◌, Bool, true, false, ◌||◌, List, [], ◌∷◌, ◌++◌, ℕ, zero, suc, ◌<◌, ltb, length, get_or, Float}
use Rattle.std.proofs.Common.{sym, ap, subst, ◌∙◌, inl, inr, arith, lt-ltb, ltb-true, length-append}
use Rattle.std.proofs.Math.Option.{Option, none, some}
use Rattle.std.proofs.lemmas.List.{length-map}
use Rattle.rules.specs.Lists.{any_of, wide_list}
use Rattle.rules.specs.Numbers.{zero-f}
use Rattle.rules.specs.Tree.{Node, empty, wide_node}
use Rattle.rules.specs.Shares.{fix_share}
use Rattle.rules.specs.Repair.{State, Work, Out, Entry, Run, run, place, place_out, kids_from, children_of, split_done, Normal, rooted, begin, normalize_node, normalize, sweep}
use Rattle.rules.specs.declared.model.TileId.{TileId}
use Rattle.rules.specs.declared.model.Axis.{Axis}
use Rattle.forest.specs.Lists.{All, never, all_map, all_append}
use Rattle.forest.specs.Codec.{reshared, Least, long-children}
use Rattle.forest.specs.Forest.{Forest, nil, leaf, node, roots, tiles, ◌⧺◌, reshare, wide, broad, wide-append, wide-reshare, Set, Holds, Same, roots-append, roots-reshare, all-roots, set_same}
use Rattle.forest.specs.Grow.{Good, Grown, Left, nothing, group, branch, kept_of, stem, Works, placed, grown-none, grown-chain, good-after, kid-keeps, kids-keep, claimed, grown-own, grown-like, grown-many}
use Rattle.forest.specs.Settled.{tidied}
use Rattle.forest.specs.Bools.{true-left, true-right}

-- ---- tests

or-either : (a b : Bool) → (a || b) ≡ true → (a ≡ true) ⊎ (b ≡ true)
or-either true b e = inl refl
or-either false b e = inr e

-- ---- a tile whose repair leaves too wide a list

abbrev pub Swollen : State → Out → Type 0
Swollen w o = (l : Left) × (o.kept ≡ kept_of l) × Grown w o.work.state (stem l) × (wide (stem l) ≡ true)

-- a run of a split's children, from the state w, that has too many or too wide ones
abbrev pub Bulging : State → Axis → Run → Type 0
Bulging w a t = (f : Forest) × (t.list ≡ roots f) × Grown w t.left.state f × All (Set t.left.state.nodes a) (roots f) × (broad f ≡ true)

broad-append : (f g : Forest) → broad f ≡ true → broad (f ⧺ g) ≡ true
broad-append f g e = go (or-either (ltb 16 (length (roots f))) (wide f) e)
  where
    go : (ltb 16 (length (roots f)) ≡ true) ⊎ (wide f ≡ true) → broad (f ⧺ g) ≡ true
    go (inl q) =
        true-left (ltb 16 (length (roots (f ⧺ g)))) (wide (f ⧺ g))
        (lt-ltb 16 (length (roots (f ⧺ g))) (omega (arith, ltb-true 16 (length (roots f)) q, ap length (roots-append f g), length-append (roots f) (roots g))))
    go (inr q) = true-right (ltb 16 (length (roots (f ⧺ g)))) (wide (f ⧺ g)) (wide-append f g ∙ true-left (wide f) (wide g) q)

broad-after : (f g : Forest) → broad g ≡ true → broad (f ⧺ g) ≡ true
broad-after f g e = go (or-either (ltb 16 (length (roots g))) (wide g) e)
  where
    go : (ltb 16 (length (roots g)) ≡ true) ⊎ (wide g ≡ true) → broad (f ⧺ g) ≡ true
    go (inl q) =
        true-left (ltb 16 (length (roots (f ⧺ g)))) (wide (f ⧺ g))
        (lt-ltb 16 (length (roots (f ⧺ g))) (omega (arith, ltb-true 16 (length (roots g)) q, ap length (roots-append f g), length-append (roots f) (roots g))))
    go (inr q) = true-right (ltb 16 (length (roots (f ⧺ g)))) (wide (f ⧺ g)) (wide-append f g ∙ true-right (wide f) (wide g) q)

-- ---- it goes on to the end of the children

-- what a run has kept so far, from the state w
abbrev pub Before : State → Axis → Run → Type 0
Before w a r = (f : Forest) × (r.list ≡ roots f) × Grown w r.left.state f × All (Set r.left.state.nodes a) (roots f)

pub before-start : (w : State) (a : Axis) (b : Bool) (u : Work) → u.state ≡ w → Before w a (run [] b u)
before-start w a b u e = (nil, refl, subst (λ (v : State). Grown w v nil) (sym e) (grown-none w), tt)

module _ (again : TileId → Work → Out) (g : Works again) (a : Axis) (w : State) where
  -- the forest before, in the state after what was added
  kept_set : (f : Forest) (v u : State) (h : Forest) → Grown w v f → Grown v u h → All (Set v.nodes a) (roots f) → All (Set u.nodes a) (roots f)
  kept_set f v u h B B' s = set_same v.nodes u.nodes a (roots f) (all-roots (Same v.nodes u.nodes) f (all_map (λ j k. (B'.keep j k).1) (tiles f) B.taken)) s

  pub kids-bulge : (es : List Entry) (r : Run) → Good w → All Least es → Bulging w a r → Bulging w a (kids_from again a es r)
  kids-bulge es r good le (f, p, B, s, q) =
      let (f', p', B', s') = kids-keep again g a es r (good-after w r.left.state f good B) le in
      let u = (kids_from again a es r).left.state in (
        f ⧺ f',
        p' ∙ ap (λ (l : List Entry). l ++ roots f') p ∙ sym (roots-append f f'),
        grown-chain w r.left.state u f f' B B',
        rw (roots-append f f') (all_append (Set u.nodes a) (roots f) (roots f') (kept_set f r.left.state u f' B B' s) s'),
        broad-append f f' q,
      )

  -- one child more
  pub before_more : (e : Entry) (r : Run) → Good w → Least e → Before w a r → Before w a (place_out a e r (again e.child r.left))
  before_more e r good cl (f, p, B, s) =
      let t = place_out a e r (again e.child r.left) in
      let (f', p', B', s') = kid-keeps again g a e r (good-after w r.left.state f good B) cl in (
        f ⧺ f',
        p' ∙ ap (λ (l : List Entry). l ++ roots f') p ∙ sym (roots-append f f'),
        grown-chain w r.left.state t.left.state f f' B B',
        rw (roots-append f f') (all_append (Set t.left.state.nodes a) (roots f) (roots f') (kept_set f r.left.state t.left.state f' B B' s) s'),
      )

  -- a child that is swollen makes the run bulge
  pub kid-bulge : (e : Entry) (r : Run) → Least e → Before w a r → Swollen r.left.state (again e.child r.left) → Bulging w a (place_out a e r (again e.child r.left))
  kid-bulge e r cl (f, p, B, s) (l, q, A, wd) =
      let o = again e.child r.left in
      let t = place a e (kept_of l) r o.work in
      let (f', p', B', s', up) = placed a e cl r r.left.state o.work l A in
      subst (λ (k : Option TileId). Bulging w a (place a e k r o.work)) (sym q) (
        f ⧺ f',
        p' ∙ ap (λ (x : List Entry). x ++ roots f') p ∙ sym (roots-append f f'),
        grown-chain w r.left.state t.left.state f f' B B',
        rw (roots-append f f') (all_append (Set t.left.state.nodes a) (roots f) (roots f') (kept_set f r.left.state t.left.state f' B B' s) s'),
        broad-after f f' (up wd),
      )

  -- so does a list that passes 16
  pub long-bulge : (r : Run) → Before w a r → 16 < length r.list → Bulging w a r
  long-bulge r (f, p, B, s) h = (f, p, B, s, true-left (ltb 16 (length (roots f))) (wide f) (lt-ltb 16 (length (roots f)) (omega (arith, ap length p))))

-- ---- and the split is swollen

module _ (w : State) (good : Good w) (i : TileId) (h : i.slot < 64) (e : get_or w.claimed i.slot false ≡ false) (a : Axis) where
  many-wide : (f : Forest) → broad f ≡ true → wide (node i zero-f zero-f a (reshare fix_share f) nil) ≡ true
  many-wide f q =
      true-left (broad (reshare fix_share f)) false
      ((λ z. ltb 16 (length (roots-reshare fix_share f z)) || wide-reshare fix_share f z) ∙ ap (λ (n : ℕ). ltb 16 n || wide f) (length-map (roots f) (reshared fix_share)) ∙ q)

  swell : (u : Work) (old : List Float) (b : Bool) (f : Forest) → Grown (claimed w good i h e) u.state f → All (Set u.state.nodes a) (roots f) → broad f ≡ true
      → Swollen w (split_done i a old (run (roots f) b u))
  swell u old b nil G s q = never (sym q)
  swell u old b (leaf j x m ps nil) G s q = never (sym q)
  swell u old b (node j x m y c nil) G s q =
      let B = grown-own w good i h e u.state (node j x m y c nil) G in (branch j y c, refl, grown-like w _ (node j x m y c nil) (node j zero-f zero-f y c nil) refl refl B.holds B, q)
  swell u old b (leaf j x m ps (leaf j' x' m' ps' r)) G s q =
      let f = leaf j x m ps (leaf j' x' m' ps' r) in (branch i a (reshare fix_share f), refl, grown-many w good i h e a u.state f G s (omega arith), many-wide f q)
  swell u old b (leaf j x m ps (node j' x' m' y' c' r)) G s q =
      let f = leaf j x m ps (node j' x' m' y' c' r) in (branch i a (reshare fix_share f), refl, grown-many w good i h e a u.state f G s (omega arith), many-wide f q)
  swell u old b (node j x m y c (leaf j' x' m' ps' r)) G s q =
      let f = node j x m y c (leaf j' x' m' ps' r) in (branch i a (reshare fix_share f), refl, grown-many w good i h e a u.state f G s (omega arith), many-wide f q)
  swell u old b (node j x m y c (node j' x' m' y' c' r)) G s q =
      let f = node j x m y c (node j' x' m' y' c' r) in (branch i a (reshare fix_share f), refl, grown-many w good i h e a u.state f G s (omega arith), many-wide f q)

  pub split-swells : (r : Run) (old : List Float) → Bulging (claimed w good i h e) a r → Swollen w (split_done i a old r)
  split-swells r old (f, p, B, s, q) = subst (λ (l : List Entry). Swollen w (split_done i a old (run l r.moved r.left))) (sym p) (swell r.left old r.moved f B s q)

-- ---- at the end: the slots have a list that is too wide

any_at : (ns : List Node) (i : ℕ) → wide_node (get_or ns i empty) ≡ true → any_of wide_node ns ≡ true
unfolding any_of
any_at [] i e = never (sym e)
any_at (n ∷ ns) zero e = true-left (wide_node n) (any_of wide_node ns) e
any_at (n ∷ ns) (suc i) e = true-right (wide_node n) (any_of wide_node ns) (any_at ns i e)

wide-held : (ns : List Node) (f : Forest) → Holds ns f → wide f ≡ true → any_of wide_node ns ≡ true
wide-held ns nil h q = never (sym q)
wide-held ns (leaf i _ _ ps r) h q = wide-held ns r h.1 q
wide-held ns (node i _ _ a c r) h q =
    go (or-either (ltb 16 (length (roots c)) || wide c) (wide r) q) (wide-held ns c h.1) (wide-held ns r h.2)
  where
    here : ltb 16 (length (roots c)) ≡ true → wide_node (get_or ns i.slot empty) ≡ true
    here k = ap wide_node h.0.is ∙ true-left (wide_list (children_of (roots c)) || _) _ (true-left (wide_list (children_of (roots c))) _ (ap (ltb 16) (long-children (roots c)) ∙ k))

    go : ((ltb 16 (length (roots c)) || wide c) ≡ true) ⊎ (wide r ≡ true) → (wide c ≡ true → any_of wide_node ns ≡ true) → (wide r ≡ true → any_of wide_node ns ≡ true) → any_of wide_node ns ≡ true
    go (inl k) f g = under (or-either (ltb 16 (length (roots c))) (wide c) k)
      where
        under : (ltb 16 (length (roots c)) ≡ true) ⊎ (wide c ≡ true) → any_of wide_node ns ≡ true
        under (inl x) = any_at ns i.slot (here x)
        under (inr x) = f x
    go (inr k) f g = g k

module _ (ns : List Node) (size : length ns ≡ 64) (r : TileId) where
  abbrev o : Out
  o = normalize_node 64 r (begin ns)

  swollen-as : (free : List ℕ) (k : Option TileId) (l : Left) → k ≡ kept_of l → Grown (begin ns).state o.work.state (stem l) → wide (stem l) ≡ true
      → (n : Normal) × (rooted free k o.work ≡ some n) × (any_of wide_node n.nodes ≡ true)
  swollen-as free none nothing q G wd = never (sym wd)
  swollen-as free none (group i ps) q G wd = never (sym wd)
  swollen-as free none (branch i a c) q G wd = absurd (let z : ◌≡◌ {A = ℕ} 0 1 = cc in omega arith)
  swollen-as free (some s) l q G wd =
      let n = sweep s o.work.state.nodes o.work.actions in (n, refl, wide-held n.nodes (stem l) (tidied ns size r l G s (sym q)).held wd)

  -- a swollen root is refused: the normalized slots are too wide
  pub swollen-wide : (free : List ℕ) → Swollen (begin ns).state o → (n : Normal) × (normalize free r ns ≡ some n) × (any_of wide_node n.nodes ≡ true)
  unfolding normalize
  swollen-wide free (l, q, G, wd) = swollen-as free o.kept l q G wd
