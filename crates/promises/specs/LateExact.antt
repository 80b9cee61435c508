-- When `apply` refuses what its step would change: 2, 3 and 11, in document 01's order ('Refusals'), each exactly when. Assumes nothing.
use Rattle.std.specs.Prelude.{◌≡◌, ◌↔◌, ◌⊎◌, Bool, not, ℕ, ◌≤◌, ◌<◌, T, ltb, leb, length}
use Rattle.std.proofs.Math.Path.{refl, ap}
use Rattle.std.proofs.Common.{sym, subst, ◌∙◌, inl, inr, arith, ltb-true, ltb-false, leb-true, leb-false}
use Rattle.std.proofs.Math.Bool.{true, false}
use Rattle.std.proofs.Math.Option.{Option, none, some}
use Rattle.rules.specs.Lists.{any_of, contains}
use Rattle.rules.specs.Tree.{Arena, empty_slots, wide_node, Member}
use Rattle.rules.specs.Repair.{Normal, normalize}
use Rattle.rules.specs.Sound.{sound}
use Rattle.rules.specs.Operations.{Change, Step, refuse, unchanged, changed, Applied, normal_by, normal_as, last-revision, revised_by, inserted_by, room_by, finish, apply_inner, apply_by, apply}
use Rattle.rules.specs.Refusals.{Told, refusal_of, answer_of}
use Rattle.rules.specs.declared.operation.TileOp.{TileOp}
use Rattle.forest.specs.Lists.{never}
use Rattle.forest.specs.Answers.{some-none}
use Rattle.promises.specs.Words.{Tells, not-means}
use Rattle.promises.specs.RepairExact.{Some, any-means}
use Rattle.promises.specs.StepNumbers.{step_number, own, inner-own}
use Rattle.promises.specs.ApplyExact.{unlike}

module _ (a : Arena) where
  -- ---- the conditions, of a change

  -- new tiles needed exceed the slots that were empty at the start
  abbrev pub Crowded : Change → Type 0
  Crowded c = length (empty_slots a.nodes) < c.needed

  abbrev pub Room : Change → Type 0
  Room c = c.needed ≤ length (empty_slots a.nodes)

  -- a list is longer than 16 at insertion
  abbrev pub Widens : Change → Type 0
  Widens c = Some wide_node c.made.nodes

  -- the revision is the last, or is not
  abbrev pub Last : Type 0
  Last = last-revision ≤ a.revision

  abbrev pub Before : Type 0
  Before = a.revision < last-revision

  abbrev pub made : Change → Option Normal
  made c = normalize c.free c.made.root c.made.nodes

  -- a list is longer than 16 after repair
  abbrev pub Swells : Option Normal → Type 0
  Swells o = (n : Normal) × (o ≡ some n) × Some wide_node n.nodes

  -- a change is refused with k, or accepted with 0
  abbrev pub Ended : Change → ℕ → Type 0
  Ended c k = Tells (finish a (changed c)).answer k 0 0

  -- ---- after a change: the tests in order. One of six ends comes, each with what it says and its number

  pub data Ends (c : Change) : Type 0 where
    crowded : Crowded c → Ended c 2 → Ends c
    widened : Room c → Widens c → Ended c 3 → Ends c
    exhausted : Room c → (Widens c → ⊥) → Last → Ended c 11 → Ends c
    rootless : Room c → (Widens c → ⊥) → Before → made c ≡ none → Ended c 2 → Ends c
    swollen : Room c → (Widens c → ⊥) → Before → Swells (made c) → Ended c 3 → Ends c
    done : Room c → (Widens c → ⊥) → Before → (n : Normal) → made c ≡ some n → (Swells (made c) → ⊥) → Ended c 0 → Ends c

  module _ (c : Change) where
    by_width : Room c → (Widens c → ⊥) → Before → (n : Normal) → made c ≡ some n → (b : Bool) → any_of wide_node n.nodes ≡ b
        → finish a (changed c) ≡ normal_by b a n → Ends c
    by_width r w l n q true e s = swollen r w l (n, q, (any-means wide_node n.nodes).0 e) (ap (λ (x : Applied). answer_of x.answer) s)
    by_width r w l n q false e s = done r w l n q small (ap (λ (x : Applied). answer_of x.answer) s)
      where
        small : Swells (made c) → ⊥
        small (m, f, k) = let g : some n ≡ some m = sym q ∙ f in let same : n ≡ m = cc in never (sym ((any-means wide_node n.nodes).1 (subst (λ (x : Normal). Some wide_node x.nodes) (sym same) k)) ∙ e)

    by-normal : Room c → (Widens c → ⊥) → Before → (o : Option Normal) → made c ≡ o → finish a (changed c) ≡ normal_as a o → Ends c
    by-normal r w l none q s = rootless r w l q (ap (λ (x : Applied). answer_of x.answer) s)
    by-normal r w l (some n) q s = by_width r w l n q (any_of wide_node n.nodes) refl s

    by-revision : Room c → (Widens c → ⊥) → (b : Bool) → leb last-revision a.revision ≡ b → finish a (changed c) ≡ revised_by b a c → Ends c
    by-revision r w true e s = exhausted r w (leb-true last-revision a.revision e) (ap (λ (x : Applied). answer_of x.answer) s)
    by-revision r w false e s = by-normal r w (leb-false last-revision a.revision e) (made c) refl s

    by-insertion : Room c → (b : Bool) → any_of wide_node c.made.nodes ≡ b → finish a (changed c) ≡ inserted_by b a c → Ends c
    by-insertion r true e s = widened r ((any-means wide_node c.made.nodes).0 e) (ap (λ (x : Applied). answer_of x.answer) s)
    by-insertion r false e s =
        by-revision r ((not-means (any_of wide_node c.made.nodes) (any-means wide_node c.made.nodes)).0 e) (leb last-revision a.revision) refl s

    by-room : (b : Bool) → ltb (length (empty_slots a.nodes)) c.needed ≡ b → finish a (changed c) ≡ room_by b a c → Ends c
    by-room true e s = crowded (ltb-true (length (empty_slots a.nodes)) c.needed e) (ap (λ (x : Applied). answer_of x.answer) s)
    by-room false e s = by-insertion (ltb-false (length (empty_slots a.nodes)) c.needed e) (any_of wide_node c.made.nodes) refl s

    pub ends : Ends c
    ends = by-room (ltb (length (empty_slots a.nodes)) c.needed) refl refl

    clash : {A : Type 0} {j k : ℕ} → Ended c j → Ended c k → (j ≡ k → ⊥) → A
    clash t u n = absurd (n (ap (λ (x : Told). x.number) (sym t ∙ u)))

    neither : {A : Type 0} → Crowded c → Room c → A
    neither h r = absurd (omega (arith, h, r))

    not-both : {A : Type 0} → Last → Before → A
    not-both h r = absurd (omega (arith, h, r))

    -- 2: too few slots, or nothing is kept and no slot is free for a root
    abbrev pub Full : Type 0
    Full = Crowded c ⊎ (Room c × (Widens c → ⊥) × Before × (made c ≡ none))

    pub change-full : Ended c 2 ↔ Full
    change-full = (there ends, back ends)
      where
        there : Ends c → Ended c 2 → Full
        there (crowded h t) q = inl h
        there (widened r w t) q = clash t q (λ z. omega (arith, z))
        there (exhausted r w l t) q = clash t q (λ z. omega (arith, z))
        there (rootless r w l o t) q = inr (r, w, l, o)
        there (swollen r w l k t) q = clash t q (λ z. omega (arith, z))
        there (done r w l n o k t) q = clash t q (λ z. omega (arith, z))

        back : Ends c → Full → Ended c 2
        back (crowded h t) f = t
        back (rootless r w l o t) f = t
        back (widened r w t) (inl h) = neither h r
        back (widened r w t) (inr (s, v, l, o)) = absurd (v w)
        back (exhausted r w l t) (inl h) = neither h r
        back (exhausted r w l t) (inr (s, v, b, o)) = not-both l b
        back (swollen r w l k t) (inl h) = neither h r
        back (swollen r w l k t) (inr (s, v, b, o)) = some-none (sym k.1 ∙ o)
        back (done r w l n q k t) (inl h) = neither h r
        back (done r w l n q k t) (inr (s, v, b, o)) = some-none (sym q ∙ o)

    -- 3: at insertion, or after repair
    abbrev pub Wide : Type 0
    Wide = Room c × (Widens c ⊎ (Before × Swells (made c)))

    pub change-wide : Ended c 3 ↔ Wide
    change-wide = (there ends, back ends)
      where
        there : Ends c → Ended c 3 → Wide
        there (crowded h t) q = clash t q (λ z. omega (arith, z))
        there (widened r w t) q = (r, inl w)
        there (exhausted r w l t) q = clash t q (λ z. omega (arith, z))
        there (rootless r w l o t) q = clash t q (λ z. omega (arith, z))
        there (swollen r w l k t) q = (r, inr (l, k))
        there (done r w l n o k t) q = clash t q (λ z. omega (arith, z))

        back : Ends c → Wide → Ended c 3
        back (widened r w t) f = t
        back (swollen r w l k t) f = t
        back (crowded h t) f = neither h f.0
        back (exhausted r w l t) (s, inl v) = absurd (w v)
        back (exhausted r w l t) (s, inr (b, k)) = not-both l b
        back (rootless r w l o t) (s, inl v) = absurd (w v)
        back (rootless r w l o t) (s, inr (b, k)) = some-none (sym k.1 ∙ o)
        back (done r w l n q k t) (s, inl v) = absurd (w v)
        back (done r w l n q k t) (s, inr (b, f)) = absurd (k f)

    -- 11: a change at the last revision
    abbrev pub Spent : Type 0
    Spent = Room c × (Widens c → ⊥) × Last

    pub change-spent : Ended c 11 ↔ Spent
    change-spent = (there ends, back ends)
      where
        there : Ends c → Ended c 11 → Spent
        there (crowded h t) q = clash t q (λ z. omega (arith, z))
        there (widened r w t) q = clash t q (λ z. omega (arith, z))
        there (exhausted r w l t) q = (r, w, l)
        there (rootless r w l o t) q = clash t q (λ z. omega (arith, z))
        there (swollen r w l k t) q = clash t q (λ z. omega (arith, z))
        there (done r w l n o k t) q = clash t q (λ z. omega (arith, z))

        back : Ends c → Spent → Ended c 11
        back (exhausted r w l t) f = t
        back (crowded h t) f = neither h f.0
        back (widened r w t) f = absurd (f.1 w)
        back (rootless r w l o t) f = not-both f.2 l
        back (swollen r w l k t) f = not-both f.2 l
        back (done r w l n q k t) f = not-both f.2 l

  -- ---- the call: only a change of a sound arena comes to these

  late-step : (k : ℕ) (s : Step) → Member (step_number s) own → T (not (contains k own)) → Tells (finish a s).answer k 0 0 → (c : Change) × (s ≡ changed c) × Ended c k
  late-step k (refuse e) m f t = absurd (unlike own (refusal_of e).number k m (ap (λ (x : Told). x.number) t) f)
  late-step k unchanged m f t = absurd (unlike own 0 k (inl refl) (ap (λ (x : Told). x.number) t) f)
  late-step k (changed c) m f t = (c, refl, t)

  -- 2, 3 and 11 exactly when the operation changes a sound arena and its change ends so
  pub apply-late : (op : TileOp) (k : ℕ) → T (not (contains k own)) → (k ≡ 4 → ⊥) → Tells (apply a op).answer k 0 0 ↔ ((c : Change) × (sound a ≡ true) × (apply_inner a op ≡ changed c) × Ended c k)
  unfolding apply
  apply-late op k f g = go (sound a)
    where
      go : (b : Bool) → Tells (apply_by b a op).answer k 0 0 ↔ ((c : Change) × (b ≡ true) × (apply_inner a op ≡ changed c) × Ended c k)
      go true = (λ t. let (c, e, u) = late-step k (apply_inner a op) (inner-own a op) f t in (c, refl, e, u), λ (c, e, q, u). ap (λ (s : Step). answer_of (finish a s).answer) q ∙ u)
      go false = (λ t. absurd (g (sym (ap (λ (x : Told). x.number) t))), λ (c, e, q, u). never (sym e))

  -- 3: a list would pass 16, at insertion or after repair
  pub apply-wide : (op : TileOp) → Tells (apply a op).answer 3 0 0 ↔ ((c : Change) × (sound a ≡ true) × (apply_inner a op ≡ changed c) × Wide c)
  unfolding any_of
  apply-wide op =
      let f = apply-late op 3 tt (λ z. omega (arith, z)) in
      (λ t. let (c, s, e, u) = f.0 t in (c, s, e, (change-wide c).0 u), λ (c, s, e, w). f.1 (c, s, e, (change-wide c).1 w))

  -- 11: a change at the last revision
  pub apply-spent : (op : TileOp) → Tells (apply a op).answer 11 0 0 ↔ ((c : Change) × (sound a ≡ true) × (apply_inner a op ≡ changed c) × Spent c)
  unfolding any_of
  apply-spent op =
      let f = apply-late op 11 tt (λ z. omega (arith, z)) in
      (λ t. let (c, s, e, u) = f.0 t in (c, s, e, (change-spent c).0 u), λ (c, s, e, w). f.1 (c, s, e, (change-spent c).1 w))

  -- 2: new tiles needed exceed the slots that were empty at the start, or the change leaves nothing and no slot for a root
  pub apply-full : (op : TileOp) → Tells (apply a op).answer 2 0 0 ↔ ((c : Change) × (sound a ≡ true) × (apply_inner a op ≡ changed c) × Full c)
  unfolding any_of
  apply-full op =
      let f = apply-late op 2 tt (λ z. omega (arith, z)) in
      (λ t. let (c, s, e, u) = f.0 t in (c, s, e, (change-full c).0 u), λ (c, s, e, w). f.1 (c, s, e, (change-full c).1 w))
