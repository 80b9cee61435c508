-- When `repair` refuses: with 3 exactly when a list was given longer than 16 or is so after repair, with 2 exactly when nothing is kept and no slot was empty;
-- and with no other number. And what `is_sound` says, in document 01's words ('The arena'). Assumes nothing.
use Rattle.std.specs.Prelude.{Ok, Err}
use Rattle.std.specs.Prelude.{◌≡◌, ◌↔◌, ◌⊎◌, Bool, ◌&&◌, ◌||◌, List, [], ◌∷◌, ℕ}
use Rattle.std.proofs.Math.Path.{refl}
use Rattle.std.proofs.Common.{sym, ap, subst, ◌∙◌, arith}
use Rattle.std.proofs.Math.Logic.{inl, inr}
use Rattle.std.proofs.Math.Bool.{true, false}
use Rattle.std.proofs.Math.Option.{Option, none, some}
use Rattle.rules.specs.Lists.{any_of}
use Rattle.rules.specs.Tree.{Node, Arena, empty_slots, wide_node, same_tree, Member}
use Rattle.rules.specs.Repair.{Work, Normal, rooted, begin, normalize_node, normalize, repaired_by, repaired_as, repair_by, repair}
use Rattle.rules.specs.Sound.{is_accepted, is_none, untouched, lone_empty_root, sound}
use Rattle.rules.specs.declared.model.TileId.{TileId}
use Rattle.rules.specs.declared.model.RepairAction.{RepairAction}
use Rattle.rules.specs.Refusals.{Answer}
use Rattle.rules.specs.Refusals.{Accepted, Refused}
use Rattle.forest.specs.Lists.{never}
use Rattle.promises.specs.Words.{Tells, number_of, one_number, both_ways, and-means}
use Rattle.forest.specs.Bools.{true-right}
use Rattle.forest.specs.Answers.{some-none}

-- some entry passes the test
abbrev pub Some : {A : Type 0} → (A → Bool) → List A → Type 0
Some {A} p xs = (x : A) × Member x xs × (p x ≡ true)

pub any-means : {A : Type 0} (p : A → Bool) (xs : List A) → (any_of p xs ≡ true) ↔ Some p xs
unfolding any_of
any-means p [] = (λ e. never (sym e), λ s. absurd s.1)
any-means p (x ∷ xs) = go (any-means p xs)
  where
    there : (any_of p xs ≡ true → Some p xs) → (b : Bool) → p x ≡ b → (b || any_of p xs) ≡ true → Some p (x ∷ xs)
    there f true q e = (x, inl refl, q)
    there f false q e = let (y, m, r) = f e in (y, inr m, r)

    back : (Some p xs → any_of p xs ≡ true) → Some p (x ∷ xs) → (p x || any_of p xs) ≡ true
    back f (y, inl e, q) = ap (λ (b : Bool). b || any_of p xs) (ap p (sym e) ∙ q)
    back f (y, inr m, q) = true-right (p x) (any_of p xs) (f (y, m, q))

    go : (any_of p xs ≡ true) ↔ Some p xs → (any_of p (x ∷ xs) ≡ true) ↔ Some p (x ∷ xs)
    go f = (there f.0 (p x) refl, back f.1)

-- ---- room for a root: none exactly when nothing is kept and no slot is free

rooted_none : (free : List ℕ) (k : Option TileId) (w : Work) → (rooted free k w ≡ none) ↔ ((k ≡ none) × (free ≡ []))
rooted_none free (some r) w = (λ e. some-none e, λ e. some-none e.0)
rooted_none [] none w = (λ e. (refl, refl), λ e. refl)
rooted_none (i ∷ is) none w = (λ e. some-none e, λ e. absurd (let f = e.1 in let z : ◌≡◌ {A = ℕ} 0 1 = cc in omega arith))

pub no_room : (free : List ℕ) (r : TileId) (ns : List Node) → (normalize free r ns ≡ none) ↔ (((normalize_node 64 r (begin ns)).kept ≡ none) × (free ≡ []))
unfolding normalize
no_room free r ns = rooted_none free (normalize_node 64 r (begin ns)).kept (normalize_node 64 r (begin ns)).work

-- ---- the call

module _ (a : Arena) where
  abbrev pub free : List ℕ
  free = empty_slots a.nodes

  abbrev pub made : Option Normal
  made = normalize free a.root a.nodes

  -- what repair keeps of the root
  abbrev pub kept : Option TileId
  kept = (normalize_node 64 a.root (begin a.nodes)).kept

  -- a list is longer than 16 after repair
  abbrev pub Swells : Option Normal → Type 0
  Swells o = (n : Normal) × (o ≡ some n) × Some wide_node n.nodes

  -- 3 exactly when a list was given too long, or one is too long after repair
  pub repair-wide : Tells (repair a).answer 3 0 0 ↔ ((a.over ≡ true) ⊎ Swells made)
  unfolding repair
  repair-wide = by a.over
    where
      by_width : (n : Normal) (b : Bool) → any_of wide_node n.nodes ≡ b → Tells (repaired_by b a n).answer 3 0 0 ↔ ((false ≡ true) ⊎ Swells (some n))
      by_width n true q = (λ t. inr (n, refl, (any-means wide_node n.nodes).0 q), λ s. refl)
      by_width n false q = (λ t. one_number (repaired_by false a n).answer 3 0 0 0 refl (λ z. omega (arith, z)) t, back)
        where
          back : (false ≡ true) ⊎ Swells (some n) → Tells (repaired_by false a n).answer 3 0 0
          back (inl e) = never (sym e)
          back (inr (m, e, s)) = let same : n ≡ m = cc in never (sym ((any-means wide_node n.nodes).1 (subst (λ (x : Normal). Some wide_node x.nodes) (sym same) s)) ∙ q)

      by-made : (o : Option Normal) → Tells (repaired_as a o).answer 3 0 0 ↔ ((false ≡ true) ⊎ Swells o)
      by-made none = (λ t. one_number (repaired_as a none).answer 3 0 0 2 refl (λ z. omega (arith, z)) t, back)
        where
          back : (false ≡ true) ⊎ Swells none → Tells (repaired_as a none).answer 3 0 0
          back (inl e) = never (sym e)
          back (inr (m, e, s)) = some-none (sym e)
      by-made (some n) = by_width n (any_of wide_node n.nodes) refl

      by : (o : Bool) → Tells (repair_by o a).answer 3 0 0 ↔ ((o ≡ true) ⊎ Swells made)
      by true = (λ t. inl refl, λ s. refl)
      by false = by-made made

  -- 2 exactly when all lists are within 16, nothing is kept and no slot was empty
  pub repair-full : Tells (repair a).answer 2 0 0 ↔ ((a.over ≡ false) × (kept ≡ none) × (free ≡ []))
  unfolding repair
  repair-full = by a.over
    where
      by_width : (n : Normal) (b : Bool) → Tells (repaired_by b a n).answer 2 0 0 ↔ (◌≡◌ {A = Option Normal} (some n) none)
      by_width n true = (λ t. one_number (repaired_by true a n).answer 2 0 0 3 refl (λ z. omega (arith, z)) t, λ e. some-none e)
      by_width n false = (λ t. one_number (repaired_by false a n).answer 2 0 0 0 refl (λ z. omega (arith, z)) t, λ e. some-none e)

      by-made : (o : Option Normal) → Tells (repaired_as a o).answer 2 0 0 ↔ (o ≡ none)
      by-made none = (λ t. refl, λ e. refl)
      by-made (some n) = by_width n (any_of wide_node n.nodes)

      by : (o : Bool) → Tells (repair_by o a).answer 2 0 0 ↔ ((o ≡ false) × (kept ≡ none) × (free ≡ []))
      by true = (λ t. one_number (repair_by true a).answer 2 0 0 3 refl (λ z. omega (arith, z)) t, λ e. never e.0)
      by false = let f = both_ways (by-made made) (no_room free a.root a.nodes) in (λ t. let (k, e) = f.0 t in (refl, k, e), λ e. f.1 (e.1, e.2))

  -- no other number
  pub repair-numbers : Member (number_of (repair a).answer) (0 ∷ 2 ∷ 3 ∷ [])
  unfolding repair
  repair-numbers = by a.over
    where
      by_width : (n : Normal) (b : Bool) → Member (number_of (repaired_by b a n).answer) (0 ∷ 2 ∷ 3 ∷ [])
      by_width n true = inr (inr (inl refl))
      by_width n false = inl refl

      by-made : (o : Option Normal) → Member (number_of (repaired_as a o).answer) (0 ∷ 2 ∷ 3 ∷ [])
      by-made none = inr (inl refl)
      by-made (some n) = by_width n (any_of wide_node n.nodes)

      by : (o : Bool) → Member (number_of (repair_by o a).answer) (0 ∷ 2 ∷ 3 ∷ [])
      by true = inr (inr (inl refl))
      by false = by-made made

  -- ---- soundness: the repair is accepted, lists no action and returns an equal tree; or the root alone is occupied, an empty Hidden group with active 0

  accepted-means : (x : Answer) → (is_accepted x ≡ true) ↔ (x ≡ Accepted)
  accepted-means (Ok _) = (λ e. refl, λ e. refl)
  accepted-means (Err r) = (λ e. never (sym e), λ e. ap is_accepted e)

  none-means : (l : List RepairAction) → (is_none l ≡ true) ↔ (l ≡ [])
  none-means [] = (λ e. refl, λ e. refl)
  none-means (x ∷ l) = (λ e. never (sym e), λ e. ap is_none e)

  or-means : {P Q : Type 0} (b c : Bool) → (b ≡ true) ↔ P → (c ≡ true) ↔ Q → ((b || c) ≡ true) ↔ (P ⊎ Q)
  or-means {P} {Q} true c f g = (λ e. inl (f.0 refl), λ s. refl)
  or-means {P} {Q} false c f g = (λ e. inr (g.0 e), back)
    where
      back : P ⊎ Q → c ≡ true
      back (inl p) = never (sym (f.1 p))
      back (inr q) = g.1 q

  abbrev pub Untouched : Type 0
  Untouched = (((repair a).answer ≡ Accepted) × ((repair a).actions ≡ [])) × (same_tree (repair a).tree a ≡ true)

  pub sound-means : (sound a ≡ true) ↔ (Untouched ⊎ (lone_empty_root a ≡ true))
  unfolding sound
  sound-means =
      or-means (untouched a (repair a)) (lone_empty_root a)
      (and-means (is_accepted (repair a).answer && is_none (repair a).actions) (same_tree (repair a).tree a)
      (and-means (is_accepted (repair a).answer) (is_none (repair a).actions) (accepted-means (repair a).answer) (none-means (repair a).actions))
      (λ e. e, λ e. e))
      (λ e. e, λ e. e)
