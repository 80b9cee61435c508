-- When a row of a spec is refused, number by number with its details, in the order of the Rust's checks: a split's row with 13 to 17, a group's with 12, 18 and 10. Assumes nothing.
use Rattle.std.specs.Prelude.{◌≡◌, refl, ◌↔◌, ◌⊎◌, Bool, true, false, not, List, [], ◌∷◌, ◌++◌, ℕ, ◌≤◌, ◌<◌, ltb, leb, eqb, length, Float}
use Rattle.std.proofs.Common.{sym, ap, ◌∙◌, inl, inr, arith, ltb-true, ltb-false, lt-ltb, le-ltb, leb-true, leb-false, le-leb, eqb-true, eq-eqb, ne_eqb}
use Rattle.std.proofs.Math.Option.{Option, none, some}
use Rattle.std.proofs.lemmas.Bool.{lt-leb, eqb-false}
use Rattle.rules.specs.Numbers.{share_ok, minimum_ok}
use Rattle.rules.specs.Lists.{contains, position}
use Rattle.rules.specs.Tree.{Member}
use Rattle.rules.specs.Spec.{refuse_if, refuse_at, duplicate, split_refusal, tabs_refusal}
use Rattle.rules.specs.Refusals.{Told, told, refusal_of}
use Rattle.rules.specs.declared.refusal.Refusal.{Refusal}
use Rattle.rules.specs.declared.refusal.Refusal.TheVariants.{DuplicatePane, EmptyTabs, TooFewSplitChildren, ShareCountMismatch, InvalidShare, TooManySplitConstraints, InvalidSplitConstraint, InvalidActiveTab}
use Rattle.promises.specs.OpsExact.{told-apart}

-- a row's refusal, and 0 where it has none
abbrev pub row_told : Option Refusal → Told
row_told none = told 0 0 0
row_told (some e) = refusal_of e

-- ---- a split's row

module _ (n : ℕ) (ss ms : List Float) where
  abbrev pub split_told : Told
  split_told = row_told (split_refusal n ss ms)

  -- the first share, and the first minimum, that is out of range
  abbrev pub bad_share : Option ℕ
  bad_share = position (λ x. not (share_ok x)) ss

  abbrev pub bad_minimum : Option ℕ
  bad_minimum = position (λ x. not (minimum_ok x)) ms

  abbrev least : Option Refusal
  least = refuse_at bad_minimum InvalidSplitConstraint none

  abbrev more : Option Refusal
  more = refuse_if (ltb n (length ms)) (TooManySplitConstraints n (length ms)) least

  abbrev shares : Option Refusal
  shares = refuse_at bad_share InvalidShare more

  abbrev even : Option Refusal
  even = refuse_if (not (eqb n (length ss))) (ShareCountMismatch n (length ss)) shares

  -- each test passed
  at-two : 2 ≤ n → split_told ≡ row_told even
  at-two h = ap (λ (b : Bool). row_told (refuse_if b (TooFewSplitChildren n) even)) (le-ltb n 2 h)

  at-even : 2 ≤ n → n ≡ length ss → split_told ≡ row_told shares
  at-even h e = at-two h ∙ ap (λ (b : Bool). row_told (refuse_if (not b) (ShareCountMismatch n (length ss)) shares)) (eq-eqb n (length ss) e)

  at-shares : 2 ≤ n → n ≡ length ss → bad_share ≡ none → split_told ≡ row_told more
  at-shares h e g = at-even h e ∙ ap (λ (o : Option ℕ). row_told (refuse_at o InvalidShare more)) g

  at_more : 2 ≤ n → n ≡ length ss → bad_share ≡ none → length ms ≤ n → split_told ≡ row_told least
  at_more h e g m = at-shares h e g ∙ ap (λ (b : Bool). row_told (refuse_if b (TooManySplitConstraints n (length ms)) least)) (le-ltb n (length ms) m)

  data Ends : Type 0 where
    few : n < 2 → split_told ≡ told 13 n 0 → Ends
    uneven : 2 ≤ n → (n ≡ length ss → ⊥) → split_told ≡ told 14 n (length ss) → Ends
    share : 2 ≤ n → n ≡ length ss → (i : ℕ) → bad_share ≡ some i → split_told ≡ told 15 i 0 → Ends
    many : 2 ≤ n → n ≡ length ss → bad_share ≡ none → n < length ms → split_told ≡ told 16 n (length ms) → Ends
    minimum : 2 ≤ n → n ≡ length ss → bad_share ≡ none → length ms ≤ n → (i : ℕ) → bad_minimum ≡ some i → split_told ≡ told 17 i 0 → Ends
    fine : split_told ≡ told 0 0 0 → Ends

  few-is : n < 2 → split_told ≡ told 13 n 0
  few-is h = ap (λ (b : Bool). row_told (refuse_if b (TooFewSplitChildren n) even)) (lt-ltb n 2 h)

  uneven-is : 2 ≤ n → (n ≡ length ss → ⊥) → split_told ≡ told 14 n (length ss)
  uneven-is h d = at-two h ∙ ap (λ (b : Bool). row_told (refuse_if (not b) (ShareCountMismatch n (length ss)) shares)) (ne_eqb n (length ss) d)

  share-is : 2 ≤ n → n ≡ length ss → (i : ℕ) → bad_share ≡ some i → split_told ≡ told 15 i 0
  share-is h e i g = at-even h e ∙ ap (λ (o : Option ℕ). row_told (refuse_at o InvalidShare more)) g

  many_is : 2 ≤ n → n ≡ length ss → bad_share ≡ none → n < length ms → split_told ≡ told 16 n (length ms)
  many_is h e g m = at-shares h e g ∙ ap (λ (b : Bool). row_told (refuse_if b (TooManySplitConstraints n (length ms)) least)) (lt-ltb n (length ms) m)

  minimum-is : 2 ≤ n → n ≡ length ss → bad_share ≡ none → length ms ≤ n → (i : ℕ) → bad_minimum ≡ some i → split_told ≡ told 17 i 0
  minimum-is h e g m i w = at_more h e g m ∙ ap (λ (o : Option ℕ). row_told (refuse_at o InvalidSplitConstraint none)) w

  ends : Ends
  ends = by_two (ltb n 2) refl
    where
      by-least : 2 ≤ n → n ≡ length ss → bad_share ≡ none → length ms ≤ n → (o : Option ℕ) → bad_minimum ≡ o → Ends
      by-least h e g m (some i) w = minimum h e g m i w (minimum-is h e g m i w)
      by-least h e g m none w = fine (at_more h e g m ∙ ap (λ (o : Option ℕ). row_told (refuse_at o InvalidSplitConstraint none)) w)

      by-more : 2 ≤ n → n ≡ length ss → bad_share ≡ none → (b : Bool) → ltb n (length ms) ≡ b → Ends
      by-more h e g true w = many h e g (ltb-true n (length ms) w) (many_is h e g (ltb-true n (length ms) w))
      by-more h e g false w = by-least h e g (ltb-false n (length ms) w) bad_minimum refl

      by-shares : 2 ≤ n → n ≡ length ss → (o : Option ℕ) → bad_share ≡ o → Ends
      by-shares h e (some i) w = share h e i w (share-is h e i w)
      by-shares h e none w = by-more h e w (ltb n (length ms)) refl

      by-even : 2 ≤ n → (b : Bool) → eqb n (length ss) ≡ b → Ends
      by-even h true w = by-shares h (eqb-true n (length ss) w) bad_share refl
      by-even h false w = uneven h (eqb-false n (length ss) w) (uneven-is h (eqb-false n (length ss) w))

      by_two : (b : Bool) → ltb n 2 ≡ b → Ends
      by_two true w = few (ltb-true n 2 w) (few-is (ltb-true n 2 w))
      by_two false w = by-even (ltb-false n 2 w) (eqb n (length ss)) refl

  clash : {A : Type 0} {t u : Told} → split_told ≡ t → split_told ≡ u → (t.number ≡ u.number → ⊥) → A
  clash e f d = told-apart (sym e ∙ f) d

  -- 13, with the children: fewer than two
  pub row-few : (split_told ≡ told 13 n 0) ↔ (n < 2)
  row-few = (there ends, few-is)
    where
      there : Ends → split_told ≡ told 13 n 0 → n < 2
      there (few h t) q = h
      there (uneven h d t) q = clash t q (λ z. omega (arith, z))
      there (share h e i g t) q = clash t q (λ z. omega (arith, z))
      there (many h e g m t) q = clash t q (λ z. omega (arith, z))
      there (minimum h e g m i w t) q = clash t q (λ z. omega (arith, z))
      there (fine t) q = clash t q (λ z. omega (arith, z))

  -- 14, with children and shares: not as many
  pub row-uneven : (split_told ≡ told 14 n (length ss)) ↔ ((2 ≤ n) × (n ≡ length ss → ⊥))
  row-uneven = (there ends, λ (h, d). uneven-is h d)
    where
      there : Ends → split_told ≡ told 14 n (length ss) → (2 ≤ n) × (n ≡ length ss → ⊥)
      there (few h t) q = clash t q (λ z. omega (arith, z))
      there (uneven h d t) q = (h, d)
      there (share h e i g t) q = clash t q (λ z. omega (arith, z))
      there (many h e g m t) q = clash t q (λ z. omega (arith, z))
      there (minimum h e g m i w t) q = clash t q (λ z. omega (arith, z))
      there (fine t) q = clash t q (λ z. omega (arith, z))

  -- 15, with the index: the first share that is not finite and positive
  pub row-share : (i : ℕ) → (split_told ≡ told 15 i 0) ↔ ((2 ≤ n) × (n ≡ length ss) × (bad_share ≡ some i))
  row-share i = (there ends, λ (h, e, g). share-is h e i g)
    where
      there : Ends → split_told ≡ told 15 i 0 → (2 ≤ n) × (n ≡ length ss) × (bad_share ≡ some i)
      there (few h t) q = clash t q (λ z. omega (arith, z))
      there (uneven h d t) q = clash t q (λ z. omega (arith, z))
      there (share h e j g t) q = (h, e, g ∙ ap some (ap (λ (z : Told). z.first) (sym t ∙ q)))
      there (many h e g m t) q = clash t q (λ z. omega (arith, z))
      there (minimum h e g m j w t) q = clash t q (λ z. omega (arith, z))
      there (fine t) q = clash t q (λ z. omega (arith, z))

  -- 16, with children and minima: more minima than children
  pub row-many : (split_told ≡ told 16 n (length ms)) ↔ ((2 ≤ n) × (n ≡ length ss) × (bad_share ≡ none) × (n < length ms))
  row-many = (there ends, λ (h, e, g, m). many_is h e g m)
    where
      there : Ends → split_told ≡ told 16 n (length ms) → (2 ≤ n) × (n ≡ length ss) × (bad_share ≡ none) × (n < length ms)
      there (few h t) q = clash t q (λ z. omega (arith, z))
      there (uneven h d t) q = clash t q (λ z. omega (arith, z))
      there (share h e i g t) q = clash t q (λ z. omega (arith, z))
      there (many h e g m t) q = (h, e, g, m)
      there (minimum h e g m i w t) q = clash t q (λ z. omega (arith, z))
      there (fine t) q = clash t q (λ z. omega (arith, z))

  -- 17, with the index: the first minimum that is not finite or is negative
  pub row-minimum : (i : ℕ) → (split_told ≡ told 17 i 0) ↔ ((2 ≤ n) × (n ≡ length ss) × (bad_share ≡ none) × (length ms ≤ n) × (bad_minimum ≡ some i))
  row-minimum i = (there ends, λ (h, e, g, m, w). minimum-is h e g m i w)
    where
      there : Ends → split_told ≡ told 17 i 0 → (2 ≤ n) × (n ≡ length ss) × (bad_share ≡ none) × (length ms ≤ n) × (bad_minimum ≡ some i)
      there (few h t) q = clash t q (λ z. omega (arith, z))
      there (uneven h d t) q = clash t q (λ z. omega (arith, z))
      there (share h e j g t) q = clash t q (λ z. omega (arith, z))
      there (many h e g m t) q = clash t q (λ z. omega (arith, z))
      there (minimum h e g m j w t) q = (h, e, g, m, w ∙ ap some (ap (λ (z : Told). z.first) (sym t ∙ q)))
      there (fine t) q = clash t q (λ z. omega (arith, z))

-- ---- a group's row, and a pane's: `duplicate` names the first pane that was there before, with 10, or nothing

pub twice-numbers : (seen ps : List ℕ) → (row_told (duplicate seen ps) ≡ told 0 0 0) ⊎ ((p : ℕ) × Member p ps × (row_told (duplicate seen ps) ≡ told 10 p 0))
unfolding duplicate
twice-numbers seen [] = inl refl
twice-numbers seen (p ∷ ps) = go (contains p seen) (twice-numbers (seen ++ p ∷ []) ps)
  where
    go : (b : Bool) → (row_told (duplicate (seen ++ p ∷ []) ps) ≡ told 0 0 0) ⊎ ((q : ℕ) × Member q ps × (row_told (duplicate (seen ++ p ∷ []) ps) ≡ told 10 q 0))
        → (row_told (refuse_if b (DuplicatePane p) (duplicate (seen ++ p ∷ []) ps)) ≡ told 0 0 0) ⊎ ((q : ℕ) × Member q (p ∷ ps) × (row_told (refuse_if b (DuplicatePane p) (duplicate (seen ++ p ∷ []) ps)) ≡ told 10 q 0))
    go true r = inr (p, inl refl, refl)
    go false (inl e) = inl e
    go false (inr (q, m, e)) = inr (q, inr m, e)

module _ (active : ℕ) (ps seen : List ℕ) where
  abbrev pub group_told : Told
  group_told = row_told (tabs_refusal active ps seen)

  abbrev within : Option Refusal
  within = refuse_if (leb (length ps) active) (InvalidActiveTab active (length ps)) (duplicate seen ps)

  empty-is : length ps ≡ 0 → group_told ≡ told 12 0 0
  empty-is e = ap (λ (b : Bool). row_told (refuse_if b EmptyTabs within)) (eq-eqb (length ps) 0 e)

  at_some : (length ps ≡ 0 → ⊥) → group_told ≡ row_told within
  at_some d = ap (λ (b : Bool). row_told (refuse_if b EmptyTabs within)) (ne_eqb (length ps) 0 d)

  past_is : (length ps ≡ 0 → ⊥) → length ps ≤ active → group_told ≡ told 18 active (length ps)
  past_is d h = at_some d ∙ ap (λ (b : Bool). row_told (refuse_if b (InvalidActiveTab active (length ps)) (duplicate seen ps))) (le-leb (length ps) active h)

  at-active : active < length ps → group_told ≡ row_told (duplicate seen ps)
  at-active h = at_some (λ e. omega (arith, e, h)) ∙ ap (λ (b : Bool). row_told (refuse_if b (InvalidActiveTab active (length ps)) (duplicate seen ps))) (lt-leb (length ps) active h)

  data Groups : Type 0 where
    bare : length ps ≡ 0 → group_told ≡ told 12 0 0 → Groups
    past : (length ps ≡ 0 → ⊥) → length ps ≤ active → group_told ≡ told 18 active (length ps) → Groups
    good : active < length ps → group_told ≡ row_told (duplicate seen ps) → Groups

  groups : Groups
  groups = by-empty (eqb (length ps) 0) refl
    where
      by-active : (length ps ≡ 0 → ⊥) → (b : Bool) → leb (length ps) active ≡ b → Groups
      by-active d true w = past d (leb-true (length ps) active w) (past_is d (leb-true (length ps) active w))
      by-active d false w = good (leb-false (length ps) active w) (at-active (leb-false (length ps) active w))

      by-empty : (b : Bool) → eqb (length ps) 0 ≡ b → Groups
      by-empty true w = bare (eqb-true (length ps) 0 w) (empty-is (eqb-true (length ps) 0 w))
      by-empty false w = by-active (eqb-false (length ps) 0 w) (leb (length ps) active) refl

  -- a row past these checks has 10 or nothing
  only-ten : {A : Type 0} {t : Told} → group_told ≡ row_told (duplicate seen ps) → group_told ≡ t → (t.number ≡ 0 → ⊥) → (t.number ≡ 10 → ⊥) → A
  only-ten {t = t} u q a b = go (twice-numbers seen ps)
    where
      go : {A : Type 0} → (row_told (duplicate seen ps) ≡ told 0 0 0) ⊎ ((p : ℕ) × Member p ps × (row_told (duplicate seen ps) ≡ told 10 p 0)) → A
      go (inl e) = absurd (a (ap (λ (z : Told). z.number) (sym q ∙ u ∙ e)))
      go (inr (p, m, e)) = absurd (b (ap (λ (z : Told). z.number) (sym q ∙ u ∙ e)))

  -- 12: no pane
  pub row-empty : (group_told ≡ told 12 0 0) ↔ (length ps ≡ 0)
  row-empty = (there groups, empty-is)
    where
      there : Groups → group_told ≡ told 12 0 0 → length ps ≡ 0
      there (bare e t) q = e
      there (past d h t) q = told-apart (sym t ∙ q) (λ z. omega (arith, z))
      there (good h t) q = only-ten t q (λ z. omega (arith, z)) (λ z. omega (arith, z))

  -- 18, with the active index and the panes: past the panes
  pub row-active : (group_told ≡ told 18 active (length ps)) ↔ ((length ps ≡ 0 → ⊥) × (length ps ≤ active))
  row-active = (there groups, λ (d, h). past_is d h)
    where
      there : Groups → group_told ≡ told 18 active (length ps) → (length ps ≡ 0 → ⊥) × (length ps ≤ active)
      there (bare e t) q = told-apart (sym t ∙ q) (λ z. omega (arith, z))
      there (past d h t) q = (d, h)
      there (good h t) q = only-ten t q (λ z. omega (arith, z)) (λ z. omega (arith, z))

  -- 10, with the pane: the first that was there before
  pub row-twice : (p : ℕ) → (group_told ≡ told 10 p 0) ↔ ((active < length ps) × (row_told (duplicate seen ps) ≡ told 10 p 0))
  row-twice p = (there groups, λ (h, e). at-active h ∙ e)
    where
      there : Groups → group_told ≡ told 10 p 0 → (active < length ps) × (row_told (duplicate seen ps) ≡ told 10 p 0)
      there (bare e t) q = told-apart (sym t ∙ q) (λ z. omega (arith, z))
      there (past d h t) q = told-apart (sym t ∙ q) (λ z. omega (arith, z))
      there (good h t) q = (h, sym t ∙ q)
