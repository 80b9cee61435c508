-- Laws of the list of actions, over plain values: a search of the first n, and what noting one leaves. Assumes nothing.
use Rattle.std.specs.Prelude.{◌≡◌, refl, Bool, true, false, ◌||◌, ◌&&◌, ℕ, ◌+◌, ◌≤◌, ◌<◌, eqb, length, get_or, set, take}
use Rattle.std.proofs.Common.{sym, ap, subst, ◌∙◌, add-one, arith, eq-eqb, ne_eqb, length-set, get_or-take, length-take-le, take-suc-set}
use Rattle.std.proofs.lemmas.Bool.Decides.{nat_tests}
use Rattle.std.specs.List.{list_any}
use mathlib.Core.List.{List, [], ◌∷◌, ◌++◌, map, map-append}
use lib.Pointwise.{pointwise}
use Rattle.rules.specs.Lists.{any_of, contains}
use Rattle.rules.specs.Repair.{action_code, action_tile, action_pane, same_action, added_by, added}
use Rattle.rules.specs.declared.model.RepairAction.{RepairAction}
use Rattle.lists.specs.Tests.{Flagged, flagged-more, flagged-all}
use Rattle.columns.specs.Columns.{code_of, is_code, listed, Noted}

-- ---- a search of the first n, by what is left

module _ {A : Type 0} (t : A → Bool) (xs : List A) (n : ℕ) where
  -- none of the first i passes the test
  abbrev pub Searched : ℕ → Type 0
  Searched i = Flagged t (take n xs) i false

  module _ (i : ℕ) (d : A) (h : i < n) (l : n ≤ length xs) where
    step : Searched i → Flagged t (take n xs) (i + 1) (t (get_or xs i d))
    step s =
        subst (λ (x : A). Flagged t (take n xs) (i + 1) (t x)) (get_or-take n xs i d h)
        (flagged-more t (take n xs) i d false (omega (arith, length-take-le n xs l)) s)

    pub searched-more : t (get_or xs i d) ≡ false → Searched i → Searched (i + 1)
    searched-more e s = subst (λ (b : Bool). Flagged t (take n xs) (i + 1) b) e (step s)

    pub searched-found : t (get_or xs i d) ≡ true → Searched i → true ≡ any_of t (take n xs)
    searched-found e s = subst (λ (b : Bool). Flagged t (take n xs) (i + 1) b) e (step s)

  pub searched-all : (i : ℕ) → n ≤ i → n ≤ length xs → Searched i → false ≡ any_of t (take n xs)
  searched-all i h l s = flagged-all t (take n xs) i false (omega (arith, length-take-le n xs l)) s

-- ---- whether an action is in the list

-- it is where its numbers are
listed_same : (a : RepairAction) (l : List RepairAction) → any_of (same_action a) l ≡ listed (action_code a) (action_tile a).slot (action_pane a) (map code_of l)
unfolding any_of
listed_same a [] = refl
listed_same a (b ∷ l) = ap (λ (t : Bool). same_action a b || t) (listed_same a l)

-- whether a row is there, as std's `contains` asks it
abbrev pub row_in : List ℕ → List (List ℕ) → Bool
row_in row acts = list_any (λ r. pointwise eqb r row) acts

-- whether an action's row is
abbrev pub listed_in : RepairAction → List (List ℕ) → Bool
listed_in a acts = row_in (code_of a) acts

and_ends : (p q r : Bool) → (p && (q && (r && true))) ≡ (p && q && r)
and_ends true true true = refl
and_ends true true false = refl
and_ends true false r = refl
and_ends false q r = refl

eqb-turned : (m n : ℕ) → eqb m n ≡ eqb n m
eqb-turned m n = grind (arith, nat_tests)

-- std's `contains`, of numbers, is the rules'
pub contains-listed : (x : ℕ) (ys : List ℕ) → list_any (λ y. eqb y x) ys ≡ contains x ys
unfolding any_of
contains-listed x [] = refl
contains-listed x (y ∷ ys) = λ z. eqb-turned y x z || contains-listed x ys z

-- two rows are the same where their actions are
row_same : (a b : RepairAction) → same_action a b ≡ pointwise eqb (code_of b) (code_of a)
row_same a b =
    (λ z. eqb-turned (action_code a) (action_code b) z && eqb-turned (action_tile a).slot (action_tile b).slot z && eqb-turned (action_pane a) (action_pane b) z)
    ∙ sym (and_ends (eqb (action_code b) (action_code a)) (eqb (action_tile b).slot (action_tile a).slot) (eqb (action_pane b) (action_pane a)))

-- an action's row is there where the action is
listed_in-same : (a : RepairAction) (l : List RepairAction) → any_of (same_action a) l ≡ listed_in a (map code_of l)
unfolding any_of
listed_in-same a [] = refl
listed_in-same a (b ∷ l) = λ z. row_same a b z || listed_in-same a l z

-- ---- what noting one leaves

-- by a flag that says whether the action is in the list
module _ (acts : List (List ℕ)) (n : ℕ) (a : RepairAction) (there : Bool) (told : (l : List RepairAction) → take n acts ≡ map code_of l → any_of (same_action a) l ≡ there) where
  noted-there : there ≡ true → Noted true a acts n acts n
  unfolding added
  noted-there y =
      record { most = omega arith; lists = λ l L whole. let e = L whole in e ∙ ap (λ (b : Bool). map code_of (added_by b a l)) (sym (told l e ∙ y)) }

  noted-added : there ≡ false → n < length acts → (row : List ℕ) → code_of a ≡ row → Noted true a acts n (set acts n row) (n + 1)
  unfolding added
  noted-added y h row q =
      record {
        most = omega arith;
        lists = λ l L whole.
            let e : take n acts ≡ map code_of l = L (sym (length-set acts n row) ∙ whole) in
            ap (λ (k : ℕ). take k (set acts n row)) (add-one n)
            ∙ take-suc-set acts n row h
            ∙ (λ z. e z ++ sym q z ∷ [])
            ∙ sym (map-append code_of l (a ∷ []))
            ∙ ap (λ (b : Bool). map code_of (added_by b a l)) (sym (told l e ∙ y));
      }

-- by three numbers, of any action that they name
module _ (acts : List (List ℕ)) (n what t p : ℕ) (a : RepairAction) (ec : action_code a ≡ what) (et : (action_tile a).slot ≡ t) (ep : action_pane a ≡ p) where
  coded : code_of a ≡ what ∷ t ∷ p ∷ []
  coded = λ z. ec z ∷ et z ∷ ep z ∷ []

  known : (l : List RepairAction) → take n acts ≡ map code_of l → any_of (same_action a) l ≡ listed what t p (take n acts)
  known l e = listed_same a l ∙ (λ z. listed (ec z) (et z) (ep z) (sym e z))

  known_in : (l : List RepairAction) → take n acts ≡ map code_of l → any_of (same_action a) l ≡ row_in (what ∷ t ∷ p ∷ []) (take n acts)
  known_in l e = listed_in-same a l ∙ (λ z. row_in (coded z) (sym e z))

  pub noted-not : Noted false a acts n acts n
  noted-not = record { most = omega arith; lists = λ l e. e }

  -- in a list that is silent
  pub noted-silent : (b : Bool) → (length acts ≡ 1300 → ⊥) → Noted b a acts n acts n
  noted-silent b short = record { most = omega arith; lists = λ l L whole. absurd (short whole) }

  pub noted-listed : listed what t p (take n acts) ≡ true → Noted true a acts n acts n
  noted-listed y = noted-there acts n a (listed what t p (take n acts)) known y

  pub noted-new : listed what t p (take n acts) ≡ false → n < length acts → Noted true a acts n (set acts n (what ∷ t ∷ p ∷ [])) (n + 1)
  noted-new y h = noted-added acts n a (listed what t p (take n acts)) known y h (what ∷ t ∷ p ∷ []) coded

  -- the same two, where std's `contains` was asked
  pub noted-contained : row_in (what ∷ t ∷ p ∷ []) (take n acts) ≡ true → Noted true a acts n acts n
  noted-contained y = noted-there acts n a (row_in (what ∷ t ∷ p ∷ []) (take n acts)) known_in y

  pub noted-put : row_in (what ∷ t ∷ p ∷ []) (take n acts) ≡ false → n < length acts → Noted true a acts n (set acts n (what ∷ t ∷ p ∷ [])) (n + 1)
  noted-put y h = noted-added acts n a (row_in (what ∷ t ∷ p ∷ []) (take n acts)) known_in y h (what ∷ t ∷ p ∷ []) coded

-- by the action itself
module _ (acts : List (List ℕ)) (n : ℕ) (a : RepairAction) where
  pub noted_action-not : Noted false a acts n acts n
  noted_action-not = noted-not acts n (action_code a) (action_tile a).slot (action_pane a) a refl refl refl

  pub noted_action-silent : (b : Bool) → (length acts ≡ 1300 → ⊥) → Noted b a acts n acts n
  noted_action-silent = noted-silent acts n (action_code a) (action_tile a).slot (action_pane a) a refl refl refl

  pub noted_action-listed : listed_in a (take n acts) ≡ true → Noted true a acts n acts n
  noted_action-listed = noted-contained acts n (action_code a) (action_tile a).slot (action_pane a) a refl refl refl

  pub noted_action-new : listed_in a (take n acts) ≡ false → n < length acts → Noted true a acts n (set acts n (code_of a)) (n + 1)
  noted_action-new = noted-put acts n (action_code a) (action_tile a).slot (action_pane a) a refl refl refl

-- the same, by the flag's value
pub noted-is : {b t : Bool} {a : RepairAction} {acts : List (List ℕ)} {n : ℕ} {acts' : List (List ℕ)} {n' : ℕ} → b ≡ t → Noted t a acts n acts' n' → Noted b a acts n acts' n'
noted-is {b} {t} {a} {acts} {n} {acts'} {n'} e N = subst (λ (y : Bool). Noted y a acts n acts' n') (sym e) N

-- ---- the numbers of one action

module _ (what t p : ℕ) (a : List ℕ) where
  pub code-not : (what ≡ get_or a 0 0 → ⊥) → false ≡ is_code what t p a
  code-not n = rw (ne_eqb what (get_or a 0 0) n)

  pub code_other : what ≡ get_or a 0 0 → (t ≡ get_or a 1 0 → ⊥) → false ≡ is_code what t p a
  code_other e n = rw (eq-eqb what (get_or a 0 0) e, ne_eqb t (get_or a 1 0) n)

  pub code_same : what ≡ get_or a 0 0 → t ≡ get_or a 1 0 → eqb p (get_or a 2 0) ≡ is_code what t p a
  code_same e f = rw (eq-eqb what (get_or a 0 0) e, eq-eqb t (get_or a 1 0) f)
