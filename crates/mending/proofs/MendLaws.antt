-- Laws of a repair of lent arrays: how what the parts left gives what is promised. Assumes nothing.
use Rattle.std.specs.Prelude.{Result, Ok, Err, IsOk}
use mathlib.Core.Path.{◌≡◌, refl, sym, ap, subst, ◌∙◌}
use mathlib.Core.Bool.{Bool, true, false, not, ◌&&◌}
use mathlib.Core.List.{List, ◌++◌, map}
use Prim.Native.Nat.{ℕ, ◌≤◌}
use native.Mathlib.Omega.{arith}
use lib.ListN.{length, drop}
use lib.Ieee.{Float}
use Rattle.rules.specs.Lists.{any_of}
use Rattle.rules.specs.Tree.{Arena}
use Rattle.rules.specs.Sound.{is_accepted, is_none}
use Rattle.rules.specs.Repair.{Repaired, repair}
use Rattle.rules.specs.Refusals.{refusal_of, answer_of}
use Rattle.rules.specs.declared.model.RepairAction.{RepairAction}
use Rattle.rules.specs.Refusals.{Answer}
use Rattle.rules.specs.Refusals.{Accepted, Refused}
use Rattle.rules.specs.declared.refusal.Refusal.{Refusal}
use Rattle.rules.specs.declared.refusal.Refusal.TheVariants.{BadTable, ArenaFull, TooWide, NotSound, BadInput, InvalidTileId, InvalidPaneId, InvalidTarget, InvalidOperation, DuplicatePane, RevisionExhausted, EmptyTabs, TooFewSplitChildren, ShareCountMismatch, InvalidShare, TooManySplitConstraints, InvalidSplitConstraint, InvalidActiveTab}
use Rattle.forest.specs.Lists.{never}
use Rattle.forest.specs.Bools.{and_both}
use Rattle.forest.specs.Answers.{not-both}
use Rattle.forest.specs.Still.{is_still}
use Rattle.forest.specs.SoundIs.{none_is}
use Rattle.columns.specs.Columns.{code_of, Lists}
use Rattle.columns.specs.Pack.{over_head}
use Rattle.columns.specs.RowLaws.{unused-none}
use Rattle.columns.specs.Shown.{arena_from, Plain}
use Rattle.calm.specs.Calm.{calm_arena}
use Rattle.settling.specs.Settle.{answer_in, Comes}
use Rattle.settling.specs.declared.Settled.{Settled}
use Rattle.repair.proofs.StillLaws.{calm-tells}
use Rattle.coding.specs.Lent.{Lot}
use Rattle.crossing.specs.Parts.{Tells, Holds, Writes}
use Rattle.mending.specs.Mends.{Mends}

-- ---- the number is 0 where it is accepted, and nowhere else

refusal-number : (e : Refusal) → 1 ≤ (refusal_of e).number
refusal-number BadTable = omega arith
refusal-number ArenaFull = omega arith
refusal-number TooWide = omega arith
refusal-number NotSound = omega arith
refusal-number BadInput = omega arith
refusal-number InvalidTileId = omega arith
refusal-number InvalidPaneId = omega arith
refusal-number InvalidTarget = omega arith
refusal-number InvalidOperation = omega arith
refusal-number (DuplicatePane p) = omega arith
refusal-number RevisionExhausted = omega arith
refusal-number EmptyTabs = omega arith
refusal-number (TooFewSplitChildren n) = omega arith
refusal-number (ShareCountMismatch n s) = omega arith
refusal-number (InvalidShare i) = omega arith
refusal-number (TooManySplitConstraints n m) = omega arith
refusal-number (InvalidSplitConstraint i) = omega arith
refusal-number (InvalidActiveTab a n) = omega arith

module _ (a : Answer) (n : ℕ) (told : n ≡ (answer_of a).number) where
  pub zero-accepted : a ≡ Accepted → n ≡ 0
  zero-accepted e = told ∙ ap (λ (x : Answer). (answer_of x).number) e

  pub not-refused : (e : Refusal) → a ≡ Refused e → n ≡ 0 → ⊥
  not-refused e q z = let p : n ≡ (refusal_of e).number = told ∙ ap (λ (x : Answer). (answer_of x).number) q in omega (arith, p, z, refusal-number e)

-- ---- any repair: a is the arena that the columns showed, b the one that was lent

pub mends-taken : (l : Lot) (acts : List (List ℕ)) (b a : Arena) (hs xs : List (List ℕ)) (ss ms : List (List Float)) (list : List (List ℕ)) (d : Settled) (l' : Lot) (acts' : List (List ℕ)) (out' : List ℕ) (n : ℕ)
    → a ≡ b → Comes a (repair a) hs xs ss ms list (Ok d) → ((k : List RepairAction) → Lists list d.count k → Writes k acts acts' d.count) → Tells Accepted d.count 0 out' n
    → Holds (arena_from d.root a.revision hs xs ss ms) l' → Mends (repair b) l acts l' acts' out' n
mends-taken l acts b a hs xs ss ms list d l' acts' out' n v C W T H =
    let x = repair a in
    let Y = W x.actions C.actions in
    subst (λ (y : Repaired). Mends y l acts l' acts' out' n) (ap repair v)
    (record {
      told = subst (λ (k : ℕ). Tells x.answer k 0 out' n) Y.count (subst (λ (y : Answer). Tells y d.count 0 out' n) C.answer T);
      accepted = λ p. subst (λ (y : Arena). Holds y l') (sym (C.tree refl)) H;
      refused = λ f p. absurd (not-refused Accepted n T.number f (C.answer ∙ p) T.number);
      actions = Y.list;
    })

pub mends-refused : (l : Lot) (acts : List (List ℕ)) (b a : Arena) (hs xs : List (List ℕ)) (ss ms : List (List Float)) (list : List (List ℕ)) (e : Refusal) (l' : Lot) (out' : List ℕ) (n : ℕ)
    → a ≡ b → Comes a (repair a) hs xs ss ms list (Err e) → l' ≡ l → Tells (Refused e) 0 0 out' n → Mends (repair b) l acts l' acts out' n
mends-refused l acts b a hs xs ss ms list e l' out' n v C same T =
    let x = repair a in
    let none = (C.given e refl).1 in
    subst (λ (y : Repaired). Mends y l acts l' acts out' n) (ap repair v)
    (record {
      told = subst (λ (k : List RepairAction). Tells x.answer (length k) 0 out' n) (sym none) (subst (λ (y : Answer). Tells y 0 0 out' n) C.answer T);
      accepted = λ p. absurd (not-refused (Refused e) n T.number e refl (zero-accepted (Refused e) n T.number (C.answer ∙ p)));
      refused = λ f p. same;
      actions = sym (ap (λ (k : List RepairAction). map code_of k ++ drop (length k) acts) none);
    })

-- ---- a repair that lists nothing

accepted-is : (a : Answer) → is_accepted a ≡ true → a ≡ Accepted
accepted-is (Ok _) e = refl
accepted-is (Err r) e = never (sym e)

-- such a repair is not refused
pub still-ok : (a : Arena) (hs xs : List (List ℕ)) (ss ms : List (List Float)) (list : List (List ℕ)) (r : Result Settled Refusal) → is_still (repair a) ≡ true → Comes a (repair a) hs xs ss ms list r → IsOk r
still-ok a hs xs ss ms list r s C = by r (C.answer ∙ accepted-is (repair a).answer (and_both (is_accepted (repair a).answer) (is_none (repair a).actions) s).0)
  where
    by : (r : Result Settled Refusal) → answer_in r ≡ Accepted → IsOk r
    by (Ok d) e = refl
    by (Err f) e = not-both e refl

pub mends-still : (l : Lot) (a : Arena) (hs xs : List (List ℕ)) (ss ms : List (List Float)) (list : List (List ℕ)) (d : Settled) (l' : Lot) (out' : List ℕ) (n : ℕ)
    → is_still (repair a) ≡ true → Comes a (repair a) hs xs ss ms list (Ok d) → Holds (arena_from d.root a.revision hs xs ss ms) l' → Tells Accepted 0 0 out' n
    → (acts : List (List ℕ)) → Mends (repair a) l acts l' acts out' n
mends-still l a hs xs ss ms list d l' out' n s C H T acts =
    let x = repair a in
    let both = and_both (is_accepted x.answer) (is_none x.actions) s in
    let p = accepted-is x.answer both.0 in
    let q = none_is x.actions both.1 in
    record {
      told = subst (λ (y : Answer). Tells y (length x.actions) 0 out' n) (sym p) (subst (λ (k : List RepairAction). Tells Accepted (length k) 0 out' n) (sym q) T);
      accepted = λ z. subst (λ (y : Arena). Holds y l') (sym (C.tree refl)) H;
      refused = λ e r. not-both p r;
      actions = sym (ap (λ (k : List RepairAction). map code_of k ++ drop (length k) acts) q);
    }

-- ---- whether it would list nothing

module _ (root v : ℕ) (hs xs : List (List ℕ)) (ss ms : List (List Float)) where
  abbrev Still : Bool → Type 0
  Still r = r ≡ (not (any_of over_head hs) && is_still (repair (arena_from root v hs xs ss ms)))

  pub over-not : any_of over_head hs ≡ true → Still false
  over-not e = sym (ap (λ (b : Bool). not b && is_still (repair (arena_from root v hs xs ss ms))) e)

  pub few-plain : (length hs ≡ 64) × (length xs ≡ 64) × (length ss ≡ 64) × (length ms ≡ 64) → any_of over_head hs ≡ false → Plain hs xs ss ms
  few-plain (h, x, s, m) e = record { heads = h; ids = x; shares = s; minima = m; unused = unused-none hs e }

  pub calm-so : (length hs ≡ 64) × (length xs ≡ 64) × (length ss ≡ 64) × (length ms ≡ 64) → any_of over_head hs ≡ false → (r : Bool) → r ≡ calm_arena (arena_from root v hs xs ss ms) → Still r
  calm-so z e r c =
      calm-tells root v hs xs ss ms (few-plain z e) e r c ∙ sym (ap (λ (b : Bool). not b && is_still (repair (arena_from root v hs xs ss ms))) e)

  -- where it says so, the columns are fit to be read, and repair lists nothing
  pub still-plain : (length hs ≡ 64) × (length xs ≡ 64) × (length ss ≡ 64) × (length ms ≡ 64) → Still true → Plain hs xs ss ms × (is_still (repair (arena_from root v hs xs ss ms)) ≡ true)
  still-plain z e =
      let both = and_both (not (any_of over_head hs)) (is_still (repair (arena_from root v hs xs ss ms))) (sym e) in
      (few-plain z (not-over (any_of over_head hs) both.0), both.1)
    where
      not-over : (b : Bool) → not b ≡ true → b ≡ false
      not-over true f = never (sym f)
      not-over false f = refl
