-- Laws of the calls, over plain values: how what the parts left gives each call's promise. Assumes nothing.
use mathlib.Core.Path.{◌≡◌, refl, sym, ap, subst, ◌∙◌}
use mathlib.Core.Bool.{Bool, true, false, ◌&&◌}
use mathlib.Core.List.{List, ◌++◌, map}
use Prim.Native.Nat.{ℕ, ◌≤◌}
use native.Mathlib.Omega.{arith}
use lib.ListN.{length, drop}
use lib.Ieee.{Float}
use Rattle.rules.specs.Tree.{Arena}
use Rattle.rules.specs.Sound.{sound}
use Rattle.rules.specs.Spec.{from_spec}
use Rattle.rules.specs.Repair.{Repaired, repair}
use Rattle.rules.specs.Operations.{Applied, apply}
use Rattle.rules.specs.Frame.{Laid, layout}
use Rattle.rules.specs.Solver.{Solved}
use Rattle.rules.specs.Refusals.{refusal_of, answer_of}
use Rattle.rules.specs.declared.model.RepairAction.{RepairAction}
use Rattle.rules.specs.declared.operation.TileOp.{TileOp}
use Rattle.rules.specs.declared.frame.LayoutInput.{LayoutInput}
use Rattle.rules.specs.Refusals.{Answer}
use Rattle.rules.specs.Refusals.{Accepted, Refused}
use Rattle.rules.specs.declared.refusal.Refusal.{Refusal}
use Rattle.rules.specs.declared.refusal.Refusal.TheVariants.{BadTable, ArenaFull, TooWide, NotSound, BadInput, InvalidTileId, InvalidPaneId, InvalidTarget, InvalidOperation, DuplicatePane, RevisionExhausted, EmptyTabs, TooFewSplitChildren, ShareCountMismatch, InvalidShare, TooManySplitConstraints, InvalidSplitConstraint, InvalidActiveTab}
use Rattle.columns.specs.Columns.{code_of, Lists}
use Rattle.drafting.specs.Draft.{DraftedIn}
use Rattle.columns.specs.Shown.{arena_from}
use Rattle.settling.specs.Settle.{Comes}
use Rattle.settling.specs.declared.Settled.{Settled}
use Rattle.docking.specs.Steps.{answered, Comes as Becomes}
use Rattle.docking.proofs.FinishLaws.{ended, comes-answer, comes-tree}
use Rattle.std.specs.Prelude.{Option as Maybe, Result, Ok, Err}
use Rattle.docking.specs.declared.AppliedIn.{AppliedIn}
use Rattle.layout.specs.Whole.{LaysOut}
use Rattle.layout.specs.declared.LaidOut.{LaidOut}
use Rattle.solver.specs.Call.{SolvesInto}
use Rattle.solver.specs.declared.SolvedInto.{SolvedInto}
use Rattle.coding.specs.Lent.{Lot, lent, lot_ok, op_ok, op_from, input_from, out_of}
use Rattle.crossing.specs.Parts.{Tells, Holds, Keeps, Writes}
use Rattle.tiling_c.specs.Calls.{Builds, Mends, Repairs, sound_code, Changes, Applies, Lays, LaysInto, Solves}

-- ---- the number is 0 where it is accepted, and nowhere else

refusal-number : (e : Refusal) → 1 ≤ (refusal_of e).number
refusal-number BadTable = omega arith
refusal-number ArenaFull = omega arith
refusal-number TooWide = omega arith
refusal-number NotSound = omega arith
refusal-number BadInput = omega arith
refusal-number InvalidTileId = omega arith
refusal-number InvalidPaneId = omega arith
refusal-number InvalidTarget = omega arith
refusal-number InvalidOperation = omega arith
refusal-number (DuplicatePane p) = omega arith
refusal-number RevisionExhausted = omega arith
refusal-number EmptyTabs = omega arith
refusal-number (TooFewSplitChildren n) = omega arith
refusal-number (ShareCountMismatch n s) = omega arith
refusal-number (InvalidShare i) = omega arith
refusal-number (TooManySplitConstraints n m) = omega arith
refusal-number (InvalidSplitConstraint i) = omega arith
refusal-number (InvalidActiveTab a n) = omega arith

module _ (a : Answer) (n : ℕ) (told : n ≡ (answer_of a).number) where
  zero-accepted : a ≡ Accepted → n ≡ 0
  zero-accepted e = told ∙ ap (λ (x : Answer). (answer_of x).number) e

  not-refused : (e : Refusal) → a ≡ Refused e → n ≡ 0 → ⊥
  not-refused e q z = let p : n ≡ (refusal_of e).number = told ∙ ap (λ (x : Answer). (answer_of x).number) q in omega (arith, p, z, refusal-number e)

no_both : (b : Bool) → b ≡ false → b ≡ true → ⊥
no_both b p q = let z : ◌≡◌ {A = ℕ} 0 1 = cc in omega arith

-- ---- from_spec

pub builds : (bs : List ℕ) (a : Answer) (root : ℕ) (hs xs : List (List ℕ)) (ss ms : List (List Float)) (l' : Lot) (out' : List ℕ) (n : ℕ) → DraftedIn a root hs xs ss ms (from_spec bs)
    → Holds (arena_from root 0 hs xs ss ms) l' → Tells a 0 0 out' n → Builds bs l' out' n
builds bs a root hs xs ss ms l' out' n D H T =
    record {
      tree = subst (λ (x : Arena). Holds x l') D.holds H;
      told = subst (λ (x : Answer). Tells x 0 0 out' n) D.says T;
    }

-- ---- repair

-- a is the arena that the columns showed, b the one that was lent
pub mends-taken : (l : Lot) (acts : List (List ℕ)) (b a : Arena) (hs xs : List (List ℕ)) (ss ms : List (List Float)) (list : List (List ℕ)) (d : Settled) (l' : Lot) (acts' : List (List ℕ)) (out' : List ℕ) (n : ℕ)
    → a ≡ b → Comes a (repair a) hs xs ss ms list (Ok d) → ((k : List RepairAction) → Lists list d.count k → Writes k acts acts' d.count) → Tells Accepted d.count 0 out' n
    → Holds (arena_from d.root a.revision hs xs ss ms) l' → Mends (repair b) l acts l' acts' out' n
mends-taken l acts b a hs xs ss ms list d l' acts' out' n v C W T H =
    let x = repair a in
    let Y = W x.actions C.actions in
    subst (λ (y : Repaired). Mends y l acts l' acts' out' n) (ap repair v)
    (record {
      told = subst (λ (k : ℕ). Tells x.answer k 0 out' n) Y.count (subst (λ (y : Answer). Tells y d.count 0 out' n) C.answer T);
      accepted = λ p. subst (λ (y : Arena). Holds y l') (sym (C.tree refl)) H;
      refused = λ f p. absurd (not-refused Accepted n T.number f (C.answer ∙ p) T.number);
      actions = Y.list;
    })

pub mends-refused : (l : Lot) (acts : List (List ℕ)) (b a : Arena) (hs xs : List (List ℕ)) (ss ms : List (List Float)) (list : List (List ℕ)) (e : Refusal) (l' : Lot) (out' : List ℕ) (n : ℕ)
    → a ≡ b → Comes a (repair a) hs xs ss ms list (Err e) → l' ≡ l → Tells (Refused e) 0 0 out' n → Mends (repair b) l acts l' acts out' n
mends-refused l acts b a hs xs ss ms list e l' out' n v C same T =
    let x = repair a in
    let none = (C.given e refl).1 in
    subst (λ (y : Repaired). Mends y l acts l' acts out' n) (ap repair v)
    (record {
      told = subst (λ (k : List RepairAction). Tells x.answer (length k) 0 out' n) (sym none) (subst (λ (y : Answer). Tells y 0 0 out' n) C.answer T);
      accepted = λ p. absurd (not-refused (Refused e) n T.number e refl (zero-accepted (Refused e) n T.number (C.answer ∙ p)));
      refused = λ f p. same;
      actions = sym (ap (λ (k : List RepairAction). map code_of k ++ drop (length k) acts) none);
    })

pub repairs-good : (l : Lot) (acts : List (List ℕ)) (out : List ℕ) (l' : Lot) (acts' : List (List ℕ)) (out' : List ℕ) (n : ℕ) → lot_ok l ≡ true → Mends (repair (lent l)) l acts l' acts' out' n → Repairs l acts out l' acts' out' n
repairs-good l acts out l' acts' out' n g M = record { bad = λ e. absurd (no_both (lot_ok l) e g); good = λ e. M }

-- ---- is_sound

pub sound-is : (l : Lot) (a : Arena) (r : ℕ) → lot_ok l ≡ true → a ≡ lent l → r ≡ sound_code true (sound a) → r ≡ sound_code (lot_ok l) (sound (lent l))
sound-is l a r g v e = e ∙ (λ z. sound_code (sym g z) (sound (v z)))

-- ---- apply

-- a is the arena lent, and the rule's answer for it is what the columns came to
pub applies-good : (l : Lot) (w : List ℕ) (f : Float) (out : List ℕ) (a : Arena) (op : TileOp) (hs xs : List (List ℕ)) (ss ms : List (List Float)) (r : Result (Maybe AppliedIn) Refusal) (d : AppliedIn) (l' : Lot) (out' : List ℕ) (n : ℕ) → (lot_ok l && op_ok w) ≡ true
    → a ≡ lent l → op ≡ op_from w f → Becomes a (apply a op) r hs xs ss ms → d ≡ ended r a → (y : Answer) → y ≡ answered r → Tells y 0 0 out' n → Keeps n (arena_from d.root d.revision hs xs ss ms) l l' → Applies l w f out l' out' n
applies-good l w f out a op hs xs ss ms r d l' out' n g v o C k y q T K =
    record {
      bad = λ e. absurd (no_both (lot_ok l && op_ok w) e g);
      good = λ e. subst (λ (x : Applied). Changes x l l' out' n) (λ z. apply (v z) (o z))
          (record {
            told = subst (λ (z : Answer). Tells z 0 0 out' n) is T;
            accepted = λ p. subst (λ (z : Arena). Holds z l') (sym (comes-tree a (apply a op) hs xs ss ms r C p ∙ ap (λ (z : AppliedIn). arena_from z.root z.revision hs xs ss ms) (sym k))) (K.stored (zero-accepted y n T.number (is ∙ p)));
            refused = λ f p. K.left (not-refused y n T.number f (is ∙ p));
          });
    }
  where
    is : y ≡ (apply a op).answer
    is = q ∙ comes-answer a (apply a op) hs xs ss ms r C

-- ---- layout_into

pub lays : (a : Arena) (i : LayoutInput) (cs : List (List ℕ)) (qs : List (List Float)) (cs' : List (List ℕ)) (qs' : List (List Float)) (d : LaidOut) (out' : List ℕ) (n : ℕ)
    → LaysOut a i cs qs cs' qs' d → Tells d.answer d.len d.revision out' n → Lays a i cs qs cs' qs' out' n
lays a i cs qs cs' qs' d out' n L T =
    let w : d.answer ≡ (layout a i).answer = ap (λ (x : Laid). x.answer) L.right in
    let r : d.revision ≡ (layout a i).revision = ap (λ (x : Laid). x.revision) L.right in
    record {
      len = d.len;
      frame = subst (λ (x : LaidOut). LaysOut a i cs qs cs' qs' x) (λ z. record { answer = w z; revision = r z; len = d.len }) L;
      told = subst (λ (x : ℕ). Tells (layout a i).answer d.len x out' n) r (subst (λ (x : Answer). Tells x d.len d.revision out' n) w T);
    }

module _ (l : Lot) (q : List Float) (cs : List (List ℕ)) (qs : List (List Float)) (out : List ℕ) where
  pub lays-good : (a : Arena) (i : LayoutInput) (cs' : List (List ℕ)) (qs' : List (List Float)) (out' : List ℕ) (n : ℕ) → lot_ok l ≡ true → a ≡ lent l → i ≡ input_from q
      → Lays a i cs qs cs' qs' out' n → LaysInto l q cs qs out cs' qs' out' n
  lays-good a i cs' qs' out' n g v o L =
      record {
        bad = λ e. absurd (no_both (lot_ok l) e g);
        good = λ e. subst (λ (x : LayoutInput). Lays (lent l) x cs qs cs' qs' out' n) o (subst (λ (x : Arena). Lays x i cs qs cs' qs' out' n) v L);
      }

-- ---- solve

pub solves : (x : Solved) (d : SolvedInto) (xs xs' : List Float) (out' : List ℕ) (n : ℕ) → SolvesInto x xs xs' d → Tells d.answer d.len d.passes out' n → Solves x xs xs' out' n
solves x d xs xs' out' n S T = record { told = told; accepted = S.accepted; refused = S.refused }
  where
    told : Tells x.answer (length x.lengths) x.passes out' n
    told = record { number = T.number ∙ ap (λ (a : Answer). (answer_of a).number) S.answer; words = T.words ∙ (λ z. out_of (answer_of (S.answer z)) (S.len z) (S.passes z)) }
