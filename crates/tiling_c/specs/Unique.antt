-- The answer is one: two runs of an export that meet its contract on the same arrays return the same number and leave the same `out`, the same lists and the same
-- arena. Columns may differ past a list's length, where an arena is not read. `tiling_is_sound` returns what an equation says. Assumes nothing.
use Rattle.std.specs.Prelude.{Ok, Err}
use Rattle.std.specs.Prelude.{◌≡◌, refl, Bool, true, false, ◌&&◌, List, ℕ, Float}
use Rattle.std.proofs.Common.{sym, ap, ◌∙◌}
use Rattle.rules.specs.Tree.{Arena}
use Rattle.rules.specs.Spec.{from_spec}
use Rattle.rules.specs.Repair.{Repaired, repair}
use Rattle.rules.specs.Operations.{Applied, apply}
use Rattle.rules.specs.Frame.{layout}
use Rattle.rules.specs.Solver.{Solved}
use Rattle.rules.specs.Refusals.{answer_of}
use Rattle.rules.specs.declared.frame.LayoutInput.{LayoutInput}
use Rattle.rules.specs.Refusals.{Answer}
use Rattle.rules.specs.Refusals.{Accepted, Refused}
use Rattle.rules.specs.declared.refusal.Refusal.{Refusal}
use Rattle.layout.specs.Unique.{lays-out-unique}
use Rattle.layout.specs.declared.LaidOut.{LaidOut}
use Rattle.coding.specs.Lent.{Lot, lent, lot_ok, op_ok, op_from, input_from, out_of}
use Rattle.crossing.specs.Parts.{Tells, Holds}
use Rattle.tiling_c.specs.Calls.{Builds, Mends, Repairs, Changes, Applies, Lays, LaysInto, Solves}

pub tells-one : (a : Answer) (c d : ℕ) (o o' : List ℕ) (r r' : ℕ) → Tells a c d o r → Tells a c d o' r' → (r ≡ r') × (o ≡ o')
tells-one a c d o o' r r' x y = (x.number ∙ sym y.number, x.words ∙ sym y.words)

holds-one : (a : Arena) (l l' : Lot) → Holds a l → Holds a l' → lent l ≡ lent l'
holds-one a l l' x y = x.arena ∙ sym y.arena

-- the arena after a call that stores what is accepted, and else leaves what was given
left_one : (x : Answer) (a : Arena) (l l₁ l₂ : Lot) → (x ≡ Accepted → Holds a l₁) → ((e : Refusal) → x ≡ Refused e → l₁ ≡ l) → (x ≡ Accepted → Holds a l₂) → ((e : Refusal) → x ≡ Refused e → l₂ ≡ l)
    → lent l₁ ≡ lent l₂
left_one (Ok _) a l l₁ l₂ h f g k = holds-one a l₁ l₂ (h refl) (g refl)
left_one (Err e) a l l₁ l₂ h f g k = ap lent (f e refl ∙ sym (k e refl))

-- ---- tiling_from_spec

pub builds-one : (bs : List ℕ) (l₁ l₂ : Lot) (o₁ o₂ : List ℕ) (r₁ r₂ : ℕ) → Builds bs l₁ o₁ r₁ → Builds bs l₂ o₂ r₂ → (r₁ ≡ r₂) × (o₁ ≡ o₂) × (lent l₁ ≡ lent l₂)
builds-one bs l₁ l₂ o₁ o₂ r₁ r₂ p q =
    let (r, o) = tells-one (from_spec bs).answer 0 0 o₁ o₂ r₁ r₂ p.told q.told in
    (r, o, holds-one (from_spec bs).tree l₁ l₂ p.tree q.tree)

-- ---- tiling_repair

module _ (l : Lot) (acts : List (List ℕ)) (out : List ℕ) (l₁ l₂ : Lot) (a₁ a₂ : List (List ℕ)) (o₁ o₂ : List ℕ) (r₁ r₂ : ℕ) where
  mends-one : (x : Repaired) → Mends x l acts l₁ a₁ o₁ r₁ → Mends x l acts l₂ a₂ o₂ r₂ → (r₁ ≡ r₂) × (o₁ ≡ o₂) × (lent l₁ ≡ lent l₂) × (a₁ ≡ a₂)
  mends-one x p q =
      let (r, o) = tells-one x.answer _ 0 o₁ o₂ r₁ r₂ p.told q.told in
      (r, o, left_one x.answer x.tree l l₁ l₂ p.accepted p.refused q.accepted q.refused, p.actions ∙ sym q.actions)

  pub repairs-one : Repairs l acts out l₁ a₁ o₁ r₁ → Repairs l acts out l₂ a₂ o₂ r₂ → (r₁ ≡ r₂) × (o₁ ≡ o₂) × (lent l₁ ≡ lent l₂) × (a₁ ≡ a₂)
  repairs-one p q = by (lot_ok l) refl
    where
      by : (b : Bool) → lot_ok l ≡ b → (r₁ ≡ r₂) × (o₁ ≡ o₂) × (lent l₁ ≡ lent l₂) × (a₁ ≡ a₂)
      by true e = mends-one (repair (lent l)) (p.good e) (q.good e)
      by false e =
          let (r, m, a, o) = p.bad e in
          let (s, n, b, u) = q.bad e in
          (r ∙ sym s, o ∙ sym u, ap lent (m ∙ sym n), a ∙ sym b)

-- ---- tiling_apply

module _ (l : Lot) (w : List ℕ) (f : Float) (out : List ℕ) (l₁ l₂ : Lot) (o₁ o₂ : List ℕ) (r₁ r₂ : ℕ) where
  changes-one : (x : Applied) → Changes x l l₁ o₁ r₁ → Changes x l l₂ o₂ r₂ → (r₁ ≡ r₂) × (o₁ ≡ o₂) × (lent l₁ ≡ lent l₂)
  changes-one x p q =
      let (r, o) = tells-one x.answer 0 0 o₁ o₂ r₁ r₂ p.told q.told in
      (r, o, left_one x.answer x.tree l l₁ l₂ p.accepted p.refused q.accepted q.refused)

  pub applies-one : Applies l w f out l₁ o₁ r₁ → Applies l w f out l₂ o₂ r₂ → (r₁ ≡ r₂) × (o₁ ≡ o₂) × (lent l₁ ≡ lent l₂)
  applies-one p q = by (lot_ok l && op_ok w) refl
    where
      by : (b : Bool) → (lot_ok l && op_ok w) ≡ b → (r₁ ≡ r₂) × (o₁ ≡ o₂) × (lent l₁ ≡ lent l₂)
      by true e = changes-one (apply (lent l) (op_from w f)) (p.good e) (q.good e)
      by false e =
          let (r, m, o) = p.bad e in
          let (s, n, u) = q.bad e in
          (r ∙ sym s, o ∙ sym u, ap lent (m ∙ sym n))

-- ---- tiling_layout_into: the arrays to the last place

module _ (l : Lot) (q : List Float) (cs : List (List ℕ)) (qs : List (List Float)) (out : List ℕ) (cs₁ cs₂ : List (List ℕ)) (qs₁ qs₂ : List (List Float)) (o₁ o₂ : List ℕ) (r₁ r₂ : ℕ) where
  lays_one : (a : Arena) (i : LayoutInput) → Lays a i cs qs cs₁ qs₁ o₁ r₁ → Lays a i cs qs cs₂ qs₂ o₂ r₂ → (r₁ ≡ r₂) × (o₁ ≡ o₂) × (cs₁ ≡ cs₂) × (qs₁ ≡ qs₂)
  lays_one a i x y =
      let first : LaidOut = record { answer = (layout a i).answer; revision = (layout a i).revision; len = x.len } in
      let second : LaidOut = record { answer = (layout a i).answer; revision = (layout a i).revision; len = y.len } in
      let (e, c, s) = lays-out-unique a i cs qs cs₁ qs₁ first cs₂ qs₂ second x.frame y.frame in
      let n : x.len ≡ y.len = ap (λ (d : LaidOut). d.len) e in
      (x.told.number ∙ sym y.told.number, x.told.words ∙ ap (λ (k : ℕ). out_at a i k) n ∙ sym y.told.words, c, s)
    where
      out_at : Arena → LayoutInput → ℕ → List ℕ
      out_at a i k = out_of (answer_of (layout a i).answer) k (layout a i).revision

  pub lays-into-one : LaysInto l q cs qs out cs₁ qs₁ o₁ r₁ → LaysInto l q cs qs out cs₂ qs₂ o₂ r₂ → (r₁ ≡ r₂) × (o₁ ≡ o₂) × (cs₁ ≡ cs₂) × (qs₁ ≡ qs₂)
  lays-into-one x y = by (lot_ok l) refl
    where
      by : (b : Bool) → lot_ok l ≡ b → (r₁ ≡ r₂) × (o₁ ≡ o₂) × (cs₁ ≡ cs₂) × (qs₁ ≡ qs₂)
      by true e = lays_one (lent l) (input_from q) (x.good e) (y.good e)
      by false e =
          let (r, c, s, o) = x.bad e in
          let (t, d, u, w) = y.bad e in
          (r ∙ sym t, o ∙ sym w, c ∙ sym d, s ∙ sym u)

-- ---- tiling_solve: the lengths to the last place

pub solves-one : (x : Solved) (ls ls₁ ls₂ : List Float) (o₁ o₂ : List ℕ) (r₁ r₂ : ℕ) → Solves x ls ls₁ o₁ r₁ → Solves x ls ls₂ o₂ r₂ → (r₁ ≡ r₂) × (o₁ ≡ o₂) × (ls₁ ≡ ls₂)
solves-one x ls ls₁ ls₂ o₁ o₂ r₁ r₂ p q =
    let (r, o) = tells-one x.answer _ _ o₁ o₂ r₁ r₂ p.told q.told in
    (r, o, by x.answer refl)
  where
    by : (a : Answer) → x.answer ≡ a → ls₁ ≡ ls₂
    by (Ok _) e = p.accepted e ∙ sym (q.accepted e)
    by (Err f) e = p.refused f e ∙ sym (q.refused f e)
