-- What the solver's calls hand back: zeros past the length, and how a Solved is read as the rule's lengths. Then the public call: its answer is one, and demand 3 of it.
-- Assumes nothing.
use Rattle.std.proofs.Math.Path.{◌≡◌}
use Rattle.std.proofs.Common.{sym, ap, ◌∙◌, leb→le, eqb→eq, take-append-drop, length-take-le}
use Rattle.std.specs.Prelude.{Bool, ◌&&◌, List, [], ◌∷◌, ◌++◌, map, ℕ, ◌-◌, ◌≤◌, eqb, leb, length, drop, replicate, Float}
use Rattle.std.proofs.Math.Bool.{true, false}
use native.Mathlib.Omega.{arith}
use Rattle.std.proofs.Math.Dec.{T}
use Rattle.std.proofs.lemmas.List.{length-map}
use Rattle.std.specs.Float.{binary64}
use Rattle.std.specs.Float.Ieee.{fits}
use Rattle.std.specs.Float.Ieee.Fits.{and_l, and_r}
use Rattle.std.specs.Float.Ieee.Scale.{finite}
use Rattle.rules.specs.Numbers.{zero-f, plus, minimum_ok, share_ok}
use Rattle.rules.specs.Lists.{all_of}
use Rattle.rules.specs.Tree.{reals}
use Rattle.rules.specs.Solver.{Lengths, solver_ok, solve_by, view_solution}
use Rattle.rules.specs.Solver as Rules
use Rattle.rules.specs.Tree.{Reals}
use Rattle.rules.specs.declared.solving.Solution.{Solution}
use Rattle.rules.specs.Refusals.{Accepted, Refused}
use Rattle.rules.specs.declared.refusal.Refusal.{Refusal}
use Rattle.rules.specs.declared.refusal.Refusal.TheVariants.{BadInput}
use Rattle.number.specs.Each.{All, none, more, all_take}
use Rattle.number.specs.Sums.{Good}
use Rattle.number.specs.Owned.{Owned}
use Rattle.number.specs.Checks.{ShareOk, share-good, plus-good}
use Rattle.solver.specs.Demand.{Input, Meets, solve-meets}
use Rattle.solver.specs.declared.Solved.{Solved}
use Rattle.solver.specs.declared.SolvedInto.{SolvedInto}

-- what stands past the length is 0.0, and the length is not over 16
pub record Clear (l : Reals) : Type 0 where
  pub few : l.len ≤ 16
  pub past : drop l.len l.at ≡ replicate (16 - l.len) zero-f

abbrev pub view_solved : Solved → Lengths
view_solved s = record { lengths = reals s.lengths; passes = s.passes }

-- ---- the call on lent lists

-- a list that is lent, with its length
abbrev pub reals_of : List Float → ℕ → Reals
reals_of xs n = record { at = xs; len = n }

-- what is tested before the lists are read
abbrev pub counts_ok : ℕ → ℕ → Float → Bool
counts_ok n m total = leb n 16 && eqb m n && minimum_ok total

-- a refusal: no lengths and no passes
abbrev pub bad_into : SolvedInto
bad_into = record { answer = Refused BadInput; len = 0; passes = 0 }

-- the rule's answer, and its lengths with zeros after them where it is accepted; a refusal leaves the list as it was
pub record SolvesInto (x : Rules.Solved) (xs xs' : List Float) (r : SolvedInto) : Type 0 where
  pub answer : r.answer ≡ x.answer
  pub len : r.len ≡ length x.lengths
  pub few : r.len ≤ 16
  pub passes : r.passes ≡ x.passes
  pub accepted : x.answer ≡ Accepted → xs' ≡ x.lengths ++ replicate (16 - length x.lengths) zero-f
  pub refused : (e : Refusal) → x.answer ≡ Refused e → xs' ≡ xs

-- ---- THE ANSWER IS ONE: two that meet the call's contract are equal. A Reals of the program has 16 places
lengths-same : (a b : Reals) → length a.at ≡ 16 → length b.at ≡ 16 → Clear a → Clear b → reals a ≡ reals b → a ≡ b
lengths-same a b la lb ca cb e =
    let n : a.len ≡ b.len = sym (length-take-le a.len a.at (omega (arith, ca.few))) ∙ ap length e ∙ length-take-le b.len b.at (omega (arith, cb.few)) in
    let xs : a.at ≡ b.at = sym (take-append-drop a.len a.at) ∙ (λ i. e i ++ (ca.past ∙ ap (λ (k : ℕ). replicate (16 - k) zero-f) n ∙ sym cb.past) i) ∙ take-append-drop b.len b.at in
    λ i. record { at = xs i; len = n i }

pub solve-unique : (a b : Solution) → length a.lengths.at ≡ 16 → length b.lengths.at ≡ 16 → Clear a.lengths → Clear b.lengths → view_solution a ≡ view_solution b → a ≡ b
solve-unique a b la lb ca cb e =
    let l : a.lengths ≡ b.lengths = lengths-same a.lengths b.lengths la lb ca cb (ap (λ (s : Rules.Solved). s.lengths) e) in
    λ i. record { answer = (e i).answer; lengths = l i; passes = (e i).passes }

-- ---- DEMAND 3 OF THE CALL, for numbers that are an f64's
shares-good : (xs : List Float) → All (λ (x : Float). T (fits binary64 x)) xs → T (all_of share_ok xs) → All ShareOk xs
unfolding all_of
shares-good [] none t = none
shares-good (x ∷ xs) (more f fs) t = more (share-good x f (and_l (share_ok x) (all_of share_ok xs) t)) (shares-good xs fs (and_r (share_ok x) (all_of share_ok xs) t))

minima-good : (xs : List Float) → All (λ (x : Float). T (fits binary64 x)) xs → T (all_of minimum_ok xs) → All (λ (m : Float). Good m × T (finite m)) (map plus xs)
unfolding all_of
minima-good [] none t = none
minima-good (x ∷ xs) (more f fs) t = more (plus-good x f (and_l (minimum_ok x) (all_of minimum_ok xs) t)) (minima-good xs fs (and_r (minimum_ok x) (all_of minimum_ok xs) t))

module _ (total : Float) (shares minima : Reals) (f : T (fits binary64 total)) (os : Owned shares) (om : Owned minima) where
  abbrev n : ℕ
  n = shares.len

  abbrev m : ℕ
  m = minima.len

  abbrev ss : List Float
  ss = reals shares

  abbrev ms : List Float
  ms = reals minima

  -- the tests make the input good
  pub input_of : T (solver_ok n m total ss ms) → Input (plus total) ss (map plus ms)
  input_of t =
      let d = and_l (leb n 16 && eqb m n && minimum_ok total && all_of share_ok ss) (all_of minimum_ok ms) t in
      let c = and_l (leb n 16 && eqb m n && minimum_ok total) (all_of share_ok ss) d in
      let b = and_l (leb n 16 && eqb m n) (minimum_ok total) c in
      let few : n ≤ 16 = leb→le n 16 (and_l (leb n 16) (eqb m n) b) in
      let same : m ≡ n = eqb→eq m n (and_r (leb n 16) (eqb m n) b) in
      let g = plus-good total f (and_r (leb n 16 && eqb m n) (minimum_ok total) c) in
      record {
        total-good = g.0;
        total-finite = g.1;
        shares-ok = shares-good ss (all_take n shares.at os.fit) (and_r (leb n 16 && eqb m n && minimum_ok total) (all_of share_ok ss) d);
        minima-ok = minima-good ms (all_take m minima.at om.fit) (and_r (leb n 16 && eqb m n && minimum_ok total && all_of share_ok ss) (all_of minimum_ok ms) t);
        paired = length-take-le n shares.at (omega (arith, os.long)) ∙ sym same ∙ sym (length-take-le m minima.at (omega (arith, om.long))) ∙ sym (length-map ms plus);
      }

  pub call-meets : (Rules.solve total shares minima).answer ≡ Accepted → Meets (plus total) (map plus ms) (record { lengths = (Rules.solve total shares minima).lengths; passes = (Rules.solve total shares minima).passes })
  unfolding Rules.solve
  call-meets = go (solver_ok n m total ss ms) (λ t. t)
    where
      go : (b : Bool) → (T b → T (solver_ok n m total ss ms)) → (solve_by b total ss ms).answer ≡ Accepted → Meets (plus total) (map plus ms) (record { lengths = (solve_by b total ss ms).lengths; passes = (solve_by b total ss ms).passes })
      go true t e = solve-meets (plus total) ss (map plus ms) (input_of (t tt))
      go false t e = let z : ◌≡◌ {A = ℕ} 0 1 = cc in absurd (no_way z)
        where
          no_way : ◌≡◌ {A = ℕ} 0 1 → ⊥
          no_way z = omega arith
