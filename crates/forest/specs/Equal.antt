-- Lists that the Rust's `==` finds equal to their repaired selves are their repaired selves, but for a minimum's minus zero. Assumes nothing.
use Rattle.std.specs.Prelude.{◌≡◌, refl, Bool, true, false, ◌&&◌, ◌||◌, cond, List, [], ◌∷◌, map, ℕ, zero, suc, ◌*◌, ◌<◌, eqb, length, Float}
use Rattle.std.proofs.Common.{sym, ap, subst, ◌∙◌, arith, eqb-true, eq-eqb, lt-ltb}
use Rattle.std.proofs.lemmas.Bool.{eqb-false}
use Rattle.std.proofs.lemmas.List.{length-replicate}
use Rattle.std.specs.Float.{nan, inf, fin}
use Rattle.std.specs.Float.Ieee.{eq, lt, up, down, is_nan}
use Rattle.std.specs.Float.Ieee.Fits.{down_pos}
use Rattle.rules.specs.Numbers.{zero-f, one-f, plus, minimum_ok, share_ok, same_real}
use Rattle.rules.specs.Lists.{same_list}
use Rattle.rules.specs.Shares.{fix_share, ones, repaired_shares, repaired_by, eq_reals}
use Rattle.rules.specs.Minima.{fix_minimum, aligned_constraints, compact_constraints, compact_cons, compact_by}
use Rattle.forest.specs.Lists.{never}
use Rattle.forest.specs.Bools.{and_both}
use Rattle.forest.specs.Mended.{shares-mended, same_real-self}

-- ---- a number that equals one is a good share

same-value : (d m : ℕ) → 0 < d → eqb (1 * 1 * d) (m * 1) ≡ true → 0 < m
same-value d m h e = let q : 1 * 1 * d ≡ m * 1 = eqb-true (1 * 1 * d) (m * 1) e in omega arith

pub one-good : (x : Float) → eq one-f x ≡ true → share_ok x ≡ true
unfolding eq lt
one-good nan e = never (sym e)
one-good (inf s) e = never (sym e)
one-good (fin false m d) e =
    let q = (and_both (eqb (1 * 1 * down d) (m * up d * 1)) (true || eqb (1 * 1 * down d) 0) e).0 in
    lt-ltb (0 * 1 * down d) (m * up d * 1) (let h : 0 < m * up d = same-value (down d) (m * up d) (down_pos d) q in omega arith)
one-good (fin true m d) e =
    let q = (and_both (eqb (1 * 1 * down d) (m * up d * 1)) (false || eqb (1 * 1 * down d) 0) e).1 in
    absurd (let z : 1 * 1 * down d ≡ 0 = eqb-true (1 * 1 * down d) 0 q in omega (arith, down_pos d))

share-equal : (x : Float) → eq (fix_share x) x ≡ true → fix_share x ≡ x
unfolding fix_share
share-equal x e = go (share_ok x) refl e
  where
    go : (b : Bool) → share_ok x ≡ b → eq (cond b x one-f) x ≡ true → cond b x one-f ≡ x
    go true q e' = refl
    go false q e' = never (sym (one-good x e') ∙ q)

shares-equal : (xs : List Float) → eq_reals (map fix_share xs) xs ≡ true → map fix_share xs ≡ xs
unfolding same_list
shares-equal [] e = refl
shares-equal (x ∷ xs) e = let p = and_both (eq (fix_share x) x) (eq_reals (map fix_share xs) xs) e in λ z. share-equal x p.0 z ∷ shares-equal xs p.1 z

equal-length : (xs ys : List Float) → eq_reals xs ys ≡ true → length xs ≡ length ys
unfolding same_list
equal-length [] [] e = refl
equal-length [] (y ∷ ys) e = never (sym e)
equal-length (x ∷ xs) [] e = never (sym e)
equal-length (x ∷ xs) (y ∷ ys) e = ap suc (equal-length xs ys (and_both (eq x y) (eq_reals xs ys) e).1)

-- repaired shares that equal the given ones are the given ones, and are as many as the children
pub shares-kept : (n : ℕ) (ss : List Float) → eq_reals (repaired_shares n ss) ss ≡ true → (length ss ≡ n) × (repaired_shares n ss ≡ ss)
unfolding repaired_shares
shares-kept n ss e = go (eqb (length ss) n) refl e
  where
    go : (b : Bool) → eqb (length ss) n ≡ b → eq_reals (repaired_by b n ss) ss ≡ true → (length ss ≡ n) × (repaired_by b n ss ≡ ss)
    go true q e' =
        let l : length ss ≡ n = eqb-true (length ss) n q in
        let m : repaired_by true n ss ≡ map fix_share ss = ap (λ (k : ℕ). repaired_by true k ss) (sym l) ∙ (λ z. repaired_by (sym (eq-eqb (length ss) (length ss) refl) z) (length ss) ss) ∙ shares-mended ss in
        (l, m ∙ shares-equal ss (subst (λ (xs : List Float). eq_reals xs ss ≡ true) m e'))
    go false q e' = absurd (eqb-false (length ss) n q (sym (equal-length (ones n) ss e') ∙ length-replicate n one-f))

-- ---- minima

zero-sym : (x : Float) → eq zero-f x ≡ true → eq x zero-f ≡ true
unfolding eq
zero-sym nan e = never (sym e)
zero-sym (inf s) e = never (sym e)
zero-sym (fin false m d) e =
    let q : 0 * 1 * down d ≡ m * up d * 1 = eqb-true (0 * 1 * down d) (m * up d * 1) (and_both (eqb (0 * 1 * down d) (m * up d * 1)) true (e' e)).0 in
    rw (eq-eqb (m * up d * 1) (0 * 1 * down d) (sym q)) refl
  where
    e' : (eqb (0 * 1 * down d) (m * up d * 1) && true) ≡ true → (eqb (0 * 1 * down d) (m * up d * 1) && true) ≡ true
    e' h = h
zero-sym (fin true m d) e =
    let p = and_both (eqb (0 * 1 * down d) (m * up d * 1)) (eqb (0 * 1 * down d) 0) e in
    let q : 0 * 1 * down d ≡ m * up d * 1 = eqb-true (0 * 1 * down d) (m * up d * 1) p.0 in
    let z : 0 * 1 * down d ≡ 0 = eqb-true (0 * 1 * down d) 0 p.1 in
    rw (eq-eqb (m * up d * 1) (0 * 1 * down d) (sym q), eq-eqb (m * up d * 1) 0 (sym q ∙ z)) refl

minimum-equal : (x : Float) → eq (fix_minimum x) x ≡ true → fix_minimum x ≡ plus x
unfolding fix_minimum
minimum-equal x e = go (minimum_ok x) e
  where
    go : (b : Bool) → eq (cond b (plus x) zero-f) x ≡ true → cond b (plus x) zero-f ≡ plus x
    go true e' = refl
    go false e' = λ i. cond (sym (zero-sym x e') i) zero-f x

empty-only : (ms : List Float) → eq_reals [] ms ≡ true → [] ≡ map plus ms
unfolding same_list
empty-only [] e = refl
empty-only (m ∷ ms) e = never (sym e)

-- compact minima that equal the given ones are the given ones, minus zero read as zero
pub minima-kept : (n : ℕ) (ms : List Float) → eq_reals (compact_constraints (aligned_constraints n ms)) ms ≡ true → compact_constraints (aligned_constraints n ms) ≡ map plus ms
unfolding aligned_constraints compact_constraints same_list
minima-kept zero ms e = empty-only ms e
minima-kept (suc n) [] e = go (compact_cons zero-f (compact_constraints (aligned_constraints n []))) e
  where
    go : (l : List Float) → eq_reals l [] ≡ true → l ≡ []
    go [] e' = refl
    go (x ∷ xs) e' = never (sym e')
minima-kept (suc n) (m ∷ ms) e = go (compact_constraints (aligned_constraints n ms)) (minima-kept n ms) e
  where
    one : (b : Bool) → eq_reals (compact_by b (fix_minimum m)) (m ∷ ms) ≡ true → compact_by b (fix_minimum m) ≡ plus m ∷ map plus ms
    one true e' = never (sym e')
    one false e' =
        let p = and_both (eq (fix_minimum m) m) (eq_reals [] ms) e' in λ z. minimum-equal m p.0 z ∷ empty-only ms p.1 z

    go : (c : List Float) → (eq_reals c ms ≡ true → c ≡ map plus ms) → eq_reals (compact_cons (fix_minimum m) c) (m ∷ ms) ≡ true → compact_cons (fix_minimum m) c ≡ plus m ∷ map plus ms
    go [] ih e' = one (eq (fix_minimum m) zero-f) e'
    go (y ∷ ys) ih e' =
        let p = and_both (eq (fix_minimum m) m) (eq_reals (y ∷ ys) ms) e' in λ z. minimum-equal m p.0 z ∷ ih p.1 z

-- ---- and so the same, a zero's sign aside

pub zero-flip : (x : Float) → eq x zero-f ≡ true → eq zero-f x ≡ true
unfolding eq
zero-flip nan e = never (sym e)
zero-flip (inf s) e = never (sym e)
zero-flip (fin false m d) e =
    let q : m * up d * 1 ≡ 0 * 1 * down d = eqb-true (m * up d * 1) (0 * 1 * down d) (and_both (eqb (m * up d * 1) (0 * 1 * down d)) (true || eqb (m * up d * 1) 0) e).0 in
    rw (eq-eqb (0 * 1 * down d) (m * up d * 1) (sym q)) refl
zero-flip (fin true m d) e =
    let p = and_both (eqb (m * up d * 1) (0 * 1 * down d)) (eqb (m * up d * 1) 0) e in
    let q : m * up d * 1 ≡ 0 * 1 * down d = eqb-true (m * up d * 1) (0 * 1 * down d) p.0 in
    let z : m * up d * 1 ≡ 0 = eqb-true (m * up d * 1) 0 p.1 in
    rw (eq-eqb (0 * 1 * down d) (m * up d * 1) (sym q), eq-eqb (0 * 1 * down d) 0 (sym q ∙ z)) refl

pub plus-same : (x : Float) → same_real (plus x) x ≡ true
plus-same x = go (eq x zero-f) refl
  where
    go : (b : Bool) → eq x zero-f ≡ b → same_real (cond b zero-f x) x ≡ true
    go true q = ap (λ (b : Bool). b || (is_nan zero-f && is_nan x)) (zero-flip x q)
    go false q = same_real-self x
