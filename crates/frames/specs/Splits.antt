-- Demand 3 of one split in one rectangle: the lengths that the rule of layout solves meet it, where the numbers are binary64's and the rectangle is not huge.
-- Assumes nothing.
use Rattle.std.specs.Prelude.{◌≡◌, refl, Bool, true, false, cond, List, [], ◌∷◌, map, ℕ, zero, suc, ◌+◌, ◌-◌, ◌*◌, ◌^◌, ◌≤◌, T, eqb, length, Float}
use Rattle.std.proofs.Common.{sym, ap, ◌∙◌, subst, le_trans, le_of_eq, one-mul, arith, eqb-true, pow_mono}
use Rattle.std.proofs.lemmas.List.{length-map, length-replicate}
use Rattle.std.specs.Float.{binary64}
use Rattle.std.specs.Float.Ieee.{sub, mul, lt, fits}
use Rattle.std.specs.Float.Ieee.Fits.{cond-fits, sub-fits}
use Rattle.std.specs.Float.Ieee.Scale.{finite}
use Rattle.rules.specs.Numbers.{zero-f, one-f, whole, larger, plus, minimum_ok, share_ok}
use Rattle.rules.specs.Lists.{any_of}
use Rattle.rules.specs.Shares.{fix_share, ones, mended_by, repaired_by, repaired_shares}
use Rattle.rules.specs.Minima.{least_of, min_major, min_major_by, split_min_major}
use Rattle.rules.specs.Tabs.{major_size, major_length}
use Rattle.rules.specs.Frame.{child_total, child_minima, split_lengths}
use Rattle.rules.specs.declared.model.Axis.{Axis}
use Rattle.rules.specs.declared.model.Axis.TheVariants.{Horizontal, Vertical}
use Rattle.rules.specs.declared.frame.Rect.{Rect}
use Rattle.rules.specs.declared.frame.LayoutInput.{LayoutInput}
use Rattle.number.specs.Each.{All, none, more}
use Rattle.number.specs.Order.{nonneg}
use Rattle.number.specs.Arithmetic.{zero-fits, one-fits, above-nonneg}
use Rattle.number.specs.Sums.{Good}
use Rattle.number.specs.Checks.{ShareOk, share-good, plus-good}
use Rattle.solver.specs.Demand.{Meets, solve-meets}
use Rattle.frames.specs.Sizes.{Small, held, small-finite, small-more, small-zero, sub_small, mul_small, whole-small, larger-small}

-- ---- shares, as they are read: as many as the children, each finite and above zero

is_true : (b : Bool) → b ≡ true → T b
is_true true e = tt
is_true false e = subst T (sym e) tt

one-share : ShareOk one-f
unfolding lt
one-share = share-good one-f (one-fits binary64) tt

fixed-share : (x : Float) → T (fits binary64 x) → ShareOk (fix_share x)
unfolding fix_share
fixed-share x f = go (share_ok x) refl
  where
    go : (b : Bool) → share_ok x ≡ b → ShareOk (cond b x one-f)
    go true e = share-good x f (is_true (share_ok x) e)
    go false e = one-share

ones-good : (n : ℕ) → All ShareOk (ones n)
ones-good zero = none
ones-good (suc n) = more one-share (ones-good n)

fixed-good : (xs : List Float) → All (λ x. T (fits binary64 x)) xs → All ShareOk (map fix_share xs)
fixed-good [] none = none
fixed-good (x ∷ xs) (more p ps) = more (fixed-share x p) (fixed-good xs ps)

pub shares-good : (n : ℕ) (ss : List Float) → All (λ x. T (fits binary64 x)) ss → All ShareOk (repaired_shares n ss) × (length (repaired_shares n ss) ≡ n)
unfolding repaired_shares
shares-good n ss f = go (eqb (length ss) n) refl
  where
    many : (b : Bool) → length ss ≡ n → All ShareOk (mended_by b n ss) × (length (mended_by b n ss) ≡ n)
    many true e = (fixed-good ss f, length-map ss fix_share ∙ e)
    many false e = (ones-good n, length-replicate n one-f)

    go : (b : Bool) → eqb (length ss) n ≡ b → All ShareOk (repaired_by b n ss) × (length (repaired_by b n ss) ≡ n)
    go true e = many (any_of share_ok ss) (eqb-true (length ss) n e)
    go false e = (ones-good n, length-replicate n one-f)

-- ---- minima

abbrev GoodMinimum : Float → Type 0
GoodMinimum m = Good m × T (finite m)

larger-good : (x y : Float) → GoodMinimum x → GoodMinimum y → GoodMinimum (larger x y)
larger-good x y p q = go (lt y x)
  where
    go : (b : Bool) → GoodMinimum (cond b x y)
    go true = p
    go false = q

least-good : (d m : Float) → T (fits binary64 d) → T (minimum_ok d) → T (fits binary64 m) → GoodMinimum (least_of d m)
least-good d m f g h = go (minimum_ok m) refl
  where
    go : (b : Bool) → minimum_ok m ≡ b → GoodMinimum (cond b (larger (plus d) (plus m)) (plus d))
    go true e = larger-good (plus d) (plus m) (plus-good d f g) (plus-good m h (is_true (minimum_ok m) e))
    go false e = plus-good d f g

major-good : (n : ℕ) (ms : List Float) (d : Float) → T (fits binary64 d) → T (minimum_ok d) → All (λ x. T (fits binary64 x)) ms → All GoodMinimum (min_major n ms d) × (length (min_major n ms d) ≡ n)
unfolding min_major
major-good zero ms d f g h = (none, refl)
major-good (suc n) [] d f g h = let (p, q) = major-good n [] d f g none in (more (plus-good d f g) p, ap suc q)
major-good (suc n) (m ∷ ms) d f g (more h hs) = let (p, q) = major-good n ms d f g hs in (more (least-good d m f g h) p, ap suc q)

pub minima-good : (n : ℕ) (ms : List Float) (d : Float) → T (fits binary64 d) → T (minimum_ok d) → All (λ x. T (fits binary64 x)) ms
    → All GoodMinimum (split_min_major n ms d) × (length (split_min_major n ms d) ≡ n)
unfolding split_min_major
minima-good n ms d f g h = go (minimum_ok d) g
  where
    go : (b : Bool) → T b → All GoodMinimum (min_major_by b n ms d) × (length (min_major_by b n ms d) ≡ n)
    go true t = major-good n ms d f g h
    go false t = absurd t

-- ---- the length left after the handles

pub record Bounded (b : ℕ) (r : Rect) : Type 0 where
  pub left : Small b r.x0
  pub top : Small b r.y0
  pub right : Small b r.x1
  pub bottom : Small b r.y1

-- the input, minus zero read as zero: minima that are good, and thicknesses that are not huge
pub record Sane (i : LayoutInput) : Type 0 where
  pub minima : (a : Axis) → T (fits binary64 (major_size i.min_pane_size a)) × T (minimum_ok (major_size i.min_pane_size a))
  pub handle : Small (2 ^ 20) i.split_handle_thickness
  pub bar : Small (2 ^ 20) i.tab_bar_thickness

-- where 2 ^ k bounds the edges, 3 times that bounds the length
module _ (k : ℕ) (far : 24 ≤ k) (near : k ≤ 890) (a : Axis) (n : ℕ) (few : n ≤ 16) (r : Rect) (i : LayoutInput) (inside : Bounded (1 * 2 ^ k) r) (sane : Sane i) where
  major-small : (x : Axis) → Small ((1 + 1) * 2 ^ k) (major_length r x)
  major-small Horizontal = sub_small k 1 1 (held (1 + 1) k (omega arith) (omega (arith, near))) r.x1 r.x0 inside.right inside.left
  major-small Vertical = sub_small k 1 1 (held (1 + 1) k (omega arith) (omega (arith, near))) r.y1 r.y0 inside.bottom inside.top

  handles-small : Small (1 * 2 ^ k) (mul binary64 i.split_handle_thickness (whole (n - 1)))
  handles-small =
      small-more (16 * 2 ^ 20) (1 * 2 ^ k) (mul binary64 i.split_handle_thickness (whole (n - 1)))
      (le_trans (le_of_eq powers) (le_trans (pow_mono far) (le_of_eq (sym (one-mul (2 ^ k))))))
      (mul_small (2 ^ 20) (16 * 2 ^ 0) 16 20 (held 16 20 (omega arith) (omega arith)) refl i.split_handle_thickness (whole (n - 1)) sane.handle
      (whole-small (n - 1) 16 (held 16 0 (omega arith) (omega arith)) (omega (arith, few))))
    where
      powers : 16 * 2 ^ 20 ≡ 2 ^ 24
      powers = refl

  pub total-small : Small ((1 + 1 + 1) * 2 ^ k) (child_total a n r i)
  total-small =
      larger-small ((1 + 1 + 1) * 2 ^ k) (sub binary64 (major_length r a) (mul binary64 i.split_handle_thickness (whole (n - 1)))) zero-f
      (sub_small k (1 + 1) 1 (held (1 + 1 + 1) k (omega arith) (omega (arith, near))) (major_length r a) (mul binary64 i.split_handle_thickness (whole (n - 1))) (major-small a) handles-small)
      (small-zero ((1 + 1 + 1) * 2 ^ k))

  pub total-good : Good (child_total a n r i)
  total-good =
      let x = sub binary64 (major_length r a) (mul binary64 i.split_handle_thickness (whole (n - 1))) in
      record { here = cond-fits binary64 (lt zero-f x) x zero-f (sub-fits binary64 (major_length r a) (mul binary64 i.split_handle_thickness (whole (n - 1)))) (zero-fits binary64); sign = go (lt zero-f x) x refl }
    where
      go : (b : Bool) (x : Float) → lt zero-f x ≡ b → T (nonneg (cond b x zero-f))
      go true x e = above-nonneg x (is_true (lt zero-f x) e)
      go false x e = tt

  -- demand 3: lengths from zero to what the handles leave, minima held, and no more passes than children
  pub split-meets : (ss ms : List Float) → All (λ x. T (fits binary64 x)) ss → All (λ x. T (fits binary64 x)) ms
      → Meets (child_total a n r i) (child_minima a n ms i) (split_lengths a n ss ms r i)
  split-meets ss ms fs fm =
      let (p, q) = shares-good n ss fs in
      let (d, g) = sane.minima a in
      let (u, v) = minima-good n ms (major_size i.min_pane_size a) d g fm in
      solve-meets (child_total a n r i) (repaired_shares n ss) (child_minima a n ms i)
      (record { total-good = total-good; total-finite = small-finite ((1 + 1 + 1) * 2 ^ k) (child_total a n r i) total-small; shares-ok = p; minima-ok = u; paired = q ∙ sym v })
