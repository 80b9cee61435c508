-- When `layout` refuses: with 4 exactly when the arena is not sound, with 5 exactly when it is and the input is not as document 01 has it ('Solver and frame');
-- and with no other number. `layout_into` has the same answers. Assumes nothing.
use Rattle.std.specs.Prelude.{◌≡◌, ◌↔◌, Bool, ◌&&◌, [], ◌∷◌, Float}
use Rattle.std.proofs.Math.Path.{refl}
use Rattle.std.proofs.Common.{sym, inl, inr, arith}
use Rattle.std.proofs.Math.Bool.{true, false}
use Rattle.std.specs.Float.Ieee.{le}
use Rattle.rules.specs.Numbers.{zero-f}
use Rattle.rules.specs.Tree.{Arena, Member}
use Rattle.rules.specs.Sound.{sound}
use Rattle.rules.specs.Frame.{limit, minus-limit, coordinate_ok, thickness_ok, bounds_ok, input_ok, layout_input_by, layout_by, layout}
use Rattle.rules.specs.declared.frame.Rect.{Rect}
use Rattle.rules.specs.declared.frame.LayoutInput.{LayoutInput}
use Rattle.rules.specs.Refusals.{Answer}
use Rattle.forest.specs.Lists.{never}
use Rattle.promises.specs.Words.{Tells, number_of, one_number, both_ways, pair-iff, and-iff, and-means, not-means}

-- ---- the input's words

-- from -2^20 to 2^20
abbrev pub Coordinate : Float → Type 0
Coordinate x = (le minus-limit x ≡ true) × (le x limit ≡ true)

-- from 0 to 2^20
abbrev pub Thickness : Float → Type 0
Thickness x = (le zero-f x ≡ true) × (le x limit ≡ true)

-- the outer rectangle: coordinates in range, edges not crossed
abbrev pub Outer : Rect → Type 0
Outer r = ((((Coordinate r.x0 × Coordinate r.y0) × Coordinate r.x1) × Coordinate r.y1) × (le r.x0 r.x1 ≡ true)) × (le r.y0 r.y1 ≡ true)

-- and the thicknesses and the least size
abbrev pub InRange : LayoutInput → Type 0
InRange i = ((Outer i.bounds × Thickness i.tab_bar_thickness) × Thickness i.split_handle_thickness) × (Thickness i.min_pane_size.width × Thickness i.min_pane_size.height)

itself : (b : Bool) → (b ≡ true) ↔ (b ≡ true)
itself b = (λ e. e, λ e. e)

coordinate : (x : Float) → (coordinate_ok x ≡ true) ↔ Coordinate x
coordinate x = and-iff (le minus-limit x) (le x limit)

thickness : (x : Float) → (thickness_ok x ≡ true) ↔ Thickness x
thickness x = and-iff (le zero-f x) (le x limit)

outer-means : (r : Rect) → (bounds_ok r ≡ true) ↔ Outer r
outer-means r =
    let a = coordinate_ok r.x0 in
    let b = coordinate_ok r.y0 in
    let c = coordinate_ok r.x1 in
    let d = coordinate_ok r.y1 in
    let x = le r.x0 r.x1 in
    let y = le r.y0 r.y1 in
    and-means (a && b && c && d && x) y
    (and-means (a && b && c && d) x
    (and-means (a && b && c) d (and-means (a && b) c (and-means a b (coordinate r.x0) (coordinate r.y0)) (coordinate r.x1)) (coordinate r.y1))
    (itself x))
    (itself y)

pub input-means : (i : LayoutInput) → (input_ok i ≡ true) ↔ InRange i
unfolding input_ok
input-means i =
    let b = bounds_ok i.bounds in
    let t = thickness_ok i.tab_bar_thickness in
    let h = thickness_ok i.split_handle_thickness in
    let w = thickness_ok i.min_pane_size.width in
    let k = thickness_ok i.min_pane_size.height in
    and-means (b && t && h) (w && k)
    (and-means (b && t) h (and-means b t (outer-means i.bounds) (thickness i.tab_bar_thickness)) (thickness i.split_handle_thickness))
    (and-means w k (thickness i.min_pane_size.width) (thickness i.min_pane_size.height))

-- ---- the call

module _ (a : Arena) (i : LayoutInput) where
  abbrev answered : Bool → Bool → Answer
  answered true b = (layout_input_by b a i).answer
  answered false b = (layout_by false a i).answer

  laid : (layout a i).answer ≡ answered (sound a) (input_ok i)
  unfolding layout
  laid = go (sound a)
    where
      go : (s : Bool) → (layout_by s a i).answer ≡ answered s (input_ok i)
      go true = refl
      go false = refl

  -- 4 exactly when the arena is not sound
  pub layout-unsound : Tells (layout a i).answer 4 0 0 ↔ (sound a ≡ false)
  layout-unsound = rw laid (go (sound a) (input_ok i))
    where
      go : (s b : Bool) → Tells (answered s b) 4 0 0 ↔ (s ≡ false)
      go true true = (λ t. one_number (answered true true) 4 0 0 0 refl (λ z. omega (arith, z)) t, λ e. never e)
      go true false = (λ t. one_number (answered true false) 4 0 0 5 refl (λ z. omega (arith, z)) t, λ e. never e)
      go false b = (λ t. refl, λ e. refl)

  -- 5 exactly when it is, and the input is out of range
  pub layout-refuses : Tells (layout a i).answer 5 0 0 ↔ ((sound a ≡ true) × (InRange i → ⊥))
  layout-refuses = rw laid (both_ways (go (sound a) (input_ok i)) (pair-iff (itself (sound a)) (not-means (input_ok i) (input-means i))))
    where
      go : (s b : Bool) → Tells (answered s b) 5 0 0 ↔ ((s ≡ true) × (b ≡ false))
      go true true = (λ t. one_number (answered true true) 5 0 0 0 refl (λ z. omega (arith, z)) t, λ e. never e.1)
      go true false = (λ t. (refl, refl), λ e. refl)
      go false b = (λ t. one_number (answered false b) 5 0 0 4 refl (λ z. omega (arith, z)) t, λ e. never (sym e.0))

  pub layout-accepts : Tells (layout a i).answer 0 0 0 ↔ ((sound a ≡ true) × InRange i)
  layout-accepts = rw laid (both_ways (go (sound a) (input_ok i)) (pair-iff (itself (sound a)) (input-means i)))
    where
      go : (s b : Bool) → Tells (answered s b) 0 0 0 ↔ ((s ≡ true) × (b ≡ true))
      go true true = (λ t. (refl, refl), λ e. refl)
      go true false = (λ t. one_number (answered true false) 0 0 0 5 refl (λ z. omega (arith, z)) t, λ e. never (sym e.1))
      go false b = (λ t. one_number (answered false b) 0 0 0 4 refl (λ z. omega (arith, z)) t, λ e. never (sym e.0))

  -- no other number
  pub layout-numbers : Member (number_of (layout a i).answer) (0 ∷ 4 ∷ 5 ∷ [])
  layout-numbers = rw laid (go (sound a) (input_ok i))
    where
      go : (s b : Bool) → Member (number_of (answered s b)) (0 ∷ 4 ∷ 5 ∷ [])
      go true true = inl refl
      go true false = inr (inr (inl refl))
      go false b = inr (inl refl)
