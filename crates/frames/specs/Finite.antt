-- Every number in a frame is finite: the edges of all its rectangles are bounded. Assumes nothing.
use Rattle.std.specs.Prelude.{◌≡◌, refl, Bool, true, false, cond, [], ◌∷◌, ℕ, zero, suc, ◌+◌, ◌*◌, ◌^◌, ◌≤◌, ◌<◌, eqb, Float}
use Rattle.std.proofs.Common.{sym, ap, ◌∙◌, le_trans, le_of_eq, mul-le-mul, mul-le-mul_right, mul-le-mul_left, one-mul, mul-one, mul_comm, mul_assoc, mul-pos, zero-mul, arith, eqb-true, pow-add, pow_mono}
use Rattle.std.specs.Float.{nan, inf, fin, binary64}
use Rattle.std.specs.Float.Ieee.{up, down, round, unlike, add, sub, mul, div, lt}
use Rattle.std.specs.Float.Ieee.Fits.{down_pos}
use Rattle.std.specs.Float.Ieee.Exact.{HasValue}
use Rattle.rules.specs.Numbers.{whole, smaller}
use Rattle.rules.specs.Tabs.{width, height, Barred, split_tab_bar, tab_start, tab_end, tab_across, tab_down, tab_rect, tab_rects}
use Rattle.rules.specs.declared.frame.Rect.{Rect}
use Rattle.rules.specs.declared.model.TabBarPlacement.{TabBarPlacement}
use Rattle.rules.specs.declared.model.TabBarPlacement.TheVariants.{Hidden, Top, Bottom, Left, Right}
use Rattle.frames.specs.Sizes.{Small, Held, held, small-more, small-zero, round-small, add_small, sub_small, mul_small, whole-small, whole-value}
use Rattle.rules.specs.Lists.{tabulate}
use Rattle.forest.specs.Lists.{All, all_append}
use Rattle.frames.specs.Splits.{Bounded}

-- ---- a quotient by a count

-- one that is at least 1 divides: the quotient is no larger
div-small : (c k : ℕ) → Held c k → (x y : Float) (n : ℕ) → 1 ≤ n → HasValue y false n 1 → Small (c * 2 ^ k) x → Small (c * 2 ^ k) (div binary64 x y)
unfolding div
div-small c k H nan y n h v s = absurd s
div-small c k H (inf t) y n h v s = absurd s
div-small c k H (fin t m e) nan n h v s = absurd v
div-small c k H (fin t m e) (inf u) n h v s = absurd v
div-small c k H (fin t m e) (fin u q d) n h v s = go (eqb q 0) refl
  where
    D : ℕ
    D = q * up d

    large : down d ≤ D
    large = let z : q * up d * 1 ≡ n * down d = v.1 in le_trans (le_trans (le_of_eq (sym (one-mul (down d)))) (mul-le-mul_right (down d) h)) (le_of_eq (sym z ∙ mul-one (q * up d)))

    above : 0 < D
    above = let p = down_pos d in let l = large in omega (arith, p, l)

    go : (b : Bool) → eqb q 0 ≡ b → Small (c * 2 ^ k) (cond b (cond (eqb m 0) nan (inf (unlike t u))) (round binary64 (unlike t u) (m * up e * down d) (D * down e)))
    go true z = absurd (let o = above in let y = ap (λ (x : ℕ). x * up d) (eqb-true q 0 z) ∙ zero-mul (up d) in omega (arith, o, y))
    go false z =
        round-small (unlike t u) (m * up e * down d) (D * down e) c k H (mul-pos above (down_pos e))
        (le_trans (mul-le-mul s large) (le_of_eq (mul_assoc (c * 2 ^ k) (down e) D ∙ ap (λ (x : ℕ). c * 2 ^ k * x) (mul_comm (down e) D))))

smaller-small : (b : ℕ) (x y : Float) → Small b x → Small b y → Small b (smaller x y)
smaller-small b x y h g = go (lt y x)
  where
    go : (t : Bool) → Small b (cond t y x)
    go true = g
    go false = h

-- ---- bars and tabs of a group in a rectangle

module _ (k : ℕ) (near : k ≤ 880) where
  -- c units of 2 ^ k
  abbrev U : ℕ → ℕ
  U c = c * 2 ^ k

  more : (c d : ℕ) (x : Float) → c ≤ d → Small (U c) x → Small (U d) x
  more c d x h = small-more (U c) (U d) x (mul-le-mul_right (2 ^ k) h)

  sum : (c d : ℕ) (x y : Float) → c + d ≤ 64 → Small (U c) x → Small (U d) y → Small (U (c + d)) (add binary64 x y)
  sum c d x y h = add_small k c d (held (c + d) k h (omega (arith, near))) x y

  diff : (c d : ℕ) (x y : Float) → c + d ≤ 64 → Small (U c) x → Small (U d) y → Small (U (c + d)) (sub binary64 x y)
  diff c d x y h = sub_small k c d (held (c + d) k h (omega (arith, near))) x y

  widen : (c d : ℕ) (r : Rect) → c ≤ d → Bounded (U c) r → Bounded (U d) r
  widen c d r h b = record { left = more c d r.x0 h b.left; top = more c d r.y0 h b.top; right = more c d r.x1 h b.right; bottom = more c d r.y1 h b.bottom }

  abbrev BarredIn : Barred → Type 0
  BarredIn s = Bounded (U 3) s.bar × Bounded (U 3) s.pane

  bar-small : (r : Rect) (p : TabBarPlacement) (t : Float) → Bounded (U 1) r → Small (U 1) t → BarredIn (split_tab_bar r p t)
  unfolding split_tab_bar
  bar-small r Hidden t b s = (record { left = small-zero (U 3); top = small-zero (U 3); right = small-zero (U 3); bottom = small-zero (U 3) }, widen 1 3 r (omega arith) b)
  bar-small r Top t b s =
      let w = widen 1 3 r (omega arith) b in
      let d = smaller-small (U 2) t (height r) (more 1 2 t (omega arith) s) (diff 1 1 r.y1 r.y0 (omega arith) b.bottom b.top) in
      let e = sum 1 2 r.y0 (smaller t (height r)) (omega arith) b.top d in
      (record { left = w.left; top = w.top; right = w.right; bottom = e }, record { left = w.left; top = e; right = w.right; bottom = w.bottom })
  bar-small r Bottom t b s =
      let w = widen 1 3 r (omega arith) b in
      let d = smaller-small (U 2) t (height r) (more 1 2 t (omega arith) s) (diff 1 1 r.y1 r.y0 (omega arith) b.bottom b.top) in
      let e = diff 1 2 r.y1 (smaller t (height r)) (omega arith) b.bottom d in
      (record { left = w.left; top = e; right = w.right; bottom = w.bottom }, record { left = w.left; top = w.top; right = w.right; bottom = e })
  bar-small r Left t b s =
      let w = widen 1 3 r (omega arith) b in
      let d = smaller-small (U 2) t (width r) (more 1 2 t (omega arith) s) (diff 1 1 r.x1 r.x0 (omega arith) b.right b.left) in
      let e = sum 1 2 r.x0 (smaller t (width r)) (omega arith) b.left d in
      (record { left = w.left; top = w.top; right = e; bottom = w.bottom }, record { left = e; top = w.top; right = w.right; bottom = w.bottom })
  bar-small r Right t b s =
      let w = widen 1 3 r (omega arith) b in
      let d = smaller-small (U 2) t (width r) (more 1 2 t (omega arith) s) (diff 1 1 r.x1 r.x0 (omega arith) b.right b.left) in
      let e = diff 1 2 r.x1 (smaller t (width r)) (omega arith) b.right d in
      (record { left = e; top = w.top; right = w.right; bottom = w.bottom }, record { left = w.left; top = w.top; right = e; bottom = w.bottom })

  -- ---- tabs: 16 at most, so a tab begins at most 16 parts of the bar's length after its start

  each-small : (n : ℕ) → 1 ≤ n → n ≤ 16 → (x : Float) → Small (U 6) x → Small (U 6) (div binary64 x (whole n))
  each-small n h g x s = div-small 6 k (held 6 k (omega arith) (omega (arith, near))) x (whole n) n h (whole-value n (omega (arith, g))) s

module _ (k : ℕ) (near : k ≤ 880) where
  -- 6 units of 2 ^ k times 16 are 6 units of 2 ^ (k + 4)
  offset-small : (j : ℕ) → j ≤ 16 → (x : Float) → Small (6 * 2 ^ k) x → Small (6 * 2 ^ (k + 4)) (mul binary64 x (whole j))
  offset-small j h x s =
      mul_small (6 * 2 ^ k) (16 * 2 ^ 0) 6 (k + 4) (held 6 (k + 4) (omega arith) (omega (arith, near)))
      (mul_assoc 6 (2 ^ k) 16 ∙ ap (λ (n : ℕ). 6 * n) (sym (pow-add 2 k 4))) x (whole j) s (whole-small j 16 (held 16 0 (omega arith) (omega arith)) h)

  up4 : (c : ℕ) (x : Float) → Small (c * 2 ^ k) x → Small (c * 2 ^ (k + 4)) x
  up4 c x = small-more (c * 2 ^ k) (c * 2 ^ (k + 4)) x (mul-le-mul_left c (pow_mono (let q : k ≤ k + 4 = omega arith in q)))

  abbrev far : k + 4 ≤ 890
  far = omega (arith, near)

  begin-small : (lo x : Float) (j : ℕ) → j ≤ 16 → Small (3 * 2 ^ k) lo → Small (6 * 2 ^ k) x → Small (9 * 2 ^ (k + 4)) (tab_start lo x j)
  begin-small lo x j h a b =
      add_small (k + 4) 3 6 (held 9 (k + 4) (omega arith) (omega (arith, near))) lo (mul binary64 x (whole j)) (up4 3 lo a) (offset-small j h x b)

  end-small : (lo hi x : Float) (n j : ℕ) → j ≤ 16 → Small (3 * 2 ^ k) lo → Small (3 * 2 ^ k) hi → Small (6 * 2 ^ k) x → Small (15 * 2 ^ (k + 4)) (tab_end lo hi x n j)
  end-small lo hi x n j h a b c = go (eqb (suc j) n)
    where
      go : (t : Bool) → Small (15 * 2 ^ (k + 4)) (cond t hi (add binary64 (tab_start lo x j) x))
      go true = small-more (3 * 2 ^ (k + 4)) (15 * 2 ^ (k + 4)) hi (mul-le-mul_right (2 ^ (k + 4)) (let q : 3 ≤ 15 = omega arith in q)) (up4 3 hi b)
      go false = add_small (k + 4) 9 6 (held 15 (k + 4) (omega arith) (omega (arith, near))) (tab_start lo x j) x (begin-small lo x j h a c) (up4 6 x c)

  -- a tab of a bar
  tab-small : (p : TabBarPlacement) (r : Rect) (n j : ℕ) → 1 ≤ n → n ≤ 16 → j ≤ 16 → Bounded (3 * 2 ^ k) r → Bounded (15 * 2 ^ (k + 4)) (tab_rect p r n j)
  tab-small p r n j h g i b = go p
    where
      lift : (c : ℕ) (x : Float) → c ≤ 15 → Small (c * 2 ^ (k + 4)) x → Small (15 * 2 ^ (k + 4)) x
      lift c x q = small-more (c * 2 ^ (k + 4)) (15 * 2 ^ (k + 4)) x (mul-le-mul_right (2 ^ (k + 4)) q)

      edge : (x : Float) → Small (3 * 2 ^ k) x → Small (15 * 2 ^ (k + 4)) x
      edge x s = lift 3 x (omega arith) (up4 3 x s)

      across : Bounded (15 * 2 ^ (k + 4)) (tab_across r n j)
      across =
          let w = each-small k near n h g (width r) (diff k near 3 3 r.x1 r.x0 (omega arith) b.right b.left) in
          record { left = lift 9 (tab_start r.x0 (div binary64 (width r) (whole n)) j) (omega arith) (begin-small r.x0 (div binary64 (width r) (whole n)) j i b.left w); top = edge r.y0 b.top; right = end-small r.x0 r.x1 (div binary64 (width r) (whole n)) n j i b.left b.right w; bottom = edge r.y1 b.bottom }

      down' : Bounded (15 * 2 ^ (k + 4)) (tab_down r n j)
      down' =
          let w = each-small k near n h g (height r) (diff k near 3 3 r.y1 r.y0 (omega arith) b.bottom b.top) in
          record { left = edge r.x0 b.left; top = lift 9 (tab_start r.y0 (div binary64 (height r) (whole n)) j) (omega arith) (begin-small r.y0 (div binary64 (height r) (whole n)) j i b.top w); right = edge r.x1 b.right; bottom = end-small r.y0 r.y1 (div binary64 (height r) (whole n)) n j i b.top b.bottom w }

      go : (q : TabBarPlacement) → Bounded (15 * 2 ^ (k + 4)) (tab_rect q r n j)
      go Hidden = across
      go Top = across
      go Bottom = across
      go Left = down'
      go Right = down'

-- ---- finite rectangles

-- its edges are numbers below some bound
abbrev pub Finite : Rect → Type 0
Finite r = (b : ℕ) × Bounded b r

tabulated : (g : ℕ → Rect) (m : ℕ) → ((j : ℕ) → j < m → Finite (g j)) → All Finite (tabulate g m)
unfolding tabulate
tabulated g zero f = tt
tabulated g (suc m) f = all_append Finite (tabulate g m) (g m ∷ []) (tabulated g m (λ j h. f j (omega (arith, h)))) (f m (omega arith), tt)

-- the tabs of a bar, and a group's bar and pane
pub tabs-finite : (k : ℕ) → k ≤ 880 → (p : TabBarPlacement) (r : Rect) (n : ℕ) → 1 ≤ n → n ≤ 16 → Bounded (3 * 2 ^ k) r → All Finite (tab_rects r p n)
unfolding tab_rects
tabs-finite k near p r n h g b = tabulated (tab_rect p r n) n (λ j i. (15 * 2 ^ (k + 4), tab-small k near p r n j h g (omega (arith, i, g)) b))

pub bar-bounded : (k : ℕ) → k ≤ 880 → (r : Rect) (p : TabBarPlacement) (t : Float) → Bounded (1 * 2 ^ k) r → Small (1 * 2 ^ k) t → Bounded (3 * 2 ^ k) (split_tab_bar r p t).bar × Bounded (3 * 2 ^ k) (split_tab_bar r p t).pane
bar-bounded k near r p t b s = bar-small k near r p t b s
