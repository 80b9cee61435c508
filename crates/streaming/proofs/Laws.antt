-- Laws of the stream's pushes and of what is left of a list in a loop, over plain values. Assumes nothing.
use mathlib.Core.Path.{◌≡◌, refl, sym, ap, ◌∙◌}
use mathlib.Core.Bool.{Bool, true, false}
use mathlib.Core.List.{List, [], ◌∷◌, ◌++◌, map, append_assoc}
use Prim.Native.Nat.{ℕ, zero, suc, ◌+◌, ◌-◌, ◌≤◌, ◌<◌, min}
use native.Mathlib.Numerals.{add-one}
use native.Mathlib.Omega.{arith}
use borrow.Author.Tests.{lt-ltb, le-ltb, ltb-true, ltb-false}
use lib.Dec.{eqb, ltb}
use lib.ListN.{length, take, drop, get_or, drop_of_length-le}
use lib.Seq.{drop-cons, get_or-take, length-take-le}
use lib.Ieee.{Float, binary64, add}
use Rattle.rules.specs.Numbers.{zero-f}
use Rattle.rules.specs.Tabs.{barred, split_tab_bar, tab_rect, tab_rects}
use Rattle.rules.specs.Tree.{tile, same_placement}
use Rattle.rules.specs.Frame.{Item, focus_item, focus_items, a_pane, a_bar, a_tab, tabs_from, bar_items, group_items, layout_tabs_by, layout_tabs, a_child, a_handle, handle_by, is_more, along_rect, layout_kids}
use Rattle.rules.specs.declared.model.TileId.{TileId}
use Rattle.rules.specs.declared.model.Axis.{Axis}
use Rattle.rules.specs.declared.model.TabBarPlacement.{TabBarPlacement}
use Rattle.rules.specs.declared.model.TabBarPlacement.TheVariants.{Hidden, Top, Bottom, Left, Right}
use Rattle.rules.specs.declared.frame.Rect.{Rect}
use Rattle.rules.specs.declared.frame.LayoutInput.{LayoutInput}
use Rattle.lists.specs.Places.{length-tabulate, tabulate-at}
use Rattle.streaming.specs.Stream.{Stream, push_item, push_all, handle_if, no_rect}

-- ---- pushes

pub push-append : (xs ys : List Item) (s : Stream) → push_all (xs ++ ys) s ≡ push_all ys (push_all xs s)
unfolding push_all
push-append [] ys s = refl
push-append (x ∷ xs) ys s = push-append xs ys (push_item x s)

pub push-none : (s : Stream) → push_all [] s ≡ s
unfolding push_all
push-none s = refl

pub push-one : (x : Item) (s : Stream) → push_all (x ∷ []) s ≡ push_item x s
unfolding push_all
push-one x s = refl

pub push-cons : (x : Item) (xs : List Item) (s : Stream) → push_all (x ∷ xs) s ≡ push_all xs (push_item x s)
unfolding push_all
push-cons x xs s = refl

-- ---- a loop by what is left: `l` is left at s, and the whole ends at t

pub left-more : (xs l l' : List Item) (s s' t : Stream) → l ≡ xs ++ l' → s' ≡ push_all xs s → push_all l s ≡ t → push_all l' s' ≡ t
left-more xs l l' s s' t e p w = ap (push_all l') p ∙ sym (push-append xs l' s) ∙ sym (ap (λ (k : List Item). push_all k s) e) ∙ w

pub left-done : (l : List Item) (s t : Stream) → l ≡ [] → push_all l s ≡ t → s ≡ t
left-done l s t e w = sym (push-none s) ∙ sym (ap (λ (k : List Item). push_all k s) e) ∙ w

-- ---- the focus order

module _ (ps : List ℕ) where
  abbrev pub FocusLeft : ℕ → List Item
  FocusLeft j = focus_items (drop j ps)

  pub focus-more : (j : ℕ) (s s' t : Stream) → j < length ps → s' ≡ push_item (focus_item (get_or ps j 0)) s → push_all (FocusLeft j) s ≡ t → push_all (FocusLeft (j + 1)) s' ≡ t
  focus-more j s s' t h p w =
      left-more (focus_item (get_or ps j 0) ∷ []) (FocusLeft j) (FocusLeft (j + 1)) s s' t
      (ap focus_items (drop-cons ps j 0 h) ∙ (λ z. focus_item (get_or ps j 0) ∷ focus_items (drop (sym (add-one j) z) ps)))
      (p ∙ sym (push-one (focus_item (get_or ps j 0)) s)) w

  pub focus-done : (j : ℕ) (s t : Stream) → length ps ≤ j → push_all (FocusLeft j) s ≡ t → s ≡ t
  focus-done j s t h w = left-done (FocusLeft j) s t (ap focus_items (drop_of_length-le ps h)) w

-- ---- the tabs of a bar

module _ (g : TileId) (placement : TabBarPlacement) (bar : Rect) (active : ℕ) (ps : List ℕ) where
  abbrev rs : List Rect
  rs = tab_rects bar placement (length ps)

  abbrev pub TabsLeft : ℕ → List Item
  TabsLeft j = tabs_from g active j (drop j ps) (drop j (tab_rects bar placement (length ps)))

  rs-long : length rs ≡ length ps
  unfolding tab_rects
  rs-long = length-tabulate (tab_rect placement bar (length ps)) (length ps)

  rs-at : (j : ℕ) → j < length ps → get_or rs j no_rect ≡ tab_rect placement bar (length ps) j
  unfolding tab_rects
  rs-at j h = tabulate-at (tab_rect placement bar (length ps)) (length ps) j no_rect h

  tabs-cons : (j p : ℕ) (qs : List ℕ) (r : Rect) (us : List Rect) → tabs_from g active j (p ∷ qs) (r ∷ us) ≡ a_tab g p r j (eqb j active) ∷ tabs_from g active (suc j) qs us
  unfolding tabs_from
  tabs-cons j p qs r us = refl

  tabs-nil : (j : ℕ) (us : List Rect) → tabs_from g active j [] us ≡ []
  unfolding tabs_from
  tabs-nil j us = refl

  pub tabs-more : (j : ℕ) (r : Rect) (s s' t : Stream) → j < length ps → r ≡ tab_rect placement bar (length ps) j → s' ≡ push_item (a_tab g (get_or ps j 0) r j (eqb j active)) s
      → push_all (TabsLeft j) s ≡ t → push_all (TabsLeft (j + 1)) s' ≡ t
  tabs-more j r s s' t h e p w =
      left-more (a_tab g (get_or ps j 0) r j (eqb j active) ∷ []) (TabsLeft j) (TabsLeft (j + 1)) s s' t
      ((λ z. tabs_from g active j (drop-cons ps j 0 h z) (drop-cons rs j no_rect (omega (arith, rs-long)) z))
      ∙ tabs-cons j (get_or ps j 0) (drop (suc j) ps) (get_or rs j no_rect) (drop (suc j) rs)
      ∙ (λ z. a_tab g (get_or ps j 0) ((rs-at j h ∙ sym e) z) j (eqb j active) ∷ tabs_from g active (sym (add-one j) z) (drop (sym (add-one j) z) ps) (drop (sym (add-one j) z) rs)))
      (p ∙ sym (push-one (a_tab g (get_or ps j 0) r j (eqb j active)) s)) w

  pub tabs-done : (j : ℕ) (s t : Stream) → length ps ≤ j → push_all (TabsLeft j) s ≡ t → s ≡ t
  tabs-done j s t h w = left-done (TabsLeft j) s t (ap (λ (qs : List ℕ). tabs_from g active j qs (drop j rs)) (drop_of_length-le ps h) ∙ tabs-nil j (drop j rs)) w

-- ---- the children of a split

handle-by : (b : Bool) (g : TileId) (a : Axis) (r : Rect) (handle : Float) (i : ℕ) (at : Float) → handle_by b g a r handle i at ≡ handle_if b g i a (along_rect a r at handle)
handle-by true g a r handle i at = refl
handle-by false g a r handle i at = refl

more_left : (qs : List ℕ) (j : ℕ) → is_more (map tile (drop j qs)) ≡ ltb j (length qs)
more_left [] zero = sym (le-ltb 0 0 (omega arith))
more_left [] (suc j) = sym (le-ltb (suc j) 0 (omega arith))
more_left (q ∷ qs) zero = sym (lt-ltb 0 (suc (length qs)) (omega arith))
more_left (q ∷ qs) (suc j) = more_left qs j ∙ same (ltb j (length qs)) refl
  where
    same : (b : Bool) → ltb j (length qs) ≡ b → ltb j (length qs) ≡ ltb (suc j) (suc (length qs))
    same true e = let h : j < length qs = ltb-true j (length qs) e in e ∙ sym (lt-ltb (suc j) (suc (length qs)) (omega arith))
    same false e = let h : length qs ≤ j = ltb-false j (length qs) e in e ∙ sym (le-ltb (suc j) (suc (length qs)) (omega arith))

module _ (again : TileId → Rect → List Item) (g : TileId) (a : Axis) (r : Rect) (handle : Float) (row : List ℕ) (count : ℕ) (few : count ≤ length row) (ls : List Float) (even : length ls ≡ count) where
  abbrev cs : List ℕ
  cs = take count row

  abbrev pub KidsLeft : ℕ → Float → List Item
  KidsLeft j at = layout_kids again g a r handle j (map tile (drop j (take count row))) (drop j ls) at

  cs-long : length (take count row) ≡ count
  cs-long = length-take-le count row few

  kids-cons : (j : ℕ) (c : TileId) (ds : List TileId) (l : Float) (ks : List Float) (at : Float)
      → layout_kids again g a r handle j (c ∷ ds) (l ∷ ks) at ≡ a_child g c j (along_rect a r at l) ∷ (again c (along_rect a r at l) ++ (handle_by (is_more ds) g a r handle j (add binary64 at l) ++ layout_kids again g a r handle (suc j) ds ks (add binary64 (add binary64 at l) handle)))
  unfolding layout_kids
  kids-cons j c ds l ks at = refl

  kids-nil : (j : ℕ) (ks : List Float) (at : Float) → layout_kids again g a r handle j [] ks at ≡ []
  unfolding layout_kids
  kids-nil j ks at = refl

  -- what one turn writes
  abbrev turn : ℕ → Float → Float → Bool → List Item
  turn j at l more = a_child g (tile (get_or row j 0)) j (along_rect a r at l) ∷ (again (tile (get_or row j 0)) (along_rect a r at l) ++ handle_if more g j a (along_rect a r (add binary64 at l) handle))

  kids-left : (j : ℕ) (at : Float) → j < count → KidsLeft j at ≡ turn j at (get_or ls j zero-f) (ltb (j + 1) count) ++ KidsLeft (j + 1) (add binary64 (add binary64 at (get_or ls j zero-f)) handle)
  kids-left j at h =
      let l = get_or ls j zero-f in
      let room = along_rect a r at l in
      let rest = layout_kids again g a r handle (suc j) (map tile (drop (suc j) cs)) (drop (suc j) ls) (add binary64 (add binary64 at l) handle) in
      (λ z. layout_kids again g a r handle j (map tile (drop-cons cs j 0 (omega (arith, cs-long)) z)) (drop-cons ls j zero-f (omega arith) z) at)
      ∙ kids-cons j (tile (get_or cs j 0)) (map tile (drop (suc j) cs)) l (drop (suc j) ls) at
      ∙ (λ z. a_child g (tile (get_or-take count row j 0 h z)) j room ∷ (again (tile (get_or-take count row j 0 h z)) room ++ (test z ++ rest)))
      ∙ ap (λ (k : List Item). a_child g (tile (get_or row j 0)) j room ∷ k) (sym (append_assoc (again (tile (get_or row j 0)) room) (handle_if (ltb (j + 1) count) g j a (along_rect a r (add binary64 at l) handle)) rest))
      ∙ (λ z. turn j at l (ltb (j + 1) count) ++ layout_kids again g a r handle (sym (add-one j) z) (map tile (drop (sym (add-one j) z) cs)) (drop (sym (add-one j) z) ls) (add binary64 (add binary64 at l) handle))
    where
      test : handle_by (is_more (map tile (drop (suc j) cs))) g a r handle j (add binary64 at (get_or ls j zero-f)) ≡ handle_if (ltb (j + 1) count) g j a (along_rect a r (add binary64 at (get_or ls j zero-f)) handle)
      test =
          handle-by (is_more (map tile (drop (suc j) cs))) g a r handle j (add binary64 at (get_or ls j zero-f))
          ∙ ap (λ (b : Bool). handle_if b g j a (along_rect a r (add binary64 at (get_or ls j zero-f)) handle)) (more_left cs (suc j) ∙ (λ z. ltb (sym (add-one j) z) (cs-long z)))

  pub kids-more : (j : ℕ) (at l : Float) (room bar : Rect) (s s₁ s₂ s₃ t : Stream) → j < count → l ≡ get_or ls j zero-f → room ≡ along_rect a r at l → bar ≡ along_rect a r (add binary64 at l) handle
      → s₁ ≡ push_item (a_child g (tile (get_or row j 0)) j room) s → s₂ ≡ push_all (again (tile (get_or row j 0)) room) s₁ → s₃ ≡ push_all (handle_if (ltb (j + 1) count) g j a bar) s₂
      → push_all (KidsLeft j at) s ≡ t → push_all (KidsLeft (j + 1) (add binary64 (add binary64 at l) handle)) s₃ ≡ t
  kids-more j at l room bar s s₁ s₂ s₃ t h el er eb p₁ p₂ p₃ w =
      left-more (turn j at l (ltb (j + 1) count)) (KidsLeft j at) (KidsLeft (j + 1) (add binary64 (add binary64 at l) handle)) s s₃ t
      (kids-left j at h ∙ (λ z. turn j at (sym el z) (ltb (j + 1) count) ++ KidsLeft (j + 1) (add binary64 (add binary64 at (sym el z)) handle)))
      (p₃ ∙ (λ z. push_all (handle_if (ltb (j + 1) count) g j a (eb z)) (p₂ z))
      ∙ (λ z. push_all (handle_if (ltb (j + 1) count) g j a (along_rect a r (add binary64 at l) handle)) (push_all (again (tile (get_or row j 0)) (er z)) (p₁ z)))
      ∙ (λ z. push_all (handle_if (ltb (j + 1) count) g j a (along_rect a r (add binary64 at l) handle)) (push_all (again (tile (get_or row j 0)) (along_rect a r at l)) (push_item (a_child g (tile (get_or row j 0)) j (er z)) s)))
      ∙ sym (push-cons (a_child g (tile (get_or row j 0)) j (along_rect a r at l)) (again (tile (get_or row j 0)) (along_rect a r at l) ++ handle_if (ltb (j + 1) count) g j a (along_rect a r (add binary64 at l) handle)) s
      ∙ push-append (again (tile (get_or row j 0)) (along_rect a r at l)) (handle_if (ltb (j + 1) count) g j a (along_rect a r (add binary64 at l) handle)) (push_item (a_child g (tile (get_or row j 0)) j (along_rect a r at l)) s)))
      w

  pub kids-done : (j : ℕ) (at : Float) (s t : Stream) → count ≤ j → push_all (KidsLeft j at) s ≡ t → s ≡ t
  kids-done j at s t h w =
      let p : length cs ≤ j = omega (arith, cs-long) in
      left-done (KidsLeft j at) s t (ap (λ (ds : List ℕ). layout_kids again g a r handle j (map tile ds) (drop j ls) at) (drop_of_length-le cs p) ∙ kids-nil j (drop j ls) at) w

-- the handle after a child, by a flag
pub handle-yes : (b : Bool) (g : TileId) (i : ℕ) (a : Axis) (r : Rect) (s s' : Stream) → b ≡ true → s' ≡ push_item (a_handle g i a r) s → s' ≡ push_all (handle_if b g i a r) s
handle-yes b g i a r s s' e p = p ∙ sym (push-one (a_handle g i a r) s) ∙ ap (λ (x : Bool). push_all (handle_if x g i a r) s) (sym e)

pub handle-no : (b : Bool) (g : TileId) (i : ℕ) (a : Axis) (r : Rect) (s : Stream) → b ≡ false → s ≡ push_all (handle_if b g i a r) s
handle-no b g i a r s e = sym (push-none s) ∙ ap (λ (x : Bool). push_all (handle_if x g i a r) s) (sym e)

-- ---- a group

pub not-hidden : (b : TabBarPlacement) → (b ≡ Hidden → ⊥) → same_placement b Hidden ≡ false
not-hidden Hidden h = absurd (h refl)
not-hidden Top h = refl
not-hidden Bottom h = refl
not-hidden Left h = refl
not-hidden Right h = refl

module _ (g : TileId) (b : TabBarPlacement) (bar : Rect) (active : ℕ) (ps : List ℕ) where
  pub bar-none : (h : Bool) (s : Stream) → h ≡ true → s ≡ push_all (bar_items h g b bar active ps) s
  bar-none h s e = sym (push-none s) ∙ ap (λ (x : Bool). push_all (bar_items x g b bar active ps) s) (sym e)

  pub bar-some : (h : Bool) (s s₁ s₂ : Stream) → h ≡ false → s₁ ≡ push_item (a_bar g bar b (get_or ps active 0)) s
      → s₂ ≡ push_all (tabs_from g active 0 ps (tab_rects bar b (length ps))) s₁ → s₂ ≡ push_all (bar_items h g b bar active ps) s
  bar-some h s s₁ s₂ e p q =
      q ∙ (λ z. push_all (tabs_from g active 0 ps (tab_rects bar b (length ps))) (p z))
      ∙ sym (push-cons (a_bar g bar b (get_or ps active 0)) (tabs_from g active 0 ps (tab_rects bar b (length ps))) s)
      ∙ ap (λ (x : Bool). push_all (bar_items x g b bar active ps) s) (sym e)

module _ (g : TileId) (b : TabBarPlacement) (a : ℕ) (r : Rect) (i : LayoutInput) where
  tabs-are : (ps : List ℕ) (s : Stream) → push_all (layout_tabs_by g b a ps r i) (push_all (focus_items ps) s) ≡ push_all (layout_tabs g b a ps r i) s
  unfolding layout_tabs
  tabs-are ps s = sym (push-append (focus_items ps) (layout_tabs_by g b a ps r i) s)

  pub group-none : (ps : List ℕ) (s s' : Stream) → length ps ≡ 0 → s' ≡ push_all (focus_items ps) s → s' ≡ push_all (layout_tabs g b a ps r i) s
  group-none [] s s' e p = p ∙ sym (push-none (push_all (focus_items []) s)) ∙ tabs-are [] s
  group-none (x ∷ ps) s s' e p = absurd (omega arith)

  pub group-some : (ps : List ℕ) (active : ℕ) (bar rest : Rect) (s s₁ s₂ s₃ : Stream) → 0 < length ps → active ≡ min a (length ps - 1)
      → barred bar rest ≡ split_tab_bar r b i.tab_bar_thickness → s₁ ≡ push_all (focus_items ps) s → s₂ ≡ push_all (bar_items (same_placement b Hidden) g b bar active ps) s₁
      → s₃ ≡ push_item (a_pane (get_or ps active 0) g rest) s₂ → s₃ ≡ push_all (layout_tabs g b a ps r i) s
  group-some [] active bar rest s s₁ s₂ s₃ h e sp p q u = absurd (omega arith)
  group-some (x ∷ ps) active bar rest s s₁ s₂ s₃ h e sp p q u =
      let m : active ≡ min a (length ps) = e ∙ ap (min a) (let z : length (x ∷ ps) - 1 ≡ length ps = omega arith in z) in
      let front = bar_items (same_placement b Hidden) g b bar active (x ∷ ps) in
      let last = a_pane (get_or (x ∷ ps) active 0) g rest in
      u ∙ (λ z. push_item last (q z)) ∙ (λ z. push_item last (push_all front (p z)))
      ∙ sym (push-append front (last ∷ []) (push_all (focus_items (x ∷ ps)) s) ∙ push-one last (push_all front (push_all (focus_items (x ∷ ps)) s)))
      ∙ (λ z. push_all (group_items g b (m z) (x ∷ ps) (sp z)) (push_all (focus_items (x ∷ ps)) s))
      ∙ tabs-are (x ∷ ps) s
