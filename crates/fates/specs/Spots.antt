-- Laws that the theorems about panes need: members of lists with an entry put in, taken out or set; slots with one set; the slots that new tiles take; and
-- where a pane or a tile's split is found. Assumes nothing.
use Rattle.std.specs.Prelude.{◌≡◌, ◌≢◌, ◌⊎◌, Bool, true, false, eqb, length, get_or, set}
use Rattle.std.proofs.Math.Path.{refl}
use Rattle.std.proofs.Common.{sym, ap, subst, ◌∙◌, arith, not-suc-le-zero, le_of_suc-le-suc, eqb-true}
use Rattle.std.proofs.Math.Logic.{inl, inr}
use mathlib.Core.List.{List, [], ◌∷◌}
use Rattle.std.proofs.Math.Option.{Option, none, some}
use Prim.Native.Nat.{ℕ, zero, suc, ◌≤◌, ◌<◌}
use Rattle.rules.specs.Lists.{insert_at, remove_at, position}
use Rattle.rules.specs.Tree.{Node, empty, pane, tabs, split, node_at, is_empty, kids_of, panes_of, empty_by, empty_from, empty_slots, same_tile, Member}
use Rattle.rules.specs.Target.{PaneLocation, nowhere, in_tile, in_tabs, tile_has, tabs_have, located, locate, Parent, parent_by, seek_parent}
use Rattle.rules.specs.declared.model.TileId.{TileId}
use Rattle.rules.specs.declared.model.TabBarPlacement.{TabBarPlacement}
use Rattle.lists.specs.Find.{position-found}
use Rattle.forest.specs.Lists.{All, Distinct, all_map, all_get_d, member-all}
use Rattle.forest.specs.Soundness.{slots-inside}
use Rattle.nodes.specs.Find.{is_split, Stands}

-- ---- members of a list with an entry put in, taken out or set

module _ {A : Type 0} where
  pub insert-has : (k : ℕ) (x : A) (ys : List A) → Member x (insert_at k x ys)
  unfolding insert_at
  insert-has zero x ys = inl refl
  insert-has (suc k) x [] = inl refl
  insert-has (suc k) x (y ∷ ys) = inr (insert-has k x ys)

  pub insert-keeps : (k : ℕ) (x : A) (ys : List A) (z : A) → Member z ys → Member z (insert_at k x ys)
  unfolding insert_at
  insert-keeps zero x ys z m = inr m
  insert-keeps (suc k) x [] z m = absurd m
  insert-keeps (suc k) x (y ∷ ys) z (inl e) = inl e
  insert-keeps (suc k) x (y ∷ ys) z (inr m) = inr (insert-keeps k x ys z m)

  pub insert-from : (k : ℕ) (x : A) (ys : List A) (z : A) → Member z (insert_at k x ys) → (z ≡ x) ⊎ Member z ys
  unfolding insert_at
  insert-from zero x ys z m = m
  insert-from (suc k) x [] z m = m
  insert-from (suc k) x (y ∷ ys) z (inl e) = inr (inl e)
  insert-from (suc k) x (y ∷ ys) z (inr m) = go (insert-from k x ys z m)
    where
      go : (z ≡ x) ⊎ Member z ys → (z ≡ x) ⊎ Member z (y ∷ ys)
      go (inl e) = inl e
      go (inr n) = inr (inr n)

  pub remove-from : (k : ℕ) (ys : List A) (z : A) → Member z (remove_at k ys) → Member z ys
  unfolding remove_at
  remove-from k [] z m = m
  remove-from zero (y ∷ ys) z m = inr m
  remove-from (suc k) (y ∷ ys) z (inl e) = inl e
  remove-from (suc k) (y ∷ ys) z (inr m) = inr (remove-from k ys z m)

  pub remove-keeps : (k : ℕ) (ys : List A) (d z : A) → z ≢ get_or ys k d → Member z ys → Member z (remove_at k ys)
  unfolding remove_at
  remove-keeps k [] d z n m = m
  remove-keeps zero (y ∷ ys) d z n (inl e) = absurd (n e)
  remove-keeps zero (y ∷ ys) d z n (inr m) = m
  remove-keeps (suc k) (y ∷ ys) d z n (inl e) = inl e
  remove-keeps (suc k) (y ∷ ys) d z n (inr m) = inr (remove-keeps k ys d z n m)

  pub place-has : (k : ℕ) (ys : List A) (d : A) → k < length ys → Member (get_or ys k d) ys
  place-has k [] d h = absurd (not-suc-le-zero h)
  place-has zero (y ∷ ys) d h = inl refl
  place-has (suc k) (y ∷ ys) d h = inr (place-has k ys d (le_of_suc-le-suc h))

  pub set-has : (k : ℕ) (x : A) (ys : List A) → k < length ys → Member x (set ys k x)
  set-has k x [] h = absurd (not-suc-le-zero h)
  set-has zero x (y ∷ ys) h = inl refl
  set-has (suc k) x (y ∷ ys) h = inr (set-has k x ys (le_of_suc-le-suc h))

  -- what was there is there still, but for the entry in whose place another was set
  pub set_keeps : (k : ℕ) (x : A) (ys : List A) (d z : A) → Member z ys → (z ≡ get_or ys k d) ⊎ Member z (set ys k x)
  set_keeps k x [] d z m = absurd m
  set_keeps zero x (y ∷ ys) d z (inl e) = inl e
  set_keeps zero x (y ∷ ys) d z (inr m) = inr (inr m)
  set_keeps (suc k) x (y ∷ ys) d z (inl e) = inr (inl e)
  set_keeps (suc k) x (y ∷ ys) d z (inr m) = go (set_keeps k x ys d z m)
    where
      go : (z ≡ get_or ys k d) ⊎ Member z (set ys k x) → (z ≡ get_or ys k d) ⊎ Member z (y ∷ set ys k x)
      go (inl e) = inl e
      go (inr n) = inr (inr n)

-- what is taken out of a distinct list is gone
pub remove-gone : {A : Type 0} (k : ℕ) (ys : List ℕ) (d : ℕ) → k < length ys → Distinct ys → Member (get_or ys k d) (remove_at k ys) → A
unfolding remove_at
remove-gone k [] d h D m = absurd m
remove-gone zero (y ∷ ys) d h D m = absurd (member-all (λ z. z ≢ y) y ys m D.0 refl)
remove-gone (suc k) (y ∷ ys) d h D (inl e) = absurd (member-all (λ z. z ≢ y) (get_or ys k d) ys (place-has k ys d (le_of_suc-le-suc h)) D.0 e)
remove-gone (suc k) (y ∷ ys) d h D (inr m) = remove-gone k ys d (le_of_suc-le-suc h) D.1 m

-- ---- a slot set: a fact of every slot stays one where it passes to the new node, and was one where it passes back

module _ (P : Node → Type 0) where
  pub set-passes : (ns : List Node) (j : ℕ) (n : Node) → (P (get_or ns j empty) → P n) → (i : ℕ) → P (get_or ns i empty) → P (get_or (set ns j n) i empty)
  set-passes [] j n f i p = p
  set-passes (x ∷ ns) zero n f zero p = f p
  set-passes (x ∷ ns) zero n f (suc i) p = p
  set-passes (x ∷ ns) (suc j) n f zero p = p
  set-passes (x ∷ ns) (suc j) n f (suc i) p = set-passes ns j n f i p

  pub set-came : (ns : List Node) (j : ℕ) (n : Node) → (P n → P (get_or ns j empty)) → (i : ℕ) → P (get_or (set ns j n) i empty) → P (get_or ns i empty)
  set-came [] j n f i p = p
  set-came (x ∷ ns) zero n f zero p = f p
  set-came (x ∷ ns) zero n f (suc i) p = p
  set-came (x ∷ ns) (suc j) n f zero p = p
  set-came (x ∷ ns) (suc j) n f (suc i) p = set-came ns j n f i p

-- what is read of every slot stays, where the new node reads as the old one
pub set-like : {B : Type 0} (f : Node → B) (ns : List Node) (j : ℕ) (n : Node) → f n ≡ f (get_or ns j empty) → (i : ℕ) → f (get_or (set ns j n) i empty) ≡ f (get_or ns i empty)
set-like f [] j n e i = refl
set-like f (x ∷ ns) zero n e zero = e
set-like f (x ∷ ns) zero n e (suc i) = refl
set-like f (x ∷ ns) (suc j) n e zero = refl
set-like f (x ∷ ns) (suc j) n e (suc i) = set-like f ns j n e i

-- ---- the slots that new tiles take: slots, and no two the same

empties-by : (b : Bool) (k : ℕ) (rest : List ℕ) → Distinct rest → All (λ i. suc k ≤ i) rest → Distinct (empty_by b k rest) × All (λ i. k ≤ i) (empty_by b k rest)
empties-by true k rest d a = ((all_map (λ i h e. absurd (omega arith)) rest a, d), (omega arith, all_map (λ i h. omega arith) rest a))
empties-by false k rest d a = (d, all_map (λ i h. omega arith) rest a)

empties-apart : (ns : List Node) (k : ℕ) → Distinct (empty_from k ns) × All (λ i. k ≤ i) (empty_from k ns)
unfolding empty_from
empties-apart [] k = (tt, tt)
empties-apart (n ∷ ns) k = let (d, a) = empties-apart ns (suc k) in empties-by (is_empty n) k (empty_from (suc k) ns) d a

two-apart : (l : List ℕ) (d : ℕ) → 1 < length l → Distinct l → get_or l 0 d ≢ get_or l 1 d
two-apart [] d h D e = absurd (omega arith)
two-apart (x ∷ []) d h D e = absurd (omega arith)
two-apart (x ∷ y ∷ l) d h D e = D.0.0 (sym e)

module _ (ns : List Node) (size : length ns ≡ 64) where
  pub taken-inside : (k : ℕ) → k < length (empty_slots ns) → get_or (empty_slots ns) k 64 < 64
  taken-inside k h = all_get_d (λ i. i < 64) (empty_slots ns) 64 k h (slots-inside ns size)

  pub taken-apart : 1 < length (empty_slots ns) → get_or (empty_slots ns) 0 64 ≢ get_or (empty_slots ns) 1 64
  taken-apart h = two-apart (empty_slots ns) 64 h (empties-apart ns 0).0

-- ---- where a pane is found it stands

abbrev pub At : List Node → ℕ → PaneLocation → Type 0
At ns p nowhere = Unit {0}
At ns p (in_tile t) = node_at ns t ≡ pane p
At ns p (in_tabs g k) = (b : TabBarPlacement) × (a : ℕ) × (ps : List ℕ) × (node_at ns g ≡ tabs b a ps) × (k < length ps) × (get_or ps k 0 ≡ p)

module _ (ns : List Node) (p : ℕ) where
  located-at : (n : Node) (x : TileId) (next : PaneLocation) → node_at ns x ≡ n → At ns p next → At ns p (located n p x next)
  located-at empty x next is h = h
  located-at (pane q) x next is h = go (eqb p q) refl
    where
      go : (c : Bool) → eqb p q ≡ c → At ns p (tile_has c x next)
      go true e = is ∙ ap pane (sym (eqb-true p q e))
      go false e = h
  located-at (tabs b a qs) x next is h = go (position (eqb p) qs) refl
    where
      go : (o : Option ℕ) → position (eqb p) qs ≡ o → At ns p (tabs_have o x next)
      go (some k) e = let (l, t) = position-found (eqb p) qs k 0 e in (b, a, qs, is, l, sym (eqb-true p (get_or qs k 0) t))
      go none e = h
  located-at (split a cs ss ms) x next is h = h

  pub located-stands : (xs : List TileId) → At ns p (locate ns p xs)
  unfolding locate
  located-stands [] = tt
  located-stands (x ∷ xs) = located-at (node_at ns x) x (locate ns p xs) refl (located-stands xs)

  pub at-stands : (l : PaneLocation) → At ns p l → Stands ns l
  at-stands nowhere h = tt
  at-stands (in_tile t) h = ap is_split h
  at-stands (in_tabs g k) (b, a, ps, is, h, e) = (ap is_split is, subst (λ (n : Node). k < length (panes_of n)) (sym is) h)

-- ---- the split that is found has the tile at the place that is found

pub parent-has : (ns : List Node) (t : TileId) (xs : List TileId) (q : Parent) → seek_parent ns t xs ≡ some q → position (same_tile t) (kids_of (node_at ns q.split)) ≡ some q.index
unfolding seek_parent
parent-has ns t [] q e = absurd (let z : ◌≡◌ {A = ℕ} 0 1 = cc in omega arith)
parent-has ns t (x ∷ xs) q e = go (position (same_tile t) (kids_of (node_at ns x))) refl (λ w. parent-has ns t xs q w) e
  where
    go : (o : Option ℕ) → position (same_tile t) (kids_of (node_at ns x)) ≡ o → (seek_parent ns t xs ≡ some q → position (same_tile t) (kids_of (node_at ns q.split)) ≡ some q.index)
        → parent_by o x (seek_parent ns t xs) ≡ some q → position (same_tile t) (kids_of (node_at ns q.split)) ≡ some q.index
    go (some k) w ih z =
        let y : record { split = x; index = k } ≡ q = cc in
        subst (λ (r : Parent). position (same_tile t) (kids_of (node_at ns r.split)) ≡ some r.index) y w
    go none w ih z = ih z
