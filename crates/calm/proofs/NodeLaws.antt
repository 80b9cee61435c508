-- Laws that the proof of the cycle cites, over plain values: a tile that ends the walk, a leaf, and a split's children one by one. Assumes nothing.
use mathlib.Core.Path.{◌≡◌, refl, sym, ap, subst, ◌∙◌}
use mathlib.Core.Bool.{Bool, true, false, ◌&&◌, cond}
use mathlib.Core.List.{List, [], ◌∷◌, map}
use mathlib.Core.Option.{Option, none, some}
use Rattle.std.specs.Prelude.{Result, Ok, Err}
use Prim.Native.Nat.{ℕ, zero, suc, ◌+◌, ◌-◌, ◌*◌, ◌≤◌, ◌<◌}
use native.Mathlib.Numerals.{add-one}
use native.Mathlib.Omega.{arith}
use borrow.Author.Tests.{le-leb, lt-leb}
use lib.Dec.{leb}
use lib.ListN.{length, take, drop, get_or, set, length-set, drop_of_length-le, length-map}
use lib.Seq.{drop-cons, length-take-le, get_or-take}
use lib.Ieee.{Float}
use Rattle.rules.specs.Numbers.{zero-f}
use Rattle.rules.specs.Shares.{repaired_shares, eq_reals}
use Rattle.rules.specs.Minima.{aligned_constraints, compact_constraints}
use Rattle.rules.specs.Tree.{Node, node_at, tile}
use Rattle.rules.specs.Repair.{Entry, entry, entries, melts}
use Rattle.rules.specs.declared.model.TileId.{TileId}
use Rattle.rules.specs.declared.model.Axis.{Axis}
use Rattle.forest.specs.Lists.{free, free-set}
use Rattle.forest.specs.Still.{none_lost}
use Rattle.forest.specs.Lengths.{aligned-length}
use Rattle.normalize.proofs.WalkLaws.{entries_at, entries-long}
use Rattle.calm.specs.Calm.{Look, look, taking, calm_panes, seeing, calm_group, unmelted, calm_kids, calm_split, calm_node, calm_tile, calm, calm_end}
use Rattle.calm.specs.Reads.{looked, Sights, Groups, Reads, lists_calm}
use Rattle.calm.proofs.Laws.{looked-seen}
use Rattle.calm.proofs.ListLaws.{shares-long, melts-same}

-- ---- a tile that ends the walk

module _ (ns : List Node) (i : ℕ) (cs : List Bool) (s : List ℕ) where
  pub calm-zero : (d : ℕ) → d ≡ 0 → none ≡ calm d ns (tile i) (look cs s)
  unfolding calm
  calm-zero d e = ap (λ (k : ℕ). calm k ns (tile i) (look cs s)) (sym e)

  pub calm-out : 64 ≤ i → (d : ℕ) → none ≡ calm d ns (tile i) (look cs s)
  unfolding calm calm_tile
  calm-out h zero = refl
  calm-out h (suc d) = ap (λ (b : Bool). cond b none (cond (get_or cs i false) none (calm_node (node_at ns (tile i)) (calm d ns) ns (taking (tile i) (look cs s))))) (sym (le-leb 64 i h))

  pub calm-claimed : i < 64 → get_or cs i false ≡ true → (d : ℕ) → none ≡ calm d ns (tile i) (look cs s)
  unfolding calm calm_tile
  calm-claimed h e zero = refl
  calm-claimed h e (suc d) = (λ z. cond (sym (lt-leb 64 i h) z) none (cond (sym e z) none (calm_node (node_at ns (tile i)) (calm d ns) ns (taking (tile i) (look cs s)))))

  -- a slot that is read
  pub calm-at : i < 64 → get_or cs i false ≡ false → (n : Node) → node_at ns (tile i) ≡ n → (d : ℕ) → 0 < d → calm_node n (calm (d - 1) ns) ns (taking (tile i) (look cs s)) ≡ calm d ns (tile i) (look cs s)
  unfolding calm calm_tile
  calm-at h e n q zero p = absurd (omega arith)
  calm-at h e n q (suc d) p =
      (λ z. calm_node (sym q z) (calm (less z) ns) ns (taking (tile i) (look cs s)))
      ∙ (λ z. cond (sym (lt-leb 64 i h) z) none (cond (sym e z) none (calm_node (node_at ns (tile i)) (calm d ns) ns (taking (tile i) (look cs s)))))
    where
      less : suc d - 1 ≡ d
      less = omega arith

-- the walk ends with m panes seen, and what they are is no more asked
pub ends : (o : Option Look) (cs cs' : List Bool) (n : ℕ) (seen' : List ℕ) (m : ℕ) → none ≡ o → length cs' ≡ 64 → m + 16 * free cs' ≤ n + 16 * free cs → Reads o cs n cs' seen' (Err m)
ends o cs cs' n seen' m e l h = record { flags = l; room = h; right = e }

-- ---- a slot claimed, and what is read in it

module _ (cs : List Bool) (i : ℕ) (long : length cs ≡ 64) (inside : i < 64) (open-yet : get_or cs i false ≡ false) (seen : List ℕ) (n : ℕ) where
  abbrev cs' : List Bool
  cs' = set cs i true

  pub one_less : free cs ≡ suc (free cs')
  one_less = free-set cs i (omega (arith, long)) open-yet

  pub long' : length cs' ≡ 64
  long' = length-set cs i true ∙ long

  pub pane-read : (p : ℕ) (seen' : List ℕ) (r : Result ℕ ℕ) → Sights (p ∷ []) seen n seen' r → (o : Option Look) → seeing cs' (calm_panes (p ∷ []) (take n seen)) ≡ o → Reads o cs n cs' seen' r
  pane-read p seen' r S o e =
      record { flags = long'; room = omega (arith, S.most, one_less); right = looked-seen cs' seen' r ∙ ap (seeing cs') S.right ∙ e }

  pub group-read : (h row : List ℕ) (seen' : List ℕ) (r : Result ℕ ℕ) → Groups h row seen n seen' r → (o : Option Look) → calm_group (get_or h 3 0) (take (get_or h 4 0) row) (look cs' (take n seen)) ≡ o → Reads o cs n cs' seen' r
  group-read h row seen' r G o e = record { flags = long'; room = omega (arith, G.most, one_less); right = G.right cs' ∙ e }

  pub split-read : (o : Option Look) (cs'' : List Bool) (seen' : List ℕ) (r : Result ℕ ℕ) → Reads o cs' n cs'' seen' r → (o' : Option Look) → o ≡ o' → Reads o' cs n cs'' seen' r
  split-read o cs'' seen' r R o' e = record { flags = R.flags; room = omega (arith, R.room, one_less); right = R.right ∙ e }

-- ---- a split's children, one by one

pub kids-none : (again : TileId → Look → Option Look) (ns : List Node) (a : Axis) (es : List Entry) → calm_kids again ns a es none ≡ none
unfolding calm_kids
kids-none again ns a [] = refl
kids-none again ns a (e ∷ es) = kids-none again ns a es

-- the first j were read, with m panes seen
pub record Going (again : TileId → Look → Option Look) (ns : List Node) (a : Axis) (es : List Entry) (cs₀ : List Bool) (seen₀ : List ℕ) (n : ℕ) (cs : List Bool) (seen : List ℕ) (m j : ℕ) : Type 0 where
  pub few : j ≤ length es
  pub flags : length cs ≡ 64
  pub room : m + 16 * free cs ≤ n + 16 * free cs₀
  pub left : calm_kids again ns a (drop j es) (some (look cs (take m seen))) ≡ calm_kids again ns a es (some (look cs₀ (take n seen₀)))

module _ (again : TileId → Look → Option Look) (ns : List Node) (a : Axis) (es : List Entry) (cs₀ : List Bool) (seen₀ : List ℕ) (n : ℕ) where
  pub going-none : length cs₀ ≡ 64 → Going again ns a es cs₀ seen₀ n cs₀ seen₀ n 0
  going-none l = record { few = omega arith; flags = l; room = omega arith; left = refl }

  abbrev whole : Option Look
  whole = calm_kids again ns a es (some (look cs₀ (take n seen₀)))

  module _ (cs : List Bool) (seen : List ℕ) (m j : ℕ) (G : Going again ns a es cs₀ seen₀ n cs seen m j) where
    module _ (d : Entry) (h : j < length es) (child : ℕ) (share minimum : Float) (at : get_or es j d ≡ entry (tile child) share minimum) (cs' : List Bool) (seen' : List ℕ) where
      step : (r : Result ℕ ℕ) → Reads (again (tile child) (look cs (take m seen))) cs m cs' seen' r
          → whole ≡ calm_kids again ns a (drop (j + 1) es) (unmelted ns a (entry (tile child) share minimum) (looked r cs' seen'))
      unfolding calm_kids
      step r R =
          sym G.left ∙ ap (λ (x : List Entry). calm_kids again ns a x (some (look cs (take m seen)))) (drop-cons es j d h ∙ (λ z. at z ∷ drop (sym (add-one j) z) es))
          ∙ ap (λ (o : Option Look). calm_kids again ns a (drop (j + 1) es) (unmelted ns a (entry (tile child) share minimum) o)) (sym R.right)

      pub going-stop : (k : ℕ) → Reads (again (tile child) (look cs (take m seen))) cs m cs' seen' (Err k) → none ≡ whole
      going-stop k R = sym (step (Err k) R ∙ kids-none again ns a (drop (j + 1) es))

      module _ (k : ℕ) (R : Reads (again (tile child) (look cs (take m seen))) cs m cs' seen' (Ok k)) where
        kept : (b : Bool) → melts a minimum (node_at ns (tile child)) ≡ b → whole ≡ calm_kids again ns a (drop (j + 1) es) (cond b none (some (look cs' (take k seen'))))
        kept b q = step (Ok k) R ∙ ap (λ (c : Bool). calm_kids again ns a (drop (j + 1) es) (cond c none (some (look cs' (take k seen'))))) q

        pub going-melts : melts a minimum (node_at ns (tile child)) ≡ true → none ≡ whole
        going-melts q = sym (kept true q ∙ kids-none again ns a (drop (j + 1) es))

        pub going_more : melts a minimum (node_at ns (tile child)) ≡ false → Going again ns a es cs₀ seen₀ n cs' seen' k (j + 1)
        going_more q = record { few = omega arith; flags = R.flags; room = omega (arith, R.room, G.room); left = sym (kept false q) }

    pub going_done : length es ≤ j → some (look cs (take m seen)) ≡ whole
    unfolding calm_kids
    going_done h = sym (ap (λ (x : List Entry). calm_kids again ns a x (some (look cs (take m seen)))) (drop_of_length-le es h)) ∙ G.left

-- ---- a split, from its slot's rows

-- its children, as entries
abbrev pub kids : List ℕ → List ℕ → List Float → List Float → List Entry
kids h xs ss ms =
    entries (map tile (take (get_or h 4 0) xs)) (repaired_shares (get_or h 4 0) (take (get_or h 5 0) ss)) (aligned_constraints (get_or h 4 0) (take (get_or h 6 0) ms))

module _ (again : TileId → Look → Option Look) (ns : List Node) (a : Axis) (h xs : List ℕ) (ss ms : List Float) (few : get_or h 4 0 ≤ 16) (all-there : length xs ≡ 16) where
  abbrev count : ℕ
  count = get_or h 4 0

  abbrev by : List Float
  by = take (get_or h 5 0) ss

  abbrev least : List Float
  least = take (get_or h 6 0) ms

  abbrev children : List Entry
  children = kids h xs ss ms

  long : length (take count xs) ≡ count
  long = length-take-le count xs (omega arith)

  three : (b1 b2 b3 : Bool) (o : Option Look) → cond b1 (cond b2 (cond b3 o none) none) none ≡ cond (b3 && (b1 && b2)) o none
  three true true true o = refl
  three true true false o = refl
  three true false true o = refl
  three true false false o = refl
  three false b2 true o = refl
  three false b2 false o = refl

  module _ (cs₀ : List Bool) (seen₀ : List ℕ) (n : ℕ) (b : Bool) (told : b ≡ lists_calm count by least) where
    abbrev l₀ : Look
    l₀ = look cs₀ (take n seen₀)

    abbrev split-whole : Option Look
    split-whole = calm_split again ns a (map tile (take count xs)) by least l₀

    opened : split-whole ≡ cond b (calm_kids again ns a children (some l₀)) none
    opened =
        ap (λ (k : ℕ). cond (eq_reals (repaired_shares k by) by) (cond (eq_reals (compact_constraints (aligned_constraints k least)) least) (cond (leb 2 k) (calm_kids again ns a (entries (map tile (take count xs)) (repaired_shares k by) (aligned_constraints k least)) (some l₀)) none) none) none) (length-map (take count xs) tile ∙ long)
        ∙ three (eq_reals (repaired_shares count by) by) (eq_reals (compact_constraints (aligned_constraints count least)) least) (leb 2 count) (calm_kids again ns a children (some l₀))
        ∙ ap (λ (q : Bool). cond q (calm_kids again ns a children (some l₀)) none) (sym told)

    pub split-mends : b ≡ false → none ≡ split-whole
    split-mends e = sym (opened ∙ ap (λ (q : Bool). cond q (calm_kids again ns a children (some l₀)) none) e)

    module _ (yes : b ≡ true) where
      all : calm_kids again ns a children (some l₀) ≡ split-whole
      all = sym (opened ∙ ap (λ (q : Bool). cond q (calm_kids again ns a children (some l₀)) none) yes)

      calm-lists : lists_calm count by least ≡ true
      calm-lists = sym told ∙ yes

      same-shares : length (repaired_shares count by) ≡ length (take count xs)
      same-shares = shares-long count by least calm-lists ∙ sym long

      same-minima : length (aligned_constraints count least) ≡ length (take count xs)
      same-minima = aligned-length count least ∙ sym long

      kids-long : length children ≡ count
      kids-long = entries-long (take count xs) (repaired_shares count by) (aligned_constraints count least) same-shares same-minima ∙ long

      module _ (cs : List Bool) (seen : List ℕ) (m j : ℕ) (G : Going again ns a children cs₀ seen₀ n cs seen m j) where
        module _ (inside : j < count) (cs' : List Bool) (seen' : List ℕ) where
          abbrev child : ℕ
          child = get_or xs j 0

          abbrev share : Float
          share = get_or (repaired_shares count by) j zero-f

          abbrev minimum : Float
          minimum = get_or (aligned_constraints count least) j zero-f

          abbrev none-there : Entry
          none-there = entry (tile 0) zero-f zero-f

          at : get_or children j none-there ≡ entry (tile child) share minimum
          at =
              entries_at (take count xs) (repaired_shares count by) (aligned_constraints count least) j none-there (omega (arith, long)) same-shares same-minima
              ∙ ap (λ (c : ℕ). entry (tile c) share minimum) (get_or-take count xs j 0 inside)

          more : j < length children
          more = omega (arith, kids-long)

          pub kid-stops : (k : ℕ) → Reads (again (tile child) (look cs (take m seen))) cs m cs' seen' (Err k) → (r : Result ℕ ℕ) → r ≡ Err k → Reads split-whole cs₀ n cs' seen' r
          kid-stops k W r e = subst (λ (r : Result ℕ ℕ). Reads split-whole cs₀ n cs' seen' r) (sym e) (ends split-whole cs₀ cs' n seen' k (going-stop again ns a children cs₀ seen₀ n cs seen m j G none-there more child share minimum at cs' seen' k W ∙ all) W.flags (omega (arith, W.room, G.room)))

          module _ (k : ℕ) (W : Reads (again (tile child) (look cs (take m seen))) cs m cs' seen' (Ok k)) (x : Float) (is : x ≡ get_or least j zero-f) (t : Bool) (melting : t ≡ melts a x (node_at ns (tile child))) where
            melts-is : melts a minimum (node_at ns (tile child)) ≡ t
            melts-is = sym (melting ∙ ap (λ (y : Float). melts a y (node_at ns (tile child))) is ∙ melts-same a count by least calm-lists j inside (node_at ns (tile child)))

            pub kid-melts : t ≡ true → Reads split-whole cs₀ n cs' seen' (Err k)
            kid-melts e = ends split-whole cs₀ cs' n seen' k (going-melts again ns a children cs₀ seen₀ n cs seen m j G none-there more child share minimum at cs' seen' k W (melts-is ∙ e) ∙ all) W.flags (omega (arith, W.room, G.room))

            pub kid-stays : t ≡ false → Going again ns a children cs₀ seen₀ n cs' seen' k (j + 1)
            kid-stays e = going_more again ns a children cs₀ seen₀ n cs seen m j G none-there more child share minimum at cs' seen' k W (melts-is ∙ e)

        pub kids-done : count ≤ j → Reads split-whole cs₀ n cs seen (Ok m)
        kids-done h = record { flags = G.flags; room = G.room; right = going_done again ns a children cs₀ seen₀ n cs seen m j G (omega (arith, kids-long)) ∙ all }

-- ---- the end

module _ (ns : List Node) (o : Option Look) (cs : List Bool) (seen : List ℕ) where
  pub end-early : none ≡ o → false ≡ calm_end ns o
  end-early e = ap (calm_end ns) e

  pub end-told : (l : Look) → some l ≡ o → (r : Bool) → r ≡ none_lost l.claimed ns → r ≡ calm_end ns o
  end-told l e r n = n ∙ ap (calm_end ns) e
