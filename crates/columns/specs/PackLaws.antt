-- Laws of the columns made from slots and back, of the sweep, the lowest empty slot and the report, over plain values. Assumes nothing.
use Rattle.std.specs.Prelude.{◌≡◌, refl, Bool, not, ◌||◌, ◌&&◌, ℕ, zero, suc, ◌+◌, ◌≤◌, ◌<◌, eqb, ltb, Float, take, drop, get_or, set, replicate}
use Rattle.std.proofs.Common.{sym, ap, subst, ◌∙◌, arith, not-suc-le-zero, le_of_suc-le-suc, add-one, ne_eqb, eq-eqb, length-set, take-suc, take-suc-set, take_all, drop-cons, drop-drop, drop-set-lt}
use Rattle.std.proofs.Math.Bool.{true, false}
use mathlib.Core.List.{List, [], ◌∷◌, ◌++◌, map}
use Rattle.std.proofs.Math.Seq.{set-get_or}
use Rattle.std.proofs.lemmas.Bool.{not-true, not-false}
use Rattle.std.proofs.Math.ListN.{length, drop_of_length-le}
use Rattle.std.proofs.lemmas.List.{length-map, length-replicate}
use Rattle.rules.specs.Lists.{any_of}
use Rattle.rules.specs.Tree.{Node, empty, tile, node_of, view_slot, over_by, over_slot, bar_code, axis_code, is_empty, empty_by, empty_from, empty_slots}
use Rattle.rules.specs.Repair.{added_if, sweep_by, sweep_note}
use Rattle.rules.specs.declared.model.TileId.{TileId}
use Rattle.rules.specs.declared.model.Axis.{Axis}
use Rattle.rules.specs.declared.model.Axis.TheVariants.{Horizontal, Vertical}
use Rattle.rules.specs.declared.model.TabBarPlacement.{TabBarPlacement}
use Rattle.rules.specs.declared.model.TabBarPlacement.TheVariants.{Hidden, Top, Bottom, Left, Right}
use Rattle.rules.specs.declared.model.Kind.{Kind}
use Rattle.rules.specs.declared.model.Kind.TheVariants.{Empty, Pane, Tabs, Split}
use Rattle.rules.specs.declared.model.Slot.{Slot}
use Rattle.rules.specs.declared.model.RepairAction.{RepairAction}
use Rattle.rules.specs.declared.model.RepairAction.TheVariants.{RemovedInvalidNode, RepairedActiveTab, RepairedShares, RepairedConstraints, CollapsedSplit, RemovedDuplicatePane}
use Rattle.forest.specs.Still.{none_lost}
use Rattle.forest.specs.Sweep.{swept_by, actions_by}
use Rattle.lists.specs.Tests.{Flagged, flagged-more}
use Rattle.columns.specs.Columns.{bar_from, axis_from, node_by, node_from, nodes_from, code_of, Lists, Noted, Slim}
use Rattle.columns.specs.Pack.{head_by, head_of, slot_of, ids_by, ids_of, shares_of, minima_of, swept_head, Sweeps, action_by, action_from, Unpacks, over_head, over_of, over_kind, first_of, NoneLost, Puts}
use Rattle.columns.specs.ColumnLaws.{nodes-long, nodes-at, split-of}
use Rattle.columns.specs.OverLaws.{over-split, any-alike}

-- ---- a loop that fills an array from the front with the entries of another list

module _ {A : Type 0} where
  -- l is as long as s, and its first n entries are those of s
  pub record Copied (s : List A) (n : ℕ) (l : List A) : Type 0 where
    pub long : length l ≡ length s
    pub front : take n l ≡ take n s

  pub copied_none : (s l : List A) → length l ≡ length s → Copied s 0 l
  copied_none s l e = record { long = e; front = refl }

  pub copied_more : (s l : List A) (i : ℕ) (d x : A) → Copied s i l → i < length s → x ≡ get_or s i d → Copied s (i + 1) (set l i x)
  copied_more s l i d x C lt e =
      record {
        long = length-set l i x ∙ C.long;
        front =
            rw add-one
            (take-suc-set l i x (omega (arith, C.long)) ∙ ap (λ (p : List A). p ++ (x ∷ [])) C.front ∙ ap (λ (y : A). take i s ++ (y ∷ [])) e
            ∙ sym (take-suc s i d lt));
      }

  pub copied_all : (s l : List A) (n : ℕ) → Copied s n l → length s ≤ n → l ≡ s
  copied_all s l n C le = sym (take_all n l (omega (arith, C.long))) ∙ C.front ∙ take_all n s le

-- the same of a list that is mapped
module _ {A B : Type 0} (f : A → B) where
  pub map-set : (l : List A) (i : ℕ) (x : A) → map f (set l i x) ≡ set (map f l) i (f x)
  map-set [] i x = refl
  map-set (a ∷ l) zero x = refl
  map-set (a ∷ l) (suc i) x = ap (λ (t : List B). f a ∷ t) (map-set l i x)

  pub get_d_map : (l : List A) (i : ℕ) (d : A) (e : B) → i < length l → get_or (map f l) i e ≡ f (get_or l i d)
  get_d_map [] i d e h = absurd (not-suc-le-zero h)
  get_d_map (a ∷ l) zero d e h = refl
  get_d_map (a ∷ l) (suc i) d e h = get_d_map l i d e (le_of_suc-le-suc h)

  module _ (s : List A) (n : ℕ) (size : length s ≡ n) where
    pub mapped-none : (l : List B) → length l ≡ n → Copied (map f s) 0 l
    mapped-none l e = copied_none (map f s) l (e ∙ sym (length-map s f ∙ size))

    pub mapped-more : (l : List B) (i : ℕ) (d : A) (e x : B) → Copied (map f s) i l → i < n → x ≡ f (get_or s i d) → Copied (map f s) (i + 1) (set l i x)
    mapped-more l i d e x C lt q =
        copied_more (map f s) l i e x C (omega (arith, length-map s f)) (q ∙ sym (get_d_map s i d e (omega arith)))

    pub mapped-all : (l : List B) (i : ℕ) → Copied (map f s) i l → n ≤ i → l ≡ map f s
    mapped-all l i C le = copied_all (map f s) l i C (omega (arith, length-map s f))

-- ---- a search that has not ended

module _ {A : Type 0} (t : A → Bool) (xs : List A) (i : ℕ) (d : A) (h : i < length xs) where
  pub not_yet : t (get_or xs i d) ≡ false → Flagged t xs i false → Flagged t xs (i + 1) false
  not_yet e w = subst (λ (b : Bool). Flagged t xs (i + 1) b) e (flagged-more t xs i d false h w)

  pub found : t (get_or xs i d) ≡ true → Flagged t xs i false → true ≡ any_of t xs
  found e w = subst (λ (b : Bool). Flagged t xs (i + 1) b) e (flagged-more t xs i d false h w)

-- ---- slots to columns

pub bar-back : (b : TabBarPlacement) → bar_from (bar_code b) ≡ b
bar-back Hidden = refl
bar-back Top = refl
bar-back Bottom = refl
bar-back Left = refl
bar-back Right = refl

pub axis-back : (a : Axis) → axis_from (axis_code a) ≡ a
axis-back Horizontal = refl
axis-back Vertical = refl

-- a number past the last of them
pub axis-other : (n : ℕ) → (n ≡ 0 → ⊥) → Vertical ≡ axis_from n
axis-other zero h = absurd (h refl)
axis-other (suc n) h = refl

pub bar-other : (n : ℕ) → (n ≡ 0 → ⊥) → (n ≡ 1 → ⊥) → (n ≡ 2 → ⊥) → (n ≡ 3 → ⊥) → Right ≡ bar_from n
bar-other zero a b c d = absurd (a refl)
bar-other (suc zero) a b c d = absurd (b refl)
bar-other (suc (suc zero)) a b c d = absurd (c refl)
bar-other (suc (suc (suc zero))) a b c d = absurd (d refl)
bar-other (suc (suc (suc (suc n)))) a b c d = refl

tiles-back : (n : ℕ) (ts : List TileId) → map tile (take n (map slot_of ts)) ≡ take n ts
tiles-back zero ts = refl
tiles-back (suc n) [] = refl
tiles-back (suc n) (t ∷ ts) = ap (λ (l : List TileId). t ∷ l) (tiles-back n ts)

pub node-back : (k : Kind) (s : Slot) → node_from (head_by k s) (ids_by k s) (shares_of s) (minima_of s) ≡ node_of k s
node-back Empty s = refl
node-back (Pane p) s = refl
node-back (Tabs b) s = ap (λ (x : TabBarPlacement). Node.tabs x s.active (take s.panes.len s.panes.at)) (bar-back b)
node-back (Split a) s =
    λ z. Node.split (axis-back a z) (tiles-back s.children.len s.children.at z) (take s.shares.len s.shares.at) (take s.minima.len s.minima.at)

pub unpacked : (ss : List Slot) → nodes_from (map head_of ss) (map ids_of ss) (map shares_of ss) (map minima_of ss) ≡ map view_slot ss
unfolding nodes_from
unpacked [] = refl
unpacked (s ∷ ss) = λ z. node-back s.kind s z ∷ unpacked ss z

-- ---- columns to slots

pub tiles-take : (n : ℕ) (xs : List ℕ) → take n (map tile xs) ≡ map tile (take n xs)
tiles-take zero xs = refl
tiles-take (suc n) [] = refl
tiles-take (suc n) (x ∷ xs) = ap (λ (l : List TileId). tile x ∷ l) (tiles-take n xs)

-- the slot that is made shows its row, and has a list too long where the row has
module _ (s : Slot) (h xs : List ℕ) (ss ms : List Float) where
  abbrev pub Made : Type 0
  Made = (view_slot s ≡ node_from h xs ss ms) × (over_slot s ≡ over_of h)

  made_by : (k : ℕ) (x : Kind) → get_or h 0 0 ≡ k → s.kind ≡ x → node_of x s ≡ node_by k h xs ss ms → over_by x s ≡ over_kind k h → Made
  made_by k x e i v o =
      (ap (λ (y : Kind). node_of y s) i ∙ v ∙ ap (λ (n : ℕ). node_by n h xs ss ms) (sym e), ap (λ (y : Kind). over_by y s) i ∙ o ∙ ap (λ (n : ℕ). over_kind n h) (sym e))

  pub made-empty : get_or h 0 0 ≡ 0 → s.kind ≡ Empty → Made
  made-empty e i = made_by 0 Empty e i refl refl

  pub made-pane : get_or h 0 0 ≡ 1 → s.kind ≡ Pane (get_or h 2 0) → Made
  made-pane e i = made_by 1 (Pane (get_or h 2 0)) e i refl refl

  pub made-group : get_or h 0 0 ≡ 2 → (view_slot s ≡ Node.tabs (bar_from (get_or h 1 0)) (get_or h 3 0) (take (get_or h 4 0) xs)) × (over_slot s ≡ ltb 16 (get_or h 4 0)) → Made
  made-group e g = (g.0 ∙ ap (λ (n : ℕ). node_by n h xs ss ms) (sym e), g.1 ∙ ap (λ (n : ℕ). over_kind n h) (sym e))

  pub made-split : (get_or h 0 0 ≡ 0 → ⊥) → (get_or h 0 0 ≡ 1 → ⊥) → (get_or h 0 0 ≡ 2 → ⊥)
      → (view_slot s ≡ Node.split (axis_from (get_or h 1 0)) (map tile (take (get_or h 4 0) xs)) (take (get_or h 5 0) ss) (take (get_or h 6 0) ms)) × (over_slot s ≡ over_head h) → Made
  made-split z o t g = (g.0 ∙ sym (split-of (get_or h 0 0) h xs ss ms z o t), g.1 ∙ sym (over-split (get_or h 0 0) h z o t))

  -- a group and a split, from what their fields are
  pub group-made : (b : TabBarPlacement) → s.kind ≡ Tabs b → b ≡ bar_from (get_or h 1 0) → s.active ≡ get_or h 3 0 → s.panes.at ≡ xs → s.panes.len ≡ get_or h 4 0
      → (view_slot s ≡ Node.tabs (bar_from (get_or h 1 0)) (get_or h 3 0) (take (get_or h 4 0) xs)) × (over_slot s ≡ ltb 16 (get_or h 4 0))
  group-made b i e a x n = (
    ap (λ (y : Kind). node_of y s) i ∙ (λ z. Node.tabs (e z) (a z) (take (n z) (x z))),
    ap (λ (y : Kind). over_by y s) i ∙ ap (ltb 16) n,
  )

  pub split-made : (a : Axis) → s.kind ≡ Split a → a ≡ axis_from (get_or h 1 0) → s.children.at ≡ map tile xs → s.children.len ≡ get_or h 4 0
      → s.shares.at ≡ ss → s.shares.len ≡ get_or h 5 0 → s.minima.at ≡ ms → s.minima.len ≡ get_or h 6 0
      → (view_slot s ≡ Node.split (axis_from (get_or h 1 0)) (map tile (take (get_or h 4 0) xs)) (take (get_or h 5 0) ss) (take (get_or h 6 0) ms)) × (over_slot s ≡ over_head h)
  split-made a i e c n g p m q = (
    ap (λ (y : Kind). node_of y s) i ∙ (λ z. Node.split (e z) (take (n z) (c z)) (take (p z) (g z)) (take (q z) (m z)))
        ∙ ap (λ (l : List TileId). Node.split (axis_from (get_or h 1 0)) l (take (get_or h 5 0) ss) (take (get_or h 6 0) ms)) (tiles-take (get_or h 4 0) xs),
    ap (λ (y : Kind). over_by y s) i
        ∙ (λ z. ltb 16 (n z) || ltb 16 (p z) || ltb 16 (q z)),
  )

module _ (hs xs : List (List ℕ)) (ss ms : List (List Float)) where
  -- the first i slots are packed
  pub record Packing (i : ℕ) (a : List Slot) : Type 0 where
    pub within : i ≤ 64
    pub shown : Copied (nodes_from hs xs ss ms) i (map view_slot a)
    pub over : Copied (map over_of hs) i (map over_slot a)

  module _ (lh : length hs ≡ 64) (lx : length xs ≡ 64) (ls : length ss ≡ 64) (lm : length ms ≡ 64) where
    pub packing-start : (s : Slot) → Packing 0 (replicate 64 s)
    packing-start s =
        record {
          within = omega arith;
          shown =
              copied_none (nodes_from hs xs ss ms) (map view_slot (replicate 64 s))
              (length-map (replicate 64 s) view_slot ∙ length-replicate 64 s ∙ sym (nodes-long hs xs ss ms lh lx ls lm));
          over = mapped-none over_of hs 64 lh (map over_slot (replicate 64 s)) (length-map (replicate 64 s) over_slot ∙ length-replicate 64 s);
        }

    pub packing-more : (i : ℕ) (a : List Slot) (s : Slot) → Packing i a → i < 64
        → (view_slot s ≡ get_or (nodes_from hs xs ss ms) i empty) × (over_slot s ≡ over_of (get_or hs i [])) → Packing (i + 1) (set a i s)
    packing-more i a s P lt m =
        record {
          within = omega arith;
          shown =
              subst (λ (l : List Node). Copied (nodes_from hs xs ss ms) (i + 1) l) (sym (map-set view_slot a i s))
              (copied_more (nodes_from hs xs ss ms) (map view_slot a) i empty (view_slot s) P.shown (omega (arith, nodes-long hs xs ss ms lh lx ls lm)) m.0);
          over =
              subst (λ (l : List Bool). Copied (map over_of hs) (i + 1) l) (sym (map-set over_slot a i s))
              (mapped-more over_of hs 64 lh (map over_slot a) i [] false (over_slot s) P.over lt m.1);
        }

    -- the same, of a slot that shows its row
    pub packing-made : (i : ℕ) (a : List Slot) (s : Slot) → Packing i a → i < 64 → Made s (get_or hs i []) (get_or xs i []) (get_or ss i []) (get_or ms i [])
        → Packing (i + 1) (set a i s)
    packing-made i a s P lt m = packing-more i a s P lt (m.0 ∙ sym (nodes-at hs xs ss ms lh lx ls lm i), m.1)

    pub packing-all : (i : ℕ) (a : List Slot) → Packing i a → 64 ≤ i → (map view_slot a ≡ nodes_from hs xs ss ms) × (any_of over_slot a ≡ any_of over_of hs)
    packing-all i a P le = (
      copied_all (nodes_from hs xs ss ms) (map view_slot a) i P.shown (omega (arith, nodes-long hs xs ss ms lh lx ls lm)),
      any-alike over_slot over_of a hs (mapped-all over_of hs 64 lh (map over_slot a) i P.over le),
    )

-- ---- the sweep, over the heads alone: whether a slot is empty stands in its head

empty-by : (k : ℕ) (h xs : List ℕ) (ss ms : List Float) → is_empty (node_by k h xs ss ms) ≡ eqb k 0
empty-by zero h xs ss ms = refl
empty-by (suc zero) h xs ss ms = refl
empty-by (suc (suc zero)) h xs ss ms = refl
empty-by (suc (suc (suc n))) h xs ss ms = sym (ne_eqb (suc (suc (suc n))) 0 (λ e. omega arith))

abbrev pub swept_heads : List Bool → List (List ℕ) → List (List ℕ)
swept_heads [] hs = []
swept_heads (c ∷ cs) [] = []
swept_heads (c ∷ cs) (h ∷ hs) = swept_head c h ∷ swept_heads cs hs

abbrev pub listed_by : ℕ → List Bool → List (List ℕ) → List RepairAction → List RepairAction
listed_by i [] hs l = l
listed_by i (c ∷ cs) [] l = l
listed_by i (c ∷ cs) (h ∷ hs) l = listed_by (suc i) cs hs (sweep_note (c || eqb (get_or h 0 0) 0) i l)

swept-long : (cs : List Bool) (hs : List (List ℕ)) → length cs ≡ length hs → length (swept_heads cs hs) ≡ length hs
swept-long [] [] e = refl
swept-long [] (h ∷ hs) e = absurd (omega arith)
swept-long (c ∷ cs) [] e = refl
swept-long (c ∷ cs) (h ∷ hs) e = ap suc (swept-long cs hs (omega arith))

swept_at : (cs : List Bool) (hs : List (List ℕ)) (i : ℕ) → i < length cs → i < length hs → get_or (swept_heads cs hs) i [] ≡ swept_head (get_or cs i false) (get_or hs i [])
swept_at [] hs i p q = absurd (not-suc-le-zero p)
swept_at (c ∷ cs) [] i p q = absurd (not-suc-le-zero q)
swept_at (c ∷ cs) (h ∷ hs) zero p q = refl
swept_at (c ∷ cs) (h ∷ hs) (suc i) p q = swept_at cs hs i (le_of_suc-le-suc p) (le_of_suc-le-suc q)

slim-zero : Slim []
slim-zero = (omega arith, omega arith, omega arith)

slim-swept : (cs : List Bool) (hs : List (List ℕ)) → ((i : ℕ) → Slim (get_or hs i [])) → (i : ℕ) → Slim (get_or (swept_heads cs hs) i [])
slim-swept [] hs all i = slim-zero
slim-swept (c ∷ cs) [] all i = slim-zero
slim-swept (true ∷ cs) (h ∷ hs) all zero = all 0
slim-swept (false ∷ cs) (h ∷ hs) all zero = (omega arith, omega arith, omega arith)
slim-swept (c ∷ cs) (h ∷ hs) all (suc i) = slim-swept cs hs (λ j. all (suc j)) i

swept-one : (c : Bool) (h xs : List ℕ) (ss ms : List Float) → node_from (swept_head c h) xs ss ms ≡ sweep_by c (node_from h xs ss ms)
swept-one true h xs ss ms = refl
swept-one false h xs ss ms = refl

swept-nodes : (cs : List Bool) (hs xs : List (List ℕ)) (ss ms : List (List Float)) → length cs ≡ length hs → length xs ≡ length hs → length ss ≡ length hs → length ms ≡ length hs
    → nodes_from (swept_heads cs hs) xs ss ms ≡ swept_by cs (nodes_from hs xs ss ms)
unfolding nodes_from swept_by
swept-nodes [] [] xs ss ms p q r t = refl
swept-nodes [] (h ∷ hs) xs ss ms p q r t = absurd (omega arith)
swept-nodes (c ∷ cs) [] xs ss ms p q r t = refl
swept-nodes (c ∷ cs) (h ∷ hs) [] ss ms p q r t = absurd (omega arith)
swept-nodes (c ∷ cs) (h ∷ hs) (x ∷ xs) [] ms p q r t = absurd (omega arith)
swept-nodes (c ∷ cs) (h ∷ hs) (x ∷ xs) (s ∷ ss) [] p q r t = absurd (omega arith)
swept-nodes (c ∷ cs) (h ∷ hs) (x ∷ xs) (s ∷ ss) (m ∷ ms) p q r t =
    λ z. swept-one c h x s m z ∷ swept-nodes cs hs xs ss ms (omega arith) (omega arith) (omega arith) (omega arith) z

listed-nodes : (i : ℕ) (cs : List Bool) (hs xs : List (List ℕ)) (ss ms : List (List Float)) (l : List RepairAction) → length cs ≡ length hs → length xs ≡ length hs
    → length ss ≡ length hs → length ms ≡ length hs → listed_by i cs hs l ≡ actions_by i cs (nodes_from hs xs ss ms) l
unfolding nodes_from actions_by
listed-nodes i [] [] xs ss ms l p q r t = refl
listed-nodes i [] (h ∷ hs) xs ss ms l p q r t = absurd (omega arith)
listed-nodes i (c ∷ cs) [] xs ss ms l p q r t = refl
listed-nodes i (c ∷ cs) (h ∷ hs) [] ss ms l p q r t = absurd (omega arith)
listed-nodes i (c ∷ cs) (h ∷ hs) (x ∷ xs) [] ms l p q r t = absurd (omega arith)
listed-nodes i (c ∷ cs) (h ∷ hs) (x ∷ xs) (s ∷ ss) [] l p q r t = absurd (omega arith)
listed-nodes i (c ∷ cs) (h ∷ hs) (x ∷ xs) (s ∷ ss) (m ∷ ms) l p q r t =
    ap (λ (b : Bool). listed_by (suc i) cs hs (sweep_note (c || b) i l)) (sym (empty-by (get_or h 0 0) h x s m))
    ∙ listed-nodes (suc i) cs hs xs ss ms (sweep_note (c || is_empty (node_from h x s m)) i l) (omega arith) (omega arith) (omega arith) (omega arith)

note-as : (b : Bool) (i : ℕ) (l : List RepairAction) → added_if (not b) (RemovedInvalidNode (tile i)) l ≡ sweep_note b i l
note-as true i l = refl
note-as false i l = refl

at_drop : {A : Type 0} (l : List A) (i : ℕ) (d : A) → get_or (drop i l) 0 d ≡ get_or l i d
at_drop l zero d = refl
at_drop [] (suc i) d = refl
at_drop (x ∷ l) (suc i) d = at_drop l i d

module _ (hs₀ : List (List ℕ)) (cs : List Bool) (acts₀ : List (List ℕ)) (n : ℕ) where
  -- the sweep has got to i: the slots from there on are as they were, and what is left to list is listed from there on
  pub record Sweeping (hs acts : List (List ℕ)) (m i : ℕ) : Type 0 where
    pub within : i ≤ 64
    pub most : m ≤ n + i
    pub done : Copied (swept_heads cs hs₀) i hs
    pub left : drop i hs ≡ drop i hs₀
    pub rest : (l : List RepairAction) → Lists acts₀ n l → (k : List RepairAction) × Lists acts m k × (listed_by i (drop i cs) (drop i hs₀) k ≡ listed_by 0 cs hs₀ l)

  module _ (lh : length hs₀ ≡ 64) (lc : length cs ≡ 64) where
    pub sweeping-long : (hs acts : List (List ℕ)) (m i : ℕ) → Sweeping hs acts m i → length hs ≡ 64
    sweeping-long hs acts m i S = S.done.long ∙ swept-long cs hs₀ (omega arith) ∙ lh

    pub sweeping-none : Sweeping hs₀ acts₀ n 0
    sweeping-none =
        record {
          within = omega arith;
          most = omega arith;
          done = copied_none (swept_heads cs hs₀) hs₀ (sym (swept-long cs hs₀ (omega arith)));
          left = refl;
          rest = λ l L. (l, L, refl);
        }

    -- one slot further: `lost` says whether it is listed, `next` is its head after it
    pub sweeping-more : (hs acts : List (List ℕ)) (m i : ℕ) → Sweeping hs acts m i → i < 64
        → (lost : Bool) → lost ≡ not (get_or cs i false || eqb (get_or (get_or hs i []) 0 0) 0)
        → (acts' : List (List ℕ)) (m' : ℕ) → Noted lost (RemovedInvalidNode (tile i)) acts m acts' m'
        → (next : List ℕ) → next ≡ swept_head (get_or cs i false) (get_or hs i []) → Sweeping (set hs i next) acts' m' (i + 1)
    sweeping-more hs acts m i S lt lost el acts' m' N next en =
        let same : get_or hs i [] ≡ get_or hs₀ i [] = sym (at_drop hs i []) ∙ ap (λ (l : List (List ℕ)). get_or l 0 []) S.left ∙ at_drop hs₀ i [] in
        let b : Bool = get_or cs i false || eqb (get_or (get_or hs₀ i []) 0 0) 0 in
        let eb : lost ≡ not b = el ∙ ap (λ (h : List ℕ). not (get_or cs i false || eqb (get_or h 0 0) 0)) same in
        let long : length (swept_heads cs hs₀) ≡ 64 = swept-long cs hs₀ (omega arith) ∙ lh in
        record {
          within = omega arith;
          most = omega (arith, S.most, N.most);
          done =
              copied_more (swept_heads cs hs₀) hs i [] next S.done (omega arith)
              (en ∙ ap (swept_head (get_or cs i false)) same ∙ sym (swept_at cs hs₀ i (omega arith) (omega arith)));
          left =
              drop-set-lt (i + 1) hs i next (omega arith)
              ∙ sym (drop-drop 1 i hs) ∙ ap (λ (l : List (List ℕ)). drop 1 l) S.left ∙ drop-drop 1 i hs₀;
          rest = λ l L. let g = S.rest l L in (
            added_if lost (RemovedInvalidNode (tile i)) g.0,
            N.lists g.0 g.1,
            ap (λ (j : ℕ). listed_by j (drop j cs) (drop j hs₀) (added_if lost (RemovedInvalidNode (tile i)) g.0)) (add-one i)
                ∙ ap (λ (k : List RepairAction). listed_by (suc i) (drop (suc i) cs) (drop (suc i) hs₀) k)
                (ap (λ (y : Bool). added_if y (RemovedInvalidNode (tile i)) g.0) eb ∙ note-as b i g.0)
                ∙ sym (λ z. listed_by i (drop-cons cs i false (omega arith) z) (drop-cons hs₀ i [] (omega arith) z) g.0) ∙ g.2,
          );
        }

    pub sweeping-kept : (hs acts : List (List ℕ)) (m i : ℕ) → Sweeping hs acts m i → i < 64 → get_or cs i false ≡ true → Sweeping hs acts m (i + 1)
    sweeping-kept hs acts m i S lt e =
        subst (λ (gs : List (List ℕ)). Sweeping gs acts m (i + 1)) (set-get_or hs i [])
        (sweeping-more hs acts m i S lt false (ap (λ (b : Bool). not (b || eqb (get_or (get_or hs i []) 0 0) 0)) (sym e)) acts m (record { most = omega arith; lists = λ l L. L })
        (get_or hs i []) (ap (λ (b : Bool). swept_head b (get_or hs i [])) (sym e)))

    pub sweeping-emptied : (hs acts : List (List ℕ)) (m i : ℕ) → Sweeping hs acts m i → i < 64 → get_or cs i false ≡ false
        → (acts' : List (List ℕ)) (m' : ℕ) → Noted (not (eqb (get_or (get_or hs i []) 0 0) 0)) (RemovedInvalidNode (tile i)) acts m acts' m'
        → Sweeping (set hs i (swept_head false [])) acts' m' (i + 1)
    sweeping-emptied hs acts m i S lt e acts' m' N =
        sweeping-more hs acts m i S lt (not (eqb (get_or (get_or hs i []) 0 0) 0)) (ap (λ (b : Bool). not (b || eqb (get_or (get_or hs i []) 0 0) 0)) (sym e)) acts' m' N
        (swept_head false []) (ap (λ (b : Bool). swept_head b (get_or hs i [])) (sym e))

    pub sweeping-all : (hs acts : List (List ℕ)) (m i : ℕ) → Sweeping hs acts m i → 64 ≤ i → Sweeps hs₀ cs acts₀ n hs acts m
    sweeping-all hs acts m i S le =
        let long : length (swept_heads cs hs₀) ≡ 64 = swept-long cs hs₀ (omega arith) ∙ lh in
        let pc : length cs ≤ i = omega arith in
        let ph : length hs₀ ≤ i = omega arith in
        let e : hs ≡ swept_heads cs hs₀ = copied_all (swept_heads cs hs₀) hs i S.done (omega arith) in
        record {
          nodes = λ xs ss ms lx ls lm. ap (λ (h : List (List ℕ)). nodes_from h xs ss ms) e ∙ swept-nodes cs hs₀ xs ss ms (omega arith) (omega arith) (omega arith) (omega arith);
          most = omega (arith, S.most, S.within);
          lists = λ xs ss ms lx ls lm l L. let g = S.rest l L in
              subst (λ (k : List RepairAction). Lists acts m k)
              (sym (λ z. listed_by i (drop_of_length-le cs pc z) (drop_of_length-le hs₀ ph z) g.0) ∙ g.2
              ∙ listed-nodes 0 cs hs₀ xs ss ms l (omega arith) (omega arith) (omega arith) (omega arith))
              g.1;
          slim = λ all j. subst (λ (h : List (List ℕ)). Slim (get_or h j [])) (sym e) (slim-swept cs hs₀ all j);
          long = sweeping-long hs acts m i S;
        }

-- ---- the report

pub action-other : (k : ℕ) (t : TileId) (p : ℕ) → (k ≡ 0 → ⊥) → (k ≡ 1 → ⊥) → (k ≡ 2 → ⊥) → (k ≡ 3 → ⊥) → (k ≡ 4 → ⊥) → RemovedDuplicatePane p t ≡ action_by k t p
action-other zero t p a b c d e = absurd (a refl)
action-other (suc zero) t p a b c d e = absurd (b refl)
action-other (suc (suc zero)) t p a b c d e = absurd (c refl)
action-other (suc (suc (suc zero))) t p a b c d e = absurd (d refl)
action-other (suc (suc (suc (suc zero)))) t p a b c d e = absurd (e refl)
action-other (suc (suc (suc (suc (suc k))))) t p a b c d e = refl

code-back : (a : RepairAction) → action_from (code_of a) ≡ a
code-back (RemovedInvalidNode i) = refl
code-back (RepairedActiveTab i) = refl
code-back (RepairedShares i) = refl
code-back (RepairedConstraints i) = refl
code-back (CollapsedSplit i) = refl
code-back (RemovedDuplicatePane p i) = refl

codes-back : (l : List RepairAction) → map action_from (map code_of l) ≡ l
codes-back [] = refl
codes-back (a ∷ l) = λ z. code-back a z ∷ codes-back l z

taken-actions : (n : ℕ) (acts : List (List ℕ)) → take n (map action_from acts) ≡ map action_from (take n acts)
taken-actions zero acts = refl
taken-actions (suc n) [] = refl
taken-actions (suc n) (a ∷ acts) = ap (λ (l : List RepairAction). action_from a ∷ l) (taken-actions n acts)

pub reports : (acts : List (List ℕ)) (at : List RepairAction) (n : ℕ) → Copied (map action_from acts) n at → length acts ≡ 1300 → (l : List RepairAction) → Lists acts n l
    → take n at ≡ l
reports acts at n C whole l L = C.front ∙ taken-actions n acts ∙ ap (map action_from) (L whole) ∙ codes-back l

-- ---- the lowest empty slot

abbrev pub pick : Bool → ℕ → ℕ → ℕ
pick true i r = i
pick false i r = r

abbrev pub first_head : ℕ → List (List ℕ) → ℕ
first_head i [] = 64
first_head i (h ∷ hs) = pick (eqb (get_or h 0 0) 0) i (first_head (suc i) hs)

first_by : (b : Bool) (i : ℕ) (is : List ℕ) → pick b i (first_of is) ≡ first_of (empty_by b i is)
first_by true i is = refl
first_by false i is = refl

first-nodes : (i : ℕ) (hs xs : List (List ℕ)) (ss ms : List (List Float)) → length xs ≡ length hs → length ss ≡ length hs → length ms ≡ length hs
    → first_head i hs ≡ first_of (empty_from i (nodes_from hs xs ss ms))
unfolding nodes_from empty_from
first-nodes i [] xs ss ms q r t = refl
first-nodes i (h ∷ hs) [] ss ms q r t = absurd (omega arith)
first-nodes i (h ∷ hs) (x ∷ xs) [] ms q r t = absurd (omega arith)
first-nodes i (h ∷ hs) (x ∷ xs) (s ∷ ss) [] q r t = absurd (omega arith)
first-nodes i (h ∷ hs) (x ∷ xs) (s ∷ ss) (m ∷ ms) q r t =
    (λ z. pick (sym (empty-by (get_or h 0 0) h x s m) z) i (first-nodes (suc i) hs xs ss ms (omega arith) (omega arith) (omega arith) z))
    ∙ first_by (is_empty (node_from h x s m)) i (empty_from (suc i) (nodes_from hs xs ss ms))

module _ (hs : List (List ℕ)) where
  -- none of the first i is empty
  pub record Looked (i : ℕ) : Type 0 where
    pub within : i ≤ 64
    pub rest : first_head i (drop i hs) ≡ first_head 0 hs

  -- r is the answer
  abbrev pub First : ℕ → Type 0
  First r = (xs : List (List ℕ)) (ss ms : List (List Float)) → length xs ≡ 64 → length ss ≡ 64 → length ms ≡ 64 → r ≡ first_of (empty_slots (nodes_from hs xs ss ms))

  pub looked-none : Looked 0
  looked-none = record { within = omega arith; rest = refl }

  module _ (lh : length hs ≡ 64) where
    first-is : (r : ℕ) → r ≡ first_head 0 hs → First r
    first-is r e xs ss ms lx ls lm = e ∙ first-nodes 0 hs xs ss ms (omega arith) (omega arith) (omega arith)

    looked-step : (i : ℕ) → i < 64 → first_head i (drop i hs) ≡ pick (eqb (get_or (get_or hs i []) 0 0) 0) i (first_head (i + 1) (drop (i + 1) hs))
    looked-step i lt =
        ap (first_head i) (drop-cons hs i [] (omega arith))
        ∙ ap (λ (j : ℕ). pick (eqb (get_or (get_or hs i []) 0 0) 0) i (first_head j (drop j hs))) (sym (add-one i))

    pub looked-more : (i : ℕ) → Looked i → i < 64 → (get_or (get_or hs i []) 0 0 ≡ 0 → ⊥) → Looked (i + 1)
    looked-more i L lt ne =
        record {
          within = omega arith;
          rest = sym (looked-step i lt ∙ ap (λ (b : Bool). pick b i (first_head (i + 1) (drop (i + 1) hs))) (ne_eqb (get_or (get_or hs i []) 0 0) 0 ne)) ∙ L.rest;
        }

    pub looked-found : (i : ℕ) → Looked i → i < 64 → get_or (get_or hs i []) 0 0 ≡ 0 → First i
    looked-found i L lt e =
        first-is i (sym (looked-step i lt ∙ ap (λ (b : Bool). pick b i (first_head (i + 1) (drop (i + 1) hs))) (eq-eqb (get_or (get_or hs i []) 0 0) 0 e)) ∙ L.rest)

    pub looked-all : (i : ℕ) → Looked i → 64 ≤ i → First 64
    looked-all i L le = let p : length hs ≤ i = omega arith in first-is 64 (sym (ap (first_head i) (drop_of_length-le hs p)) ∙ L.rest)

-- ---- every occupied slot is claimed

-- the same by the heads
unfoldable pub none_by : List Bool → List (List ℕ) → Bool
none_by cs [] = true
none_by [] (h ∷ hs) = true
none_by (c ∷ cs) (h ∷ hs) = (c || eqb (get_or h 0 0) 0) && none_by cs hs

none-nodes : (cs : List Bool) (hs xs : List (List ℕ)) (ss ms : List (List Float)) → length xs ≡ length hs → length ss ≡ length hs → length ms ≡ length hs → none_by cs hs ≡ none_lost cs (nodes_from hs xs ss ms)
unfolding none_by none_lost nodes_from
none-nodes cs [] xs ss ms p q r = refl
none-nodes [] (h ∷ hs) [] ss ms p q r = absurd (omega arith)
none-nodes [] (h ∷ hs) (x ∷ xs) [] ms p q r = absurd (omega arith)
none-nodes [] (h ∷ hs) (x ∷ xs) (s ∷ ss) [] p q r = absurd (omega arith)
none-nodes [] (h ∷ hs) (x ∷ xs) (s ∷ ss) (m ∷ ms) p q r = refl
none-nodes (c ∷ cs) (h ∷ hs) [] ss ms p q r = absurd (omega arith)
none-nodes (c ∷ cs) (h ∷ hs) (x ∷ xs) [] ms p q r = absurd (omega arith)
none-nodes (c ∷ cs) (h ∷ hs) (x ∷ xs) (s ∷ ss) [] p q r = absurd (omega arith)
none-nodes (c ∷ cs) (h ∷ hs) (x ∷ xs) (s ∷ ss) (m ∷ ms) p q r = λ z. (c || sym (empty-by (get_or h 0 0) h x s m) z) && none-nodes cs hs xs ss ms (omega arith) (omega arith) (omega arith) z

module _ (hs : List (List ℕ)) (cs : List Bool) (lh : length hs ≡ 64) (lc : length cs ≡ 64) where
  -- none of the first i is lost
  abbrev pub Passing : ℕ → Type 0
  Passing i = none_by (drop i cs) (drop i hs) ≡ none_by cs hs

  pub none_is : (r : Bool) → r ≡ none_by cs hs → NoneLost hs cs r
  none_is r e = record { right = λ xs ss ms lx ls lm. e ∙ none-nodes cs hs xs ss ms (omega (arith, lh, lx)) (omega (arith, lh, ls)) (omega (arith, lh, lm)) }

  passing_step : (i : ℕ) → i < 64 → none_by (drop i cs) (drop i hs) ≡ ((get_or cs i false || eqb (get_or (get_or hs i []) 0 0) 0) && none_by (drop (suc i) cs) (drop (suc i) hs))
  unfolding none_by
  passing_step i lt = λ z. none_by (drop-cons cs i false (omega (arith, lc)) z) (drop-cons hs i [] (omega (arith, lh)) z)

  pub passing-more : (i : ℕ) → i < 64 → not (get_or cs i false || eqb (get_or (get_or hs i []) 0 0) 0) ≡ false → Passing i → Passing (i + 1)
  passing-more i lt e P =
      ap (λ (k : ℕ). none_by (drop k cs) (drop k hs)) (add-one i)
      ∙ sym (passing_step i lt ∙ ap (λ (b : Bool). b && none_by (drop (suc i) cs) (drop (suc i) hs)) (not-false (get_or cs i false || eqb (get_or (get_or hs i []) 0 0) 0) e)) ∙ P

  pub passing-lost : (i : ℕ) → i < 64 → not (get_or cs i false || eqb (get_or (get_or hs i []) 0 0) 0) ≡ true → Passing i → NoneLost hs cs false
  passing-lost i lt e P =
      none_is false (sym (passing_step i lt ∙ ap (λ (b : Bool). b && none_by (drop (suc i) cs) (drop (suc i) hs)) (not-true (get_or cs i false || eqb (get_or (get_or hs i []) 0 0) 0) e)) ∙ P)

  pub passing-all : (i : ℕ) → 64 ≤ i → Passing i → NoneLost hs cs true
  unfolding none_by
  passing-all i le P = none_is true (sym (λ z. none_by (drop i cs) (let p : length hs ≤ i = omega (arith, lh) in drop_of_length-le hs p z)) ∙ P)

-- ---- all four columns at once

pub record Unpacking (s : List Slot) (i : ℕ) (hs xs : List (List ℕ)) (ss ms : List (List Float)) : Type 0 where
  pub size : length s ≡ 64
  pub within : i ≤ 64
  pub heads : Copied (map head_of s) i hs
  pub ids : Copied (map ids_of s) i xs
  pub shares : Copied (map shares_of s) i ss
  pub minima : Copied (map minima_of s) i ms

module _ (s : List Slot) (size : length s ≡ 64) where
  pub unpacking-none : (hs xs : List (List ℕ)) (ss ms : List (List Float)) → length hs ≡ 64 → length xs ≡ 64 → length ss ≡ 64 → length ms ≡ 64 → Unpacking s 0 hs xs ss ms
  unpacking-none hs xs ss ms a b c d =
      record { size = size; within = omega arith; heads = mapped-none head_of s 64 size hs a; ids = mapped-none ids_of s 64 size xs b; shares = mapped-none shares_of s 64 size ss c; minima = mapped-none minima_of s 64 size ms d }

  pub unpacking-more : (hs xs : List (List ℕ)) (ss ms : List (List Float)) (i : ℕ) (d : Slot) (hs' xs' : List (List ℕ)) (ss' ms' : List (List Float)) → Unpacking s i hs xs ss ms → i < 64
      → Puts i (get_or s i d) hs xs ss ms hs' xs' ss' ms' → Unpacking s (i + 1) hs' xs' ss' ms'
  unpacking-more hs xs ss ms i d hs' xs' ss' ms' U lt P =
      record {
        size = size;
        within = omega arith;
        heads = subst (Copied (map head_of s) (i + 1)) (sym P.heads) (mapped-more head_of s 64 size hs i d [] _ U.heads lt refl);
        ids = subst (Copied (map ids_of s) (i + 1)) (sym P.ids) (mapped-more ids_of s 64 size xs i d [] _ U.ids lt refl);
        shares = subst (Copied (map shares_of s) (i + 1)) (sym P.shares) (mapped-more shares_of s 64 size ss i d [] _ U.shares lt refl);
        minima = subst (Copied (map minima_of s) (i + 1)) (sym P.minima) (mapped-more minima_of s 64 size ms i d [] _ U.minima lt refl);
      }

  -- the same, column by column
  pub unpacking-set : (hs xs : List (List ℕ)) (ss ms : List (List Float)) (i : ℕ) (d : Slot) (h x : List ℕ) (y m : List Float) → Unpacking s i hs xs ss ms → i < 64
      → h ≡ head_of (get_or s i d) → x ≡ ids_of (get_or s i d) → y ≡ shares_of (get_or s i d) → m ≡ minima_of (get_or s i d) → Unpacking s (i + 1) (set hs i h) (set xs i x) (set ss i y) (set ms i m)
  unpacking-set hs xs ss ms i d h x y m U lt a b c e =
      unpacking-more hs xs ss ms i d (set hs i h) (set xs i x) (set ss i y) (set ms i m) U lt
      (record { heads = ap (set hs i) a; ids = ap (set xs i) b; shares = ap (set ss i) c; minima = ap (set ms i) e })

  pub unpacking-all : (hs xs : List (List ℕ)) (ss ms : List (List Float)) (i : ℕ) → Unpacking s i hs xs ss ms → 64 ≤ i → Unpacks s hs xs ss ms
  unpacking-all hs xs ss ms i U le =
      record {
        heads = mapped-all head_of s 64 size hs i U.heads le;
        ids = mapped-all ids_of s 64 size xs i U.ids le;
        shares = mapped-all shares_of s 64 size ss i U.shares le;
        minima = mapped-all minima_of s 64 size ms i U.minima le;
      }

or-false : (b : Bool) → (b || false || false) ≡ b
or-false true = refl
or-false false = refl

-- the heads tell whether a list is over 16
pub over-head : (s : Slot) → over_head (head_of s) ≡ over_slot s
over-head s = go s.kind
  where
    go : (k : Kind) → over_head (head_by k s) ≡ over_by k s
    go Empty = refl
    go (Pane p) = refl
    go (Tabs b) = or-false (ltb 16 s.panes.len)
    go (Split a) = refl

pub heads-over : (s : List Slot) → any_of over_head (map head_of s) ≡ any_of over_slot s
unfolding any_of
heads-over [] = refl
heads-over (x ∷ s) = λ z. over-head x z || heads-over s z
