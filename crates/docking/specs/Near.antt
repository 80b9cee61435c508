-- A tile put beside another, step by step: what the rule comes to in each case, with the parent that was found in the slots as they were given. Assumes nothing.
use Rattle.std.specs.Prelude.{◌≡◌, refl, ◌⊎◌, Bool, true, false, cond, List, [], ◌∷◌, ℕ, zero, suc, ◌+◌, length, get_or, set, drop}
use Rattle.std.proofs.Common.{sym, ap, subst, ◌∙◌, inl, inr, arith, get_or-set_other}
use Rattle.std.proofs.Math.Option.{Option, none, some}
use Rattle.std.proofs.Math.Decide.{ℕ_discrete}
use Rattle.std.proofs.Math.ListN.{get_or-eq_default}
use Rattle.rules.specs.Lists.{position}
use Rattle.rules.specs.Tree.{Node, empty, pane, tabs, split, Arena, tile, node_at, set_node, is_empty, kids_of, empty_by, empty_from, empty_slots, reading_from, same_tile}
use Rattle.rules.specs.Target.{PaneLocation, nowhere, in_tile, in_tabs, Parent, parent_by, seek_parent, find_parent, existing}
use Rattle.rules.specs.Insert.{Draft, draft, Beside, inserted_in, has_axis, new_split, replaced_in, hang, same_axis_parent, insert_at_parent, parent_of, insert_tile_near, needed_near, hanging_by, near_by, refused_near, removed_from, remove_pane}
use Rattle.rules.specs.Operations.{Step, refuse, change, or_else, taken, put_near}
use Rattle.rules.specs.declared.model.TileId.{TileId}
use Rattle.rules.specs.declared.model.Axis.{Axis}
use Rattle.rules.specs.declared.refusal.Refusal.{Refusal}
use Rattle.rules.specs.declared.refusal.Refusal.TheVariants.{InvalidTileId, InvalidOperation}
use Rattle.forest.specs.Lists.{All, never}
use Rattle.forest.specs.Nodes.{empty-is}
use Rattle.nodes.specs.Find.{parent_from, scan_parent, is_split, Stands}
use Rattle.docking.specs.Trees.{reading-like}

-- ---- slots that are the same but where neither has a split: they read alike, and have the same parents

abbrev pub Alike : List Node → List Node → Type 0
Alike ns ms = (i : ℕ) → (get_or ms i empty ≡ get_or ns i empty) ⊎ ((is_split (get_or ns i empty) ≡ false) × (is_split (get_or ms i empty) ≡ false))

pub alike_self : (ns : List Node) → Alike ns ns
alike_self ns i = inl refl

no_kids : (n : Node) → is_split n ≡ false → kids_of n ≡ []
no_kids empty e = refl
no_kids (pane p) e = refl
no_kids (tabs b a ps) e = refl
no_kids (split a cs ss ms) e = never e

no-axis : (x : Axis) (n : Node) → is_split n ≡ false → has_axis x n ≡ false
no-axis x empty e = refl
no-axis x (pane p) e = refl
no-axis x (tabs b a ps) e = refl
no-axis x (split a cs ss ms) e = never e

set_at : (ns : List Node) (j : ℕ) (n : Node) → (get_or (set ns j n) j empty ≡ n) ⊎ (set ns j n ≡ ns)
set_at [] j n = inr refl
set_at (x ∷ ns) zero n = inl refl
set_at (x ∷ ns) (suc j) n = go (set_at ns j n)
  where
    go : (get_or (set ns j n) j empty ≡ n) ⊎ (set ns j n ≡ ns) → (get_or (set ns j n) j empty ≡ n) ⊎ (x ∷ set ns j n ≡ x ∷ ns)
    go (inl e) = inl e
    go (inr e) = inr (ap (λ (l : List Node). x ∷ l) e)

seek-like : (ns ms : List Node) (t : TileId) → ((i : ℕ) → kids_of (get_or ms i empty) ≡ kids_of (get_or ns i empty)) → (xs : List TileId) → seek_parent ms t xs ≡ seek_parent ns t xs
unfolding seek_parent
seek-like ns ms t h [] = refl
seek-like ns ms t h (x ∷ xs) = λ z. parent_by (position (same_tile t) (h x.slot z)) x (seek-like ns ms t h xs z)

-- a scan goes by the children alone
scan-from : (k : ℕ) (ns ms : List Node) (t : TileId) → length ms ≡ length ns → ((i : ℕ) → kids_of (get_or ms i empty) ≡ kids_of (get_or ns i empty)) → parent_from k ms t ≡ parent_from k ns t
unfolding parent_from
scan-from k [] [] t l h = refl
scan-from k [] (m ∷ ms) t l h = absurd (omega arith)
scan-from k (n ∷ ns) [] t l h = absurd (omega arith)
scan-from k (n ∷ ns) (m ∷ ms) t l h = λ z. parent_by (position (same_tile t) (h 0 z)) (tile k) (scan-from (suc k) ns ms t (omega arith) (λ i. h (suc i)) z)

module _ (ns ms : List Node) (al : Alike ns ms) where
  pub alike-kids : (i : ℕ) → kids_of (get_or ms i empty) ≡ kids_of (get_or ns i empty)
  alike-kids i = go (al i)
    where
      go : (get_or ms i empty ≡ get_or ns i empty) ⊎ ((is_split (get_or ns i empty) ≡ false) × (is_split (get_or ms i empty) ≡ false)) → kids_of (get_or ms i empty) ≡ kids_of (get_or ns i empty)
      go (inl e) = ap kids_of e
      go (inr (e, f)) = no_kids (get_or ms i empty) f ∙ sym (no_kids (get_or ns i empty) e)

  pub alike-scan : length ms ≡ length ns → (t : TileId) → scan_parent ms t ≡ scan_parent ns t
  alike-scan l t = scan-from 0 ns ms t l alike-kids

  pub alike-axis : (x : Axis) (i : ℕ) → has_axis x (get_or ms i empty) ≡ has_axis x (get_or ns i empty)
  alike-axis x i = go (al i)
    where
      go : (get_or ms i empty ≡ get_or ns i empty) ⊎ ((is_split (get_or ns i empty) ≡ false) × (is_split (get_or ms i empty) ≡ false)) → has_axis x (get_or ms i empty) ≡ has_axis x (get_or ns i empty)
      go (inl e) = ap (has_axis x) e
      go (inr (e, f)) = no-axis x (get_or ms i empty) f ∙ sym (no-axis x (get_or ns i empty) e)

  pub alike_same : (x : Axis) (Q : Option Parent) → same_axis_parent x Q ms ≡ same_axis_parent x Q ns
  alike_same x none = refl
  alike_same x (some q) = alike-axis x q.split.slot

  pub alike-parent : (r t : TileId) → find_parent r ms t ≡ find_parent r ns t
  alike-parent r t = ap (seek_parent ms t) (reading-like ns ms alike-kids 1025 (r ∷ [])) ∙ seek-like ns ms t alike-kids (reading_from ns r)

  pub alike_set : (j : ℕ) (n : Node) → is_split n ≡ false → is_split (get_or ns j empty) ≡ false → Alike ns (set ms j n)
  alike_set j n e f i = go (ℕ_discrete i j)
    where
      here : i ≡ j → (get_or (set ms j n) j empty ≡ n) ⊎ (set ms j n ≡ ms) → (get_or (set ms j n) i empty ≡ get_or ns i empty) ⊎ ((is_split (get_or ns i empty) ≡ false) × (is_split (get_or (set ms j n) i empty) ≡ false))
      here q (inl w) = inr (ap (λ (k : ℕ). is_split (get_or ns k empty)) q ∙ f, ap is_split (ap (λ (k : ℕ). get_or (set ms j n) k empty) q ∙ w) ∙ e)
      here q (inr w) = subst (λ (l : List Node). (get_or l i empty ≡ get_or ns i empty) ⊎ ((is_split (get_or ns i empty) ≡ false) × (is_split (get_or l i empty) ≡ false))) (sym w) (al i)

      go : Dec (i ≡ j) → (get_or (set ms j n) i empty ≡ get_or ns i empty) ⊎ ((is_split (get_or ns i empty) ≡ false) × (is_split (get_or (set ms j n) i empty) ≡ false))
      go (yes q) = here q (set_at ms j n)
      go (no q) = subst (λ (x : Node). (x ≡ get_or ns i empty) ⊎ ((is_split (get_or ns i empty) ≡ false) × (is_split x ≡ false))) (sym (get_or-set_other ms j i n empty q)) (al i)

-- a pane taken out leaves slots alike
removed-leaf : (i : ℕ) (n : Node) → is_split n ≡ false → is_split (removed_from i n) ≡ false
removed-leaf i empty e = refl
removed-leaf i (pane p) e = refl
removed-leaf i (tabs b a ps) e = refl
removed-leaf i (split a cs ss ms) e = never e

pub alike-removed : (ns : List Node) (l : PaneLocation) → Stands ns l → Alike ns (remove_pane l ns)
alike-removed ns nowhere s = alike_self ns
alike-removed ns (in_tile t) s = alike_set ns ns (alike_self ns) t.slot empty refl s
alike-removed ns (in_tabs g i) (s, h) = alike_set ns ns (alike_self ns) g.slot (removed_from i (node_at ns g)) (removed-leaf i (node_at ns g) s) s

-- ---- the slots that new tiles take are empty

empties-by : (b : Bool) (k : ℕ) (P : ℕ → Type 0) (rest : List ℕ) → (b ≡ true → P k) → All P rest → All P (empty_by b k rest)
empties-by true k P rest f a = (f refl, a)
empties-by false k P rest f a = a

empties-all : (ns ms : List Node) (k : ℕ) → ((j : ℕ) → get_or ms j empty ≡ get_or ns (k + j) empty) → All (λ i. get_or ns i empty ≡ empty) (empty_from k ms)
unfolding empty_from
empties-all ns [] k h = tt
empties-all ns (m ∷ ms) k h =
    empties-by (is_empty m) k (λ i. get_or ns i empty ≡ empty) (empty_from (suc k) ms)
    (λ e. ap (λ (i : ℕ). get_or ns i empty) (let q : k ≡ k + 0 = omega arith in q) ∙ sym (h 0) ∙ empty-is m e)
    (empties-all ns ms (suc k) (λ j. h (suc j) ∙ ap (λ (i : ℕ). get_or ns i empty) (let q : k + suc j ≡ suc k + j = omega arith in q)))

all-or : (P : ℕ → Type 0) (xs : List ℕ) (k d : ℕ) → All P xs → P d → P (get_or xs k d)
all-or P [] k d a h = h
all-or P (x ∷ xs) zero d a h = a.0
all-or P (x ∷ xs) (suc k) d a h = all-or P xs k d a.1 h

pub taken-empty : (ns : List Node) → length ns ≡ 64 → (k : ℕ) → get_or ns (get_or (empty_slots ns) k 64) empty ≡ empty
taken-empty ns size k =
    all-or (λ i. get_or ns i empty ≡ empty) (empty_slots ns) k 64 (empties-all ns ns 0 (λ j. ap (λ (i : ℕ). get_or ns i empty) (let q : j ≡ 0 + j = omega arith in q)))
    (get_or-eq_default ns empty (omega arith))

-- ---- what put_near comes to

module _ (a : Arena) (size : length a.nodes ≡ 64) (ms : List Node) (al : Alike a.nodes ms) (new : Node) (leaf : is_split new ≡ false)
    (b : Beside) (P : Option Parent) (found : find_parent a.root a.nodes b.target ≡ P) where
  abbrev d : Draft
  d = draft a.root ms

  -- the new tile set
  abbrev pub set_first : List Node
  set_first = set_node (taken 0 a) new ms

  pub like-first : Alike a.nodes set_first
  like-first = alike_set a.nodes ms al (taken 0 a).slot new leaf (ap is_split (taken-empty a.nodes size 0))

  abbrev free : List ℕ
  free = empty_slots a.nodes

  parent-d : parent_of b d ≡ P
  parent-d = alike-parent a.nodes ms al a.root b.target ∙ found

  parent-first : parent_of b (draft a.root set_first) ≡ P
  parent-first = alike-parent a.nodes set_first like-first a.root b.target ∙ found

  axis-like : (xs : List Node) → Alike a.nodes xs → (Q : Option Parent) → same_axis_parent b.axis Q xs ≡ same_axis_parent b.axis Q a.nodes
  axis-like xs l Q = alike_same a.nodes xs l b.axis Q

  same-d : (c : Bool) → same_axis_parent b.axis P a.nodes ≡ c → same_axis_parent b.axis (parent_of b d) ms ≡ c
  same-d c e = ap (λ (Q : Option Parent). same_axis_parent b.axis Q ms) parent-d ∙ axis-like ms al P ∙ e

  same_first : (c : Bool) → same_axis_parent b.axis P a.nodes ≡ c → same_axis_parent b.axis (parent_of b (draft a.root set_first)) set_first ≡ c
  same_first c e = ap (λ (Q : Option Parent). same_axis_parent b.axis Q set_first) parent-first ∙ axis-like set_first like-first P ∙ e

  -- once neither refusal is met
  abbrev made : Bool → Option Parent → Draft
  made c Q = insert_at_parent c b (taken 0 a) (taken 1 a) Q (draft a.root set_first)

  goes : (c : Bool) → same_axis_parent b.axis P a.nodes ≡ c → refused_near b d ≡ none → put_near a new b d ≡ change (made c P) (cond c 1 2) (drop (cond c 1 2) free)
  unfolding insert_tile_near
  goes c e r =
      λ z. or_else (r z) (change (insert_at_parent (same_first c e z) b (taken 0 a) (taken 1 a) (parent-first z) (draft a.root set_first)) (cond (same-d c e z) 1 2) (drop (cond (same-d c e z) 1 2) free))

  -- what follows the refusals
  abbrev onward : Step
  onward = change (insert_tile_near b (taken 0 a) (taken 1 a) (draft a.root set_first)) (needed_near b d) (drop (needed_near b d) free)

  there : is_empty (node_at ms b.target) ≡ false → existing (node_at ms b.target) ≡ none
  there e = go (node_at ms b.target) e
    where
      go : (n : Node) → is_empty n ≡ false → existing n ≡ none
      go empty w = never w
      go (pane p) w = refl
      go (tabs x y ps) w = refl
      go (split x cs ss rs) w = refl

  pub near-absent : is_empty (node_at ms b.target) ≡ true → put_near a new b d ≡ refuse InvalidTileId
  near-absent e = ap (λ (o : Option Refusal). or_else (near_by o b d) onward) (go (node_at ms b.target) e)
    where
      go : (n : Node) → is_empty n ≡ true → existing n ≡ some InvalidTileId
      go empty w = refl
      go (pane p) w = never (sym w)
      go (tabs x y ps) w = never (sym w)
      go (split x cs ss rs) w = never (sym w)

  module _ (is : is_empty (node_at ms b.target) ≡ false) where
    fine : (c : Bool) (Q : Option Parent) → same_tile b.target a.root ≡ c → P ≡ Q → hanging_by c Q ≡ none → refused_near b d ≡ none
    fine c Q e q h = ap (λ (o : Option Refusal). near_by o b d) (there is) ∙ (λ z. hanging_by (e z) ((parent-d ∙ q) z)) ∙ h

    pub near-loose : same_tile b.target a.root ≡ false → P ≡ none → put_near a new b d ≡ refuse InvalidOperation
    near-loose e q = ap (λ (o : Option Refusal). or_else o onward) (ap (λ (o : Option Refusal). near_by o b d) (there is) ∙ (λ z. hanging_by (e z) ((parent-d ∙ q) z)))

    hung : (c : Bool) (p : Parent) → hanging_by c (some p) ≡ none
    hung true p = refl
    hung false p = refl

    pub near-in : (p : Parent) → P ≡ some p → has_axis b.axis (node_at a.nodes p.split) ≡ true
        → put_near a new b d ≡ change (draft a.root (set_node p.split (inserted_in b (taken 0 a) p.index (node_at set_first p.split)) set_first)) 1 (drop 1 free)
    near-in p q e =
        goes true (ap (λ (Q : Option Parent). same_axis_parent b.axis Q a.nodes) q ∙ e) (fine (same_tile b.target a.root) (some p) refl q (hung (same_tile b.target a.root) p))
        ∙ ap (λ (Q : Option Parent). change (made true Q) 1 (drop 1 free)) q

    -- the new split set
    abbrev pub set_both : List Node
    set_both = set_node (taken 1 a) (new_split b (taken 0 a) b.placement) set_first

    pub near-root : same_tile b.target a.root ≡ true → same_axis_parent b.axis P a.nodes ≡ false → put_near a new b d ≡ change (draft (taken 1 a) set_both) 2 (drop 2 free)
    near-root e s = goes false s (fine true P e refl refl) ∙ ap (λ (c : Bool). change (hang c (taken 1 a) P (draft a.root set_both)) 2 (drop 2 free)) e

    pub near-under : same_tile b.target a.root ≡ false → (p : Parent) → P ≡ some p → has_axis b.axis (node_at a.nodes p.split) ≡ false
        → put_near a new b d ≡ change (draft a.root (set_node p.split (replaced_in (taken 1 a) p.index (node_at set_both p.split)) set_both)) 2 (drop 2 free)
    near-under e p q s =
        goes false (ap (λ (Q : Option Parent). same_axis_parent b.axis Q a.nodes) q ∙ s) (fine false (some p) e q refl)
        ∙ (λ z. change (hang (e z) (taken 1 a) (q z) (draft a.root set_both)) 2 (drop 2 free))
