-- What the rules' push_spec builds is a loose forest (forest/Loose): a tile for each row, in the rows' order, that shows the panes section in its order.
-- A forest that is built stands before what is built after it, so it is told as a function of that. Assumes nothing.
use Rattle.std.specs.Prelude.{◌≡◌, true}
use Rattle.std.proofs.Math.Path.{refl, sym, ap}
use Rattle.std.proofs.Common.{subst, ◌∙◌, ne_eqb, length-append, length-set, length-drop, take-append-drop, get_or-set_same, get_or-set_other}
use mathlib.Core.List.{List, [], ◌∷◌, ◌++◌, append_assoc, append-nil}
use Prim.Native.Nat.{ℕ, zero, suc, ◌+◌, ◌≤◌, ◌<◌}
use native.Mathlib.Omega.{arith}
use Rattle.std.proofs.Math.ListN.{length, get_or, drop, get_or-append}
use Rattle.std.proofs.Math.Seq.{get_or-append_seam}
use Rattle.rules.specs.Tree.{Node, empty, pane, tabs, split, tile, empty_group}
use Rattle.rules.specs.Table.{Row, pane_row, tabs_row, split_row, panes_used, children_used, sum_rows, preorder}
use Rattle.rules.specs.Spec.{row_panes, row_shares, row_minima, Build, Children, pushed, push_children, set_split, push_row, push_next, push_spec}
use Rattle.rules.specs.declared.model.TileId.{TileId}
use Rattle.rules.specs.declared.model.Axis.{Axis}
use Rattle.forest.specs.Lists.{All, Distinct, never, all_map}
use Rattle.forest.specs.Loose.{Loose, end, shows, parts, heads, tiles, shown, Shows, Parts, Loosely}

-- i, i + 1, .., n of them
abbrev pub up_from : ℕ → ℕ → List ℕ
up_from i zero = []
up_from i (suc n) = i ∷ up_from (suc i) n

up-add : (i m n k : ℕ) → k ≡ m + n → up_from i k ≡ up_from i m ++ up_from (i + m) n
up-add i zero n k e = λ z. up_from ((let q : i ≡ i + 0 = omega arith in q) z) ((let q : k ≡ n = omega arith in q) z)
up-add i (suc m) n zero e = absurd (omega arith)
up-add i (suc m) n (suc k) e = ap (λ (l : List ℕ). i ∷ l) (up-add (suc i) m n k (omega arith) ∙ ap (λ (j : ℕ). up_from (suc i) m ++ up_from j n) (let q : suc i + m ≡ i + suc m = omega arith in q))

up_above : (i n : ℕ) → All (λ j. i ≤ j) (up_from i n)
up_above i zero = tt
up_above i (suc n) = (omega arith, all_map (λ j h. omega (arith, h)) (up_from (suc i) n) (up_above (suc i) n))

pub up-distinct : (i n : ℕ) → Distinct (up_from i n)
up-distinct i zero = tt
up-distinct i (suc n) = (all_map (λ j h e. omega (arith, h, e)) (up_from (suc i) n) (up_above (suc i) n), up-distinct (suc i) n)

-- ---- from a state of the building to a later one, a forest was built

-- the slots of a state that are not the other's
abbrev Agree : List Node → List Node → List Node → Type 0
Agree ns ms xs = (j : ℕ) → length ns ≤ j → j < length ms → get_or xs j empty ≡ get_or ms j empty

abbrev Stands : List Node → Loose → Type 0
Stands xs f = (before : List ℕ) → Loosely xs before f

-- n tiles were to come more
pub record Grew (b b' : Build) (n : ℕ) (T : Loose → Loose) : Type 0 where
  pub ids : List TileId
  pub count : ℕ
  pub seen : List ℕ
  pub heads-are : (r : Loose) → heads (T r) ≡ ids ++ heads r
  pub tiles-are : (r : Loose) → tiles (T r) ≡ up_from (length b.nodes) count ++ tiles r
  pub shown-are : (r : Loose) → shown (T r) ≡ seen ++ shown r
  pub size : length b'.nodes ≡ length b.nodes + count
  pub rows_left : length b.rows ≡ count + length b'.rows
  pub panes : seen ++ b'.left.panes ≡ b.left.panes
  pub enough : sum_rows panes_used b'.rows ≡ length b'.left.panes
  pub due : preorder n b'.rows ≡ true
  pub kept : (j : ℕ) → j < length b.nodes → get_or b'.nodes j empty ≡ get_or b.nodes j empty
  pub holds : (xs : List Node) → Agree b.nodes b'.nodes xs → length b'.nodes ≤ 64 → (r : Loose) → Stands xs r → Stands xs (T r)

-- what is asked of a state: n tiles are to come, and the panes that they use are there
pub record Due (b : Build) (n : ℕ) : Type 0 where
  pub enough : sum_rows panes_used b.rows ≡ length b.left.panes
  pub due : preorder n b.rows ≡ true

grew_none : (b : Build) (n : ℕ) → Due b n → Grew b b n (λ r. r)
grew_none b n D =
    record {
      ids = [];
      count = 0;
      seen = [];
      heads-are = λ r. refl;
      tiles-are = λ r. refl;
      shown-are = λ r. refl;
      size = omega arith;
      rows_left = omega arith;
      panes = refl;
      enough = D.enough;
      due = D.due;
      kept = λ j h. refl;
      holds = λ xs a h r s. s;
    }

grew-due : (b b' : Build) (n : ℕ) (T : Loose → Loose) → Grew b b' n T → Due b' n
grew-due b b' n T G = record { enough = G.enough; due = G.due }

grew-chain : (b c d : Build) (m n : ℕ) (S T : Loose → Loose) → Grew b c m S → Grew c d n T → Grew b d n (λ r. S (T r))
grew-chain b c d m n S T A B =
    let s1 = A.size in
    let s2 = B.size in
    let l1 = A.rows_left in
    let l2 = B.rows_left in
    record {
      ids = A.ids ++ B.ids;
      count = A.count + B.count;
      seen = A.seen ++ B.seen;
      heads-are = λ r. A.heads-are (T r) ∙ ap (λ (l : List TileId). A.ids ++ l) (B.heads-are r) ∙ sym (append_assoc A.ids B.ids (heads r));
      tiles-are = λ r. A.tiles-are (T r)
          ∙ ap (λ (l : List ℕ). up_from (length b.nodes) A.count ++ l) (B.tiles-are r ∙ ap (λ (k : ℕ). up_from k B.count ++ tiles r) s1)
          ∙ sym (append_assoc (up_from (length b.nodes) A.count) (up_from (length b.nodes + A.count) B.count) (tiles r))
          ∙ ap (λ (l : List ℕ). l ++ tiles r) (sym (up-add (length b.nodes) A.count B.count (A.count + B.count) refl));
      shown-are = λ r. A.shown-are (T r) ∙ ap (λ (l : List ℕ). A.seen ++ l) (B.shown-are r) ∙ sym (append_assoc A.seen B.seen (shown r));
      size = omega (arith, s1, s2);
      rows_left = omega (arith, l1, l2);
      panes = append_assoc A.seen B.seen d.left.panes ∙ ap (λ (l : List ℕ). A.seen ++ l) B.panes ∙ A.panes;
      enough = B.enough;
      due = B.due;
      kept = λ j h. B.kept j (omega (arith, h, s1)) ∙ A.kept j h;
      holds = λ xs a h r s. A.holds xs (λ j lo hi. a j lo (omega (arith, hi, s2)) ∙ B.kept j hi) (omega (arith, h, s2)) (T r) (B.holds xs (λ j lo hi. a j (omega (arith, lo, s1)) hi) h r s);
    }

-- ---- a pane or a group

module _ (b : Build) (r : Row) (rs : List Row) (x : Node) (ps : List ℕ) (n : ℕ) (no : children_used r ≡ 0) (b-rows : length b.rows ≡ suc (length rs))
    (is : Shows x ps) (all : ps ++ drop (panes_used r) b.left.panes ≡ b.left.panes) (e : panes_used r + sum_rows panes_used rs ≡ length b.left.panes)
    (d : preorder (n + children_used r) rs ≡ true) where
  abbrev i : ℕ
  i = length b.nodes

  abbrev added : List Node
  added = b.nodes ++ x ∷ []

  longer : length added ≡ i + 1
  longer = length-append b.nodes (x ∷ [])

  grew-leaf : Grew b (pushed b rs r x) n (shows (tile i) ps)
  grew-leaf =
      let l = longer in
      record {
        ids = tile i ∷ [];
        count = 1;
        seen = ps;
        heads-are = λ f. refl;
        tiles-are = λ f. refl;
        shown-are = λ f. refl;
        size = l;
        rows_left = omega (arith, b-rows);
        panes = all;
        enough = let k = length-drop (panes_used r) b.left.panes in omega (arith, e, k);
        due = ap (λ (k : ℕ). preorder k rs) (let z : n ≡ n + children_used r = omega (arith, no) in z) ∙ d;
        kept = λ j h. get_or-append b.nodes (x ∷ []) empty j h;
        holds = λ xs a h f s before.
            let at : get_or xs i empty ≡ x = a i (omega arith) (omega (arith, l)) ∙ get_or-append_seam b.nodes x [] empty in
            ((omega (arith, h, l), subst (λ (y : Node). Shows y ps) (sym at) is), s (i ∷ before));
      }

-- ---- a split, of which the children are built

module _ (b : Build) (x : Axis) (k s m : ℕ) (rs : List Row) (n : ℕ) (b-rows : length b.rows ≡ suc (length rs)) where
  abbrev row : Row
  row = split_row x k s m

  abbrev first : Build
  first = pushed b rs row empty_group

  module _ (c : Children) (T : Loose → Loose) (G : Grew first c.done n T) (same : c.ids ≡ G.ids) where
    abbrev at : ℕ
    at = length b.nodes

    abbrev stored : Node
    stored = split x c.ids (row_shares row b.left) (row_minima row b.left)

    start : length first.nodes ≡ at + 1
    start = length-append b.nodes (empty_group ∷ [])

    grew-split : Grew b (set_split at row b.left c) n (parts (tile at) (T end))
    grew-split =
        let l = start in
        let w = G.size in
        let u = length-set c.done.nodes at stored in
        record {
          ids = tile at ∷ [];
          count = suc G.count;
          seen = G.seen;
          heads-are = λ r. refl;
          tiles-are = λ r. ap (λ (ts : List ℕ). at ∷ (ts ++ tiles r))
              (G.tiles-are end ∙ append-nil (up_from (length first.nodes) G.count) ∙ ap (λ (j : ℕ). up_from j G.count) (let z : length first.nodes ≡ suc at = omega (arith, l) in z));
          shown-are = λ r. ap (λ (ps : List ℕ). ps ++ shown r) (G.shown-are end ∙ append-nil G.seen);
          size = omega (arith, l, w, u);
          rows_left = let z = G.rows_left in omega (arith, b-rows, z);
          panes = G.panes;
          enough = G.enough;
          due = G.due;
          kept = λ j h. get_or-set_other c.done.nodes at j stored empty (λ e. omega (arith, h, e)) ∙ G.kept j (omega (arith, h, l)) ∙ get_or-append b.nodes (empty_group ∷ []) empty j h;
          holds = λ xs a h r z before.
              let is : get_or xs at empty ≡ stored = a at (omega arith) (omega (arith, l, w, u)) ∙ get_or-set_same c.done.nodes at stored empty (omega (arith, l, w)) in
              let under : Agree first.nodes c.done.nodes xs =
              λ j lo hi. a j (omega (arith, lo, l)) (omega (arith, hi, u)) ∙ get_or-set_other c.done.nodes at j stored empty (λ e. omega (arith, lo, l, e)) in (
                (omega (arith, h, l, w, u), subst (λ (y : Node). Parts y (heads (T end))) (sym is) (same ∙ sym (G.heads-are end ∙ append-nil G.ids))),
                G.holds xs under (omega (arith, h, u)) end (λ t. tt) (at ∷ before),
                z (at ∷ (tiles (T end) ++ before)),
              );
        }

-- ---- one row with what is under it, and children one after another: by the fuel

abbrev Tree : (Build → Build) → Build → ℕ → Type 0
Tree again b n = (T : Loose → Loose) × (G : Grew b (again b) n T) × (G.ids ≡ tile (length b.nodes) ∷ [])

abbrev Builds : ℕ → Type 0
Builds f = (b : Build) (n : ℕ) → Due b (suc n) → length b.rows ≤ f → Tree (push_spec f) b n

-- ids that are there, and the children's after them
abbrev Line : List TileId → Build → ℕ → Children → Type 0
Line is b n c = (T : Loose → Loose) × (G : Grew b c.done n T) × (c.ids ≡ is ++ G.ids)

module _ (f : ℕ) (ih : Builds f) where
  line : (k : ℕ) (is : List TileId) (b : Build) (n : ℕ) → Due b (n + k) → length b.rows ≤ f → Line is b n (push_children (push_spec f) k is b)
  unfolding push_children grew_none grew-chain
  line zero is b n D h = ((λ r. r), grew_none b n (record { enough = D.enough; due = ap (λ (j : ℕ). preorder j b.rows) (let z : n ≡ n + 0 = omega arith in z) ∙ D.due }), sym (append-nil is))
  line (suc k) is b n D h =
      let (S, A, a) = ih b (n + k) (record { enough = D.enough; due = ap (λ (j : ℕ). preorder j b.rows) (let z : suc (n + k) ≡ n + suc k = omega arith in z) ∙ D.due }) h in
      let b' = push_spec f b in
      let i = tile (length b.nodes) in
      let (T, B, q) = line k (is ++ i ∷ []) b' n (grew-due b b' (n + k) S A) (let z = A.rows_left in omega (arith, h, z)) in
      let c = push_children (push_spec f) k (is ++ i ∷ []) b' in
      ((λ r. S (T r)), grew-chain b b' c.done (n + k) n S T A B, q ∙ append_assoc is (i ∷ []) B.ids ∙ ap (λ (l : List TileId). is ++ (l ++ B.ids)) (sym a))

  row-grows : (r : Row) (rs : List Row) (b : Build) (n : ℕ) → length b.rows ≡ suc (length rs) → panes_used r + sum_rows panes_used rs ≡ length b.left.panes
      → preorder (n + children_used r) rs ≡ true → length rs ≤ f → (T : Loose → Loose) × (G : Grew b (push_row (push_spec f) r rs b) n T) × (G.ids ≡ tile (length b.nodes) ∷ [])
  unfolding grew-leaf grew-split
  row-grows pane_row rs b n w e d h = one b.left.panes refl
    where
      one : (ps : List ℕ) → b.left.panes ≡ ps → (T : Loose → Loose) × (G : Grew b (push_row (push_spec f) pane_row rs b) n T) × (G.ids ≡ tile (length b.nodes) ∷ [])
      one [] q = absurd (let z = ap length q in omega (arith, e, z))
      one (p ∷ ps) q =
          let x = get_or b.left.panes 0 0 in
          let whole : x ∷ drop 1 b.left.panes ≡ b.left.panes = (λ z. get_or (q z) 0 0 ∷ drop 1 (q z)) ∙ sym q in
          (shows (tile (length b.nodes)) (x ∷ []), grew-leaf b pane_row rs (pane x) (x ∷ []) n refl w refl whole e d, refl)
  row-grows (tabs_row p k v) rs b n w e d h =
      let r = tabs_row p k v in
      let ps = row_panes r b.left in
      (shows (tile (length b.nodes)) ps, grew-leaf b r rs (tabs p v ps) ps n refl w refl (take-append-drop k b.left.panes) e d, refl)
  row-grows (split_row x k s m) rs b n w e d h =
      let r = split_row x k s m in
      let b₁ = pushed b rs r empty_group in
      let (T, G, q) = line k [] b₁ n (record { enough = omega (arith, e); due = d }) h in
      let c = push_children (push_spec f) k [] b₁ in
      (parts (tile (length b.nodes)) (T end), grew-split b x k s m rs n w c T G q, refl)

-- no row, and a tile to come
no_rows : {A : Type 0} (b : Build) (n : ℕ) → Due b (suc n) → b.rows ≡ [] → A
unfolding preorder
no_rows b n D q = never (sym (sym (ap (preorder (suc n)) q) ∙ D.due) ∙ ne_eqb (suc n) 0 (λ e. omega (arith, e)))

next_grows : (f : ℕ) → Builds f → (b : Build) (n : ℕ) → Due b (suc n) → length b.rows ≤ suc f → (rs : List Row) → b.rows ≡ rs
    → (T : Loose → Loose) × (G : Grew b (push_next (push_spec f) rs b) n T) × (G.ids ≡ tile (length b.nodes) ∷ [])
unfolding preorder sum_rows
next_grows f ih b n D h [] q = no_rows b n D q
next_grows f ih b n D h (r ∷ rs) q =
    let z = ap length q in
    row-grows f ih r rs b n z (sym (ap (sum_rows panes_used) q) ∙ D.enough) (sym (ap (preorder (suc n)) q) ∙ D.due) (omega (arith, h, z))

pub builds : (f : ℕ) → Builds f
unfolding push_spec
builds zero b n D h = none b.rows refl
  where
    none : (rs : List Row) → b.rows ≡ rs → Tree (push_spec zero) b n
    none [] q = no_rows b n D q
    none (r ∷ rs) q = absurd (let z = ap length q in omega (arith, h, z))
builds (suc f) b n D h = next_grows f (builds f) b n D h b.rows refl
