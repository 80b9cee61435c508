-- What from_spec answers, for any bytes. An accepted table's tree is sound, its panes in reading order are the panes section, and its revision
-- is 0; a refused one's is a lone empty root; and the answer is one. Assumes nothing.
use Rattle.std.specs.Prelude.{◌≡◌, ◌≢◌, ◌↔◌, ◌⊎◌, Bool, true, false, List, [], ℕ, zero, suc, ◌≤◌, ltb, length, get_or, replicate}
use Rattle.std.proofs.Math.Path.{refl}
use Rattle.std.proofs.Common.{sym, ap, subst, ◌∙◌, inl, inr, arith, ltb-false}
use Rattle.std.proofs.Math.Option.{Option, none, some}
use Rattle.rules.specs.Lists.{any_of}
use Rattle.rules.specs.Tree.{empty, Arena, arena, tile, view, empty_slots, wide_node, Occupied, Reached}
use Rattle.rules.specs.Target.{panes_in}
use Rattle.rules.specs.Sound.{sound}
use Rattle.rules.specs.Table.{Table, read_table}
use Rattle.rules.specs.Spec.{left_of, validate, built_nodes, Built, refused_spec, wide_row, built_by, built_as, validated, narrow, within, tabled, from_spec}
use Rattle.rules.specs.Repair.{Normal, normalize}
use Rattle.rules.specs.declared.model.TileTree.{TileTree}
use Rattle.rules.specs.Refusals.{Answer}
use Rattle.rules.specs.Refusals.{Accepted, Refused}
use Rattle.rules.specs.declared.refusal.Refusal.{Refusal}
use Rattle.rules.specs.declared.refusal.Refusal.TheVariants.{BadTable, ArenaFull, TooWide}
use Rattle.forest.specs.Loose.{Loose, shown, Held}
use Rattle.forest.specs.Kept.{keeps-panes}
use Rattle.forest.specs.Settled.{Lone, settled}
use Rattle.forest.specs.Soundness.{settled-sound, Finished, finished-sound, finished-reached, slots-inside}
use Rattle.drafting.specs.Draft.{Drafted, drafted-same}
use Rattle.accepted.specs.Standing.{read_fits, held}

-- ---- the way to an accepted answer

pub record Accepts (bs : List ℕ) : Type 0 where
  pub table : Table
  pub made : Normal
  pub read : read_table bs ≡ some table
  pub few : length table.rows ≤ 64
  pub checked : validate table.rows (left_of table) [] ≡ none
  pub normal : normalize (empty_slots (built_nodes table)) (tile 0) (built_nodes table) ≡ some made
  pub slim : any_of wide_node made.nodes ≡ false
  pub is : from_spec bs ≡ record { answer = Accepted; tree = arena made.root 0 made.nodes }

not-refused : {A : Type 0} (e : Refusal) → Refused e ≡ Accepted → A
not-refused e q = absurd (let z : ◌≡◌ {A = ℕ} 0 1 = cc in omega arith)

module _ (bs : List ℕ) where
  module _ (t : Table) (read : read_table bs ≡ some t) where
    module _ (few : length t.rows ≤ 64) (checked : validate t.rows (left_of t) [] ≡ none) where
      by_width : (n : Normal) → normalize (empty_slots (built_nodes t)) (tile 0) (built_nodes t) ≡ some n
          → (b : Bool) → any_of wide_node n.nodes ≡ b → from_spec bs ≡ built_by b n → (built_by b n).answer ≡ Accepted → Accepts bs
      by_width n q true w s e = not-refused _ e
      by_width n q false w s e = record { table = t; made = n; read = read; few = few; checked = checked; normal = q; slim = w; is = s }

      by-normal : (o : Option Normal) → normalize (empty_slots (built_nodes t)) (tile 0) (built_nodes t) ≡ o → from_spec bs ≡ built_as o → (built_as o).answer ≡ Accepted → Accepts bs
      by-normal none q s e = not-refused _ e
      by-normal (some n) q s e = by_width n q (any_of wide_node n.nodes) refl s e

    by-checks : length t.rows ≤ 64 → (o : Option Refusal) → validate t.rows (left_of t) [] ≡ o → from_spec bs ≡ validated o t → (validated o t).answer ≡ Accepted → Accepts bs
    by-checks few (some x) q s e = not-refused _ e
    by-checks few none q s e = by-normal few q (normalize (empty_slots (built_nodes t)) (tile 0) (built_nodes t)) refl s e

    by_rows : length t.rows ≤ 64 → (b : Bool) → from_spec bs ≡ narrow b t → (narrow b t).answer ≡ Accepted → Accepts bs
    by_rows few true s e = not-refused _ e
    by_rows few false s e = by-checks few (validate t.rows (left_of t) []) refl s e

    by_count : (b : Bool) → ltb 64 (length t.rows) ≡ b → from_spec bs ≡ within b t → (within b t).answer ≡ Accepted → Accepts bs
    by_count true q s e = not-refused _ e
    by_count false q s e = by_rows (ltb-false 64 (length t.rows) q) (any_of wide_row t.rows) s e

  by-table : (o : Option Table) → read_table bs ≡ o → from_spec bs ≡ tabled o → (tabled o).answer ≡ Accepted → Accepts bs
  by-table none q s e = not-refused _ e
  by-table (some t) q s e = by_count t q (ltb 64 (length t.rows)) refl s e

  pub accepts : (from_spec bs).answer ≡ Accepted → Accepts bs
  unfolding from_spec
  accepts e = by-table (read_table bs) refl refl e

  -- ---- what is accepted

  module _ (e : (from_spec bs).answer ≡ Accepted) where
    abbrev A : Accepts bs
    A = accepts e

    abbrev a : Arena
    a = arena A.made.root 0 A.made.nodes

    tree_is : a ≡ (from_spec bs).tree
    tree_is = ap (λ (b : Built). b.tree) (sym A.is)

    stands : (f : Loose) × Held (built_nodes A.table) (tile 0) f × (shown f ≡ A.table.panes)
    stands = held A.table (read_fits A.table bs A.read) A.few A.checked

    done : Finished (from_spec bs).tree
    done =
        let ns = built_nodes A.table in
        let size = stands.1.size in
        subst Finished tree_is
        record { settled = settled ns size (tile 0) (empty_slots ns) (slots-inside ns size) A.made A.normal; narrow = A.slim; whole = refl }

    -- an accepted table's tree is sound
    pub accepted-sound : sound (from_spec bs).tree ≡ true
    accepted-sound = finished-sound (from_spec bs).tree done

    -- its occupied slots are those that are reached from its root
    pub accepted-reached : (i : ℕ) → Occupied (from_spec bs).tree i ↔ Reached (from_spec bs).tree i
    accepted-reached = finished-reached (from_spec bs).tree done

    -- its panes, in reading order, are the panes section: none is lost, none is added, and none changes places
    pub accepted-panes : (t : Table) → read_table bs ≡ some t → panes_in (from_spec bs).tree.root (from_spec bs).tree.nodes ≡ t.panes
    accepted-panes t q =
        let u = A.table in
        let ns = built_nodes u in
        let (f, H, p) = stands in
        let r : some u ≡ some t = sym A.read ∙ q in
        let same : u ≡ t = cc in
        ap (λ (x : Arena). panes_in x.root x.nodes) (sym tree_is)
        ∙ keeps-panes ns (tile 0) f H (empty_slots ns) (slots-inside ns H.size) A.made A.normal ∙ p ∙ ap (λ (x : Table). x.panes) same

-- ---- of every answer

-- accepted, or refused with a lone empty root; and the revision is 0
abbrev Either : Built → Type 0
Either b = ((b.answer ≡ Accepted) × (b.tree.revision ≡ 0)) ⊎ ((e : Refusal) × (b ≡ refused_spec e))

either-width : (b : Bool) (n : Normal) → Either (built_by b n)
either-width true n = inr (TooWide, refl)
either-width false n = inl (refl, refl)

either-normal : (o : Option Normal) → Either (built_as o)
either-normal none = inr (ArenaFull, refl)
either-normal (some n) = either-width (any_of wide_node n.nodes) n

either-checks : (o : Option Refusal) (t : Table) → Either (validated o t)
either-checks (some e) t = inr (e, refl)
either-checks none t = either-normal (normalize (empty_slots (built_nodes t)) (tile 0) (built_nodes t))

either-rows : (b : Bool) (t : Table) → Either (narrow b t)
either-rows true t = inr (TooWide, refl)
either-rows false t = either-checks (validate t.rows (left_of t) []) t

either-count : (b : Bool) (t : Table) → Either (within b t)
either-count true t = inr (ArenaFull, refl)
either-count false t = either-rows (any_of wide_row t.rows) t

either-table : (o : Option Table) → Either (tabled o)
either-table none = inr (BadTable, refl)
either-table (some t) = either-count (ltb 64 (length t.rows)) t

pub accepted-or-refused : (bs : List ℕ) → (((from_spec bs).answer ≡ Accepted) × ((from_spec bs).tree.revision ≡ 0)) ⊎ ((e : Refusal) × (from_spec bs ≡ refused_spec e))
unfolding from_spec
accepted-or-refused bs = either-table (read_table bs)

-- the lone empty root
pub no_more : (n i : ℕ) → get_or (replicate n empty) i empty ≡ empty
no_more zero i = refl
no_more (suc n) zero = refl
no_more (suc n) (suc i) = no_more n i

refused-lone : (e : Refusal) → Lone (refused_spec e).tree.nodes (tile 0)
refused-lone e = record { size = refl; inside = omega arith; is = refl; rest = other }
  where
    other : (i : ℕ) → i ≢ 0 → get_or (refused_spec e).tree.nodes i empty ≡ empty
    other zero n = absurd (n refl)
    other (suc i) n = no_more 63 i

refused-narrow : (e : Refusal) → any_of wide_node (refused_spec e).tree.nodes ≡ false
unfolding any_of
refused-narrow e = refl

-- ANY BYTES: the tree that comes back is sound, whatever was answered
pub from-spec-sound : (bs : List ℕ) → sound (from_spec bs).tree ≡ true
from-spec-sound bs = go (accepted-or-refused bs)
  where
    go : Either (from_spec bs) → sound (from_spec bs).tree ≡ true
    go (inl (e, _)) = accepted-sound bs e
    go (inr (e, q)) = subst (λ (b : Built). sound b.tree ≡ true) (sym q) (settled-sound (refused_spec e).tree.nodes (tile 0) 0 (refused-narrow e) (inr (refused-lone e)))

-- two tables of equal sections have equal answers and equal trees
pub same-sections : (bs cs : List ℕ) (t u : Table) → read_table bs ≡ some t → read_table cs ≡ some u
    → t.rows ≡ u.rows → t.panes ≡ u.panes → t.shares ≡ u.shares → t.minima ≡ u.minima → from_spec bs ≡ from_spec cs
unfolding from_spec
same-sections bs cs t u p q r s x y = ap tabled (p ∙ (λ i. some (record { rows = r i; panes = s i; shares = x i; minima = y i })) ∙ sym q)

-- THE ANSWER IS ONE: two that meet the call's contract have the same answer with the same details, and trees of one view
pub from-spec-unique : (bs : List ℕ) (x y : Answer) (t u : TileTree) → Drafted x t (from_spec bs) → Drafted y u (from_spec bs) → (x ≡ y) × (view t ≡ view u)
from-spec-unique bs x y t u a b = drafted-same a b
