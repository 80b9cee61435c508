-- A tile put beside another: in the tree that is made every tile is reached that was reached, and so is the new one; and every other slot shows the panes that
-- it showed. Here what is said, and the case of a split that takes the tile in. Assumes nothing.
use Rattle.std.specs.Prelude.{◌≡◌, refl, ◌≢◌, ◌⊎◌, true, false, List, [], ℕ, ◌<◌, length, get_or, set}
use Rattle.std.proofs.Common.{sym, ap, subst, ◌∙◌, inl, inr, arith, length-set, get_or-set_same, get_or-set_other}
use Rattle.std.proofs.Math.Option.{some}
use Rattle.std.proofs.Math.Decide.{ℕ_discrete}
use Rattle.rules.specs.Lists.{insert_at}
use Rattle.rules.specs.Tree.{Node, empty, pane, tabs, split, Arena, arena, tile, node_at, set_node, is_empty, kids_of, panes_of, reading_from, same_tile, Member, Reached}
use Rattle.rules.specs.Target.{Parent, find_parent}
use Rattle.rules.specs.Insert.{Draft, draft, Beside, insert_index, inserted_in, new_split, replaced_in}
use Rattle.rules.specs.Operations.{taken}
use Rattle.rules.specs.declared.model.TileId.{TileId}
use Rattle.rules.specs.declared.model.Placement.{Placement}
use Rattle.rules.specs.declared.model.Placement.TheVariants.{Before, After}
use Rattle.lists.specs.Find.{position-found}
use Rattle.forest.specs.Lists.{never}
use Rattle.forest.specs.Stays.{Shown, kids-full, full-inside}
use Rattle.nodes.specs.Find.{is_split}
use Rattle.docking.specs.Near.{Alike, alike-kids, alike_set, taken-empty}
use Rattle.fates.specs.Spots.{insert-has, insert-keeps, place-has, set-like, parent-has}

-- ---- what is reached in one arena is reached in another, if its root is and each of its steps can be made there

pub carry : (a b : Arena) → (a.root.slot < 64 → Reached b a.root.slot)
    → ((i : ℕ) (j : TileId) → Member j (kids_of (get_or a.nodes i empty)) → Reached b i → Reached b j.slot) → (i : ℕ) → Reached a i → Reached b i
carry a b r s i (Reached.root h) = r h
carry a b r s i (Reached.child {i = x} {j = j} q m) = s x j m (carry a b r s x q)

-- a draft as an arena
abbrev pub of : Draft → Arena
of d = arena d.root 0 d.nodes

pub step-to : (b : Arena) (i : ℕ) (j : TileId) (l : List TileId) → kids_of (get_or b.nodes i empty) ≡ l → Member j l → Reached b i → Reached b j.slot
step-to b i j l e m q = Reached.child q (subst (Member j) (sym e) m)

pub carry-like : (a : Arena) (ms : List Node) → ((i : ℕ) → kids_of (get_or ms i empty) ≡ kids_of (get_or a.nodes i empty)) → (i : ℕ) → Reached a i → Reached (of (draft a.root ms)) i
carry-like a ms e =
    carry a (of (draft a.root ms)) (λ h. Reached.root h) (λ i j m q. step-to (of (draft a.root ms)) i j (kids_of (get_or a.nodes i empty)) (e i) m q)

-- ---- the nodes that are made

is-split : (n : Node) (k : TileId) → Member k (kids_of n) → is_split n ≡ true
is-split empty k m = absurd m
is-split (pane p) k m = absurd m
is-split (tabs b a ps) k m = absurd m
is-split (split a cs ss ms) k m = refl

module _ (b : Beside) (new : TileId) where
  inserted-kids : (i : ℕ) (n : Node) → is_split n ≡ true → kids_of (inserted_in b new i n) ≡ insert_at (insert_index b.placement i) new (kids_of n)
  inserted-kids i empty e = never (sym e)
  inserted-kids i (pane p) e = never (sym e)
  inserted-kids i (tabs x a ps) e = never (sym e)
  inserted-kids i (split x cs ss ms) e = refl

  inserted-panes : (i : ℕ) (n : Node) → panes_of (inserted_in b new i n) ≡ panes_of n
  inserted-panes i empty = refl
  inserted-panes i (pane p) = refl
  inserted-panes i (tabs x a ps) = refl
  inserted-panes i (split x cs ss ms) = refl

  pub new-target : (p : Placement) → Member b.target (kids_of (new_split b new p))
  new-target Before = inr (inl refl)
  new-target After = inl refl

  pub new-own : (p : Placement) → Member new (kids_of (new_split b new p))
  new-own Before = inl refl
  new-own After = inr (inl refl)

  pub new-panes : (p : Placement) → panes_of (new_split b new p) ≡ []
  new-panes Before = refl
  new-panes After = refl

module _ (new : TileId) (i : ℕ) where
  pub replaced-kids : (n : Node) → is_split n ≡ true → kids_of (replaced_in new i n) ≡ set (kids_of n) i new
  replaced-kids empty e = never (sym e)
  replaced-kids (pane p) e = never (sym e)
  replaced-kids (tabs x a ps) e = never (sym e)
  replaced-kids (split x cs ss ms) e = refl

  pub replaced-panes : (n : Node) → panes_of (replaced_in new i n) ≡ panes_of n
  replaced-panes empty = refl
  replaced-panes (pane p) = refl
  replaced-panes (tabs x a ps) = refl
  replaced-panes (split x cs ss ms) = refl

-- ---- the tree d, made of the tree a by putting a tile among its slots ms

pub record Grafted (a : Arena) (ms : List Node) (new : Node) (d : Draft) : Type 0 where
  pub reach : (i : ℕ) → Reached a i → Reached (of d) i
  pub keeps : (i p : ℕ) → Member p (panes_of (get_or ms i empty)) → Member p (panes_of (get_or d.nodes i empty))
  pub put : (p : ℕ) → Member p (panes_of new) → Shown (of d) p
  pub from : (i p : ℕ) → Member p (panes_of (get_or d.nodes i empty)) → Member p (panes_of (get_or ms i empty)) ⊎ Member p (panes_of new)

-- what it is put into: the slots ms are those of the sound tree a, perhaps with a pane taken out; and what is put in is no split
pub record Ground (a : Arena) (ms : List Node) (new : Node) : Type 0 where
  pub size : length a.nodes ≡ 64
  pub full : (i : ℕ) → is_empty (get_or a.nodes i empty) ≡ false → Reached a i
  pub whole : length ms ≡ 64
  pub alike : Alike a.nodes ms
  pub blank : (i : ℕ) → get_or a.nodes i empty ≡ empty → get_or ms i empty ≡ empty
  pub leaf : is_split new ≡ false

module _ (a : Arena) (ms : List Node) (new : Node) (G : Ground a ms new) where
  abbrev x : ℕ
  x = (taken 0 a).slot

  abbrev pub first : List Node
  first = set_node (taken 0 a) new ms

  pub x-empty : get_or a.nodes x empty ≡ empty
  x-empty = taken-empty a.nodes G.size 0

  -- from what the slots of d are
  pub grafted : (d : Draft) → get_or d.nodes x empty ≡ new → ((i : ℕ) → i ≢ x → panes_of (get_or d.nodes i empty) ≡ panes_of (get_or ms i empty)) → ((i : ℕ) → Reached a i → Reached (of d) i) → Reached (of d) x
      → Grafted a ms new d
  grafted d own others reach there =
      record {
        reach = reach;
        keeps = λ i p m. kept i p m (ℕ_discrete i x);
        put = λ p m. (x, there, subst (λ (n : Node). Member p (panes_of n)) (sym own) m);
        from = λ i p m. came i p m (ℕ_discrete i x);
      }
    where
      kept : (i p : ℕ) → Member p (panes_of (get_or ms i empty)) → Dec (i ≡ x) → Member p (panes_of (get_or d.nodes i empty))
      kept i p m (yes e) = absurd (subst (λ (n : Node). Member p (panes_of n)) (ap (λ (k : ℕ). get_or ms k empty) e ∙ G.blank x x-empty) m)
      kept i p m (no e) = subst (Member p) (sym (others i e)) m

      came : (i p : ℕ) → Member p (panes_of (get_or d.nodes i empty)) → Dec (i ≡ x) → Member p (panes_of (get_or ms i empty)) ⊎ Member p (panes_of new)
      came i p m (yes e) = inr (subst (λ (n : Node). Member p (panes_of n)) (ap (λ (k : ℕ). get_or d.nodes k empty) e ∙ own) m)
      came i p m (no e) = inl (subst (Member p) (others i e) m)

  -- ---- the slots with the new tile, not hung yet

  pub first-long : length first ≡ 64
  first-long = length-set ms x new ∙ G.whole

  pub first-own : x < 64 → get_or first x empty ≡ new
  first-own h = get_or-set_same ms x new empty (omega (arith, h, G.whole))

  pub first-other : (i : ℕ) → i ≢ x → get_or first i empty ≡ get_or ms i empty
  first-other i e = get_or-set_other ms x i new empty e

  pub first_alike : Alike a.nodes first
  first_alike = alike_set a.nodes ms G.alike x new G.leaf (ap is_split x-empty)

  pub first-kids : (i : ℕ) → kids_of (get_or first i empty) ≡ kids_of (get_or a.nodes i empty)
  first-kids = alike-kids a.nodes first first_alike

  -- ---- the split that holds the target

  module _ (b : Beside) (q : Parent) (found : find_parent a.root a.nodes b.target ≡ some q) where
    abbrev s : ℕ
    s = q.split.slot

    abbrev pub kids : List TileId
    kids = kids_of (get_or a.nodes s empty)

    -- the target's place in it
    abbrev held : TileId
    held = get_or kids q.index (tile 0)

    pub placed : (q.index < length kids) × (same_tile b.target held ≡ true)
    placed = position-found (same_tile b.target) kids q.index (tile 0) (parent-has a.nodes b.target (reading_from a.nodes a.root) q found)

    held_in : Member held kids
    held_in = place-has q.index kids (tile 0) placed.0

    pub s-full : is_empty (get_or a.nodes s empty) ≡ false
    s-full = kids-full (get_or a.nodes s empty) held held_in

    pub s-in : s < 64
    s-in = full-inside a.nodes G.size s s-full

    -- it is no empty slot
    pub s-not : (i : ℕ) → get_or a.nodes i empty ≡ empty → i ≢ s
    s-not i e w = never (ap is_empty (sym e) ∙ ap (λ (k : ℕ). is_empty (get_or a.nodes k empty)) w ∙ s-full)

    pub s-split : is_split (get_or first s empty) ≡ true
    s-split = is-split (get_or first s empty) held (subst (Member held) (sym (first-kids s)) held_in)

    -- ---- put in it

    abbrev place : ℕ
    place = insert_index b.placement q.index

    abbrev pub inside : Draft
    inside = draft a.root (set_node q.split (inserted_in b (taken 0 a) q.index (node_at first q.split)) first)

    inside-kids : kids_of (get_or inside.nodes s empty) ≡ insert_at place (taken 0 a) kids
    inside-kids =
        ap kids_of (get_or-set_same first s (inserted_in b (taken 0 a) q.index (get_or first s empty)) empty (omega (arith, first-long, s-in)))
        ∙ inserted-kids b (taken 0 a) q.index (get_or first s empty) s-split ∙ ap (insert_at place (taken 0 a)) (first-kids s)

    inside-other : (i : ℕ) → i ≢ s → get_or inside.nodes i empty ≡ get_or first i empty
    inside-other i e = get_or-set_other first s i (inserted_in b (taken 0 a) q.index (get_or first s empty)) empty e

    inside-reach : (i : ℕ) → Reached a i → Reached (of inside) i
    inside-reach = carry a (of inside) (λ h. Reached.root h) (λ i j m r. go i j m r (ℕ_discrete i s))
      where
        go : (i : ℕ) (j : TileId) → Member j (kids_of (get_or a.nodes i empty)) → Reached (of inside) i → Dec (i ≡ s) → Reached (of inside) j.slot
        go i j m r (yes e) =
            step-to (of inside) s j (insert_at place (taken 0 a) kids) inside-kids
            (insert-keeps place (taken 0 a) kids j (subst (λ (k : ℕ). Member j (kids_of (get_or a.nodes k empty))) e m)) (subst (Reached (of inside)) e r)
        go i j m r (no e) = step-to (of inside) i j (kids_of (get_or a.nodes i empty)) (ap kids_of (inside-other i e) ∙ first-kids i) m r

    pub inside-grafted : x < 64 → Grafted a ms new inside
    inside-grafted h =
        grafted inside (inside-other x (s-not x x-empty) ∙ first-own h)
        (λ i e. set-like panes_of first s (inserted_in b (taken 0 a) q.index (get_or first s empty)) (inserted-panes b (taken 0 a) q.index (get_or first s empty)) i ∙ ap panes_of (first-other i e)) inside-reach
        (step-to (of inside) s (taken 0 a) (insert_at place (taken 0 a) kids) inside-kids (insert-has place (taken 0 a) kids) (inside-reach s (G.full s s-full)))
