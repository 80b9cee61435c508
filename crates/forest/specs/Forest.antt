-- The ghost of a tree: a forest as one plain data type, child then sibling, whose roots have shares and minima; and what it means that slots hold it.
-- Assumes nothing.
use Rattle.std.specs.Prelude.{◌≡◌, refl, Bool, false, ◌||◌, List, [], ◌∷◌, ◌++◌, map, ℕ, ◌≤◌, ◌<◌, ltb, length, get_or, Float}
use Rattle.std.proofs.Common.{sym, ap, subst, ◌∙◌, append_assoc}
use Rattle.std.proofs.Math.Bool.{or_assoc}
use Rattle.rules.specs.Tree.{Node, empty, pane, tabs, split, node_at, is_empty}
use Rattle.rules.specs.Repair.{Entry, entry, melts}
use Rattle.rules.specs.declared.model.TileId.{TileId}
use Rattle.rules.specs.declared.model.Axis.{Axis}
use Rattle.forest.specs.Lists.{All, all_map, all_both, all_append, all_left, all_right}
use Rattle.forest.specs.Codec.{stored, reshared, Shared, Least}

-- a tile with its share and minimum, what it shows or its axis and what is under it, and what stands beside it
pub data Forest : Type 0 where
  nil : Forest
  leaf : TileId → Float → Float → List ℕ → Forest → Forest
  node : TileId → Float → Float → Axis → Forest → Forest → Forest

abbrev pub roots : Forest → List Entry
roots nil = []
roots (leaf i s m ps r) = entry i s m ∷ roots r
roots (node i s m a c r) = entry i s m ∷ roots r

-- the slots of its tiles, in reading order
abbrev pub tiles : Forest → List ℕ
tiles nil = []
tiles (leaf i s m ps r) = i.slot ∷ tiles r
tiles (node i s m a c r) = i.slot ∷ (tiles c ++ tiles r)

-- its panes, in reading order
abbrev pub shown : Forest → List ℕ
shown nil = []
shown (leaf i s m ps r) = ps ++ shown r
shown (node i s m a c r) = shown c ++ shown r

infixl 65 ◌⧺◌
abbrev pub ◌⧺◌ : Forest → Forest → Forest
nil ⧺ g = g
leaf i s m ps r ⧺ g = leaf i s m ps (r ⧺ g)
node i s m a c r ⧺ g = node i s m a c (r ⧺ g)

-- the roots' shares changed
abbrev pub reshare : (Float → Float) → Forest → Forest
reshare h nil = nil
reshare h (leaf i s m ps r) = leaf i (h s) m ps (reshare h r)
reshare h (node i s m a c r) = node i (h s) m a c (reshare h r)

-- a split of it has more than 16 children; and the same, or it has more than 16 roots itself
abbrev pub wide : Forest → Bool
wide nil = false
wide (leaf i s m ps r) = wide r
wide (node i s m a c r) = (ltb 16 (length (roots c)) || wide c) || wide r

abbrev pub broad : Forest → Bool
broad f = ltb 16 (length (roots f)) || wide f

-- ---- the slots hold a forest

-- a pane tile shows its pane; a group its panes, and its active index is one of theirs
abbrev pub Leafy : Node → List ℕ → Type 0
Leafy empty ps = ⊥
Leafy (pane p) ps = ps ≡ p ∷ []
Leafy (tabs b a qs) ps = (ps ≡ qs) × (a < length qs)
Leafy (split a cs ss ms) ps = ⊥

pub record IsLeaf (ns : List Node) (i : TileId) (ps : List ℕ) : Type 0 where
  pub inside : i.slot < 64
  pub leafy : Leafy (node_at ns i) ps

-- its minimum is mended, and it is not to be melted
abbrev pub Set : List Node → Axis → Entry → Type 0
Set ns a e = Least e × (melts a e.minimum (node_at ns e.child) ≡ false)

abbrev pub Fine : List Node → Axis → Entry → Type 0
Fine ns a e = Shared e × Set ns a e

pub fine-shared : (ns : List Node) (a : Axis) (es : List Entry) → All (Fine ns a) es → All Shared es
fine-shared ns a = all_map (λ x q. q.0)

pub fine-least : (ns : List Node) (a : Axis) (es : List Entry) → All (Fine ns a) es → All Least es
fine-least ns a = all_map (λ x q. q.1.0)

pub record IsSplit (ns : List Node) (i : TileId) (a : Axis) (es : List Entry) : Type 0 where
  pub inside : i.slot < 64
  pub is : node_at ns i ≡ stored a es
  pub two : 2 ≤ length es
  pub fine : All (Fine ns a) es

abbrev pub Holds : List Node → Forest → Type 0
Holds ns nil = Unit {0}
Holds ns (leaf i s m ps r) = IsLeaf ns i ps × Holds ns r
Holds ns (node i s m a c r) = IsSplit ns i a (roots c) × Holds ns c × Holds ns r

-- ---- laws

pub roots-append : (f g : Forest) → roots (f ⧺ g) ≡ roots f ++ roots g
roots-append nil g = refl
roots-append (leaf i s m ps r) g = ap (λ (l : List Entry). entry i s m ∷ l) (roots-append r g)
roots-append (node i s m a c r) g = ap (λ (l : List Entry). entry i s m ∷ l) (roots-append r g)

pub tiles-append : (f g : Forest) → tiles (f ⧺ g) ≡ tiles f ++ tiles g
tiles-append nil g = refl
tiles-append (leaf i s m ps r) g = ap (λ (l : List ℕ). i.slot ∷ l) (tiles-append r g)
tiles-append (node i s m a c r) g =
    ap (λ (l : List ℕ). i.slot ∷ (tiles c ++ l)) (tiles-append r g) ∙ ap (λ (l : List ℕ). i.slot ∷ l) (sym (append_assoc (tiles c) (tiles r) (tiles g)))

pub shown-append : (f g : Forest) → shown (f ⧺ g) ≡ shown f ++ shown g
shown-append nil g = refl
shown-append (leaf i s m ps r) g = ap (λ (l : List ℕ). ps ++ l) (shown-append r g) ∙ sym (append_assoc ps (shown r) (shown g))
shown-append (node i s m a c r) g = ap (λ (l : List ℕ). shown c ++ l) (shown-append r g) ∙ sym (append_assoc (shown c) (shown r) (shown g))

pub holds-append : (ns : List Node) (f g : Forest) → Holds ns f → Holds ns g → Holds ns (f ⧺ g)
holds-append ns nil g a b = b
holds-append ns (leaf i s m ps r) g a b = (a.0, holds-append ns r g a.1 b)
holds-append ns (node i s m x c r) g a b = (a.0, a.1, holds-append ns r g a.2 b)

pub wide-append : (f g : Forest) → wide (f ⧺ g) ≡ (wide f || wide g)
wide-append nil g = refl
wide-append (leaf i s m ps r) g = wide-append r g
wide-append (node i s m a c r) g = ap (λ (b : Bool). (ltb 16 (length (roots c)) || wide c) || b) (wide-append r g) ∙ sym (or_assoc (ltb 16 (length (roots c)) || wide c) (wide r) (wide g))

pub wide-reshare : (h : Float → Float) (f : Forest) → wide (reshare h f) ≡ wide f
wide-reshare h nil = refl
wide-reshare h (leaf i s m ps r) = wide-reshare h r
wide-reshare h (node i s m a c r) = ap (λ (b : Bool). (ltb 16 (length (roots c)) || wide c) || b) (wide-reshare h r)

pub roots-reshare : (h : Float → Float) (f : Forest) → roots (reshare h f) ≡ map (reshared h) (roots f)
roots-reshare h nil = refl
roots-reshare h (leaf i s m ps r) = ap (λ (l : List Entry). entry i (h s) m ∷ l) (roots-reshare h r)
roots-reshare h (node i s m a c r) = ap (λ (l : List Entry). entry i (h s) m ∷ l) (roots-reshare h r)

pub tiles-reshare : (h : Float → Float) (f : Forest) → tiles (reshare h f) ≡ tiles f
tiles-reshare h nil = refl
tiles-reshare h (leaf i s m ps r) = ap (λ (l : List ℕ). i.slot ∷ l) (tiles-reshare h r)
tiles-reshare h (node i s m a c r) = ap (λ (l : List ℕ). i.slot ∷ (tiles c ++ l)) (tiles-reshare h r)

pub shown-reshare : (h : Float → Float) (f : Forest) → shown (reshare h f) ≡ shown f
shown-reshare h nil = refl
shown-reshare h (leaf i s m ps r) = ap (λ (l : List ℕ). ps ++ l) (shown-reshare h r)
shown-reshare h (node i s m a c r) = ap (λ (l : List ℕ). shown c ++ l) (shown-reshare h r)

pub holds-reshare : (h : Float → Float) (ns : List Node) (f : Forest) → Holds ns f → Holds ns (reshare h f)
holds-reshare h ns nil a = tt
holds-reshare h ns (leaf i s m ps r) a = (a.0, holds-reshare h ns r a.1)
holds-reshare h ns (node i s m x c r) a = (a.0, a.1, holds-reshare h ns r a.2)

-- a fact of the tiles is a fact of the roots
pub all-roots : (P : ℕ → Type 0) (f : Forest) → All P (tiles f) → All (λ e. P e.child.slot) (roots f)
all-roots P nil a = tt
all-roots P (leaf i s m ps r) a = (a.0, all-roots P r a.1)
all-roots P (node i s m x c r) a = (a.0, all-roots P r (all_right P (tiles c) (tiles r) a.1))

-- ---- a forest is held where its tiles' slots are the same

abbrev pub Same : List Node → List Node → ℕ → Type 0
Same ns ms i = get_or ms i empty ≡ get_or ns i empty

pub set_same : (ns ms : List Node) (a : Axis) (es : List Entry) → All (λ e. Same ns ms e.child.slot) es → All (Set ns a) es → All (Set ms a) es
set_same ns ms a = all_both (λ e s q. (q.0, ap (melts a e.minimum) s ∙ q.1))

pub fine-same : (ns ms : List Node) (a : Axis) (es : List Entry) → All (λ e. Same ns ms e.child.slot) es → All (Fine ns a) es → All (Fine ms a) es
fine-same ns ms a = all_both (λ e s q. (q.0, (q.1.0, ap (melts a e.minimum) s ∙ q.1.1)))

pub holds_same : (ns ms : List Node) (f : Forest) → All (Same ns ms) (tiles f) → Holds ns f → Holds ms f
holds_same ns ms nil s h = tt
holds_same ns ms (leaf i _ _ ps r) s h =
    (record { inside = h.0.inside; leafy = subst (λ (n : Node). Leafy n ps) (sym s.0) h.0.leafy }, holds_same ns ms r s.1 h.1)
holds_same ns ms (node i _ _ a c r) s h = (
  record {
    inside = h.0.inside;
    is = s.0 ∙ h.0.is;
    two = h.0.two;
    fine = fine-same ns ms a (roots c) (all-roots (Same ns ms) c (all_left (Same ns ms) (tiles c) (tiles r) s.1)) h.0.fine;
  },
  holds_same ns ms c (all_left (Same ns ms) (tiles c) (tiles r) s.1) h.1,
  holds_same ns ms r (all_right (Same ns ms) (tiles c) (tiles r) s.1) h.2,
)

-- ---- its tiles are occupied slots

abbrev pub Full : List Node → ℕ → Type 0
Full ns i = (i < 64) × (is_empty (get_or ns i empty) ≡ false)

leafy-full : (n : Node) (ps : List ℕ) → Leafy n ps → is_empty n ≡ false
leafy-full empty ps l = absurd l
leafy-full (pane p) ps l = refl
leafy-full (tabs b a qs) ps l = refl
leafy-full (split a cs ss ms) ps l = absurd l

pub holds-full : (ns : List Node) (f : Forest) → Holds ns f → All (Full ns) (tiles f)
holds-full ns nil h = tt
holds-full ns (leaf i _ _ ps r) h = ((h.0.inside, leafy-full (node_at ns i) ps h.0.leafy), holds-full ns r h.1)
holds-full ns (node i _ _ a c r) h =
    ((h.0.inside, ap is_empty h.0.is), all_append (Full ns) (tiles c) (tiles r) (holds-full ns c h.1) (holds-full ns r h.2))
