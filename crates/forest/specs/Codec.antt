-- A split's children with their shares and minima: as they are stored in the slot, and as the walk reads them. Assumes nothing.
use Rattle.std.specs.Prelude.{◌≡◌, refl, true, List, [], ◌∷◌, map, ℕ, suc, length, Float}
use Rattle.std.proofs.Common.{ap, ◌∙◌, arith}
use Rattle.std.specs.Float.Ieee.{eq}
use Rattle.rules.specs.Tree.{Node, split}
use Rattle.rules.specs.Shares.{fix_share, repaired_shares, eq_reals}
use Rattle.rules.specs.Minima.{fix_minimum, aligned_constraints, compact_constraints}
use Rattle.rules.specs.Repair.{Entry, entry, entries, children_of, shares_of, minima_of}
use Rattle.rules.specs.declared.model.TileId.{TileId}
use Rattle.rules.specs.declared.model.Axis.{Axis}
use Rattle.forest.specs.Lists.{All, all_map}
use Rattle.forest.specs.Mended.{fix_share-twice, share-self, minimum-self, eq_reals-self, shares-mended, shares-same, aligned-mended, aligned-compact, compact-all}

-- a list of entries as a slot holds it
abbrev pub stored : Axis → List Entry → Node
stored a es = split a (children_of es) (shares_of es) (compact_constraints (minima_of es))

-- the shares changed
abbrev pub reshared : (Float → Float) → Entry → Entry
reshared h e = entry e.child (h e.share) e.minimum

-- mended: repair leaves the share, or the minimum, as it is
abbrev pub Shared : Entry → Type 0
Shared e = fix_share e.share ≡ e.share

abbrev pub Least : Entry → Type 0
Least e = fix_minimum e.minimum ≡ e.minimum

pub shared-all : (es : List Entry) → All Shared es → All (λ x. fix_share x ≡ x) (shares_of es)
shared-all [] a = tt
shared-all (e ∷ es) a = (a.0, shared-all es a.1)

pub least-all : (es : List Entry) → All Least es → All (λ m. fix_minimum m ≡ m) (minima_of es)
least-all [] a = tt
least-all (e ∷ es) a = (a.0, least-all es a.1)

pub long_shares : (es : List Entry) → length (shares_of es) ≡ length (children_of es)
long_shares [] = refl
long_shares (e ∷ es) = ap suc (long_shares es)

pub long-minima : (es : List Entry) → length (minima_of es) ≡ length (children_of es)
long-minima [] = refl
long-minima (e ∷ es) = ap suc (long-minima es)

pub long-children : (es : List Entry) → length (children_of es) ≡ length es
long-children [] = refl
long-children (e ∷ es) = ap suc (long-children es)

entries-back : (es : List Entry) → entries (children_of es) (shares_of es) (minima_of es) ≡ es
unfolding entries
entries-back [] = refl
entries-back (e ∷ es) = ap (λ (l : List Entry). e ∷ l) (entries-back es)

-- the shares and minima that the walk reads off a stored list
-- the lists that entries were made of
pub entries-children : (cs : List TileId) (ss ms : List Float) → length ss ≡ length cs → length ms ≡ length cs → children_of (entries cs ss ms) ≡ cs
unfolding entries
entries-children [] ss ms p q = refl
entries-children (c ∷ cs) [] ms p q = absurd (omega arith)
entries-children (c ∷ cs) (x ∷ ss) [] p q = absurd (omega arith)
entries-children (c ∷ cs) (x ∷ ss) (m ∷ ms) p q = ap (λ (l : List TileId). c ∷ l) (entries-children cs ss ms (omega arith) (omega arith))

pub entries-shares : (cs : List TileId) (ss ms : List Float) → length ss ≡ length cs → length ms ≡ length cs → shares_of (entries cs ss ms) ≡ ss
unfolding entries
entries-shares [] [] ms p q = refl
entries-shares [] (x ∷ ss) ms p q = absurd (omega arith)
entries-shares (c ∷ cs) [] ms p q = refl
entries-shares (c ∷ cs) (x ∷ ss) [] p q = absurd (omega arith)
entries-shares (c ∷ cs) (x ∷ ss) (m ∷ ms) p q = ap (λ (l : List Float). x ∷ l) (entries-shares cs ss ms (omega arith) (omega arith))

pub entries-minima : (cs : List TileId) (ss ms : List Float) → length ss ≡ length cs → length ms ≡ length cs → minima_of (entries cs ss ms) ≡ ms
unfolding entries
entries-minima [] ss [] p q = refl
entries-minima [] ss (m ∷ ms) p q = absurd (omega arith)
entries-minima (c ∷ cs) [] ms p q = absurd (omega arith)
entries-minima (c ∷ cs) (x ∷ ss) [] p q = refl
entries-minima (c ∷ cs) (x ∷ ss) (m ∷ ms) p q = ap (λ (l : List Float). m ∷ l) (entries-minima cs ss ms (omega arith) (omega arith))

pub shares-back : (es : List Entry) → All Shared es → repaired_shares (length (children_of es)) (shares_of es) ≡ shares_of es
shares-back es s = rw (← long_shares es) (shares-mended (shares_of es) ∙ shares-same (shares_of es) (shared-all es s))

pub minima-back : (es : List Entry) → All Least es → aligned_constraints (length (children_of es)) (compact_constraints (minima_of es)) ≡ minima_of es
minima-back es m = rw (← long-minima es) (aligned-compact (minima_of es) (least-all es m))

pub read_back : (es : List Entry) → All Shared es → All Least es
    → entries (children_of es) (repaired_shares (length (children_of es)) (shares_of es)) (aligned_constraints (length (children_of es)) (compact_constraints (minima_of es))) ≡ es
read_back es s m = rw (shares-back es s, minima-back es m) (entries-back es)

-- and they equal what is stored, by the Rust's test
pub shares-equal : (es : List Entry) → All Shared es → eq_reals (shares_of es) (shares_of es) ≡ true
shares-equal es s = eq_reals-self (shares_of es) (all_map share-self (shares_of es) (shared-all es s))

pub minima-equal : (es : List Entry) → All Least es → eq_reals (compact_constraints (minima_of es)) (compact_constraints (minima_of es)) ≡ true
minima-equal es m =
    eq_reals-self (compact_constraints (minima_of es)) (compact-all (λ x. eq x x ≡ true) (minima_of es) (all_map minimum-self (minima_of es) (least-all es m)))

-- ---- what the walk starts from: each minimum is mended

entries-least : (cs : List TileId) (ss ms : List Float) → All (λ m. fix_minimum m ≡ m) ms → All Least (entries cs ss ms)
unfolding entries
entries-least [] ss ms a = tt
entries-least (c ∷ cs) [] ms a = tt
entries-least (c ∷ cs) (s ∷ ss) [] a = tt
entries-least (c ∷ cs) (s ∷ ss) (m ∷ ms) a = (a.0, entries-least cs ss ms a.1)

pub start-least : (cs : List TileId) (ss ms : List Float) (n : ℕ) → All Least (entries cs ss (aligned_constraints n ms))
start-least cs ss ms n = entries-least cs ss (aligned_constraints n ms) (aligned-mended n ms)

-- ---- reshared entries

pub reshared-children : (h : Float → Float) (es : List Entry) → children_of (map (reshared h) es) ≡ children_of es
reshared-children h [] = refl
reshared-children h (e ∷ es) = ap (λ (l : List TileId). e.child ∷ l) (reshared-children h es)

pub reshared-shares : (h : Float → Float) (es : List Entry) → shares_of (map (reshared h) es) ≡ map h (shares_of es)
reshared-shares h [] = refl
reshared-shares h (e ∷ es) = ap (λ (l : List Float). h e.share ∷ l) (reshared-shares h es)

pub reshared-minima : (h : Float → Float) (es : List Entry) → minima_of (map (reshared h) es) ≡ minima_of es
reshared-minima h [] = refl
reshared-minima h (e ∷ es) = ap (λ (l : List Float). e.minimum ∷ l) (reshared-minima h es)

-- the list that a split is left with, its shares mended, as it is stored
pub stored-fixed : (a : Axis) (es : List Entry) → split a (children_of es) (repaired_shares (length es) (shares_of es)) (compact_constraints (minima_of es)) ≡ stored a (map (reshared fix_share) es)
stored-fixed a es =
    rw (← long-children es, ← long_shares es, shares-mended (shares_of es), reshared-children fix_share es, reshared-shares fix_share es, reshared-minima fix_share es) refl

pub fixed-shared : (es : List Entry) → All Shared (map (reshared fix_share) es)
fixed-shared [] = tt
fixed-shared (e ∷ es) = (fix_share-twice e.share, fixed-shared es)
