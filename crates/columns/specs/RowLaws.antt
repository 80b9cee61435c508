-- Laws of one slot read from columns and written to them. Assumes nothing.
use Rattle.std.specs.Prelude.{◌≡◌, refl, Bool, false, ◌||◌, List, [], ◌∷◌, map, ℕ, zero, suc, ltb, Float, length, get_or, set}
use Rattle.std.proofs.Common.{ap, ◌∙◌, sym, length-set}
use Rattle.rules.specs.Lists.{any_of}
use Rattle.rules.specs.Tree.{view_slot, over_slot}
use Rattle.rules.specs.declared.model.Slot.{Slot}
use Rattle.columns.specs.Columns.{nodes_from}
use Rattle.columns.specs.Pack.{head_of, ids_of, shares_of, minima_of, Puts, over_head, over_kind, over_of, Even}
use Rattle.columns.specs.ColumnLaws.{nodes-long, nodes-set}
use Rattle.columns.specs.PackLaws.{node-back, over-head}
use Rattle.columns.specs.Shown.{Plain}
use Rattle.forest.specs.Bools.{or_left, or_right}

-- ---- heads of 16 at most

-- a head with no length over 16 has none that its kind uses
pub over-used : (k : ℕ) (h : List ℕ) → over_head h ≡ false → over_kind k h ≡ false
over-used zero h e = refl
over-used (suc zero) h e = refl
over-used (suc (suc zero)) h e =
    let a = ltb 16 (get_or h 4 0) in
    let b = ltb 16 (get_or h 5 0) in
    or_left a b (or_left (a || b) (ltb 16 (get_or h 6 0)) e)
over-used (suc (suc (suc n))) h e = e

pub head-whole : (hs : List (List ℕ)) (i : ℕ) → any_of over_head hs ≡ false → over_head (get_or hs i []) ≡ false
unfolding any_of
head-whole [] i e = refl
head-whole (h ∷ hs) zero e = or_left (over_head h) (any_of over_head hs) e
head-whole (h ∷ hs) (suc i) e = head-whole hs i (or_right (over_head h) (any_of over_head hs) e)

pub unused-none : (hs : List (List ℕ)) → any_of over_head hs ≡ false → map over_head hs ≡ map over_of hs
unfolding any_of
unused-none [] e = refl
unused-none (h ∷ hs) e =
    let a : over_head h ≡ false = or_left (over_head h) (any_of over_head hs) e in
    λ z. (a ∙ sym (over-used (get_or h 0 0) h a)) z ∷ unused-none hs (or_right (over_head h) (any_of over_head hs) e) z

set-whole : (hs : List (List ℕ)) (i : ℕ) (h : List ℕ) → any_of over_head hs ≡ false → over_head h ≡ false → any_of over_head (set hs i h) ≡ false
unfolding any_of
set-whole [] i h e f = refl
set-whole (x ∷ hs) zero h e f = ap (λ (b : Bool). b || any_of over_head hs) f ∙ or_right (over_head x) (any_of over_head hs) e
set-whole (x ∷ hs) (suc i) h e f = ap (λ (b : Bool). b || any_of over_head (set hs i h)) (or_left (over_head x) (any_of over_head hs) e) ∙ set-whole hs i h (or_right (over_head x) (any_of over_head hs) e) f

module _ (hs xs : List (List ℕ)) (ss ms : List (List Float)) (E : Even hs xs ss ms) where
  pub even-long : length (nodes_from hs xs ss ms) ≡ 64
  even-long = nodes-long hs xs ss ms E.heads E.ids E.shares E.minima

  -- the lists of each row are all there
  pub even-head : (i : ℕ) → over_head (get_or hs i []) ≡ false
  even-head i = head-whole hs i E.whole

  pub even-row : (i : ℕ) → over_of (get_or hs i []) ≡ false
  even-row i = over-used (get_or (get_or hs i []) 0 0) (get_or hs i []) (even-head i)

  -- ---- a slot written

  module _ (i : ℕ) (s : Slot) (hs' xs' : List (List ℕ)) (ss' ms' : List (List Float)) (P : Puts i s hs xs ss ms hs' xs' ss' ms') where
    pub put-nodes : nodes_from hs' xs' ss' ms' ≡ set (nodes_from hs xs ss ms) i (view_slot s)
    put-nodes =
        (λ z. nodes_from (P.heads z) (P.ids z) (P.shares z) (P.minima z))
        ∙ nodes-set hs xs ss ms i (head_of s) (ids_of s) (shares_of s) (minima_of s)
        ∙ ap (set (nodes_from hs xs ss ms) i) (node-back s.kind s)

    pub put-even : over_slot s ≡ false → Even hs' xs' ss' ms'
    put-even o =
        record {
          heads = ap length P.heads ∙ length-set hs i (head_of s) ∙ E.heads;
          ids = ap length P.ids ∙ length-set xs i (ids_of s) ∙ E.ids;
          shares = ap length P.shares ∙ length-set ss i (shares_of s) ∙ E.shares;
          minima = ap length P.minima ∙ length-set ms i (minima_of s) ∙ E.minima;
          whole = ap (any_of over_head) P.heads ∙ set-whole hs i (head_of s) E.whole (over-head s ∙ o);
        }

-- ---- such columns are plain

pub even-plain : (hs xs : List (List ℕ)) (ss ms : List (List Float)) → Even hs xs ss ms → Plain hs xs ss ms
even-plain hs xs ss ms E = record { heads = E.heads; ids = E.ids; shares = E.shares; minima = E.minima; unused = unused-none hs E.whole }

pub plain-even : (hs xs : List (List ℕ)) (ss ms : List (List Float)) → Plain hs xs ss ms → any_of over_head hs ≡ false → Even hs xs ss ms
plain-even hs xs ss ms P e = record { heads = P.heads; ids = P.ids; shares = P.shares; minima = P.minima; whole = e }
