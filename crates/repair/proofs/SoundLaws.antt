-- A sound arena has no list over 16: by its quiet repair, or since a lone empty root has none at all. Assumes nothing.
use mathlib.Core.Path.{◌≡◌, refl, sym, ap, ◌∙◌}
use mathlib.Core.Bool.{Bool, true, false, ◌&&◌, ◌||◌}
use mathlib.Core.List.{List, [], ◌∷◌}
use Prim.Native.Nat.{ℕ, zero, suc, ◌≤◌, ◌<◌}
use native.Mathlib.Omega.{arith}
use borrow.Author.Tests.{ltb-true, ltb-false, le-ltb}
use lib.Dec.{eqb, ltb}
use lib.ListN.{length, take, get_or, set}
use lib.Ieee.{Float}
use Rattle.rules.specs.Lists.{any_of, all_of, same_list}
use Rattle.rules.specs.Tree.{Node, Arena, empty, is_empty, empty_group, bar_code, same_node}
use Rattle.rules.specs.Repair.{repair}
use Rattle.rules.specs.Sound.{is_accepted, is_none, lone_empty_root, sound}
use Rattle.forest.specs.Bools.{and_both}
use Rattle.forest.specs.Nodes.{past}
use Rattle.forest.specs.Lists.{never}
use Rattle.forest.specs.SoundIs.{quiet-repair, sound-is}
use Rattle.columns.specs.Columns.{bar_from, node_by, node_from, nodes_from, Slim}
use Rattle.columns.specs.Pack.{over_kind, over_of}
use Rattle.columns.specs.Shown.{arena_from, Plain}
use Rattle.settling.proofs.PlainLaws.{slim-heads, plain_over, plain-long}

-- an empty slot has no list
bare : (k : ℕ) (h xs : List ℕ) (ss ms : List Float) → is_empty (node_by k h xs ss ms) ≡ true → over_kind k h ≡ false
bare zero h xs ss ms e = refl
bare (suc zero) h xs ss ms e = refl
bare (suc (suc zero)) h xs ss ms e = never (sym e)
bare (suc (suc (suc k))) h xs ss ms e = never (sym e)

none-taken : (n : ℕ) (xs : List ℕ) → 0 < length xs → same_list eqb (take n xs) [] ≡ true → ltb 16 n ≡ false
unfolding same_list
none-taken zero xs h e = le-ltb 16 0 (omega arith)
none-taken (suc n) [] h e = absurd (omega arith)
none-taken (suc n) (x ∷ xs) h e = never (sym e)

-- nor has the empty group
blank : (k : ℕ) (h xs : List ℕ) (ss ms : List Float) → 0 < length xs → same_node (node_by k h xs ss ms) empty_group ≡ true → over_kind k h ≡ false
blank zero h xs ss ms l e = refl
blank (suc zero) h xs ss ms l e = refl
blank (suc (suc zero)) h xs ss ms l e = none-taken (get_or h 4 0) xs l (and_both (eqb (bar_code (bar_from (get_or h 1 0))) 0 && eqb (get_or h 3 0) 0) (same_list eqb (take (get_or h 4 0) xs) []) e).1
blank (suc (suc (suc k))) h xs ss ms l e = never (sym e)

all-bare : (hs xs : List (List ℕ)) (ss ms : List (List Float)) → length xs ≡ length hs → length ss ≡ length hs → length ms ≡ length hs → all_of is_empty (nodes_from hs xs ss ms) ≡ true → any_of over_of hs ≡ false
unfolding all_of any_of nodes_from
all-bare [] xs ss ms p q r e = refl
all-bare (h ∷ hs) [] ss ms p q r e = absurd (omega arith)
all-bare (h ∷ hs) (x ∷ xs) [] ms p q r e = absurd (omega arith)
all-bare (h ∷ hs) (x ∷ xs) (s ∷ ss) [] p q r e = absurd (omega arith)
all-bare (h ∷ hs) (x ∷ xs) (s ∷ ss) (m ∷ ms) p q r e =
    let (b, c) = and_both (is_empty (node_from h x s m)) (all_of is_empty (nodes_from hs xs ss ms)) e in
    ap (λ (y : Bool). y || any_of over_of hs) (bare (get_or h 0 0) h x s m b) ∙ all-bare hs xs ss ms (omega arith) (omega arith) (omega arith) c

lone-bare : (hs xs : List (List ℕ)) (ss ms : List (List Float)) → length xs ≡ length hs → length ss ≡ length hs → length ms ≡ length hs → (i : ℕ) → 0 < length (get_or xs i [])
    → same_node (get_or (nodes_from hs xs ss ms) i empty) empty_group ≡ true → all_of is_empty (set (nodes_from hs xs ss ms) i empty) ≡ true → any_of over_of hs ≡ false
unfolding all_of any_of nodes_from
lone-bare [] xs ss ms p q r i l e a = refl
lone-bare (h ∷ hs) [] ss ms p q r i l e a = absurd (omega arith)
lone-bare (h ∷ hs) (x ∷ xs) [] ms p q r i l e a = absurd (omega arith)
lone-bare (h ∷ hs) (x ∷ xs) (s ∷ ss) [] p q r i l e a = absurd (omega arith)
lone-bare (h ∷ hs) (x ∷ xs) (s ∷ ss) (m ∷ ms) p q r zero l e a =
    ap (λ (y : Bool). y || any_of over_of hs) (blank (get_or h 0 0) h x s m l e) ∙ all-bare hs xs ss ms (omega arith) (omega arith) (omega arith) a
lone-bare (h ∷ hs) (x ∷ xs) (s ∷ ss) (m ∷ ms) p q r (suc i) l e a =
    let (b, c) = and_both (is_empty (node_from h x s m)) (all_of is_empty (set (nodes_from hs xs ss ms) i empty)) a in
    ap (λ (y : Bool). y || any_of over_of hs) (bare (get_or h 0 0) h x s m b) ∙ lone-bare hs xs ss ms (omega arith) (omega arith) (omega arith) i l e c

module _ (root v : ℕ) (hs xs : List (List ℕ)) (ss ms : List (List Float)) (P : Plain hs xs ss ms) (row : root < 64 → length (get_or xs root []) ≡ 16) where
  abbrev a : Arena
  a = arena_from root v hs xs ss ms

  abbrev ns : List Node
  ns = nodes_from hs xs ss ms

  long : length ns ≡ 64
  long = plain-long hs xs ss ms P

  lone : lone_empty_root a ≡ true → any_of over_of hs ≡ false
  lone l = let (e, o) = and_both (same_node (get_or ns root empty) empty_group) (all_of is_empty (set ns root empty)) l in by (ltb root 64) refl e o
    where
      by : (b : Bool) → ltb root 64 ≡ b → same_node (get_or ns root empty) empty_group ≡ true → all_of is_empty (set ns root empty) ≡ true → any_of over_of hs ≡ false
      by true q e o =
          let n : length (get_or xs root []) ≡ 16 = row (ltb-true root 64 q) in
          lone-bare hs xs ss ms (P.ids ∙ sym P.heads) (P.shares ∙ sym P.heads) (P.minima ∙ sym P.heads) root (omega arith) e o
      by false q e o =
          let far : 64 ≤ root = ltb-false root 64 q in
          never (sym (ap (λ (n : Node). same_node n empty_group) (sym (past ns root (omega (arith, long)))) ∙ e))

  pub sound-whole : sound a ≡ true → any_of over_of hs ≡ false
  sound-whole e = by (is_accepted (repair a).answer && is_none (repair a).actions) refl (sym (sound-is a long) ∙ e)
    where
      by : (b : Bool) → (is_accepted (repair a).answer && is_none (repair a).actions) ≡ b → (b || lone_empty_root a) ≡ true → any_of over_of hs ≡ false
      by true q p = let (x, y) = and_both (is_accepted (repair a).answer) (is_none (repair a).actions) q in (quiet-repair a long x y).3
      by false q p = lone p

  pub sound-slim : sound a ≡ true → (i : ℕ) → Slim (get_or hs i [])
  sound-slim e = slim-heads hs (plain_over hs xs ss ms P ∙ sound-whole e)
