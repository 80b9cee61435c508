-- Laws of a repair of columns: how each end of the walk gives the rule's answer. Assumes nothing.
use mathlib.Core.Path.{◌≡◌, refl, sym, ap, subst, ◌∙◌}
use mathlib.Core.Logic.{◌⊎◌, inl, inr}
use mathlib.Core.Bool.{Bool, true, false, ◌||◌}
use mathlib.Core.List.{List, [], ◌∷◌, map}
use Prim.Native.Nat.{ℕ, zero, suc, ◌+◌, ◌≤◌, ◌<◌}
use native.Mathlib.Omega.{arith}
use borrow.Author.Tests.{le-ltb, ltb-true, ltb-false}
use lib.Dec.{ltb}
use lib.ListN.{length, get_or, take, set}
use lib.Ieee.{Float}
use Rattle.std.specs.Prelude.{Result}
use Rattle.rules.specs.Lists.{any_of}
use Rattle.rules.specs.Tree.{Node, Arena, tile, set_node, empty_slots, empty_group, wide_node}
use Rattle.rules.specs.Repair.{Out, begin, normalize_node, Repaired, refused_repair, repair}
use Rattle.rules.specs.declared.model.RepairAction.{RepairAction}
use Rattle.rules.specs.declared.refusal.Refusal.{Refusal}
use Rattle.rules.specs.declared.refusal.Refusal.TheVariants.{ArenaFull, TooWide}
use Rattle.forest.specs.Lists.{All}
use Rattle.forest.specs.Soundness.{slots-inside}
use Rattle.forest.specs.Finish.{finished_as, normalized, repair-over, repair-whole, normalized-kept, normalized-wide, normalized-full, normalized-fresh}
use Rattle.sifting.specs.Work.{Cols, Sized, Shows}
use Rattle.sifting.specs.Walked.{Walked}
use Rattle.sifting.specs.declared.Kept.{Kept}
use Rattle.sifting.specs.declared.Kept.TheVariants.{At, Gone, Wide}
use Rattle.columns.specs.Columns.{nodes_from, Slim, code_of, Lists}
use Rattle.columns.specs.ColumnLaws.{nodes-head, slim-set}
use Rattle.columns.specs.Pack.{over_head, over_kind, over_of, first_of}
use Rattle.forest.specs.Bools.{or_left}
use Rattle.forest.specs.Answers.{not-both}
use Rattle.columns.specs.OverLaws.{none_over}
use Rattle.columns.specs.Shown.{arena_from, Plain}
use Rattle.settling.specs.Settle.{count_in, Left, Comes, Settles, Mends, Refuses, Finishes, blank_head, Plants}
use Rattle.settling.specs.declared.Settled.{Settled}
use Rattle.settling.proofs.StartLaws.{narrow-in, narrow-set, start, start-shows}
use Rattle.settling.proofs.PlainLaws.{plain_over, plain-long}

-- ---- slim heads have no list over 16, used or not

slim-over : (h : List ℕ) → Slim h → over_head h ≡ false
slim-over h (a, b, c) = λ z. le-ltb 16 (get_or h 4 0) a z || le-ltb 16 (get_or h 5 0) b z || le-ltb 16 (get_or h 6 0) c z

slim-alike : (k : ℕ) (h : List ℕ) → over_head h ≡ false → over_head h ≡ over_kind k h
slim-alike zero h e = e
slim-alike (suc zero) h e = e
slim-alike (suc (suc zero)) h e = e ∙ sym (or_left (ltb 16 (get_or h 4 0)) (ltb 16 (get_or h 5 0)) (or_left (ltb 16 (get_or h 4 0) || ltb 16 (get_or h 5 0)) (ltb 16 (get_or h 6 0)) e))
slim-alike (suc (suc (suc k))) h e = refl

slim-unused : (hs : List (List ℕ)) → ((i : ℕ) → Slim (get_or hs i [])) → map over_head hs ≡ map over_of hs
slim-unused [] s = refl
slim-unused (h ∷ hs) s = λ z. slim-alike (get_or h 0 0) h (slim-over h (s 0)) z ∷ slim-unused hs (λ i. s (suc i)) z

slim-whole : (hs : List (List ℕ)) → ((i : ℕ) → Slim (get_or hs i [])) → any_of over_head hs ≡ false
unfolding any_of
slim-whole [] s = refl
slim-whole (h ∷ hs) s = λ z. slim-over h (s 0) z || slim-whole hs (λ i. s (suc i)) z

-- the sweep has room for what it lists
pub room-left : (D : Cols) → Sized D → D.counts.acts + 64 ≤ 1300
room-left D S = omega (arith, S.listing)

-- ---- refused, whatever the columns are then

refused-left : (hs xs : List (List ℕ)) (ss ms : List (List Float)) (e : Refusal) (r : Result Settled Refusal) → Refuses e r → Left hs xs ss ms r
refused-left hs xs ss ms e r R = record { count = omega (arith, R.count); plain = λ a. not-both a R.answer; whole = λ a. not-both a R.answer }

refused-comes : (a : Arena) (x : Repaired) (hs xs : List (List ℕ)) (ss ms : List (List Float)) (acts : List (List ℕ)) (e : Refusal) (r : Result Settled Refusal) → Refuses e r → x ≡ refused_repair e a → Comes a x hs xs ss ms acts r
refused-comes a x hs xs ss ms acts e r R q =
    record {
      answer = R.answer ∙ sym (ap (λ (y : Repaired). y.answer) q);
      tree = λ p. not-both p R.answer;
      actions = λ whole. (λ z. take (R.count z) acts) ∙ sym (ap (λ (y : Repaired). map code_of y.actions) q);
      given = λ f p. (ap (λ (y : Repaired). y.tree) q, ap (λ (y : Repaired). y.actions) q);
    }

-- ---- accepted: the heads gs were swept by the claims cs

module _ (gs xs : List (List ℕ)) (ss ms : List (List Float)) (cs : List Bool) (acts : List (List ℕ)) (n s : ℕ) (hs' acts' : List (List ℕ)) (r : Result Settled Refusal) (F : Finishes gs cs acts n s hs' acts' r)
    (lx : length xs ≡ 64) (ls : length ss ≡ 64) (lm : length ms ≡ 64) (few : (i : ℕ) → Slim (get_or gs i [])) (room : n + 64 ≤ 1300) where
  finished-left : Left hs' xs ss ms r
  finished-left =
      let slim = F.swept.slim few in
      record {
        count = omega (arith, F.swept.most, room);
        plain = λ p. record { heads = F.swept.long; ids = lx; shares = ls; minima = lm; unused = slim-unused hs' slim };
        whole = λ p. slim-whole hs' slim;
      }

  finished-comes : (a : Arena) (x : Repaired) (l : List RepairAction) → Lists acts n l → x ≡ finished_as a (tile s) cs (nodes_from gs xs ss ms) l → Comes a x hs' xs ss ms acts' r
  finished-comes a x l g q =
      let S = F.swept in
      let nodes = sym (S.nodes xs ss ms lx ls lm) in
      let over = sym (none_over hs' (S.slim few)) in
      record {
        answer = F.answer ∙ sym (ap (λ (y : Repaired). y.answer) q);
        tree = λ p. ap (λ (y : Repaired). y.tree) q ∙ (λ z. record { root = tile (sym F.under z); revision = a.revision; nodes = nodes z; over = over z });
        actions = subst (λ (y : Repaired). Lists acts' (count_in r) y.actions) (sym q) (S.lists xs ss ms lx ls lm l g);
        given = λ f p. not-both F.answer p;
      }

-- ---- the walk ended, with the arrays D

below_or_not : (m n : ℕ) → (m < n) ⊎ (n ≤ m)
below_or_not m n = by (ltb m n) refl
  where
    by : (b : Bool) → ltb m n ≡ b → (m < n) ⊎ (n ≤ m)
    by true e = inl (ltb-true m n e)
    by false e = inr (ltb-false m n e)

none_free : (spare : ℕ) → 64 ≤ spare → (free : List ℕ) → All (λ i. i < 64) free → spare ≡ first_of free → free ≡ []
none_free spare h [] i q = refl
none_free spare h (x ∷ xs) i q = absurd (omega (arith, h, i.0, q))

some-free : (spare : ℕ) → spare < 64 → (free : List ℕ) → spare ≡ first_of free → (is : List ℕ) × (free ≡ spare ∷ is)
some-free spare h [] q = absurd (omega (arith, h, q))
some-free spare h (x ∷ xs) q = (xs, ap (λ (y : ℕ). y ∷ xs) (sym q))

module _ (root : ℕ) (hs xs : List (List ℕ)) (ss ms : List (List Float)) (P : Plain hs xs ss ms) (seen : List ℕ) (acts : List (List ℕ)) (D : Cols) (k : Kept) (W : Walked (start hs xs ss ms seen acts) D k root) (spare : ℕ) (hs' acts' : List (List ℕ)) (r : Result Settled Refusal) where
  abbrev C : Cols
  C = start hs xs ss ms seen acts

  abbrev Done : List (List ℕ) → List (List ℕ) → Type 0
  Done gs bs = Settles root spare hs xs ss ms gs D.ids D.shares D.minima bs r

  told : (q : Kept) → k ≡ q → Walked C D q root
  told q e = subst (λ (x : Kept). Walked C D x root) e W

  long : length (nodes_from hs xs ss ms) ≡ 64
  long = plain-long hs xs ss ms P

  shown : Shows C (begin (nodes_from hs xs ss ms))
  shown = start-shows hs xs ss ms seen acts (nodes_from hs xs ss ms) refl

  -- the rule's walk
  abbrev o : Out
  o = normalize_node 64 (tile root) (begin (nodes_from hs xs ss ms))

  -- a tile was kept
  pub ends-kept : (s : ℕ) → k ≡ At s → Finishes D.heads D.claimed D.acts D.counts.acts s hs' acts' r → Done hs' acts'
  ends-kept s e F =
      let X = told (At s) e in
      let (u, S) = X.right (begin (nodes_from hs xs ss ms)) shown 64 (omega arith) in
      let Z = X.sized in
      record {
        left = finished-left D.heads D.ids D.shares D.minima D.claimed D.acts D.counts.acts s hs' acts' r F Z.ids Z.shares Z.minima Z.slim (room-left D Z);
        right = λ v free h q.
            let a = arena_from root v hs xs ss ms in
            finished-comes D.heads D.ids D.shares D.minima D.claimed D.acts D.counts.acts s hs' acts' r F Z.ids Z.shares Z.minima Z.slim (room-left D Z) a (normalized a free) o.work.actions S.actions
            (normalized-kept a long free (tile s) u (ap (any_of wide_node) S.nodes ∙ narrow-in D Z) ∙ (λ z. finished_as a (tile s) (S.claimed z) (S.nodes z) o.work.actions));
      }

  -- a list passed 16
  pub ends-wide : k ≡ Wide → Refuses TooWide r → Done hs' acts'
  ends-wide e R =
      let X = told Wide e in
      record {
        left = refused-left hs' D.ids D.shares D.minima TooWide r R;
        right = λ v free h q.
            let a = arena_from root v hs xs ss ms in
            refused-comes a (normalized a free) hs' D.ids D.shares D.minima acts' TooWide r R (normalized-wide a long free (X.right (begin a.nodes) shown 64 (omega arith)));
      }

  -- nothing was kept
  pub ends-gone : k ≡ Gone → Plants D.heads D.claimed D.acts D.counts.acts spare hs' acts' r → Done hs' acts'
  ends-gone e G = go (below_or_not spare 64)
    where
      X : Walked C D Gone root
      X = told Gone e

      go : (spare < 64) ⊎ (64 ≤ spare) → Done hs' acts'
      go (inr h) =
          record {
            left = refused-left hs' D.ids D.shares D.minima ArenaFull r (G.full h);
            right = λ v free i q.
                let a = arena_from root v hs xs ss ms in
                refused-comes a (normalized a free) hs' D.ids D.shares D.minima acts' ArenaFull r (G.full h)
                (normalized-full a long free (X.right (begin a.nodes) shown 64 (omega arith)).0 (none_free spare h free i q));
          }
      go (inl h) =
          let (u, S) = X.right (begin (nodes_from hs xs ss ms)) shown 64 (omega arith) in
          let Z = X.sized in
          let few = slim-set D.heads spare blank_head Z.slim (omega arith, omega arith, omega arith) in
          record {
            left = finished-left (set D.heads spare blank_head) D.ids D.shares D.minima (set D.claimed spare true) D.acts D.counts.acts spare hs' acts' r (G.fresh h) Z.ids Z.shares Z.minima few (room-left D Z);
            right = λ v free i q.
                let a = arena_from root v hs xs ss ms in
                let (is, f) = some-free spare h free q in
                finished-comes (set D.heads spare blank_head) D.ids D.shares D.minima (set D.claimed spare true) D.acts D.counts.acts spare hs' acts' r (G.fresh h) Z.ids Z.shares Z.minima few (room-left D Z) a (normalized a free) o.work.actions S.actions
                (normalized-fresh a long free u spare is f h (narrow-set o.work.state.nodes spare (ap (any_of wide_node) S.nodes ∙ narrow-in D Z))
                ∙ (λ z. finished_as a (tile spare) (set (S.claimed z) spare true) (set_node (tile spare) empty_group (S.nodes z)) o.work.actions)
                ∙ ap (λ (ns : List Node). finished_as a (tile spare) (set D.claimed spare true) ns o.work.actions) (sym (nodes-head D.heads D.ids D.shares D.minima spare blank_head)));
          }

-- ---- repair is normalize with the slots that are empty

module _ (root : ℕ) (hs xs : List (List ℕ)) (ss ms : List (List Float)) (P : Plain hs xs ss ms) (hs' xs' : List (List ℕ)) (ss' ms' : List (List Float)) (acts' : List (List ℕ)) (r : Result Settled Refusal) where
  pub mends-over : any_of over_head hs ≡ true → Refuses TooWide r → Mends root hs xs ss ms hs' xs' ss' ms' acts' r
  mends-over e R =
      record {
        left = refused-left hs' xs' ss' ms' TooWide r R;
        right = λ v. let a = arena_from root v hs xs ss ms in refused-comes a (repair a) hs' xs' ss' ms' acts' TooWide r R (repair-over a (sym (plain_over hs xs ss ms P) ∙ e));
      }

  pub mends-whole : any_of over_head hs ≡ false → (spare : ℕ)
      → ((ys : List (List ℕ)) (us ns : List (List Float)) → length ys ≡ 64 → length us ≡ 64 → length ns ≡ 64 → spare ≡ first_of (empty_slots (nodes_from hs ys us ns)))
      → Settles root spare hs xs ss ms hs' xs' ss' ms' acts' r → Mends root hs xs ss ms hs' xs' ss' ms' acts' r
  mends-whole e spare f S =
      record {
        left = S.left;
        right = λ v.
            let a = arena_from root v hs xs ss ms in
            subst (λ (x : Repaired). Comes a x hs' xs' ss' ms' acts' r) (sym (repair-whole a (sym (plain_over hs xs ss ms P) ∙ e)))
            (S.right v (empty_slots a.nodes) (slots-inside a.nodes (plain-long hs xs ss ms P)) (f xs ss ms P.ids P.shares P.minima));
      }
