-- Laws of a repair by value: the columns of the tree given were repaired, and packed. Assumes nothing.
use Rattle.std.specs.Prelude.{Result, Ok, Err}
use mathlib.Core.Path.{◌≡◌, refl, sym, ap, subst, ◌∙◌}
use mathlib.Core.List.{List, map}
use Prim.Native.Nat.{ℕ}
use lib.Ieee.{Float}
use Rattle.rules.specs.Lists.{any_of}
use Rattle.rules.specs.Tree.{Arena, tile, view_slot, over_slot, view}
use Rattle.rules.specs.Repair.{Repaired, repair}
use Rattle.rules.specs.declared.model.TileTree.{TileTree}
use Rattle.rules.specs.declared.model.RepairAction.{RepairAction}
use Rattle.rules.specs.Refusals.{Answer}
use Rattle.rules.specs.Refusals.{Accepted, Refused}
use Rattle.rules.specs.declared.refusal.Refusal.{Refusal}
use Rattle.columns.specs.Columns.{nodes_from, Lists}
use Rattle.columns.specs.Pack.{over_of, reported}
use Rattle.columns.specs.Shown.{Columned, arena_from}
use Rattle.repair.specs.Whole.{repaired, Repairs, Returns, Packs}
use Rattle.settling.specs.Settle.{answer_in, root_in, count_in, Comes, Mends}
use Rattle.settling.specs.declared.Settled.{Settled}
use Rattle.repair.specs.declared.Repairing.{Repairing}
use Rattle.settling.proofs.PlainLaws.{tree-shown}
use Rattle.forest.specs.Answers.{not-both}

-- ---- the packing

module _ (t : TileTree) (s : Result Settled Refusal) (hs xs : List (List ℕ)) (ss ms : List (List Float)) (acts : List (List ℕ)) (r : Repairing) where
  pub packs-accepted : (d : Settled) → s ≡ Ok d → r.answer ≡ Accepted → r.tree.root ≡ tile d.root → r.tree.revision ≡ t.revision
      → (map view_slot r.tree.slots ≡ nodes_from hs xs ss ms) × (any_of over_slot r.tree.slots ≡ any_of over_of hs) → ((l : List RepairAction) → Lists acts d.count l → reported r.actions ≡ l)
      → Packs t s hs xs ss ms acts r
  packs-accepted d e er root revision (nodes, over) listed =
      let same = root ∙ sym (ap (λ (y : Result Settled Refusal). tile (root_in y)) e) in
      record {
        answer = er ∙ sym (ap answer_in e);
        tree = λ q. λ z. record { root = same z; revision = revision z; nodes = nodes z; over = over z };
        actions = λ q l g. listed l (subst (λ (y : Result Settled Refusal). Lists acts (count_in y) l) e g);
        given = λ f q. not-both (ap answer_in e) q;
      }

  pub packs-refused : (f : Refusal) → s ≡ Err f → Returns t f r → Packs t s hs xs ss ms acts r
  packs-refused f e R =
      let no = ap answer_in e in
      record { answer = R.answer ∙ sym no; tree = λ q. not-both q no; actions = λ q. not-both q no; given = λ g q. (R.tree, R.actions) }

-- ---- and what it gives

module _ (t : TileTree) (hs xs : List (List ℕ)) (ss ms : List (List Float)) (acts : List (List ℕ)) (s : Result Settled Refusal) (r : Repairing) (Q : Packs t s hs xs ss ms acts r) where
  -- the rule's answer for the tree given, as the columns show it
  pub packed-is : (a : Arena) (x : Repaired) → a ≡ view t → Comes a x hs xs ss ms acts s → repaired r ≡ x
  packed-is a x e C = go (answer_in s) refl
    where
      go : (b : Answer) → answer_in s ≡ b → repaired r ≡ x
      go (Ok _) q =
          let revised = Q.tree q ∙ ap (λ (v : ℕ). arena_from (root_in s) v hs xs ss ms) (sym (ap (λ (y : Arena). y.revision) e)) in
          λ z. record { answer = (Q.answer ∙ C.answer) z; tree = (revised ∙ sym (C.tree q)) z; actions = Q.actions q x.actions C.actions z }
      go (Err f) q =
          let (tree, none) = Q.given f q in
          λ z. record { answer = (Q.answer ∙ C.answer) z; tree = (ap view tree ∙ sym e ∙ sym (C.given f q).0) z; actions = (none ∙ sym (C.given f q).1) z }

  pub packed-given : (e : Refusal) → r.answer ≡ Refused e → r.tree ≡ t
  packed-given e q = (Q.given e (sym Q.answer ∙ q)).0

module _ (t : TileTree) (gs ys : List (List ℕ)) (us ns : List (List Float)) (K : Columned t gs ys us ns) (hs xs : List (List ℕ)) (ss ms : List (List Float)) (acts : List (List ℕ)) (s : Result Settled Refusal) (r : Repairing) (Q : Packs t s hs xs ss ms acts r) where
  abbrev a : Arena
  a = arena_from t.root.slot t.revision gs ys us ns

  shown : a ≡ view t
  shown = tree-shown t gs ys us ns K

  pub packed-repairs : Mends t.root.slot gs ys us ns hs xs ss ms acts s → Repairs t r
  packed-repairs M = (packed-is t hs xs ss ms acts s r Q a (repair a) shown (M.right t.revision) ∙ ap repair shown, packed-given t hs xs ss ms acts s r Q)
