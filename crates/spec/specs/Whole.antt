-- A spec's tree is repaired as any arena is: the rules' built_from is their repair, told as a spec's answer. Assumes nothing.
use Rattle.std.specs.Prelude.{Result, Ok, Err}
use Rattle.std.specs.Prelude.{◌≡◌, refl, Bool, true, false, List, [], map, ℕ, ltb, Float, length}
use Rattle.std.proofs.Common.{sym, ap, subst, ◌∙◌}
use Rattle.std.proofs.Math.Option.{Option, none, some}
use Rattle.rules.specs.Lists.{any_of}
use Rattle.rules.specs.Tree.{Node, Arena, arena, tile, view_slot, over_slot, empty_slots, wide_node}
use Rattle.rules.specs.Table.{Table, read_table}
use Rattle.rules.specs.Repair.{Normal, normalize, Repaired, repaired_as, repair}
use Rattle.rules.specs.Repair as Rule
use Rattle.rules.specs.Spec.{left_of, validate, Built, refused_spec, wide_row, built_by, built_as, built_from, from_spec}
use Rattle.rules.specs.declared.model.TileTree.{TileTree}
use Rattle.rules.specs.Refusals.{Answer}
use Rattle.rules.specs.Refusals.{Accepted, Refused}
use Rattle.rules.specs.declared.refusal.Refusal.{Refusal}
use Rattle.columns.specs.Columns.{nodes_from}
use Rattle.columns.specs.Pack.{over_of}
use Rattle.columns.specs.Shown.{arena_from, Plain}
use Rattle.settling.specs.Settle.{answer_in, root_in, Mends}
use Rattle.settling.specs.declared.Settled.{Settled}
use Rattle.drafting.specs.Draft.{draft_checked, draft_narrow, draft_within, draft_tabled, draft_of, Drafted, DraftedIn, refused_as, BuiltIn, repaired_by, from-draft}
use Rattle.drafting.specs.DraftLaws.{built-refused}

abbrev pub told_by : Answer → Repaired → Built
told_by (Ok _) r = record { answer = Accepted; tree = r.tree }
told_by (Err e) r = refused_spec e

-- what a repair answered, told as a spec's answer
abbrev pub told : Repaired → Built
told r = told_by r.answer r

abbrev pub built_of : Arena → Built
built_of a = told (repair a)

module _ (ns : List Node) where
  abbrev a : Arena
  a = arena (tile 0) 0 ns

  by_width : (b : Bool) (n : Normal) → told (Rule.repaired_by b a n) ≡ built_by b n
  by_width true n = refl
  by_width false n = refl

  by-root : (o : Option Normal) → told (repaired_as a o) ≡ built_as o
  by-root none = refl
  by-root (some n) = by_width (any_of wide_node n.nodes) n

  pub built_of_lem : built_of a ≡ built_from ns
  unfolding repair
  built_of_lem = by-root (normalize (empty_slots ns) (tile 0) ns)

-- ---- a draft's tree has root 0 and revision 0, whatever was answered

checked-tree : (o : Option Refusal) (t : Table) → (draft_checked o t).tree ≡ arena (tile 0) 0 (draft_checked o t).tree.nodes
checked-tree none t = refl
checked-tree (some e) t = refl

narrow-tree : (b : Bool) (t : Table) → (draft_narrow b t).tree ≡ arena (tile 0) 0 (draft_narrow b t).tree.nodes
narrow-tree true t = refl
narrow-tree false t = checked-tree (validate t.rows (left_of t) []) t

within-tree : (b : Bool) (t : Table) → (draft_within b t).tree ≡ arena (tile 0) 0 (draft_within b t).tree.nodes
within-tree true t = refl
within-tree false t = narrow-tree (any_of wide_row t.rows) t

tabled-tree : (o : Option Table) → (draft_tabled o).tree ≡ arena (tile 0) 0 (draft_tabled o).tree.nodes
tabled-tree none = refl
tabled-tree (some t) = within-tree (ltb 64 (length t.rows)) t

draft-tree : (bs : List ℕ) → (draft_of bs).tree ≡ arena (tile 0) 0 (draft_of bs).tree.nodes
unfolding draft_of
draft-tree bs = tabled-tree (read_table bs)

-- ---- from the draft and its repair to the whole

told-says : (y : Answer) (x : Repaired) → y ≡ (told_by y x).answer
told-says (Ok _) x = refl
told-says (Err e) x = refl

told-given : (y : Answer) (x : Repaired) → told_by y x ≡ refused_as y (told_by y x)
told-given (Ok _) x = refl
told-given (Err e) x = refl

-- a tree's columns, repaired
pub told_in : (root : ℕ) (hs xs : List (List ℕ)) (ss ms : List (List Float)) (hs' xs' : List (List ℕ)) (ss' ms' : List (List Float)) (acts : List (List ℕ)) (s : Result Settled Refusal)
    → Mends root hs xs ss ms hs' xs' ss' ms' acts s → BuiltIn (built_of (arena_from root 0 hs xs ss ms)) (answer_in s) (root_in s) hs' xs' ss' ms'
told_in root hs xs ss ms hs' xs' ss' ms' acts s M =
    let x = repair (arena_from root 0 hs xs ss ms) in
    let e : told x ≡ told_by (answer_in s) x = ap (λ (y : Answer). told_by y x) (sym (M.right 0).answer) in
    record {
      says = told-says (answer_in s) x ∙ sym (ap (λ (b : Built). b.answer) e);
      given = e ∙ told-given (answer_in s) x ∙ sym (ap (refused_as (answer_in s)) e);
      holds = λ q. sym ((M.right 0).tree q) ∙ sym (ap (λ (b : Built). b.tree) e ∙ ap (λ (y : Answer). (told_by y x).tree) q);
      plain = M.left.plain;
    }

module _ (bs : List ℕ) (x : Answer) (hs xs : List (List ℕ)) (ss ms : List (List Float)) (D : BuiltIn (draft_of bs) x 0 hs xs ss ms) where
  by_answer : (y : Answer) → x ≡ y → from_spec bs ≡ repaired_by y (draft_of bs)
  by_answer y q = from-draft bs ∙ ap (λ (z : Answer). repaired_by z (draft_of bs)) (sym D.says ∙ q)

  pub whole-accepted : x ≡ Accepted → (y : Answer) (root : ℕ) (hs' xs' : List (List ℕ)) (ss' ms' : List (List Float)) → BuiltIn (built_of (arena_from 0 0 hs xs ss ms)) y root hs' xs' ss' ms'
      → BuiltIn (from_spec bs) y root hs' xs' ss' ms'
  whole-accepted q y root hs' xs' ss' ms' E =
      subst (λ (b : Built). BuiltIn b y root hs' xs' ss' ms') (ap built_of (D.holds q ∙ draft-tree bs) ∙ built_of_lem (draft_of bs).tree.nodes ∙ sym (by_answer Accepted q)) E

  pub whole-refused : (f : Refusal) → x ≡ Refused f → BuiltIn (from_spec bs) x 0 hs xs ss ms
  whole-refused f q =
      subst (λ (y : Answer). BuiltIn (from_spec bs) y 0 hs xs ss ms) (sym q)
      (built-refused (from_spec bs) f 0 hs xs ss ms (sym (by_answer (Refused f) q ∙ D.given ∙ ap (λ (z : Answer). refused_as z (draft_of bs)) q)))

-- ---- a refused one's columns are cleared, and any are packed

module _ (b : Built) (x : Answer) (root : ℕ) (hs xs : List (List ℕ)) (ss ms : List (List Float)) (D : BuiltIn b x root hs xs ss ms) where
  pub in-accepted : x ≡ Accepted → DraftedIn x root hs xs ss ms b
  in-accepted q = record { says = D.says; holds = D.holds q; plain = D.plain q }

  pub in-refused : (f : Refusal) → x ≡ Refused f → (hs' xs' : List (List ℕ)) (ss' ms' : List (List Float)) → (arena_from 0 0 hs' xs' ss' ms' ≡ (refused_spec f).tree) × Plain hs' xs' ss' ms'
      → DraftedIn x 0 hs' xs' ss' ms' b
  in-refused f q hs' xs' ss' ms' (h, P) =
      record { says = D.says; holds = h ∙ sym (ap (λ (y : Built). y.tree) (D.given ∙ ap (λ (z : Answer). refused_as z b) q)); plain = P }

pub packed-in : (b : Built) (x : Answer) (root : ℕ) (hs xs : List (List ℕ)) (ss ms : List (List Float)) → DraftedIn x root hs xs ss ms b → (t : TileTree) → t.root ≡ tile root → t.revision ≡ 0
    → (map view_slot t.slots ≡ nodes_from hs xs ss ms) × (any_of over_slot t.slots ≡ any_of over_of hs) → Drafted x t b
packed-in b x root hs xs ss ms D t r v (n, o) = record { says = D.says; holds = (λ j. record { root = r j; revision = v j; nodes = n j; over = o j }) ∙ D.holds }
