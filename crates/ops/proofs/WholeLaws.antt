-- Laws of the public call: a sound arena is fit for the operations, an unsound one is refused, and the tree by value follows its columns. Assumes nothing.
use mathlib.Core.Path.{◌≡◌, refl, sym, ap, subst, ◌∙◌}
use mathlib.Core.Bool.{Bool, true, false}
use mathlib.Core.List.{List, [], ◌∷◌, map}
use Rattle.std.specs.Prelude.{Option as Maybe, Some, None, Result, Ok, Err}
use Rattle.std.specs.Result.{result_unwrap_or}
use Prim.Native.Nat.{ℕ, ◌<◌}
use native.Mathlib.Omega.{arith}
use lib.Ieee.{Float}
use lib.ListN.{length, get_or}
use Rattle.rules.specs.Lists.{any_of}
use Rattle.rules.specs.Tree.{Arena, Node, tile, view, view_slot, over_slot}
use Rattle.rules.specs.Sound.{sound}
use Rattle.rules.specs.Operations.{refused, unchanged, Applied, finish, apply_inner, apply_by, apply}
use Rattle.rules.specs.declared.model.Slot.{Slot}
use Rattle.rules.specs.declared.model.TileTree.{TileTree}
use Rattle.rules.specs.declared.operation.TileOp.{TileOp}
use Rattle.rules.specs.Refusals.{Refused}
use Rattle.rules.specs.declared.refusal.Refusal.{Refusal}
use Rattle.rules.specs.declared.refusal.Refusal.TheVariants.{NotSound}
use Rattle.columns.specs.Columns.{nodes_from}
use Rattle.columns.specs.Pack.{first_of, over_of, Even}
use Rattle.nodes.specs.Parts.{first_slot}
use Rattle.rules.specs.declared.model.TileId.{TileId}
use Rattle.columns.specs.Shown.{arena_from, Plain}
use Rattle.columns.specs.RowLaws.{even-plain, plain-even}
use Rattle.settling.proofs.PlainLaws.{plain_over, plain-long}
use Rattle.repair.proofs.SoundLaws.{sound-whole}
use Rattle.nodes.specs.Find.{find-scan, parent-scan}
use Rattle.docking.specs.Trees.{sound-standing}
use Rattle.docking.specs.Steps.{Fit, Ready, Makes, applied, always, answered, Comes}
use Rattle.docking.specs.declared.Applying.{Applying}
use Rattle.docking.specs.declared.AppliedIn.{AppliedIn}
use Rattle.docking.proofs.FinishLaws.{comes-answer, comes-given, comes-made}

-- ---- a sound arena

module _ (root v : ℕ) (hs xs : List (List ℕ)) (ss ms : List (List Float)) (P : Plain hs xs ss ms) (row : root < 64 → length (get_or xs root []) ≡ 16) where
  abbrev a : Arena
  a = arena_from root v hs xs ss ms

  pub sound-ready : sound a ≡ true → Ready root hs xs ss ms
  sound-ready e =
      let long = plain-long hs xs ss ms P in
      let S = sound-standing a long e in
      let F : Fit (tile root) (nodes_from hs xs ss ms) = record { size = long; panes = find-scan a.nodes a.root S.tree; parents = parent-scan a.nodes a.root S.tree; room = S.room } in
      (plain-even hs xs ss ms P (plain_over hs xs ss ms P ∙ sound-whole root v hs xs ss ms P row e), F)

-- ---- the answer, over columns

even-over : (hs xs : List (List ℕ)) (ss ms : List (List Float)) → Even hs xs ss ms → any_of over_of hs ≡ false
even-over hs xs ss ms E = sym (plain_over hs xs ss ms (even-plain hs xs ss ms E)) ∙ E.whole

apply-is : (a : Arena) (op : TileOp) → sound a ≡ true → apply a op ≡ finish a (apply_inner a op)
unfolding apply
apply-is a op e = ap (λ (b : Bool). apply_by b a op) e

apply-not : (a : Arena) (op : TileOp) → sound a ≡ false → apply a op ≡ refused NotSound a
unfolding apply
apply-not a op e = ap (λ (b : Bool). apply_by b a op) e

-- and where nothing changes, nothing is said to have changed
abbrev pub Ends : Arena → TileOp → Result (Maybe AppliedIn) Refusal → List (List ℕ) → List (List ℕ) → List (List Float) → List (List Float) → Type 0
Ends a op r hs xs ss ms = Comes a (apply a op) r hs xs ss ms × (sound a ≡ true → apply_inner a op ≡ unchanged → r ≡ Ok None)

module _ (a : Arena) (op : TileOp) (hs xs : List (List ℕ)) (ss ms : List (List Float)) where
  pub unsound-ends : sound a ≡ false → Ends a op (Err NotSound) hs xs ss ms
  unsound-ends e = (apply-not a op e, λ s u. absurd (let z : ◌≡◌ {A = ℕ} 0 1 = cc in omega arith))

  module _ (e : sound a ≡ true) where
    -- what was refused did change
    pub refused-ends : (f : Refusal) (r : Result (Maybe AppliedIn) Refusal) → r ≡ Err f → finish a (apply_inner a op) ≡ refused f a → Ends a op r hs xs ss ms
    refused-ends f r p q = subst (λ (y : Result (Maybe AppliedIn) Refusal). Ends a op y hs xs ss ms) (sym p) (apply-is a op e ∙ q, λ s u. not-kept u)
      where
        not-kept : {A : Type 0} → apply_inner a op ≡ unchanged → A
        not-kept u = absurd (let k = ap (λ (x : Applied). x.answer) (sym q ∙ ap (finish a) u) in let z : ◌≡◌ {A = ℕ} 0 1 = cc in omega arith)

    pub changed-ends : (d : AppliedIn) (top : ℕ) (spare : Maybe TileId) (ns : List Node) → Makes a (apply_inner a op) top spare ns → Comes a (finish a (apply_inner a op)) (Ok (Some d)) hs xs ss ms → Ends a op (Ok (Some d)) hs xs ss ms
    changed-ends d top spare ns M C =
        (subst (λ (x : Applied). Comes a x (Ok (Some d)) hs xs ss ms) (sym (apply-is a op e)) C, λ s u. absurd (let q = M.step in let z : ◌≡◌ {A = ℕ} 0 1 = cc in omega arith))

module _ (root v : ℕ) (hs xs : List (List ℕ)) (ss ms : List (List Float)) (op : TileOp) (hs' xs' : List (List ℕ)) (ss' ms' : List (List Float)) where
  pub same_ends : sound (arena_from root v hs xs ss ms) ≡ true → Even hs xs ss ms → Even hs' xs' ss' ms' → (apply_inner (arena_from root v hs xs ss ms) op ≡ unchanged) × (nodes_from hs' xs' ss' ms' ≡ nodes_from hs xs ss ms)
      → Ends (arena_from root v hs xs ss ms) op (Ok None) hs' xs' ss' ms'
  same_ends e E F (q, n) = (
    (
      apply-is (arena_from root v hs xs ss ms) op e ∙ ap (finish (arena_from root v hs xs ss ms)) q,
      (λ z. record { root = tile root; revision = v; nodes = sym n z; over = (even-over hs xs ss ms E ∙ sym (even-over hs' xs' ss' ms' F)) z }),
      F,
    ),
    λ s u. refl,
  )

-- ---- the answer, of a tree by value

abbrev pub Applies : TileTree → TileOp → Applying → Type 0
Applies t op r = (applied r ≡ apply (view t) op) × ((e : Refusal) → r.answer ≡ Refused e → r.tree ≡ t) × (sound (view t) ≡ true → apply_inner (view t) op ≡ unchanged → r.tree ≡ t)

module _ (t : TileTree) (op : TileOp) (a : Arena) (T : a ≡ view t) (d : Result (Maybe AppliedIn) Refusal) (hs xs : List (List ℕ)) (ss ms : List (List Float)) (E : Ends a op d hs xs ss ms) (r : Applying) (ra : r.answer ≡ answered d) where
  pub given-applies : result_unwrap_or d None ≡ None → r.tree ≡ t → Applies t op r
  given-applies c q = (
    (λ z. record { answer = (ra ∙ comes-answer a (apply a op) hs xs ss ms d E.0) z; tree = (ap view q ∙ sym T ∙ sym (comes-given a (apply a op) hs xs ss ms d E.0 c)) z }) ∙ ap (λ (y : Arena). apply y op) T,
    λ e w. q,
    λ s u. q,
  )

  pub new-applies : (n : AppliedIn) → result_unwrap_or d None ≡ Some n → (slots : List Slot) → view r.tree ≡ record { root = tile n.root; revision = n.revision; nodes = map view_slot slots; over = any_of over_slot slots }
      → (map view_slot slots ≡ nodes_from hs xs ss ms) × (any_of over_slot slots ≡ any_of over_of hs) → Applies t op r
  new-applies n c slots q (m, o) =
      let M = comes-made a (apply a op) hs xs ss ms d n E.0 c in
      let w = comes-answer a (apply a op) hs xs ss ms d E.0 in (
        (λ z. record { answer = (ra ∙ w) z; tree = (q ∙ (λ y. record { root = tile n.root; revision = n.revision; nodes = m y; over = o y }) ∙ sym (ap (λ (y : Applied). y.tree) M.0)) z }) ∙ ap (λ (y : Arena). apply y op) T,
        λ e u. absurd (let k = sym (ra ∙ w ∙ ap (λ (y : Applied). y.answer) M.0) ∙ u in let z : ◌≡◌ {A = ℕ} 0 1 = cc in omega arith),
        λ s u. absurd
            (let k = ap (λ (y : Result (Maybe AppliedIn) Refusal). result_unwrap_or y None) (E.1 (ap sound T ∙ s) (ap (λ (y : Arena). apply_inner y op) T ∙ u)) in
            let z : ◌≡◌ {A = ℕ} 0 1 = cc in omega arith),
      )

-- ---- a change

-- a refusal handed on
pub comes-on : (a : Arena) (x : Applied) (hs xs : List (List ℕ)) (ss ms : List (List Float)) (r : Result AppliedIn Refusal) (e : Refusal) → r ≡ Err e → x ≡ refused e a → Comes a x (always r) hs xs ss ms
comes-on a x hs xs ss ms r e p q = subst (λ (z : Result AppliedIn Refusal). Comes a x (always z) hs xs ss ms) (sym p) q

-- ---- a spare slot as a number

abbrev slot_or : Maybe TileId → ℕ
slot_or (Some x) = x.slot
slot_or None = 0

pub number-none : (free : List ℕ) → None ≡ first_slot free → 64 ≡ first_of free
number-none [] e = refl
number-none (i ∷ is) e = absurd (let z : ◌≡◌ {A = ℕ} 0 1 = cc in omega arith)

pub number-some : (t : TileId) (free : List ℕ) → Some t ≡ first_slot free → t.slot ≡ first_of free
number-some t [] e = absurd (let z : ◌≡◌ {A = ℕ} 0 1 = cc in omega arith)
number-some t (i ∷ is) e = ap slot_or e
