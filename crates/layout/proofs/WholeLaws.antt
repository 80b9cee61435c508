-- Laws of a whole layout, over plain values: the columns that it begins with, and how each end of it gives the rule's answer. Assumes nothing.
use mathlib.Core.Path.{◌≡◌, refl, sym, ap, subst, ◌∙◌}
use mathlib.Core.Bool.{Bool, true, false}
use mathlib.Core.List.{List, [], ◌++◌, map}
use Prim.Native.Nat.{ℕ, ◌≤◌, ◌<◌}
use native.Mathlib.Omega.{arith}
use lib.ListN.{length, get_or, drop, take-append-drop}
use lib.Ieee.{Float}
use Rattle.rules.specs.Tree.{Arena}
use Rattle.rules.specs.Sound.{sound}
use Rattle.rules.specs.Frame.{frame_of, refused_layout, layout_input_by, layout_by, layout, layout_items, input_ok, plus_input}
use Rattle.rules.specs.declared.frame.LayoutInput.{LayoutInput}
use Rattle.rules.specs.Refusals.{Accepted, Refused}
use Rattle.rules.specs.declared.refusal.Refusal.{Refusal}
use Rattle.rules.specs.declared.refusal.Refusal.TheVariants.{NotSound, BadInput}
use Rattle.forest.specs.Answers.{not-both}
use Rattle.columns.specs.Shown.{arena_from, Plain}
use Rattle.frames.specs.Fits.{items-fit}
use Rattle.streaming.specs.Stream.{code_of, sides_of, stream, items_from, items_in, push_all}
use Rattle.laying.specs.Grid.{Grid}
use Rattle.layout.specs.Whole.{LaysOut}
use Rattle.layout.specs.declared.LaidOut.{LaidOut}
use Rattle.layout.proofs.ReadLaws.{items_back, Wrote, wrote-all}
use Rattle.repair.proofs.SoundLaws.{sound-slim}

-- ---- the columns of a sound arena

pub begun : (root v : ℕ) (hs xs : List (List ℕ)) (ss ms : List (List Float)) → Plain hs xs ss ms → (root < 64 → length (get_or xs root []) ≡ 16) → sound (arena_from root v hs xs ss ms) ≡ true → Grid hs xs ss ms
begun root v hs xs ss ms P row e = record { heads = P.heads; ids = P.ids; shares = P.shares; minima = P.minima; slim = sound-slim root v hs xs ss ms P row e }

-- ---- the rule's answer

-- of an arena that is shown in another way
pub lays-alike : (a b : Arena) (i : LayoutInput) (cs : List (List ℕ)) (qs : List (List Float)) (cs' : List (List ℕ)) (qs' : List (List Float)) (r : LaidOut) → a ≡ b → LaysOut a i cs qs cs' qs' r → LaysOut b i cs qs cs' qs' r
lays-alike a b i cs qs cs' qs' r e L = subst (λ (x : Arena). LaysOut x i cs qs cs' qs' r) e L

module _ (a : Arena) (i : LayoutInput) where
  unsound : sound a ≡ false → layout a i ≡ refused_layout NotSound a
  unfolding layout
  unsound e = ap (λ (b : Bool). layout_by b a i) e

  bad : sound a ≡ true → input_ok i ≡ false → layout a i ≡ refused_layout BadInput a
  unfolding layout
  bad e f = ap (λ (b : Bool). layout_by b a i) e ∙ ap (λ (b : Bool). layout_input_by b a i) f

  good : sound a ≡ true → input_ok i ≡ true → layout a i ≡ record { answer = Accepted; revision = a.revision; frame = frame_of (layout_items a (plus_input i)) }
  unfolding layout
  good e f = ap (λ (b : Bool). layout_by b a i) e ∙ ap (λ (b : Bool). layout_input_by b a i) f

  module _ (cs : List (List ℕ)) (qs : List (List Float)) where
    nothing : items_in (stream cs qs 0) ≡ []
    unfolding items_from
    nothing = refl

    refused-out : (x : Refusal) (r : LaidOut) → layout a i ≡ refused_layout x a → (r.answer ≡ Refused x) × (r.revision ≡ a.revision) × (r.len ≡ 0) → LaysOut a i cs qs cs qs r
    refused-out x r e (w, v, l) =
        record {
          right = (λ z. record { answer = w z; revision = v z; frame = frame_of (items_in (stream cs qs (l z))) }) ∙ (λ z. record { answer = Refused x; revision = a.revision; frame = frame_of (nothing z) }) ∙ sym e;
          items = λ p. not-both p w;
          codes = (λ z. map code_of (sym nothing z) ++ drop 0 cs) ∙ (λ z. map code_of (items_in (stream cs qs (sym l z))) ++ drop (sym l z) cs);
          sides = (λ z. map sides_of (sym nothing z) ++ drop 0 qs) ∙ (λ z. map sides_of (items_in (stream cs qs (sym l z))) ++ drop (sym l z) qs);
          size = l ∙ (λ z. length (sym nothing z)) ∙ (λ z. length (items_in (stream cs qs (sym l z))));
          few = omega arith;
          long = (refl, refl);
          untouched = λ f p. (l, refl, refl);
        }

    pub not_sound : (r : LaidOut) → sound a ≡ false → (r.answer ≡ Refused NotSound) × (r.revision ≡ a.revision) × (r.len ≡ 0) → LaysOut a i cs qs cs qs r
    not_sound r e p = refused-out NotSound r (unsound e) p

    pub bad-input : (r : LaidOut) → sound a ≡ true → input_ok i ≡ false → (r.answer ≡ Refused BadInput) × (r.revision ≡ a.revision) × (r.len ≡ 0) → LaysOut a i cs qs cs qs r
    bad-input r e f p = refused-out BadInput r (bad e f) p

    -- accepted: all of the rule's items stand in the arrays
    pub accepted : (size : length a.nodes ≡ 64) (e : sound a ≡ true) → input_ok i ≡ true → length cs ≡ 2304 → length qs ≡ 2304 → (plain : LayoutInput) → plain ≡ plus_input i → (cs' : List (List ℕ)) (qs' : List (List Float)) (n : ℕ)
        → stream cs' qs' n ≡ push_all (layout_items a plain) (stream cs qs 0) → LaysOut a i cs qs cs' qs' (record { answer = Accepted; revision = a.revision; len = n })
    accepted size e f lc lq plain ep cs' qs' n p =
        let xs = layout_items a (plus_input i) in
        let fit : length xs ≤ 2304 = items-fit a (plus_input i) size e in
        let same : push_all xs (stream cs qs 0) ≡ stream cs' qs' n = sym (p ∙ ap (λ (x : LayoutInput). push_all (layout_items a x) (stream cs qs 0)) ep) in
        let W : Wrote (stream cs qs 0) xs (stream cs' qs' n) = subst (Wrote (stream cs qs 0) xs) same (wrote-all xs (stream cs qs 0) lc lq (omega arith)) in
        let all : items_in (stream cs' qs' n) ≡ xs = (λ z. items_from (W.codes z) (W.sides z)) ∙ items_back xs in
        record {
          right = (λ z. record { answer = Accepted; revision = a.revision; frame = frame_of (all z) }) ∙ sym (good e f);
          items = λ q. all;
          codes = sym (take-append-drop n cs') ∙ (λ z. (W.codes ∙ ap (map code_of) (sym all)) z ++ W.items n (omega arith) z);
          sides = sym (take-append-drop n qs') ∙ (λ z. (W.sides ∙ ap (map sides_of) (sym all)) z ++ W.rects n (omega arith) z);
          size = (let z : n ≡ length xs = omega (arith, W.size) in z) ∙ ap length (sym all);
          few = omega (arith, W.size);
          long = W.long;
          untouched = λ x q. not-both refl q;
        }
