-- When `from_spec` refuses, number by number and both ways. The Rust's checks (10 and 12 to 18, with their details) come by the first refusal in preorder. Assumes nothing.
use Rattle.std.specs.Prelude.{◌≡◌, ◌↔◌, ◌⊎◌, Bool, not, List, [], ◌∷◌, ℕ, ◌≤◌, ◌<◌, ltb, length}
use Rattle.std.proofs.Common.{sym, ◌∙◌, arith, lt-ltb, le-ltb}
use Rattle.std.proofs.Math.Path.{ap}
use Rattle.std.proofs.Math.Logic.{inl, inr}
use Rattle.std.proofs.Math.Option.{Option, none, some}
use Rattle.std.proofs.Math.Dec.{T}
use Rattle.rules.specs.Lists.{any_of, contains}
use Rattle.rules.specs.Tree.{wide_node, Member}
use Rattle.rules.specs.Table.{Table, read_table}
use Rattle.rules.specs.Spec.{left_of, wide_row, built_by, built_as, validated, narrow, within, tabled, from_spec}
use Rattle.rules.specs.Refusals.{Told, told, refusal_of}
use Rattle.rules.specs.declared.refusal.Refusal.{Refusal}
use Rattle.forest.specs.Answers.{some-none}
use Rattle.promises.specs.Words.{number_of, not-means}
use Rattle.promises.specs.RepairExact.{Some, any-means}
use Rattle.promises.specs.ApplyExact.{unlike}
use Rattle.promises.specs.OpsExact.{told-apart}
use Rattle.promises.specs.SpecEnds.{checks, Check, check-rows, Ended, Slim, first, made, Swells, Ends, unread, many, broad, checked, rootless, swollen, done, ends, numbered}

module _ (bs : List ℕ) where
  -- ---- the call, test by test

  at_none : read_table bs ≡ none → from_spec bs ≡ tabled none
  unfolding from_spec
  at_none e = ap tabled e

  at_table : (t : Table) → read_table bs ≡ some t → from_spec bs ≡ within (ltb 64 (length t.rows)) t
  unfolding from_spec
  at_table t e = ap tabled e

  at-few : (t : Table) → read_table bs ≡ some t → length t.rows ≤ 64 → from_spec bs ≡ narrow (any_of wide_row t.rows) t
  at-few t e h = at_table t e ∙ ap (λ (b : Bool). within b t) (le-ltb 64 (length t.rows) h)

  at-slim : (t : Table) → Slim bs t → from_spec bs ≡ validated (first bs t) t
  at-slim t (e, h, n) = at-few t e h ∙ ap (λ (b : Bool). narrow b t) ((not-means (any_of wide_row t.rows) (any-means wide_row t.rows)).1 n)

  at-built : (t : Table) → Slim bs t → first bs t ≡ none → from_spec bs ≡ built_as (made bs t)
  at-built t h e = at-slim t h ∙ ap (λ (o : Option Refusal). validated o t) e

  clash : {A : Type 0} {t u : Told} → Ended bs t → Ended bs u → (t.number ≡ u.number → ⊥) → A
  clash e f n = told-apart (sym e ∙ f) n

  -- a refusal of the checks has none of the other numbers
  check-number : (t : Table) (e : Refusal) → first bs t ≡ some e → Member (refusal_of e).number checks
  check-number t e q = go (first bs t) q (check-rows t.rows (left_of t) [])
    where
      go : (o : Option Refusal) → o ≡ some e → Check o → Member (refusal_of e).number checks
      go none w c = some-none (sym w)
      go (some f) w c = let same : f ≡ e = cc in ap-member same c
        where
          ap-member : f ≡ e → Member (refusal_of f).number checks → Member (refusal_of e).number checks
          ap-member s m = rw (sym s) m

  not-check : {A : Type 0} {k x y : ℕ} (t : Table) (e : Refusal) → first bs t ≡ some e → Ended bs (refusal_of e) → Ended bs (told k x y) → T (not (contains k checks)) → A
  not-check {k = k} t e q u w f = absurd (unlike checks (refusal_of e).number k (check-number t e q) (ap (λ (z : Told). z.number) (sym u ∙ w)) f)

  -- ---- 1: the bytes are no table

  pub spec-unread : Ended bs (told 1 0 0) ↔ (read_table bs ≡ none)
  unfolding any_of
  spec-unread = (there (ends bs), λ e. numbered bs (at_none e))
    where
      there : Ends bs → Ended bs (told 1 0 0) → read_table bs ≡ none
      there (unread e t) q = e
      there (many t r h u) q = clash u q (λ z. omega (arith, z))
      there (broad t r h w u) q = clash u q (λ z. omega (arith, z))
      there (checked t h e f u) q = not-check t e f u q tt
      there (rootless t h f o u) q = clash u q (λ z. omega (arith, z))
      there (swollen t h f s u) q = clash u q (λ z. omega (arith, z))
      there (done t h f n o s u) q = clash u q (λ z. omega (arith, z))

  -- ---- 2: over 64 rows; or nothing is kept and no slot is free for a root

  abbrev pub Many : Type 0
  Many = (t : Table) × (read_table bs ≡ some t) × (64 < length t.rows)

  abbrev pub Rootless : Type 0
  Rootless = (t : Table) × Slim bs t × (first bs t ≡ none) × (made bs t ≡ none)

  pub spec-full : Ended bs (told 2 0 0) ↔ (Many ⊎ Rootless)
  unfolding any_of
  spec-full = (there (ends bs), back)
    where
      there : Ends bs → Ended bs (told 2 0 0) → Many ⊎ Rootless
      there (unread e t) q = clash t q (λ z. omega (arith, z))
      there (many t r h u) q = inl (t, r, h)
      there (broad t r h w u) q = clash u q (λ z. omega (arith, z))
      there (checked t h e f u) q = not-check t e f u q tt
      there (rootless t h f o u) q = inr (t, h, f, o)
      there (swollen t h f s u) q = clash u q (λ z. omega (arith, z))
      there (done t h f n o s u) q = clash u q (λ z. omega (arith, z))

      back : Many ⊎ Rootless → Ended bs (told 2 0 0)
      back (inl (t, r, h)) = numbered bs (at_table t r ∙ ap (λ (b : Bool). within b t) (lt-ltb 64 (length t.rows) h))
      back (inr (t, h, f, o)) = numbered bs (at-built t h f ∙ ap built_as o)

  -- ---- 3: a row over 16 children or panes; or a list over 16 after repair

  abbrev pub Broad : Type 0
  Broad = (t : Table) × (read_table bs ≡ some t) × (length t.rows ≤ 64) × Some wide_row t.rows

  abbrev pub Swollen : Type 0
  Swollen = (t : Table) × Slim bs t × (first bs t ≡ none) × Swells bs (made bs t)

  pub spec-wide : Ended bs (told 3 0 0) ↔ (Broad ⊎ Swollen)
  unfolding any_of
  spec-wide = (there (ends bs), back)
    where
      there : Ends bs → Ended bs (told 3 0 0) → Broad ⊎ Swollen
      there (unread e t) q = clash t q (λ z. omega (arith, z))
      there (many t r h u) q = clash u q (λ z. omega (arith, z))
      there (broad t r h w u) q = inl (t, r, h, w)
      there (checked t h e f u) q = not-check t e f u q tt
      there (rootless t h f o u) q = clash u q (λ z. omega (arith, z))
      there (swollen t h f s u) q = inr (t, h, f, s)
      there (done t h f n o s u) q = clash u q (λ z. omega (arith, z))

      back : Broad ⊎ Swollen → Ended bs (told 3 0 0)
      back (inl (t, r, h, w)) = numbered bs (at-few t r h ∙ ap (λ (b : Bool). narrow b t) ((any-means wide_row t.rows).1 w))
      back (inr (t, h, f, (n, e, s))) = numbered bs (at-built t h f ∙ ap built_as e ∙ ap (λ (b : Bool). built_by b n) ((any-means wide_node n.nodes).1 s))

  -- ---- 10 and 12 to 18, with their details: the first refusal in preorder

  abbrev pub Refuses : ℕ → ℕ → ℕ → Type 0
  Refuses k x y = (t : Table) × (e : Refusal) × Slim bs t × (first bs t ≡ some e) × (refusal_of e ≡ told k x y)

  pub spec-checked : (k x y : ℕ) → Member k checks → Ended bs (told k x y) ↔ Refuses k x y
  unfolding any_of
  spec-checked k x y m = (there (ends bs), λ (t, e, h, f, q). numbered bs (at-slim t h ∙ ap (λ (o : Option Refusal). validated o t) f) ∙ q)
    where
      other : {A : Type 0} {j : ℕ} → Ended bs (told j 0 0) → Ended bs (told k x y) → T (not (contains j checks)) → A
      other {j = j} u q f = absurd (unlike checks k j m (sym (ap (λ (z : Told). z.number) (sym u ∙ q))) f)

      there : Ends bs → Ended bs (told k x y) → Refuses k x y
      there (unread e u) q = other u q tt
      there (many t r h u) q = other u q tt
      there (broad t r h w u) q = other u q tt
      there (checked t h e f u) q = (t, e, h, f, sym u ∙ q)
      there (rootless t h f o u) q = other u q tt
      there (swollen t h f s u) q = other u q tt
      there (done t h f n o s u) q = other u q tt

  -- ---- no other number

  pub spec-numbers : Member (number_of (from_spec bs).answer) (0 ∷ 1 ∷ 2 ∷ 3 ∷ checks)
  spec-numbers = go (ends bs)
    where
      num : {t : Told} → Ended bs t → number_of (from_spec bs).answer ≡ t.number
      num t = ap (λ (z : Told). z.number) t

      go : Ends bs → Member (number_of (from_spec bs).answer) (0 ∷ 1 ∷ 2 ∷ 3 ∷ checks)
      go (unread e u) = inr (inl (num u))
      go (many t r h u) = inr (inr (inl (num u)))
      go (broad t r h w u) = inr (inr (inr (inl (num u))))
      go (checked t h e f u) = rw (num u) (inr (inr (inr (inr (check-number t e f)))))
      go (rootless t h f o u) = inr (inr (inl (num u)))
      go (swollen t h f s u) = inr (inr (inr (inl (num u))))
      go (done t h f n o s u) = inl (num u)
