-- The chain of sections, by each test of the code. Assumes nothing.
use Rattle.std.specs.Prelude.{◌≡◌, Some, None, List, ℕ, ◌+◌, ◌*◌, ◌≤◌, length, drop}
use Rattle.std.proofs.Math.Path.{ap}
use Rattle.std.proofs.Common.{◌∙◌, arith, drop-cons}
use Rattle.std.proofs.Math.Option.{Option, none}
use Rattle.std.proofs.Math.Seq.{drop-length}
use Rattle.rules.specs.Table.{section, Table, after_rows, with_panes, with_shares, with_minima, at_end, read_table}
use Rattle.reader.specs.Section.{chunks_at, held, Held}
use Rattle.table.specs.Sections.{SectionsAre}
use Rattle.reader.specs.declared.cursor.Section.{Section}

module _ (bs : List ℕ) where
  -- ---- the chain

  pub bad-rows : section 8 (drop 0 bs) ≡ none → SectionsAre bs None
  unfolding read_table
  bad-rows e = record { is = ap after_rows e; here = tt }

  module _ (r : Section) (e₁ : section 8 (drop 0 bs) ≡ held bs r) where
    one : read_table bs ≡ with_panes (chunks_at bs r) (section 8 (drop (r.start + 8 * r.count) bs))
    unfolding read_table
    one = ap after_rows e₁

    pub bad-panes : section 8 (drop (r.start + 8 * r.count) bs) ≡ none → SectionsAre bs None
    bad-panes e = record { is = one ∙ ap (with_panes (chunks_at bs r)) e; here = tt }

    module _ (p : Section) (e₂ : section 8 (drop (r.start + 8 * r.count) bs) ≡ held bs p) where
      two : read_table bs ≡ with_shares (chunks_at bs r) (chunks_at bs p) (section 8 (drop (p.start + 8 * p.count) bs))
      two = one ∙ ap (with_panes (chunks_at bs r)) e₂

      pub bad-shares : section 8 (drop (p.start + 8 * p.count) bs) ≡ none → SectionsAre bs None
      bad-shares e = record { is = two ∙ ap (with_shares (chunks_at bs r) (chunks_at bs p)) e; here = tt }

      module _ (s : Section) (e₃ : section 8 (drop (p.start + 8 * p.count) bs) ≡ held bs s) where
        three : read_table bs ≡ with_minima (chunks_at bs r) (chunks_at bs p) (chunks_at bs s) (section 8 (drop (s.start + 8 * s.count) bs))
        three = two ∙ ap (with_shares (chunks_at bs r) (chunks_at bs p)) e₃

        pub bad-minima : section 8 (drop (s.start + 8 * s.count) bs) ≡ none → SectionsAre bs None
        bad-minima e = record { is = three ∙ ap (with_minima (chunks_at bs r) (chunks_at bs p) (chunks_at bs s)) e; here = tt }

        module _ (m : Section) (e₄ : section 8 (drop (s.start + 8 * s.count) bs) ≡ held bs m) where
          abbrev end : List ℕ → Option Table
          end l = at_end (chunks_at bs r) (chunks_at bs p) (chunks_at bs s) (chunks_at bs m) l

          four : read_table bs ≡ end (drop (m.start + 8 * m.count) bs)
          four = three ∙ ap (with_minima (chunks_at bs r) (chunks_at bs p) (chunks_at bs s)) e₄

          pub trailing : m.start + 8 * m.count ≤ length bs → (m.start + 8 * m.count ≡ length bs → ⊥) → SectionsAre bs None
          trailing h ne = record { is = four ∙ ap end (drop-cons bs (m.start + 8 * m.count) 0 (omega arith)); here = tt }

          pub no_more : Held bs r → Held bs p → Held bs s → Held bs m → m.start + 8 * m.count ≡ length bs → SectionsAre bs (Some (record { rows = r; panes = p; shares = s; minima = m }))
          no_more a b c d e =
              record {
                is = four ∙ ap (λ (k : ℕ). end (drop k bs)) e ∙ ap end (drop-length bs);
                here = record { rows = a; panes = b; shares = c; minima = d };
              }
