-- A section, by each test of the code. Assumes nothing.
use Rattle.std.specs.Prelude.{◌≡◌, Some, None, Bool, true, ℕ, ◌+◌, ◌-◌, ◌*◌, ◌≤◌, ◌<◌, leb, length, drop}
use Rattle.std.proofs.Common.{sym, ◌∙◌, arith, le-leb, drop-drop}
use Rattle.std.proofs.Math.Path.{ap}
use mathlib.Core.List.{List}
use Rattle.std.proofs.Math.Option.{some}
use Rattle.std.proofs.lemmas.Bool.{lt-leb}
use Rattle.std.proofs.Math.ListN.{length-drop}
use Rattle.rules.specs.Table.{section, section_by, section_of, number_at}
use Rattle.reader.specs.Section.{chunks_at, SectionAt}

module _ (bs : List ℕ) (p : ℕ) where
  pub short-count : length bs - p < 4 → SectionAt bs p None
  unfolding section
  short-count h =
      record {
        is = ap (λ (b : Bool). section_by b 8 (drop p bs)) (lt-leb 4 (length (drop p bs)) (omega (arith, length-drop p bs)));
        here = tt;
      }

  counted : 4 ≤ length bs - p → section 8 (drop p bs) ≡ section_of (leb (8 * number_at 4 p bs) (length (drop (p + 4) bs))) 8 (number_at 4 p bs) (drop (p + 4) bs)
  unfolding section
  counted h =
      ap (λ (b : Bool). section_by b 8 (drop p bs)) (le-leb 4 (length (drop p bs)) (omega (arith, length-drop p bs)))
      ∙ ap (λ (l : List ℕ). section_of (leb (8 * number_at 4 p bs) (length l)) 8 (number_at 4 p bs) l) (drop-drop 4 p bs)

  pub short-entries : (n : ℕ) → 4 ≤ length bs - p → n ≡ number_at 4 p bs → length bs - p - 4 < 8 * n → SectionAt bs p None
  short-entries n h e g =
      record {
        is = counted h ∙ ap (λ (b : Bool). section_of b 8 (number_at 4 p bs) (drop (p + 4) bs)) (lt-leb (8 * number_at 4 p bs) (length (drop (p + 4) bs)) (omega (arith, e, length-drop (p + 4) bs)));
        here = tt;
      }

  pub section-found : (n : ℕ) → 4 ≤ length bs - p → n ≡ number_at 4 p bs → n < 4294967296 → 8 * n ≤ length bs - p - 4 → SectionAt bs p (Some (record { start = p + 4; count = n }))
  section-found n h e f g =
      record {
        is = counted h
            ∙ ap (λ (b : Bool). section_of b 8 (number_at 4 p bs) (drop (p + 4) bs)) (le-leb (8 * number_at 4 p bs) (length (drop (p + 4) bs)) (omega (arith, e, length-drop (p + 4) bs)))
            ∙ ap (λ (k : ℕ). section_of true 8 k (drop (p + 4) bs)) (sym e)
            ∙ ap (λ (l : List ℕ). some (record { entries = chunks_at bs (record { start = p + 4; count = n }); rest = l })) (drop-drop (8 * n) (p + 4) bs);
        here = record { inside = omega arith; few = f };
      }
