-- The pair that split_tab_bar answers, as the rule's; the rectangle past a list's end; where a tab ends. Assumes nothing.
use Rattle.std.specs.Prelude.{◌≡◌, cond, ℕ, suc, eqb, Float}
use Rattle.std.proofs.Common.{◌∙◌}
use Rattle.std.specs.Float.{binary64}
use Rattle.std.specs.Float.Ieee.{add, mul, div}
use Rattle.rules.specs.Numbers.{zero-f, whole}
use Rattle.rules.specs.Tabs as Rule
use Rattle.rules.specs.declared.frame.Rect.{Rect}
use Rattle.bars.specs.declared.tabs.Barred.{Barred}

abbrev pub barred_of : Barred → Rule.Barred
barred_of b = Rule.barred b.bar b.pane

abbrev pub no_rect : Rect
no_rect = Rule.rect zero-f zero-f zero-f zero-f

-- the rule's tab_end, from where the tab starts
abbrev pub tab_end_from : Float → Float → Float → ℕ → ℕ → Float
tab_end_from start hi each count i = cond (eqb (suc i) count) hi (add binary64 start each)

-- a tab's two ends along the bar, from the bar's length and the counts as the code has them
pub tab-ends : (lo hi size length count place end : Float) (n i : ℕ) → size ≡ length → count ≡ whole n → place ≡ whole i
    → end ≡ tab_end_from (add binary64 lo (mul binary64 (div binary64 size count) place)) hi (div binary64 size count) n i
    → (add binary64 lo (mul binary64 (div binary64 size count) place) ≡ Rule.tab_start lo (div binary64 length (whole n)) i)
    × (end ≡ Rule.tab_end lo hi (div binary64 length (whole n)) n i)
tab-ends lo hi size length count place end n i s c p e = (
  λ j. add binary64 lo (mul binary64 (div binary64 (s j) (c j)) (p j)),
  e ∙ (λ j. tab_end_from (add binary64 lo (mul binary64 (div binary64 (s j) (c j)) (p j))) hi (div binary64 (s j) (c j)) n i),
)
