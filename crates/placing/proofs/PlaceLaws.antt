-- Laws of an input's tests. Assumes nothing.
use mathlib.Core.Path.{◌≡◌, sym, ◌∙◌}
use mathlib.Core.Bool.{Bool, true, false, ◌&&◌}

pub and-on : {a b : Bool} → a ≡ true → b ≡ (a && b)
and-on {b = b} t = λ i. sym t i && b

pub and-off : {a : Bool} → a ≡ false → (b : Bool) → a ≡ (a && b)
and-off t b = t ∙ (λ i. sym t i && b)
