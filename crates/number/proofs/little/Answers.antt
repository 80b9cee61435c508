-- `number::little` meets its contract: the bytes passed, and zeros. Assumes nothing.
use Rattle.std.proofs.Common.{◌≡◌, refl, ◌∙◌, ap, ℕ, ◌+◌, ◌-◌, List, ◌++◌, length, take, drop, replicate, length-append, length-drop, length-take-le, arith}
use Rattle.number.specs.Bytes.{le_number}
use Rattle.number.proofs.Eight.{number-zeros, number-before, word-spells}
use Rattle.number.proofs.little.Goals as goal

pub returns : goal.returns
returns c =
    let a = c.args in
    let ys = c.copy_from_slice.new.self in
    let eight : List ℕ = replicate 8 0 in
    let zs : List ℕ = drop a.n eight in
    let e : a.at + a.n - a.at ≡ a.n = omega arith in
    let k : length eight ≡ 8 = refl in
    let f : length (take a.n eight) ≡ a.n = length-take-le a.n eight (omega arith) in
    let l : length (ys ++ zs) ≡ 8 = omega (arith, c.copy_from_slice.ensures.len, length-append ys zs, length-drop a.n eight) in
    c.from_le_bytes.ensures ∙ word-spells (ys ++ zs) l ∙ number-before ys zs (number-zeros a.n 8)
    ∙ ap le_number (c.copy_from_slice.ensures.after ∙ (λ j. take (e j) (drop a.at a.b.now)))
