-- Laws of or and of and, for every crate. Assumes nothing.
use Rattle.std.specs.Prelude.{◌≡◌, refl, Bool, true, false, ◌&&◌, ◌||◌}
use Rattle.std.proofs.Common.{sym, ap}
use Rattle.forest.specs.Lists.{never}

pub or_left : (a b : Bool) → (a || b) ≡ false → a ≡ false
or_left true b e = e
or_left false b e = refl

pub or_right : (a b : Bool) → (a || b) ≡ false → b ≡ false
or_right true b e = never e
or_right false b e = e

pub true-left : (a b : Bool) → a ≡ true → (a || b) ≡ true
true-left a b e = ap (λ (c : Bool). c || b) e

pub true-right : (a b : Bool) → b ≡ true → (a || b) ≡ true
true-right true b e = refl
true-right false b e = e

pub and_both : (a b : Bool) → (a && b) ≡ true → (a ≡ true) × (b ≡ true)
and_both true b e = (refl, e)
and_both false b e = never (sym e)
