-- What a `?` after `ok_or` tells of the value that was tried, and of what the function then answers. Assumes nothing.
use mathlib.Core.Path.{◌≡◌, sym, ap, subst, ◌∙◌}
use mathlib.Core.List.{List}
use Rattle.std.specs.Prelude.{Option, Some, None, Result, Ok, Err, IsErrAnd}
use Rattle.std.specs.Option.{ok_or}
use Rattle.std.specs.Result.{result_ok}
use Rattle.rules.specs.Tree.{Node, Arena}
use Rattle.rules.specs.Operations.{Step, refused, finish}
use Rattle.rules.specs.declared.refusal.Refusal.{Refusal}
use Rattle.docking.specs.Steps.{Steps, always}
use Rattle.docking.specs.declared.Changed.{Changed}

pub some_was : {A E : Type 0} {o : Option A} {r : Result A E} {x : A} → o ≡ result_ok r → r ≡ Ok x → o ≡ Some x
some_was p q = p ∙ ap result_ok q

pub none_was : {A E : Type 0} {o : Option A} {r : Result A E} {e : E} → o ≡ result_ok r → r ≡ Err e → o ≡ None
none_was p q = p ∙ ap result_ok q

-- the error that a `?` hands on
pub exits : {T E : Type 0} {x : E} (q : Result T E) → IsErrAnd q (λ y. y ≡ x) → q ≡ Err x
exits (Ok t) h = absurd h
exits (Err y) h = ap Err h

-- and that is the one beside the value
pub tried : {A T E : Type 0} {o : Option A} {e x : E} {r : Result A E} (q : Result T E) → r ≡ ok_or o e → o ≡ result_ok r → r ≡ Err x → IsErrAnd q (λ y. y ≡ x) → q ≡ Err e
tried {A} {T} {E} {o} {e} q v p w h =
    let u : ok_or o e ≡ ok_or {T = A} None e = ap (λ (z : Option A). ok_or z e) (none_was p w) in
    let same : Err _ ≡ ok_or {T = A} None e = sym w ∙ v ∙ u in
    exits q h ∙ (let k : _ ≡ e = cc in ap Err k)

-- a refusal is a refused step
pub refuses : (a : Arena) (s : Step) (e : Refusal) (ns : List Node) (q : Result Changed Refusal) → q ≡ Err e → finish a s ≡ refused e a → Steps a s (always q) ns
refuses a s e ns q p h = subst (λ (z : Result Changed Refusal). Steps a s (always z) ns) (sym p) h

pub refuses_so : (a : Arena) (s : Step) (e : Refusal) (ns : List Node) (q : Result (Option Changed) Refusal) → q ≡ Err e → finish a s ≡ refused e a → Steps a s q ns
refuses_so a s e ns q p h = subst (λ (z : Result (Option Changed) Refusal). Steps a s z ns) (sym p) h

-- a step that came to an error, handed on
pub steps_on : (a : Arena) (s : Step) (r q : Result (Option Changed) Refusal) (ns : List Node) {e : Refusal} → r ≡ Err e → q ≡ Err e → Steps a s r ns → Steps a s q ns
steps_on a s r q ns p w S = subst (λ (z : Result (Option Changed) Refusal). Steps a s z ns) (p ∙ sym w) S
