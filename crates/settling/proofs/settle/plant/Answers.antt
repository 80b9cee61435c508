-- `settling::settle::plant` meets its contract: refused with no spare slot, else finished with the fresh root. Assumes nothing.
use mathlib.Core.Path.{refl}
use native.Mathlib.Omega.{arith}
use Rattle.settling.proofs.settle.plant.Goals as goal

pub returns-then-spare-ge64 : goal.returns-then-spare-ge64
returns-then-spare-ge64 c = record { full = λ h. record { answer = refl; count = refl }; fresh = λ h. absurd (omega (arith, h, c.if-spare-ge64.true)) }

pub returns : goal.returns
returns c =
    record { full = λ h. absurd (omega (arith, h, c.if-spare-ge64.false)); fresh = λ h. c.finish.ensures }
