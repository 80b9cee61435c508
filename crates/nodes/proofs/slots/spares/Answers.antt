-- `nodes::slots::spares` takes the lowest empty slots one after another. Assumes nothing.
use Rattle.nodes.proofs.slots.spares.Goals as goal

pub returns : goal.returns
returns c =
    λ xs ss ms lx ls lm.
    let first = c.next_empty-first.ensures.right xs ss ms lx ls lm in
    let second = c.next_after-second.ensures.right xs ss ms lx ls lm 0 first in
    record { first = first; second = second; third = c.next_after-third.ensures.right xs ss ms lx ls lm 1 second }
