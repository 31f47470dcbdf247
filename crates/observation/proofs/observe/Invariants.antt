use Rattle.observation.proofs.observe.Given as goal
use Rattle.std.proofs.Common.{◌≡◌, length, take}
use Rattle.observation.specs.Observed.{symbol_of, held}
use Rattle.observation.specs.Joining.{Summed}

abbrev pub invariant-loop-received : goal.invariant-loop-received
invariant-loop-received l =
    let n = length l.yielded in
    (l.total ≡ held (symbol_of (take n l.y) (take n l.h) l.weight)) × (Summed n l.total)
