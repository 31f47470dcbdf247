-- The Gray code of a number of three bits has three bits: one test over them all.
use Rattle.std.proofs.Common.{ℕ, ◌<◌, ltb, refl}
use Rattle.std.proofs.lemmas.Bool.{ltb-true}
use Rattle.constellation.specs.Gray.{gray}
use Rattle.constellation.proofs.Tested.{every_from}

pub gray_small : (n : ℕ) → n < 8 → gray n < 8
gray_small n h = ltb-true _ _ (every_from (λ n. ltb (gray n) 8) 8 refl n h)
