-- The samples of a vector that passed the test.
use Rattle.std.proofs.Common.{◌≡◌, ◌≤◌, true, not, None, List, [], ◌∷◌, ◌++◌, length, ℤ, nat_abs, arith}
use Rattle.std.specs.List.{position, prefix_len, AllByRecursion}
use Rattle.std.proofs.lemmas.List.Sums.{prefix_len-le-length}
use Rattle.std.proofs.lemmas.Int.{ints}
use Rattle.std.proofs.lemmas.Bool.{and_parts}
use Rattle.observation.specs.declared.Sample.{Sample}
use Rattle.observation.specs.declared.Record.{Record}
use Rattle.observation.specs.Observed.{Ranged, Measured}
use Rattle.observation.specs.Sizes.{measured}
use Rattle.observation.proofs.Sizes.{measured_from}
use Rattle.protocol.specs.Placings.{part, fine}
use Rattle.protocol.proofs.Fronts.{front_all, front_append}

-- the test of a part, and of a sample, says what the bounds say
small : (z : ℤ) → part z ≡ true → nat_abs z ≤ 1023
small z h = grind (arith, ints)

fine_is : (s : Sample) → fine s ≡ true → Ranged s
fine_is s h =
    let b = and_parts _ _ h in
    record { re = small s.re b.0; im = small s.im b.1 }

-- where no sample fails the test, all pass it
pub all_fine : (v : List Sample) → position (λ s. not (fine s)) v ≡ None → prefix_len fine v ≡ length v
all_fine v h = grind (arith, prefix_len-le-length)

-- where all pass it, all are within their ranges
pub fine_ranged : (v : List Sample) → prefix_len fine v ≡ length v → AllByRecursion Ranged v
fine_ranged v h = front_all fine Ranged fine_is v h

pub all_ranged : (v : List Sample) → position (λ s. not (fine s)) v ≡ None → AllByRecursion Ranged v
all_ranged v h = fine_ranged v (all_fine v h)

-- one record more
pub measured_more : (rs : List Record) (r : Record) → prefix_len measured rs ≡ length rs → Measured r → prefix_len measured (rs ++ (r ∷ [])) ≡ length (rs ++ (r ∷ []))
measured_more rs r h k = front_append measured rs (r ∷ []) h (grind (arith, measured_from r k))
