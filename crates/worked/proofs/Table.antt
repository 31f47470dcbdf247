-- The table, computed.
use Rattle.std.proofs.Common.{refl}
use Rattle.metric.specs.Exhaustive.{sum_to, distance, metric, best, extrinsic}
use Rattle.metric.specs.Value.{extrinsic_value}
use Rattle.worked.specs.Examples.{Worked, RingPoints, SquarePoints, PskValues, HalfValues, SquareValues, RatioValues}

psk_values : PskValues
unfolding sum_to distance metric best extrinsic extrinsic_value
psk_values = (refl, refl)

half_values : HalfValues
unfolding sum_to distance metric best extrinsic extrinsic_value
half_values = (refl, refl)

square_values : SquareValues
unfolding sum_to distance metric best extrinsic extrinsic_value
square_values = refl

ratio_values : RatioValues
unfolding sum_to distance metric best extrinsic extrinsic_value
ratio_values = (refl, refl)

ring_points : RingPoints
ring_points = ((refl, refl), (refl, refl), (refl, refl))

square_points : SquarePoints
square_points = (refl, refl, refl)

pub worked : Worked
worked = (refl, ring_points, square_points, refl, psk_values, half_values, square_values, ratio_values)
