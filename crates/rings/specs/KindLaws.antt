-- The copies of both kinds of layer are fair: a test over each written-out list.
use Rattle.std.proofs.Common.{refl, arith}
use Rattle.rings.specs.Copies.{bits, ring_copies, ratio_copies}
use Rattle.rings.specs.Fair.{Fair, fair_by}
use Rattle.rings.specs.declared.count.Count.{Count}
use Rattle.rings.specs.declared.count.Count.TheVariants.{Two, Four}

pub rings_fair : (count : Count) → Fair (bits count) (ring_copies count)
rings_fair Two = fair_by _ _ (omega arith) refl refl
rings_fair Four = fair_by _ _ (omega arith) refl refl

pub ratios_fair : (count : Count) → Fair (bits count) (ratio_copies count)
ratios_fair Two = fair_by _ _ (omega arith) refl refl
ratios_fair Four = fair_by _ _ (omega arith) refl refl
