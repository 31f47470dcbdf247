use Rattle.detect.proofs.halves.Halves.over_bit.Given as goal
use Rattle.std.proofs.Common.{◌≡◌, ◌≤◌, true, false, nat_abs}
use Rattle.detect.specs.Buckets.{over_codes}

abbrev pub invariant-loop-half : goal.invariant-loop-half
invariant-loop-half l = (l.one ≡ over_codes l.bit true l.self.best l.half) × (l.zero ≡ over_codes l.bit false l.self.best l.half) × (nat_abs l.one ≤ 2305843009213693952) × (nat_abs l.zero ≤ 2305843009213693952)
