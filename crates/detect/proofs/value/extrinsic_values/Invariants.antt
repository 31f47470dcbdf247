use Rattle.detect.proofs.value.extrinsic_values.Given as goal
use Rattle.std.proofs.Common.{◌≡◌, ℕ, ◌+◌, ◌<◌, get_or, pos}
use Rattle.detect.specs.Charts.{chart_meaning}
use Rattle.detect.specs.Kept.{kept_value}

abbrev pub invariant-loop-index : goal.invariant-loop-index
invariant-loop-index l = (k : ℕ) → k < l.index → get_or l.out k (pos 0) ≡ kept_value (chart_meaning l.chart) l.shift.exponent l.observed l.priors (k + 1)
