use Rattle.detect.proofs.received.Received.prior_sum.Given as goal
use Rattle.std.proofs.Common.{◌≡◌, ◌*◌, ◌≤◌, nat_abs}
use Rattle.detect.specs.Parts.{prior_sum}

abbrev pub invariant-loop-index : goal.invariant-loop-index
invariant-loop-index l = (l.sum ≡ prior_sum l.self.chart.now.m l.label l.self.priors.now l.index) × (nat_abs l.sum ≤ l.index * 8191)
