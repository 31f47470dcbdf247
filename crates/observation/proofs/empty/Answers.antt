use Rattle.observation.proofs.empty.Goals as goal
use Rattle.std.proofs.Common.{rules}
use Rattle.metric.specs.Reduced.{energy_y, energy_h, matched}

pub returns-clause-value : goal.returns-clause-value
unfolding energy_y energy_h matched
returns-clause-value c = search rules
