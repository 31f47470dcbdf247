use Rattle.metric.proofs.value_within.Goals as goal
use Rattle.metric.proofs.ValueLaws.{within}

pub returns : goal.returns
returns c = within
