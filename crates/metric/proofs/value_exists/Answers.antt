use Rattle.metric.proofs.value_exists.Goals as goal
use Rattle.metric.proofs.ValueLaws.{exists}

pub returns : goal.returns
returns c = exists
