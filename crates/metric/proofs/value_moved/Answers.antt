use Rattle.metric.proofs.value_moved.Goals as goal
use Rattle.metric.proofs.ValueLaws.{moved}

pub returns : goal.returns
returns c = moved
