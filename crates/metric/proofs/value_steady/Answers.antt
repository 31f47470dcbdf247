use Rattle.metric.proofs.value_steady.Goals as goal
use Rattle.metric.proofs.ValueLaws.{steady}

pub returns : goal.returns
returns c = steady
