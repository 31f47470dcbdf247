use Rattle.metric.proofs.value_silent.Goals as goal
use Rattle.metric.proofs.ValueLaws.{silent}

pub returns : goal.returns
returns c = silent
