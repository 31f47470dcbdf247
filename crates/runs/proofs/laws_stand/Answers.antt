use Rattle.runs.proofs.Laws.{laws}
use Rattle.runs.proofs.laws_stand.Goals as goal

pub returns : goal.returns
returns c = laws
