use Rattle.burst.proofs.Lifting.{erase_said}
use Rattle.burst.proofs.burst.Burst.erase.Goals as goal

pub returns-clause-erased : goal.returns-clause-erased
returns-clause-erased g c = erase_said _ c.args.self.now.table c.erase.new.self _ _ c.erase.ensures.reply c.erase.ensures.left
