use Rattle.burst.proofs.Lifting.{answer_said}
use Rattle.burst.proofs.burst.Burst.answer.Goals as goal

pub returns-clause-answered : goal.returns-clause-answered
returns-clause-answered g c = answer_said _ c.args.self.now.table c.answer.new.self _ _ _ _ c.m-m.ensures c.answer.ensures.reply c.answer.ensures.left
