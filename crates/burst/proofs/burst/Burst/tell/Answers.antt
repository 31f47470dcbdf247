use Rattle.burst.proofs.Lifting.{tell_said}
use Rattle.burst.proofs.burst.Burst.tell.Goals as goal

pub returns-clause-told : goal.returns-clause-told
returns-clause-told g c =
    let b = c.args.self.now in
    tell_said _ b.table c.tell.new.self _ _ _ _ (g.met.C.Constellation.lawful b.c).m_most c.m-m.ensures c.tell.ensures.reply c.tell.ensures.left
