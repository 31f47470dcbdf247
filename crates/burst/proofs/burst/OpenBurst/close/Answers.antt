use Rattle.runs.proofs.Laws.{laws}
use Rattle.burst.proofs.Lifting.{closed_said}
use Rattle.burst.proofs.burst.OpenBurst.close.Goals as goal

pub returns-clause-closed : goal.returns-clause-closed
returns-clause-closed g c =
    let b = c.args.self in
    closed_said _ b.draft c.new-table.result (g.met.C.Constellation.lawful b.c).m_most c.new-table.ensures

pub returns-clause-laws : goal.returns-clause-laws
returns-clause-laws g c = laws
