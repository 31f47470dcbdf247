use Rattle.sheet.proofs.Places.{Along, Dealt}
use Rattle.sheet.proofs.order.turn.Given as goal

abbrev pub invariant-loop-c : goal.invariant-loop-c
invariant-loop-c g l = Dealt l.rows l.columns l.c l.from l.into

abbrev pub invariant-loop-r : goal.invariant-loop-r
invariant-loop-r g l = Along l.rows l.columns l.c l.r l.from l.column
