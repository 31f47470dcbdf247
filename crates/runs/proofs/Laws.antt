-- The laws over whole runs, together.
use Rattle.runs.specs.Laws.{Laws}
use Rattle.runs.proofs.Near.{runs_near}
use Rattle.runs.proofs.Moved.{runs_moved}
use Rattle.runs.proofs.Turns.{turns_balance}
use Rattle.runs.proofs.Exhausted.{values_exhaustive}

pub laws : Laws
laws = record { near = runs_near; moved = runs_moved; balance = turns_balance; exhaustive = values_exhaustive }
