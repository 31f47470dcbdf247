-- The laws over whole runs of a burst: an opening, any placings, one closing, then any calls, accepted or refused, up to any point.
use Rattle.runs.specs.Near.{RunsNear}
use Rattle.runs.specs.Moved.{RunsMoved}
use Rattle.runs.specs.Turns.{TurnsBalance}
use Rattle.runs.specs.Exhausted.{ValuesExhaustive}

pub record Laws : Type 0 where
  pub near : RunsNear
  pub moved : RunsMoved
  pub balance : TurnsBalance
  pub exhaustive : ValuesExhaustive
