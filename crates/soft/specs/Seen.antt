-- What a detector sees.
use Rattle.std.specs.Prelude.{ℕ, ◌*◌, take, drop, slice_index_or}
use Rattle.observation.specs.declared.Record.{Record}
use Rattle.protocol.specs.Calls.{Placed, State}
use Rattle.detect.specs.Charts.{chart_meaning}
use Rattle.table.specs.Kept.{view, kept, blank}
use Rattle.soft.specs.declared.detector.Detector.{Detector}

-- the state of the burst
abbrev pub seen : Detector → State Record
seen d = kept (chart_meaning d.chart) (view d.table.now)

-- one symbol of it, counted from 0
abbrev pub seen_at : Detector → ℕ → Placed Record
seen_at d i = record { symbol = slice_index_or d.table.now.records.items i blank; priors = take d.chart.m (drop (i * d.chart.m) d.table.now.priors) }
