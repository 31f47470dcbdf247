-- What a chart means.
use Rattle.std.specs.Prelude.{take}
use Rattle.constellation.specs.Meaning.{Meaning}
use Rattle.detect.specs.declared.chart.Chart.{Chart}

abbrev pub chart_meaning : Chart → Meaning
chart_meaning c = record { m = c.m; u = c.u; v = c.v; points = take c.size c.points }
