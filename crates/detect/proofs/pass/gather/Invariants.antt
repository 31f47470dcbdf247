use Rattle.detect.proofs.pass.gather.Given as goal
use Rattle.std.proofs.Common.{take}
use Rattle.detect.specs.Buckets.{Gathered}

abbrev pub invariant-loop-point : goal.invariant-loop-point
invariant-loop-point l =
    let s = l.symbol in
    let c = s.chart.now in
    let t = l.tops in
    Gathered s.record.now s.shift.exponent s.priors.now c.m c.u c.v (take l.point-index l.point-items) t.lows.best t.highs.best t.v t.u
