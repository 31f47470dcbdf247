use Rattle.detect.proofs.chart.points_of.Given as goal
use Rattle.std.proofs.Common.{◌≡◌, ◌-◌, length, take}

abbrev pub invariant-loop-number : goal.invariant-loop-number
invariant-loop-number g l = (length l.points ≡ 64) × (take (l.number - 1) l.points ≡ take (l.number - 1) (g.C.Constellation.meaning l.c).points)
