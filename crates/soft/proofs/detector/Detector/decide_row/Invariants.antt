use Rattle.std.proofs.Common.{◌≡◌, cond, map, take, pos}
use lib.Signed.{lt_z}
use Rattle.std.specs.List.{range_with_len}
use Rattle.protocol.specs.Calls.{looked}
use Rattle.detect.specs.Kept.{kept_value}
use Rattle.soft.specs.Seen.{seen, seen_at}
use Rattle.soft.proofs.detector.Detector.decide_row.Given as goal

abbrev pub invariant-loop-j : goal.invariant-loop-j
invariant-loop-j l =
    let s = seen l.self in
    take l.j l.out ≡ map (λ k. cond (lt_z (pos 0) (looked kept_value s.meaning s.shift k (seen_at l.self l.i)).2) 1 0) (range_with_len 1 l.j)
