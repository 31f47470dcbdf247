use Rattle.std.proofs.Common.{◌≡◌, ◌*◌, ◌++◌, take, drop}
use Rattle.std.specs.List.{flat_map}
use Rattle.protocol.specs.Calls.{extrinsics}
use Rattle.detect.specs.Kept.{kept_value}
use Rattle.soft.specs.Seen.{seen}
use Rattle.soft.proofs.detector.Detector.fill.Given as goal

abbrev pub invariant-loop-i : goal.invariant-loop-i
invariant-loop-i l =
    let s = seen l.self in
    l.sheet ≡ flat_map (extrinsics kept_value s.meaning s.shift) (take l.i s.symbols) ++ drop (l.i * l.m) l.initial.sheet
