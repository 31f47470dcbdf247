use Rattle.std.proofs.Common.{take}
use Rattle.burstfile.specs.Theorem.{Bytes}
use Rattle.burstfile.proofs.theorem.are_bytes.Given as goal

abbrev pub invariant-loop-b : goal.invariant-loop-b
invariant-loop-b l = Bytes (take l.b-index l.bytes)
