use Rattle.std.proofs.Common.{◌≡◌, ◌+◌, drop}
use Rattle.std.specs.List.{prefix_len}
use Rattle.protocol.specs.Verdicts.{inside}
use Rattle.table.proofs.range.in_range.Given as goal

abbrev pub invariant-loop-i : goal.invariant-loop-i
invariant-loop-i l = l.i + prefix_len inside (drop l.i l.values) ≡ prefix_len inside l.values
