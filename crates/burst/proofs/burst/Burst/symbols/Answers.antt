use Rattle.std.proofs.Common.{sym, ◌∙◌}
use Rattle.table.proofs.Pairs.{length-paired}
use Rattle.burst.proofs.burst.Burst.symbols.Goals as goal

pub returns : goal.returns
returns g c = c.len.ensures.value ∙ sym (length-paired _ _ _)
