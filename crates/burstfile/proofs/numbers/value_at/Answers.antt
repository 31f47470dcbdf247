use Rattle.std.proofs.Common.{rules}
use Rattle.burstfile.proofs.Walks.{signed-at}
use Rattle.burstfile.proofs.numbers.value_at.Goals as goal

pub returns : goal.returns
returns c = search (rules, signed-at)
