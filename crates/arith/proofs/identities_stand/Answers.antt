use Rattle.arith.proofs.RingLaws.{ring}
use Rattle.arith.proofs.identities_stand.Goals as goal

pub returns : goal.returns
returns c = ring
