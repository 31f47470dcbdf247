use Rattle.burstfile.proofs.Ranges.{accepts_encodings}
use Rattle.burstfile.proofs.theorem.accepts_encodings.Goals as goal

pub returns : goal.returns
returns c = accepts_encodings
