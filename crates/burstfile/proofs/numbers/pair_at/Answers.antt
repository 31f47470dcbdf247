use Rattle.std.proofs.Common.{pos}
use Rattle.burstfile.specs.Reading.{pair_of}
use Rattle.burstfile.proofs.Walks.{pair-at}
use Rattle.burstfile.proofs.numbers.pair_at.Goals as goal

pub returns : goal.returns
returns c = cc (c.part.ensures.value, c.pair.ensures.re, c.pair.ensures.im, pair-at c.args.pairs.now c.args.k (pair_of (pos 0) (pos 0)) c.requires)
