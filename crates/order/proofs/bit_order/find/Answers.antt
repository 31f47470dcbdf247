use Rattle.std.proofs.Common.{eqb}
use Rattle.order.proofs.Loops.{position_first, index_or_len}
use Rattle.order.proofs.bit_order.find.Goals as goal

pub returns : goal.returns
returns c =
    let e = index_or_len (λ p. eqb p c.args.q) c.args.list.now in
    cc (c.unwrap_or.ensures, position_first c.args.q c.args.list.now)
