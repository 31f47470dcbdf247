use Rattle.std.proofs.Common.{◌≡◌, ◌<◌, get_or, take, rules}
use Rattle.std.proofs.ByRecursion.{All-more}
use Rattle.std.proofs.lemmas.List.{take_all}
use Rattle.burstfile.proofs.theorem.are_bytes.Goals as goal

pub loop-b-preserved : goal.loop-b-preserved
loop-b-preserved c =
    let fits : get_or c.args.bytes.now c.loop-b.b-index 0 < 256 = search rules in
    All-more (λ b. b < 256) c.args.bytes.now c.loop-b.b-index 0 c.loop-b-test.true c.loop-b.invariant fits

pub returns : goal.returns
returns c =
    let e : take c.loop-b.b-index c.args.bytes.now ≡ c.args.bytes.now = take_all c.loop-b.b-index c.args.bytes.now c.loop-b-test.false in
    rw e at c.loop-b.invariant
