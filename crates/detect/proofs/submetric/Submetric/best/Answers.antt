use Rattle.detect.proofs.submetric.Submetric.best.Goals as goal
use Rattle.std.proofs.Common.{w64}
use Rattle.arith.proofs.Exact.{given, kept, plus, sized, small}

pub returns : goal.returns
returns c =
    let s = c.args.self.now in
    let b = kept w64 (given s.base s.bounded.base_in) tt in
    let v = kept w64 (sized c.abs.ensures.value (kept w64 (given s.v s.bounded.tv_in) tt)) tt in
    let u = kept w64 (sized c.abs-2.ensures.value (kept w64 (given s.u s.bounded.tu_in) tt)) tt in
    let all = kept w64 (plus (kept w64 (plus b v) tt) u) tt in
    record { value = all.same; small = small 1065400000000000000 all tt }
