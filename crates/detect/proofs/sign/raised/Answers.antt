use Rattle.detect.proofs.sign.raised.Goals as goal
use Rattle.std.proofs.Common.{w64}
use Rattle.arith.proofs.Exact.{given, fits, kept, plus, minus, sized, topmost, looser, small}
use Rattle.detect.proofs.Topping.{both}

pub overflow_add-reach-2 : goal.overflow_add-reach-2
overflow_add-reach-2 c =
    let b = kept w64 (given c.args.base c.requires.1.base_in) tt in
    let t = kept w64 (given c.args.turn c.requires.1.tv_in) tt in
    let o = kept w64 (sized c.abs.ensures.value (kept w64 (given c.args.cross c.requires.1.tu_in) tt)) tt in
    fits w64 (plus (kept w64 (plus b o) tt) t) tt

pub returns : goal.returns
returns c =
    let b = kept w64 (given c.args.base c.requires.1.base_in) tt in
    let t = kept w64 (given c.args.turn c.requires.1.tv_in) tt in
    let o = kept w64 (sized c.abs.ensures.value (kept w64 (given c.args.cross c.requires.1.tu_in) tt)) tt in
    let bo = kept w64 (plus b o) tt in
    let one = kept w64 (topmost c.max.ensures.value (kept w64 (given c.args.pair.0 c.requires.0.one) tt) (looser 2305843009213693952 (kept w64 (minus bo t) tt) tt)) tt in
    let zero = kept w64 (topmost c.max-2.ensures.value (kept w64 (given c.args.pair.1 c.requires.0.zero) tt) (looser 2305843009213693952 (kept w64 (plus bo t) tt) tt)) tt in
    record { value = both one.same zero.same; held = record { one = small 2305843009213693952 one tt; zero = small 2305843009213693952 zero tt } }
