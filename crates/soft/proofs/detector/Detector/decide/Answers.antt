use Rattle.std.proofs.Common.{◌≡◌, ◌+◌, ◌-◌, ◌*◌, ◌<◌, length, sym, ◌∙◌, suc-mul, arith}
use Rattle.std.proofs.lemmas.List.FromFn.{length-map-range_with_len}
use Rattle.protocol.specs.Calls.{decided}
use Rattle.detect.specs.Kept.{kept_value}
use Rattle.soft.specs.Seen.{seen, seen_at}
use Rattle.soft.proofs.Rows.{seen_is, seen_count, row_more, rows_all}
use Rattle.soft.proofs.detector.Detector.decide.Goals as goal

pub loop-i-preserved : goal.loop-i-preserved
loop-i-preserved c =
    let d = c.args.self.now in
    let m = c.positions-m.result in
    let i = c.loop-i.i in
    let within : i < length d.table.now.records.items = omega (arith, c.loop-i-test.true, c.len-i-end.ensures.value) in
    let k : (i + 1) * m - i * m ≡ m = omega (arith, suc-mul i m) in
    row_more (decided kept_value (seen d).meaning (seen d).shift) m (λ y. length-map-range_with_len _ 1 _ ∙ sym c.positions-m.ensures.value)
    (seen d).symbols (seen_at d i) c.args.bits.now c.loop-i.bits c.decide_row.new.out i _ (omega (arith, seen_count d)) k (seen_is d i within) c.decide_row.ensures c.loop-i.invariant

pub returns : goal.returns
returns c =
    let d = c.args.self.now in
    let m = c.positions-m.result in
    let i = c.loop-i.i in
    let e : i ≡ length (seen d).symbols = omega (arith, seen_count d, c.loop-i.auto.i-end, c.loop-i-test.false, c.len-i-end.ensures.value) in
    c.loop-i.invariant ∙ rows_all (decided kept_value (seen d).meaning (seen d).shift) m (λ y. length-map-range_with_len _ 1 _ ∙ sym c.positions-m.ensures.value)
    (seen d).symbols c.args.bits.now i e (rw (seen_count d, c.positions-m.ensures.value) c.requires)
