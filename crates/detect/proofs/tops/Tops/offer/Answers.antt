use Rattle.detect.proofs.tops.Tops.offer.Goals as goal
use Rattle.std.proofs.Common.{◌≡◌, ◌/◌, ◌%◌, ℤ, ap, ◌∙◌, w64}
use Rattle.detect.specs.Tops.{raised_by}
use Rattle.detect.specs.Buckets.{noted_by}
use Rattle.arith.proofs.Exact.{given, equal, kept}

raised_same : (p : ℤ × ℤ) {b c t u x y : ℤ} → b ≡ c → t ≡ u → x ≡ y → raised_by p b t x ≡ raised_by p c u y
raised_same p e f g = rw (e, f, g)

pub returns : goal.returns
returns c =
    let m = c.args.metrics in
    let s = c.args.self.now in
    let b = kept w64 (given m.base m.bounded.base_in) tt in
    let v = kept w64 (given m.v m.bounded.tv_in) tt in
    let u = kept w64 (given m.u m.bounded.tu_in) tt in
    let best = kept w64 (equal c.best-best.ensures.value c.best-best.ensures.small) tt in
    record {
      lows = c.note.ensures ∙ ap (noted_by s.lows.best (c.args.label % 16)) best.same;
      highs = c.note-2.ensures ∙ ap (noted_by s.highs.best (c.args.label / 16 % 16)) best.same;
      v = c.raised-self.ensures.value ∙ raised_same s.v b.same v.same u.same;
      u = c.raised-self-2.ensures.value ∙ raised_same s.u b.same u.same v.same;
    }
