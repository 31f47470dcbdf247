use Rattle.detect.proofs.received.Received.submetric.Goals as goal
use Rattle.std.proofs.Common.{◌≡◌, ℕ, ℤ, ◌∙◌, w16, w32, w64}
use Rattle.detect.specs.Parts.{middle, turn}
use Rattle.arith.proofs.Exact.{given, equal, counted, kept, small}

middle-same : {w v s t p q : ℤ} (x y Y H : ℕ) → w ≡ v → s ≡ t → p ≡ q → middle w x y Y H s p ≡ middle v x y Y H t q
middle-same x y Y H e f g = rw (e, f, g)

turn-same : {w v s t y z a b : ℤ} (x : ℕ) → w ≡ v → s ≡ t → y ≡ z → a ≡ b → turn w x s y a ≡ turn v x t z b
turn-same x e f g h = rw (e, f, g, h)

pub returns : goal.returns
returns c =
    let r = c.args.self.now in
    let w = kept w64 (counted c.weighed-weight.ensures.value c.weighed-weight.ensures.small) tt in
    let s = kept w64 (equal c.scale-scale.ensures.value c.scale-scale.ensures.small) tt in
    let p = kept w64 (equal c.prior_sum-sum.ensures.value c.prior_sum-sum.ensures.small) tt in
    let zr = kept w32 (given r.record.now.z_re r.measured.re) tt in
    let zi = kept w32 (given r.record.now.z_im r.measured.im) tt in
    let av = kept w16 (equal c.prior_at-real.ensures.value c.prior_at-real.ensures.small) tt in
    let au = kept w16 (equal c.prior_at-imaginary.ensures.value c.prior_at-imaginary.ensures.small) tt in
    let base = kept w64 (equal (c.based-base.ensures.value ∙ middle-same c.args.point.x c.args.point.y r.record.now.y_energy r.record.now.h_energy w.same s.same p.same) c.based-base.ensures.small) tt in
    let tv = kept w64 (equal (c.turned-v.ensures.value ∙ turn-same c.args.point.x w.same s.same zr.same av.same) c.turned-v.ensures.small) tt in
    let tu = kept w64 (equal (c.turned-u.ensures.value ∙ turn-same c.args.point.y w.same s.same zi.same au.same) c.turned-u.ensures.small) tt in
    record {
      base = base.same;
      tv = tv.same;
      tu = tu.same;
      base_in = small 736600000000000000 base tt;
      tv_in = small 152700000000000000 tv tt;
      tu_in = small 152700000000000000 tu tt;
    }
