use Rattle.detect.proofs.pass.gather.Goals as goal
use Rattle.std.proofs.Common.{◌≡◌, ℕ, ◌<◌, List, [], length, get_or, subst, sym, refl, ◌∙◌, ap, ℤ, pos, replicate}
use Rattle.std.specs.List.{AllByRecursion}
use Rattle.std.proofs.ByRecursion.{All-get_or}
use Rattle.constellation.specs.declared.Point.{Point}
use Rattle.detect.specs.Parts.{Placed}
use Rattle.detect.specs.Tops.{top_of, lowest, Filled}
use Rattle.detect.specs.Buckets.{Bucketed, tops_by}
use Rattle.detect.proofs.Charted.{placed, apart}
use Rattle.detect.proofs.Gathering.{gather_more}

abbrev nowhere : Point
nowhere = record { x = 0; y = 0; e = 0; label = 0 }

-- of no point
starts : (f : Point → ℤ) (g : Point → ℕ) {xs : List ℤ} → xs ≡ replicate 16 lowest → Filled xs → Bucketed f g [] xs
unfolding tops_by
starts f g {xs} e h = record { long = ap length e; bounded = h; at = λ l k. ap (λ (ys : List ℤ). get_or ys l (pos 0)) e ∙ go l k }
  where
    go : (l : ℕ) → l < 16 → get_or (replicate 16 lowest) l (pos 0) ≡ lowest
    go l k = All-get_or (λ (x : ℤ). x ≡ lowest) (replicate 16 lowest) l (pos 0) k (refl, (refl, (refl, (refl, (refl, (refl, (refl, (refl, (refl, (refl, (refl, (refl, (refl, (refl, (refl, (refl, tt))))))))))))))))

pub loop-point-init : goal.loop-point-init
unfolding top_of
loop-point-init c =
    let t = c.args.tops.now in
    record { low = starts _ _ c.requires.lows t.lows.filled; high = starts _ _ c.requires.highs t.highs.filled; v_at = c.requires.v; u_at = c.requires.u; v_held = t.v_held; u_held = t.u_held; above = tt }

pub submetric-requires : goal.submetric-requires
submetric-requires c =
    All-get_or Placed c.quadrant-point-items.result.now c.loop-point.point-index nowhere c.loop-point-test.true
    (subst (AllByRecursion Placed) (sym c.quadrant-point-items.ensures) (placed c.args.symbol.now.chart.now.lawful))

pub loop-point-preserved : goal.loop-point-preserved
loop-point-preserved c =
    gather_more c.quadrant-point-items.result.now c.loop-point.point-index nowhere c.loop-point-test.true (apart c.args.symbol.now.chart.now.lawful)
    c.loop-point.invariant c.submetric.ensures c.submetric.result.bounded
    c.offer.ensures.lows c.offer.ensures.highs c.offer.ensures.v c.offer.ensures.u c.offer.new.self.v_held c.offer.new.self.u_held
