use Rattle.std.proofs.Common.{◌≡◌, ◌+◌, ◌-◌, ◌<◌, cond, [], ◌∷◌, ◌++◌, length, get_or, pos, sym, ap, ◌∙◌, ap₂, ◌+ℤ◌, arith, w16, SFits, rules}
use lib.Signed.{lt_z}
use Rattle.std.proofs.lemmas.Int.{to_z-of_z}
use Rattle.std.proofs.lemmas.List.{take_more_set}
use Rattle.std.proofs.lemmas.List.FromFn.{get_or-map-range_with_len, map-range_with_len_more}
use Rattle.soft.specs.Seen.{seen_at}
use Rattle.soft.proofs.detector.Detector.decide_row.Goals as goal

pub loop-j-preserved : goal.loop-j-preserved
loop-j-preserved c =
    let d = c.args.self.now in
    let j = c.loop-j.j in
    let within : j < d.chart.m = omega (arith, c.loop-j-test.true, c.requires.room) in
    let fa : SFits w16 (get_or c.priors-priors.result.now j (pos 0)) = search rules in
    let fe : SFits w16 (get_or c.deref.result.now j (pos 0)) = search rules in
    let n : j ≡ j + 1 - 1 = omega arith in
    let a = to_z-of_z w16 _ fa ∙ ap (λ xs. get_or xs j (pos 0)) c.priors-priors.ensures.value ∙ ap (λ i. get_or (seen_at d c.args.i).priors i (pos 0)) n in
    let e = to_z-of_z w16 _ fe ∙ ap (λ xs. get_or xs j (pos 0)) (c.deref.ensures.0 ∙ c.values-values.ensures.value)
    ∙ get_or-map-range_with_len _ 1 d.chart.m j (j + 1) (pos 0) within (omega arith) in
    let long : j < length c.loop-j.out = omega (arith, c.loop-j-test.true, c.loop-j.auto.out) in
    take_more_set c.loop-j.out j c.decision.result long
    ∙ ap₂ (λ ys y. ys ++ (y ∷ [])) c.loop-j.invariant (c.decision.ensures ∙ ap₂ (λ x y. cond (lt_z (pos 0) (x +ℤ y)) 1 0) a e)
    ∙ sym (map-range_with_len_more _ 1 j (j + 1) (omega arith))
