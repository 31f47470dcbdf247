use Rattle.std.proofs.Common.{◌-◌, get_or, pos, ap, ◌∙◌, ap₂, ◌+ℤ◌, arith, w16, SFits, rules}
use Rattle.std.proofs.lemmas.Int.{to_z-of_z}
use Rattle.std.proofs.lemmas.List.FromFn.{get_or-map-range_with_len}
use Rattle.protocol.specs.Calls.{looked}
use Rattle.detect.specs.Kept.{kept_value}
use Rattle.soft.specs.Seen.{seen}
use Rattle.soft.proofs.Rows.{seen_by}
use Rattle.soft.proofs.detector.Detector.look.Goals as goal

pub returns : goal.returns
returns c =
    let d = c.args.self.now in
    let k = c.args.position in
    let fa : SFits w16 (get_or c.priors-priors.result.now (k - 1) (pos 0)) = search rules in
    let fe : SFits w16 (get_or c.deref.result.now (k - 1) (pos 0)) = search rules in
    let a = to_z-of_z w16 _ fa ∙ ap (λ xs. get_or xs (k - 1) (pos 0)) c.priors-priors.ensures.value in
    let e = to_z-of_z w16 _ fe ∙ ap (λ xs. get_or xs (k - 1) (pos 0)) (c.deref.ensures.0 ∙ c.values-values.ensures.value)
    ∙ get_or-map-range_with_len _ 1 d.chart.m (k - 1) k (pos 0) (omega arith) (omega arith) in
    c.with_posterior.ensures ∙ ap₂ (λ x y. (x, y, x +ℤ y)) a e
    ∙ seen_by (looked kept_value (seen d).meaning (seen d).shift k) _ d (c.args.symbol - 1) (omega arith)
