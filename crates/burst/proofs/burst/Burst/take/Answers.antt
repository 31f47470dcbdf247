use Rattle.std.proofs.Common.{Ok, Err, refl, ap, ◌∙◌, ap₂}
use Rattle.std.proofs.lemmas.Result.{err_from_is_err_and}
use Rattle.protocol.specs.Calls.{sheet_of}
use Rattle.detect.specs.Kept.{kept_value}
use Rattle.burst.specs.Public.{closed_kept}
use Rattle.burst.proofs.Detected.{taken_said}
use Rattle.burst.proofs.burst.Burst.take.Goals as goal

pub returns-in_err-may_take-clause-taken : goal.returns-in_err-may_take-clause-taken
returns-in_err-may_take-clause-taken g c =
    let b = c.args.self.now in
    let p = err_from_is_err_and c.from_residual.result c.from_residual.ensures.1 in
    taken_said _ (g.met.C.Constellation.lawful b.c) b.table b.table _ c.args.sheet.now _ _ (Err p.0) c.m.ensures (ap (λ x. Err x) p.2 ∙ c.in_err-may_take.ensures) refl p.1 refl

pub returns-clause-taken : goal.returns-clause-taken
returns-clause-taken g c =
    let b = c.args.self.now in
    taken_said _ (g.met.C.Constellation.lawful b.c) b.table c.issue.new.self _ c.args.sheet.now _ _ (Ok tt) c.m.ensures c.in_ok-may_take.ensures c.issue.ensures.left
    (ap (λ u. Ok u) c.issue.ensures.turn) (c.fill.ensures ∙ ap (sheet_of kept_value) (ap₂ closed_kept c.of.ensures.meaning c.of.ensures.table))
