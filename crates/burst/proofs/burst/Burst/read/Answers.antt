use Rattle.std.proofs.Common.{Ok, Err, ap, ◌∙◌, ap₂}
use Rattle.std.proofs.lemmas.Result.{err_from_is_err_and}
use Rattle.protocol.specs.Calls.{reading}
use Rattle.detect.specs.Kept.{kept_value}
use Rattle.burst.specs.Public.{closed_kept}
use Rattle.burst.proofs.Detected.{read_said}
use Rattle.burst.proofs.burst.Burst.read.Goals as goal

pub returns-in_err-may_read : goal.returns-in_err-may_read
returns-in_err-may_read g c =
    let b = c.args.self.now in
    let p = err_from_is_err_and c.from_residual.result c.from_residual.ensures.1 in
    read_said _ (g.met.C.Constellation.lawful b.c) b.table _ _ _ _ (Err p.0) c.m.ensures (ap (λ x. Err x) p.2 ∙ c.in_err-may_read.ensures) p.1

pub returns : goal.returns
returns g c =
    let b = c.args.self.now in
    read_said _ (g.met.C.Constellation.lawful b.c) b.table _ _ _ _ (Ok tt) c.m.ensures c.in_ok-may_read.ensures
    (ap (λ t. Ok t) (c.look.ensures ∙ ap (λ s. reading kept_value s c.args.symbol c.args.position) (ap₂ closed_kept c.of.ensures.meaning c.of.ensures.table)))
