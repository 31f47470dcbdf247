use Rattle.std.proofs.Common.{Ok, Err, sym, refl, ap, ◌∙◌, ap₂, subst}
use Rattle.std.proofs.lemmas.Result.{err_from_is_err_and}
use Rattle.protocol.specs.Calls.{bits_of}
use Rattle.detect.specs.Kept.{kept_value}
use Rattle.burst.specs.Public.{closed_kept, Decided}
use Rattle.burst.proofs.Detected.{decided_said}
use Rattle.burst.proofs.burst.Burst.hard_decide.Goals as goal

pub returns-in_err-may_decide : goal.returns-in_err-may_decide
returns-in_err-may_decide g c =
    let b = c.args.self.now in
    let bits = c.args.bits.now in
    let p = err_from_is_err_and c.from_residual.result c.from_residual.ensures.1 in
    subst (λ r. Decided (closed_kept (g.C.Constellation.meaning b.c) b.table) bits r bits) (sym p.1)
    (decided_said _ (g.met.C.Constellation.lawful b.c) b.table _ bits bits (Err p.0) c.m.ensures (ap (λ x. Err x) p.2 ∙ c.in_err-may_decide.ensures) refl)

pub returns : goal.returns
returns g c =
    let b = c.args.self.now in
    decided_said _ (g.met.C.Constellation.lawful b.c) b.table _ c.args.bits.now _ (Ok tt) c.m.ensures c.in_ok-may_decide.ensures
    (c.decide.ensures ∙ ap (bits_of kept_value) (ap₂ closed_kept c.of.ensures.meaning c.of.ensures.table))
