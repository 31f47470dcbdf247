use Rattle.observation.proofs.antenna.Antenna.product.Goals as goal
use Rattle.std.proofs.Common.{◌≡◌, ◌≤◌, subst, sym, ℤ, nat_abs, ap, ◌∙◌, ap₂, w16, w32}
use Rattle.arith.proofs.Exact.{Known, arg, keep, fits, ◌⊗◌, ◌⊕◌, ◌⊖◌}
use Rattle.observation.specs.declared.Sample.{Sample}
use Rattle.observation.specs.Observed.{Ranged}
use Rattle.observation.specs.Joining.{product_of, conjugated}
use Rattle.observation.proofs.Antennas.{conjugate_ranged}

-- a product of two parts, as the machine has it
abbrev part : (a b : ℤ) → nat_abs a ≤ 1023 → nat_abs b ≤ 1023 → Known
part a b h k = keep w32 (keep w32 (keep w16 (arg a h) tt) tt ⊗ keep w32 (keep w16 (arg b k) tt) tt) tt

abbrev real : (a b : Sample) → Ranged a → Ranged b → Known
real a b p q = part a.re b.re p.re q.re ⊖ part a.im b.im p.im q.im

abbrev imaginary : (a b : Sample) → Ranged a → Ranged b → Known
imaginary a b p q = part a.re b.im p.re q.im ⊕ part a.im b.re p.im q.re

ranged_as : {r s : Sample} → r ≡ conjugated s → Ranged s → Ranged r
ranged_as {s = s} e h = subst Ranged (sym e) (conjugate_ranged s h)

pub overflow_sub-result : goal.overflow_sub-result
overflow_sub-result c =
    let s = c.args.self in
    fits w32 (real s.y c.conjugate-h.result s.y_ranged (ranged_as c.conjugate-h.ensures s.h_ranged)).is tt

pub overflow_add-result : goal.overflow_add-result
overflow_add-result c =
    let s = c.args.self in
    fits w32 (imaginary s.y c.conjugate-h.result s.y_ranged (ranged_as c.conjugate-h.ensures s.h_ranged)).is tt

pub returns : goal.returns
returns c =
    let s = c.args.self in
    let h = ranged_as c.conjugate-h.ensures s.h_ranged in
    ap₂ (λ (a b : ℤ). (a, b))
    (keep w32 (real s.y c.conjugate-h.result s.y_ranged h) tt).is.same
    (keep w32 (imaginary s.y c.conjugate-h.result s.y_ranged h) tt).is.same
    ∙ ap (product_of s.y) c.conjugate-h.ensures
