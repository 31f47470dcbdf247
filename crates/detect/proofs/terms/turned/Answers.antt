use Rattle.detect.proofs.terms.turned.Goals as goal
use Rattle.std.proofs.Common.{ℕ, ℤ, w16, w32, w64}
use Rattle.detect.specs.Parts.{Turning}
use Rattle.arith.proofs.Exact.{Known, arg, lit, num, keep, ◌⊗◌, ◌⊖◌, fits, small}

-- the expression, part by part, as the machine has it
abbrev moved : {w z s a : ℤ} {x : ℕ} → Turning w x z s a → Known
moved {w} h = keep w64 (lit 4096 ⊗ keep w64 (arg w h.w_in) tt) tt ⊗ num w64 h.x_in tt

abbrev matched : {w z s a : ℤ} {x : ℕ} → Turning w x z s a → Known
matched {z = z} h = keep w64 (moved h) tt ⊗ keep w64 (keep w32 (arg z h.z_in) tt) tt

abbrev own : {w z s a : ℤ} {x : ℕ} → Turning w x z s a → Known
own {s = s} {a} h = keep w64 (arg s h.s_in) tt ⊗ keep w64 (keep w16 (arg a h.a_in) tt) tt

abbrev whole : {w z s a : ℤ} {x : ℕ} → Turning w x z s a → Known
whole h = keep w64 (matched h) tt ⊖ keep w64 (own h) tt

pub overflow_mul-result-2 : goal.overflow_mul-result-2
overflow_mul-result-2 c = fits w64 (moved c.requires).is tt

pub overflow_mul-result-3 : goal.overflow_mul-result-3
overflow_mul-result-3 c = fits w64 (matched c.requires).is tt

pub overflow_mul-result-4 : goal.overflow_mul-result-4
overflow_mul-result-4 c = fits w64 (own c.requires).is tt

pub overflow_sub-result : goal.overflow_sub-result
overflow_sub-result c = fits w64 (whole c.requires).is tt

pub returns : goal.returns
returns c =
    let all = keep w64 (whole c.requires) tt in
    record { value = all.is.same; small = small 152700000000000000 all.is tt }
