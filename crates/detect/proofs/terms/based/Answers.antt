use Rattle.detect.proofs.terms.based.Goals as goal
use Rattle.std.proofs.Common.{◌≡◌, ℕ, ◌≤◌, ℤ, pos, ◌+ℤ◌, ◌*ℤ◌, nat_abs, ap, ◌∙◌, w64}
use Rattle.observation.specs.declared.Record.{Record}
use Rattle.detect.specs.Parts.{Basing}
use Rattle.arith.proofs.Exact.{Known, know, equal, arg, lit, num, keep, ◌⊗◌, ◌⊕◌, ◌⊖◌, fits, small}

-- the expression, part by part, as the machine has it
abbrev squares : (x y : ℕ) → x ≤ 4095 → y ≤ 4095 → Known
squares x y h k =
    let a = num w64 h tt in
    let b = num w64 k tt in
    keep w64 (keep w64 (a ⊗ a) tt ⊕ keep w64 (b ⊗ b) tt) tt

abbrev far : {w s p : ℤ} {x y : ℕ} {r : Record} → Basing w x y r s p → Known
far {x = x} {y} b = squares x y b.x_in b.y_in ⊗ num w64 b.r_in.h tt

-- what `farther` says of its result
abbrev near : {w s p : ℤ} {x y : ℕ} {r : Record} {t : ℤ} (b : Basing w x y r s p) → t ≡ pos 1048576 *ℤ pos r.y_energy +ℤ (keep w64 (far b) tt).t → nat_abs t ≤ 289567256969232 → Known
near {r = r} b e h = know (equal (e ∙ ap (λ (z : ℤ). pos 1048576 *ℤ pos r.y_energy +ℤ z) (keep w64 (far b) tt).is.same) h)

abbrev weighted : {w s p : ℤ} {x y : ℕ} {r : Record} {t : ℤ} (b : Basing w x y r s p) → t ≡ pos 1048576 *ℤ pos r.y_energy +ℤ (keep w64 (far b) tt).t → nat_abs t ≤ 289567256969232 → Known
weighted {w} b e h = keep w64 (lit 2 ⊗ keep w64 (arg w b.w_in) tt) tt ⊗ keep w64 (near b e h) tt

abbrev prior : {w s p : ℤ} {x y : ℕ} {r : Record} → Basing w x y r s p → Known
prior {s = s} {p} b = keep w64 (lit 2 ⊗ keep w64 (arg s b.s_in) tt) tt ⊗ keep w64 (arg p b.p_in) tt

abbrev whole : {w s p : ℤ} {x y : ℕ} {r : Record} {t : ℤ} (b : Basing w x y r s p) → t ≡ pos 1048576 *ℤ pos r.y_energy +ℤ (keep w64 (far b) tt).t → nat_abs t ≤ 289567256969232 → Known
whole b e h = keep w64 (prior b) tt ⊖ keep w64 (weighted b e h) tt

pub overflow_mul-result-2 : goal.overflow_mul-result-2
overflow_mul-result-2 c = fits w64 (prior c.requires).is tt

pub overflow_mul-x-2 : goal.overflow_mul-x-2
overflow_mul-x-2 c = fits w64 (far c.requires).is tt

pub farther-requires : goal.farther-requires
farther-requires c = (c.requires.r_in.y, small 280788335427600 (keep w64 (far c.requires) tt).is tt)

pub overflow_mul-result-4 : goal.overflow_mul-result-4
overflow_mul-result-4 c = fits w64 (weighted c.requires c.farther.ensures.value c.farther.ensures.small).is tt

pub overflow_sub-result : goal.overflow_sub-result
overflow_sub-result c = fits w64 (whole c.requires c.farther.ensures.value c.farther.ensures.small).is tt

pub returns : goal.returns
returns c =
    let all = keep w64 (whole c.requires c.farther.ensures.value c.farther.ensures.small) tt in
    record { value = all.is.same; small = small 736600000000000000 all.is tt }
