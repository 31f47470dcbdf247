use Rattle.detect.proofs.value.valued.Goals as goal
use Rattle.std.proofs.Common.{◌≡◌, ℕ, ◌+◌, ◌*◌, ◌^◌, ◌≤◌, ℤ, pos, ◌+ℤ◌, ◌-ℤ◌, ◌*ℤ◌, nat_abs, ap, ◌∙◌, ap₂, arith, w16, w64, SFits}
use lib.Signed.{shr_z}
use Rattle.std.proofs.lemmas.Nat.{pow-add}
use Rattle.std.proofs.lemmas.Int.{to_z-of_z}
use Rattle.metric.specs.Exhaustive.{clipped}
use Rattle.detect.specs.Tops.{Valuing}
use Rattle.arith.proofs.Exact.{Is, Known, know, arg, keep, equal, kept, fits, shifted, small, ◌⊗◌, ◌⊕◌, ◌⊖◌}
use Rattle.detect.proofs.Topping.{is_by}

-- the parts, as the machine has them; s is S, with what `scale` says of it
abbrev own : {s one zero a : ℤ} {shift : ℕ} → s ≡ pos (2 ^ shift) → nat_abs s ≤ 2 ^ 40 → Valuing one zero shift a → Known
own {a = a} e h p = keep w64 (know (equal e h)) tt ⊗ keep w64 (keep w16 (arg a p.a_in) tt) tt

abbrev apart : {one zero a : ℤ} {shift : ℕ} → Valuing one zero shift a → Known
apart {one} {zero} p = keep w64 (keep w64 (arg one p.one_in) tt ⊖ keep w64 (arg zero p.zero_in) tt) tt

-- what `less_own` says of its result
less : {r d y o z : ℤ} {m n : ℕ} → r ≡ d -ℤ pos 2 *ℤ o → nat_abs r ≤ 4629698217913614336 → Is d y m → Is o z n → Is r (y -ℤ pos 2 *ℤ z) 4629698217913614336
less e h i j = equal (e ∙ ap₂ (λ (d o : ℤ). d -ℤ pos 2 *ℤ o) i.same j.same) h

doubled : (k : ℕ) → 2 ^ (k + 1) ≡ 2 * 2 ^ k
doubled k = omega (arith, pow-add 2 k 1)

pub less_own-difference-requires : goal.less_own-difference-requires
less_own-difference-requires c = (
  small 4611686018427387904 (apart c.requires).is tt,
  small 9006099743113216 (keep w64 (own c.scale-scale.ensures.value c.scale-scale.ensures.small c.requires) tt).is tt,
)

pub overflow_add-difference : goal.overflow_add-difference
overflow_add-difference c =
    let d = less c.less_own-difference.ensures.value c.less_own-difference.ensures.small (apart c.requires).is (keep w64 (own c.scale-scale.ensures.value c.scale-scale.ensures.small c.requires) tt).is in
    fits w64 (keep w64 (know d) tt ⊕ keep w64 (know (equal c.scale-scale.ensures.value c.scale-scale.ensures.small)) tt).is tt

pub returns : goal.returns
returns c =
    let d = less c.less_own-difference.ensures.value c.less_own-difference.ensures.small (apart c.requires).is (keep w64 (own c.scale-scale.ensures.value c.scale-scale.ensures.small c.requires) tt).is in
    let sum = keep w64 (keep w64 (know d) tt ⊕ keep w64 (know (equal c.scale-scale.ensures.value c.scale-scale.ensures.small)) tt) tt in
    let f = kept w64 (is_by c.floored.ensures (shifted (2 ^ (c.args.shift.exponent + 1)) sum.is)) tt in
    let fit : SFits w16 c.clipped.result = record { sfits = c.clipped.type_inv } in
    to_z-of_z w16 c.clipped.result fit ∙ c.clipped.ensures ∙ ap clipped f.same
    ∙ ap (λ (n : ℕ). clipped (shr_z (c.args.one -ℤ c.args.zero -ℤ pos 2 *ℤ (pos (2 ^ c.args.shift.exponent) *ℤ c.args.prior) +ℤ pos (2 ^ c.args.shift.exponent)) n)) (doubled c.args.shift.exponent)
