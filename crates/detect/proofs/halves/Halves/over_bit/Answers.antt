use Rattle.detect.proofs.halves.Halves.over_bit.Goals as goal
use Rattle.detect.proofs.halves.Halves.over_bit.Goals.{then-half-bit-eq1, else-half-bit-eq1}
use Rattle.std.proofs.Common.{◌≡◌, ℕ, ◌+◌, ◌/◌, ◌%◌, ◌^◌, ◌≤◌, Bool, true, false, cond, eqb, List, get_or, ℤ, pos, nat_abs, sym, refl, ap, ◌∙◌, subst, add-one, arith, lit≤, w64}
use mathlib.Core.Bool.{beq}
use Rattle.std.specs.Int.{int_max}
use Rattle.std.proofs.lemmas.Int.{ints, clamps}
use Rattle.std.proofs.ByRecursion.{All-get_or}
use Rattle.metric.proofs.Sums.{eqb_apart}
use Rattle.detect.specs.Tops.{lowest}
use Rattle.detect.specs.Buckets.{over_codes}
use Rattle.arith.proofs.Exact.{Is, given, equal, kept, topmost, small}
use Rattle.detect.proofs.Topping.{is_by}

pub loop-half-init : goal.loop-half-init
unfolding over_codes
loop-half-init c = (refl, refl, lit≤ tt, lit≤ tt)

over-more : (i : ℕ) (b : Bool) (xs : List ℤ) (k : ℕ) (t : Bool) → eqb ((k / 2 ^ i) % 2) 1 ≡ t → over_codes i b xs (k + 1) ≡ int_max (over_codes i b xs k) (cond (beq t b) (get_or xs k (pos 0)) lowest)
unfolding over_codes
over-more i b xs k t e = rw (add-one, e)

above : (z : ℤ) → nat_abs z ≤ 2305843009213693952 → z ≡ int_max z lowest
above z h = omega (arith, ints, clamps)

abbrev Next : ℕ → List ℤ → ℕ → ℤ → ℤ → Type 0
Next i xs k o z = (o ≡ over_codes i true xs k) × (z ≡ over_codes i false xs k) × (nat_abs o ≤ 2305843009213693952) × (nat_abs z ≤ 2305843009213693952)

on : (i k : ℕ) (xs : List ℤ) {o z y : ℤ} → (k / 2 ^ i) % 2 ≡ 1 → Is o (int_max (over_codes i true xs k) (get_or xs k (pos 0))) 2305843009213693952 → y ≡ z → z ≡ over_codes i false xs k → nat_abs z ≤ 2305843009213693952 → Next i xs (k + 1) o y
on i k xs {o} {z} {y} e is f g h = (
  is.same ∙ sym (over-more i true xs k true (ap (λ (n : ℕ). eqb n 1) e)),
  f ∙ above z h ∙ ap (λ (t : ℤ). int_max t lowest) g ∙ sym (over-more i false xs k true (ap (λ (n : ℕ). eqb n 1) e)),
  small 2305843009213693952 is tt,
  subst (λ (t : ℤ). nat_abs t ≤ 2305843009213693952) (sym f) h,
)

off : (i k : ℕ) (xs : List ℤ) {o z y : ℤ} → ((k / 2 ^ i) % 2 ≡ 1 → ⊥) → Is z (int_max (over_codes i false xs k) (get_or xs k (pos 0))) 2305843009213693952 → y ≡ o → o ≡ over_codes i true xs k → nat_abs o ≤ 2305843009213693952 → Next i xs (k + 1) y z
off i k xs {o} {z} {y} e is f g h = (
  f ∙ above o h ∙ ap (λ (t : ℤ). int_max t lowest) g ∙ sym (over-more i true xs k false (eqb_apart _ 1 e)),
  is.same ∙ sym (over-more i false xs k false (eqb_apart _ 1 e)),
  subst (λ (t : ℤ). nat_abs t ≤ 2305843009213693952) (sym f) h,
  small 2305843009213693952 is tt,
)

abbrev Within : ℤ → Type 0
Within x = nat_abs x ≤ 2305843009213693952

pub loop-half-preserved : goal.loop-half-preserved
loop-half-preserved c =
    let x = kept w64 (given (get_or c.args.self.now.best c.loop-half.half (pos 0)) (All-get_or Within c.args.self.now.best c.loop-half.half (pos 0) (omega arith) c.args.self.now.filled)) tt in
    elim c.if-half-bit-eq1.branch [
      | then-half-bit-eq1 w ↦ on c.args.bit c.loop-half.half c.args.self.now.best w.if-half-bit-eq1.true
          (is_by w.one-is (kept w64 (topmost w.max-one.ensures.value (equal c.loop-half.invariant.0 c.loop-half.invariant.2) x) tt)) w.zero-is c.loop-half.invariant.1 c.loop-half.invariant.3
      | else-half-bit-eq1 w ↦ off c.args.bit c.loop-half.half c.args.self.now.best w.if-half-bit-eq1.false
          (is_by w.zero-is (kept w64 (topmost w.max-zero.ensures.value (equal c.loop-half.invariant.1 c.loop-half.invariant.3) x) tt)) w.one-is c.loop-half.invariant.0 c.loop-half.invariant.2
    ]
