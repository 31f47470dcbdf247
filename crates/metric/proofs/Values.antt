-- The reduced way's extrinsic value is the exhaustive one's.
use Rattle.std.proofs.Common.{◌≡◌, ℕ, ◌*◌, true, false, [], ◌∷◌, ℤ, pos, ◌+ℤ◌, ◌-ℤ◌, ◌*ℤ◌, Some, None, Option, refl, ap, ◌∙◌, ap₂}
use lib.Signed.{shr_z}
use Rattle.arith.specs.Ring.{var, con, ◌:+◌, ◌:-◌, ◌:*◌}
use Rattle.metric.specs.Exhaustive.{mapped, best, apart, clipped, rounded, extrinsic}
use Rattle.metric.specs.Reduced.{reduced_value, SameValue}
use Rattle.arith.proofs.RingLaws.{ring}
use Rattle.metric.proofs.Reducing.{reduces}

two : (S a : ℤ) (p q : ℤ) → pos 2 *ℤ (p -ℤ q -ℤ S *ℤ a) +ℤ S ≡ pos 2 *ℤ p -ℤ pos 2 *ℤ q -ℤ pos 2 *ℤ (S *ℤ a) +ℤ S
two S a p q = ring (S ∷ a ∷ p ∷ q ∷ []) (con (pos 2) :* (var 2 :- var 3 :- var 0 :* var 1) :+ var 0) (con (pos 2) :* var 2 :- con (pos 2) :* var 3 :- con (pos 2) :* (var 0 :* var 1) :+ var 0) refl

halved : (S : ℕ) (a : ℤ) (o z : Option ℤ) →
    mapped (λ D. rounded S (D -ℤ pos S *ℤ a)) (apart o z)
    ≡ mapped (λ D. clipped (shr_z (D -ℤ pos 2 *ℤ (pos S *ℤ a) +ℤ pos S) (2 * S))) (apart (mapped (λ d. pos 2 *ℤ d) o) (mapped (λ d. pos 2 *ℤ d) z))
halved S a None z = refl
halved S a (Some p) None = refl
halved S a (Some p) (Some q) = ap (λ (t : ℤ). Some (clipped (shr_z t (2 * S)))) (two (pos S) a p q)

pub same-value : SameValue
unfolding extrinsic reduced_value
same-value C clear S s A k =
    halved S (A k) (best C S s A k true) (best C S s A k false)
    ∙ ap₂ (λ (o z : Option ℤ). mapped (λ D. clipped (shr_z (D -ℤ pos 2 *ℤ (pos S *ℤ A k) +ℤ pos S) (2 * S))) (apart o z)) (reduces C clear S s A k true) (reduces C clear S s A k false)
