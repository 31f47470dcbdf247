-- A bit that is 0 is set by adding its weight; the other bits stay.
use Rattle.std.proofs.Common.{◌≡◌, ℕ, ◌+◌, ◌-◌, ◌*◌, ◌/◌, ◌%◌, ◌^◌, ◌<◌, sym, ap, ◌∙◌, subst, inl, inr, add-mul, one-mul, arith}
use lib.Arith.{digits_lt}
use Rattle.std.proofs.lemmas.Nat.{pow_pos, pow-add, shr_below, shr_split, shr-shr, shr_high, mod_low, mod_below}
use Rattle.std.proofs.lemmas.Bool.{cases_lt}
use Rattle.constellation.proofs.Reorder.{low_bit}

module _ (x d : ℕ) (zero_bit : x / 2 ^ d % 2 ≡ 0) where
  up : x + 2 ^ d ≡ (x / 2 ^ d + 1) * 2 ^ d + x % 2 ^ d
  up = omega (arith, shr_split x d, add-mul (x / 2 ^ d) 1 (2 ^ d), one-mul (2 ^ d))

  pub set_fits : (m : ℕ) → d < m → x < 2 ^ m → x + 2 ^ d < 2 ^ m
  set_fits m h s =
      let e : (m - d) + d ≡ m = omega arith in
      let f : m - d ≡ 1 + (m - d - 1) = omega arith in
      let two : 2 ^ (m - d) ≡ 2 * 2 ^ (m - d - 1) = ap (λ z. 2 ^ z) f ∙ pow-add 2 1 (m - d - 1) in
      let q : x / 2 ^ d < 2 ^ (m - d) = shr_below x (m - d) d (subst (λ z. x < 2 ^ z) (sym e) s) in
      let q' : x / 2 ^ d + 1 < 2 ^ (m - d) = omega arith in
      let all : (x / 2 ^ d + 1) * 2 ^ d + x % 2 ^ d < 2 ^ (m - d) * 2 ^ d = digits_lt q' (mod_below x (2 ^ d) (pow_pos d)) in
      let whole : 2 ^ (m - d) * 2 ^ d ≡ 2 ^ m = sym (pow-add 2 (m - d) d) ∙ ap (λ z. 2 ^ z) e in
      omega (arith, up)

  above : (x + 2 ^ d) / 2 ^ d ≡ x / 2 ^ d + 1
  above = ap (λ z. z / 2 ^ d) up ∙ shr_high (x / 2 ^ d + 1) d (x % 2 ^ d) (mod_below x (2 ^ d) (pow_pos d))

  below : (x + 2 ^ d) % 2 ^ d ≡ x % 2 ^ d
  below = ap (λ z. z % 2 ^ d) up ∙ mod_low (x / 2 ^ d + 1) d (x % 2 ^ d) (mod_below x (2 ^ d) (pow_pos d))

  pub set_same : (x + 2 ^ d) / 2 ^ d % 2 ≡ 1
  set_same = omega (arith, above)

  pub set_other : (k : ℕ) → (k ≡ d → ⊥) → (x + 2 ^ d) / 2 ^ k % 2 ≡ x / 2 ^ k % 2
  set_other k ne = elim (cases_lt k d) [
    | inl h ↦ low_bit (x + 2 ^ d) d k h ∙ ap (λ z. z / 2 ^ k % 2) below ∙ sym (low_bit x d k h)
    | inr h ↦
        let e : k ≡ d + (1 + (k - d - 1)) = omega arith in
        let half : (x / 2 ^ d + 1) / 2 ≡ x / 2 ^ d / 2 = omega arith in
        let part : (y : ℕ) → y / 2 ^ k % 2 ≡ (y / 2 ^ d) / 2 / 2 ^ (k - d - 1) % 2 = λ y.
        ap (λ z. y / 2 ^ z % 2) e ∙ ap (λ z. z % 2) (sym (shr-shr y d (1 + (k - d - 1)))) ∙ ap (λ z. z % 2) (sym (shr-shr (y / 2 ^ d) 1 (k - d - 1))) in
        part (x + 2 ^ d) ∙ ap (λ z. z / 2 / 2 ^ (k - d - 1) % 2) above ∙ ap (λ z. z / 2 ^ (k - d - 1) % 2) half ∙ sym (part x)
  ]
