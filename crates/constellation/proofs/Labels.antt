-- The bits of a label that more bits were put after.
use Rattle.std.proofs.Common.{◌≡◌, ℕ, ◌+◌, ◌-◌, ◌*◌, ◌/◌, ◌%◌, ◌^◌, ◌<◌, ◌≤◌, sym, ap, ◌∙◌, arith}
use lib.Arith.{digits_lt}
use Rattle.std.proofs.lemmas.Nat.{pow-add, shr-shr, shr_high}
use Rattle.constellation.specs.Meaning.{bit}

pub bit_above : (m k j l : ℕ) → j ≤ m → bit (m + k) j l ≡ bit m j (l / 2 ^ k)
bit_above m k j l h =
    let e : m + k - j ≡ k + (m - j) = omega arith in
    ap (λ z. (l / 2 ^ z) % 2) e ∙ ap (λ z. z % 2) (sym (shr-shr l k (m - j)))

pub bit_kept : (m k j l g : ℕ) → j ≤ m → g < 2 ^ k → bit (m + k) j (l * 2 ^ k + g) ≡ bit m j l
bit_kept m k j l g h s = bit_above m k j (l * 2 ^ k + g) h ∙ ap (bit m j) (shr_high l k g s)

pub label_fits : (m k l g : ℕ) → l < 2 ^ m → g < 2 ^ k → l * 2 ^ k + g < 2 ^ (m + k)
label_fits m k l g h s = rw (pow-add 2 m k) (digits_lt h s)
