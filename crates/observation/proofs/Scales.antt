-- 2 to a shift, as the machine computes it.
use Rattle.std.proofs.Common.{◌≡◌, ℕ, ◌*◌, ◌%◌, ◌^◌, ◌≤◌, pos, unsigned_abs, ap, ◌∙◌, arith, pow_mono, w64, to_z}
use Rattle.std.proofs.lemmas.Nat.{one_shl}
use Rattle.arith.proofs.Exact.{number, small}

pub scaled : (n : ℕ) → n ≤ 40 → to_z w64 (1 * 2 ^ n % 18446744073709551616) ≡ pos (2 ^ n)
scaled n h = let low : 2 ^ n ≤ 2 ^ 40 = pow_mono h in ap (to_z w64) (one_shl n 64 (omega arith)) ∙ (number w64 low tt).same

pub scaled_small : (n : ℕ) → n ≤ 40 → unsigned_abs (to_z w64 (1 * 2 ^ n % 18446744073709551616)) ≤ 1099511627776
scaled_small n h = let low : 2 ^ n ≤ 2 ^ 40 = pow_mono h in small (2 ^ 40) (record { same = scaled n h; within = low }) tt
