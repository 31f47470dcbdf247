-- What an extrinsic value depends on: not on its own bit's a priori value, and on the others' at most as much as they differ.
use Rattle.std.specs.Prelude.{◌≡◌, ℕ, ◌^◌, ◌≤◌, cond, ◌≢◌, ℤ, pos, ◌-ℤ◌, ◌≤ℤ◌, Some, ◌==◌}
use Rattle.constellation.specs.Meaning.{Meaning}
use Rattle.metric.specs.Exhaustive.{Symbol, sum_to, extrinsic}
use Rattle.metric.specs.Reduced.{absolute}

-- the sum of |A j − B j| over 1..m without k
abbrev pub others : ℕ → ℕ → (ℕ → ℤ) → (ℕ → ℤ) → ℤ
others m k A B = sum_to m (λ j. cond (j == k) (pos 0) (absolute (A j -ℤ B j)))

-- a bit's extrinsic value does not depend on that bit's a priori value
abbrev pub Independent : Type 0
Independent = (C : Meaning) (s : ℕ) (sym : Symbol) (A B : ℕ → ℤ) (k : ℕ) → 1 ≤ k → k ≤ C.m →
    ((j : ℕ) → j ≢ k → A j ≡ B j) → extrinsic C (2 ^ s) sym A k ≡ extrinsic C (2 ^ s) sym B k

-- two extrinsic values of a bit differ by at most as much as the other bits' a priori values do together
abbrev pub Bounded : Type 0
Bounded = (C : Meaning) (s : ℕ) (sym : Symbol) (A B : ℕ → ℤ) (k : ℕ) → 1 ≤ k → k ≤ C.m → (l n : ℤ) →
    extrinsic C (2 ^ s) sym A k ≡ Some l → extrinsic C (2 ^ s) sym B k ≡ Some n → absolute (l -ℤ n) ≤ℤ others C.m k A B
