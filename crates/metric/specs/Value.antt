-- The values that leave the detector: the one definition of each. A priori values are a list, its k-th entry that of position k, counted from 1.
use Rattle.std.specs.Prelude.{ℕ, ◌-◌, ◌^◌, cond, List, ℤ, pos, ◌+ℤ◌, Some, None, Option, int_lt, slice_index_or}
use Rattle.constellation.specs.Meaning.{Meaning}
use Rattle.metric.specs.Exhaustive.{Symbol, at_bit, extrinsic}

-- the number, or 0 where there is none; over a lawful constellation there is always one, since each value of each bit occurs
abbrev pub or_zero : Option ℤ → ℤ
or_zero None = pos 0
or_zero (Some l) = l

-- the extrinsic value of position k, at the shift s
unfoldable pub extrinsic_value : Meaning → ℕ → Symbol → List ℤ → ℕ → ℤ
extrinsic_value M s sym priors k = or_zero (extrinsic M (2 ^ s) sym (at_bit priors) k)

-- the a priori value of position k and the extrinsic one together
abbrev pub posterior_value : Meaning → ℕ → Symbol → List ℤ → ℕ → ℤ
posterior_value M s sym priors k = slice_index_or priors (k - 1) (pos 0) +ℤ extrinsic_value M s sym priors k

-- 1 where the posterior value is above 0, else 0
abbrev pub hard_value : Meaning → ℕ → Symbol → List ℤ → ℕ → ℕ
hard_value M s sym priors k = cond (int_lt (pos 0) (posterior_value M s sym priors k)) 1 0
