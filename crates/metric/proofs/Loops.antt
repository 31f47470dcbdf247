-- A loop's step: one more bit, and a maximum that nothing has joined yet.
use Rattle.std.proofs.Common.{◌≡◌, ℕ, ◌+◌, ℤ, ◌+ℤ◌, Some, None, Option, refl, add-one}
use Rattle.metric.specs.Exhaustive.{sum_to, greater}

pub greater_none : (a : Option ℤ) → greater a None ≡ a
greater_none None = refl
greater_none (Some a) = refl

pub sum_more : (i : ℕ) (f : ℕ → ℤ) → sum_to (i + 1) f ≡ sum_to i f +ℤ f (i + 1)
unfolding sum_to
sum_more i f = rw add-one
