-- What the test of a bit order says, in plain terms.
use Rattle.std.specs.Prelude.{◌≡◌, ℕ, ◌<◌, ◌≤◌, true, List, length, slice_index}
use Rattle.constellation.specs.Ordered.{permutes}

-- the list is each of 1 to m once: m places, each with one of 1 to m, each of them at some place, and none at two
pub record EachOnce (m : ℕ) (ps : List ℕ) : Type 0 where
  pub size : length ps ≡ m
  pub least : (j : ℕ) → j < m → 1 ≤ slice_index ps j
  pub most : (j : ℕ) → j < m → slice_index ps j ≤ m
  pub stands : (q : ℕ) → 1 ≤ q → q ≤ m → (j : ℕ) × (j < m) × (slice_index ps j ≡ q)
  pub once : (i j : ℕ) → i < m → j < m → slice_index ps i ≡ slice_index ps j → i ≡ j

-- the test passes exactly there
abbrev pub TestStands : Type 0
TestStands = (m : ℕ) (ps : List ℕ) → (permutes m ps ≡ true → EachOnce m ps) × (EachOnce m ps → permutes m ps ≡ true)
