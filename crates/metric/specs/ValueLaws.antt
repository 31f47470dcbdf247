-- The laws of the values that leave the detector, in terms of lists of a priori values.
use Rattle.std.specs.Prelude.{◌≡◌, ℕ, ◌+◌, ◌-◌, ◌<◌, ◌≤◌, true, cond, ◌≢◌, List, [], ◌∷◌, map, length, ℤ, pos, ◌-ℤ◌, Some, ◌==◌, slice_index, slice_index_or, unsigned_abs}
use Rattle.constellation.specs.Meaning.{Meaning, Lawful}
use Rattle.constellation.specs.Ordered.{permutes, shuffled}
use Rattle.metric.specs.Exhaustive.{Symbol, extrinsic}
use Rattle.metric.specs.Value.{extrinsic_value, posterior_value, hard_value}

-- how far two values are apart
abbrev pub dist : ℤ → ℤ → ℕ
dist a b = unsigned_abs (a -ℤ b)

-- how far two lists are apart: the sum of the distances at every position but k, counted from 1
abbrev pub away : ℕ → List ℤ → List ℤ → ℕ
away k [] ys = 0
away k (x ∷ xs) [] = 0
away k (x ∷ xs) (y ∷ ys) = cond (k == 1) 0 (dist x y) + away (k - 1) xs ys

-- the a priori values in another bit order: position j gets what stood at the j-th listed position
abbrev pub permute : List ℕ → List ℤ → List ℤ
permute ps zs = map (λ p. slice_index_or zs (p - 1) (pos 0)) ps

-- over a lawful constellation each position has an extrinsic value: the maxima are never over no points
abbrev pub Exists : Type 0
Exists = (M : Meaning) → Lawful M → (S : ℕ) (sym : Symbol) (A : ℕ → ℤ) (k : ℕ) → 1 ≤ k → k ≤ M.m →
    (l : ℤ) × (extrinsic M S sym A k ≡ Some l)

-- an extrinsic value is at most 8191 from 0
abbrev pub Within : Type 0
Within = (M : Meaning) (s : ℕ) (sym : Symbol) (zs : List ℤ) (k : ℕ) → unsigned_abs (extrinsic_value M s sym zs k) ≤ 8191

-- the extrinsic value of a position does not depend on the position's own a priori value
abbrev pub Silent : Type 0
Silent = (M : Meaning) (s : ℕ) (sym : Symbol) (xs ys : List ℤ) (k : ℕ) → length xs ≡ M.m → length ys ≡ M.m → 1 ≤ k → k ≤ M.m →
    ((i : ℕ) → i < M.m → i ≢ k - 1 → slice_index_or xs i (pos 0) ≡ slice_index_or ys i (pos 0)) →
    extrinsic_value M s sym xs k ≡ extrinsic_value M s sym ys k

-- an extrinsic value moves by at most as much as the other positions' a priori values do together
abbrev pub Steady : Type 0
Steady = (M : Meaning) (s : ℕ) (sym : Symbol) (xs ys : List ℤ) (k : ℕ) → length xs ≡ M.m → length ys ≡ M.m → 1 ≤ k → k ≤ M.m →
    dist (extrinsic_value M s sym xs k) (extrinsic_value M s sym ys k) ≤ away k xs ys

-- position j of the reordered constellation, at the reordered a priori values, has what the listed position of the first has
pub record Carries (M N : Meaning) (s : ℕ) (sym : Symbol) (zs ws : List ℤ) (i j : ℕ) : Type 0 where
  pub extrinsic : extrinsic_value N s sym ws j ≡ extrinsic_value M s sym zs i
  pub posterior : posterior_value N s sym ws j ≡ posterior_value M s sym zs i
  pub hard : hard_value N s sym ws j ≡ hard_value M s sym zs i

-- the bits of the labels in another order, and the a priori values with them: the values move along
abbrev pub Moved : Type 0
Moved = (M : Meaning) → Lawful M → (ps : List ℕ) → permutes M.m ps ≡ true → (s : ℕ) (sym : Symbol) (zs : List ℤ) (j : ℕ) →
    length zs ≡ M.m → 1 ≤ j → j ≤ M.m → Carries M (shuffled ps M) s sym zs (permute ps zs) (slice_index ps (j - 1)) j
