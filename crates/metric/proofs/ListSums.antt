-- Lists of a priori values as functions of the position.
use Rattle.std.proofs.Common.{◌≡◌, ℕ, zero, suc, ◌-◌, ◌≤◌, Bool, true, false, cond, eqb, List, [], ◌∷◌, length, get_or, ℤ, pos, ◌+ℤ◌, ◌-ℤ◌, sym, refl, ap, ◌∙◌, ap₂, arith}
use Rattle.std.proofs.lemmas.Int.{ints}
use Rattle.metric.specs.Exhaustive.{at_bit, sum_to}
use Rattle.metric.specs.Reduced.{absolute}
use Rattle.metric.specs.Bounds.{others}
use Rattle.metric.specs.ValueLaws.{dist, away}
use Rattle.metric.proofs.Sums.{sum_same, eqb_iff}

pub at-bit : (xs : List ℤ) (j : ℕ) → 1 ≤ j → at_bit xs j ≡ get_or xs (j - 1) (pos 0)
at-bit xs zero h = absurd (omega arith)
at-bit xs (suc j) h = let e : suc j - 1 ≡ j = omega arith in ap (λ i. get_or xs i (pos 0)) (sym e)

-- the first summand apart
sum_first : (n : ℕ) (f : ℕ → ℤ) → sum_to (suc n) f ≡ f 1 +ℤ sum_to n (λ j. f (suc j))
unfolding sum_to
sum_first zero f = swap (f 1)
  where
    swap : (a : ℤ) → pos 0 +ℤ a ≡ a +ℤ pos 0
    swap a = omega (arith, ints)
sum_first (suc n) f = ap (λ t. t +ℤ f (suc (suc n))) (sum_first n f) ∙ regroup (f 1) (sum_to n (λ j. f (suc j))) (f (suc (suc n)))
  where
    regroup : (a b c : ℤ) → a +ℤ b +ℤ c ≡ a +ℤ (b +ℤ c)
    regroup a b c = omega (arith, ints)

-- the sum over the other positions, read off the lists
pub others-away : (m k : ℕ) (xs ys : List ℤ) → length xs ≡ m → length ys ≡ m → others m k (at_bit xs) (at_bit ys) ≡ pos (away k xs ys)
unfolding sum_to
others-away zero k [] ys e f = refl
others-away zero k (x ∷ xs) ys e f = absurd (omega arith)
others-away (suc m) k [] ys e f = absurd (omega arith)
others-away (suc m) k (x ∷ xs) [] e f = absurd (omega arith)
others-away (suc m) k (x ∷ xs) (y ∷ ys) e f =
    sum_first m (term k (x ∷ xs) (y ∷ ys))
    ∙ ap₂ ◌+ℤ◌ (ap (λ b. cond b (pos 0) (absolute (x -ℤ y))) (eqb_iff 1 k k 1 (λ h. sym h) (λ h. sym h)) ∙ out (eqb k 1))
    (sum_same m (λ j. term k (x ∷ xs) (y ∷ ys) (suc j)) (term (k - 1) xs ys) next ∙ others-away m (k - 1) xs ys (omega arith) (omega arith))
  where
    term : ℕ → List ℤ → List ℤ → ℕ → ℤ
    term k xs ys j = cond (eqb j k) (pos 0) (absolute (at_bit xs j -ℤ at_bit ys j))

    out : (b : Bool) → cond b (pos 0) (absolute (x -ℤ y)) ≡ pos (cond b 0 (dist x y))
    out true = refl
    out false = refl

    next : (j : ℕ) → 1 ≤ j → j ≤ m → term k (x ∷ xs) (y ∷ ys) (suc j) ≡ term (k - 1) xs ys j
    next zero h l = absurd (omega arith)
    next (suc i) h l = ap (λ b. cond b (pos 0) (absolute (get_or xs i (pos 0) -ℤ get_or ys i (pos 0)))) (eqb_iff (suc (suc i)) k (suc i) (k - 1) (λ h. omega arith) (λ h. omega arith))
